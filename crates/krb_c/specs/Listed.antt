-- The listings that C is given: those of the commands.
use Rattle.std.specs.Prelude.{ℕ, ◌≡◌, Bool, List, [], Option, Some}
use Rattle.krb_der.specs.declared.profile.Profile.{Profile}
use Rattle.krb_record.specs.Labels.{no_label}
use Rattle.krb_record.specs.declared.form.Form.{Form}
use Rattle.krb_capture.specs.Labels.{of_records}
use Rattle.krb_capture_run.specs.Captures.{capture_listing}
use Rattle.krb_run.specs.Records.{RecordListing, text_of}
use Rattle.krb_file_run.specs.Files.{ccache_listing, keytab_listing}
use Rattle.krb_run.specs.Files.{FileListing}
use Rattle.krb_items_run.specs.Items.{octets_items_listing}
use Rattle.krb_tool.specs.GoingOn.{ListsStream}
use Rattle.krb_tool.specs.Messages.{octets_listing}
use Rattle.krb_run.specs.declared.run.RunEnd.{RunEnd}

-- the line of a message, or of its refusal
abbrev pub IsOf : FileListing → List ℕ → RunEnd → Type 0
IsOf listing text end = (text ≡ listing.text) × (end ≡ listing.end)

abbrev pub IsMessageListing : Form → Profile → List ℕ → List ℕ → RunEnd → Type 0
IsMessageListing form profile octets = IsOf (octets_listing form profile octets)

-- where each item of a message is, or those up to its refusal
abbrev pub IsItemsListing : Form → Profile → List ℕ → List ℕ → RunEnd → Type 0
IsItemsListing form profile octets = IsOf (octets_items_listing form profile octets)

-- The listing of a stream. The run over it had all the octets, and wrote the text after nothing; those after a refusal that ends it may be left.
abbrev pub IsStreamListing : (goes_on : Bool) → Form → Profile → (limit : ℕ) → List ℕ → List ℕ → RunEnd → Type 0
IsStreamListing goes_on form profile limit octets text end = (left : List ℕ) × ListsStream goes_on (no_label form) profile limit (Some octets) (Some left) (Some []) (Some text) end

-- a listing of records, and how it ends
abbrev pub IsRecords : RecordListing → List ℕ → RunEnd → Type 0
IsRecords listing text end = (text ≡ text_of listing) × (end ≡ listing.end)

-- the listings of a keytab, of a cache and of a capture
abbrev pub IsKeytabListing : Form → List ℕ → List ℕ → RunEnd → Type 0
IsKeytabListing form octets = IsRecords (keytab_listing (no_label form) octets)

abbrev pub IsCcacheListing : Form → Option ℕ → List ℕ → List ℕ → RunEnd → Type 0
IsCcacheListing form now octets = IsRecords (ccache_listing (no_label form) now octets)

abbrev pub IsCaptureListing : Form → Profile → (limit port : ℕ) → List ℕ → List ℕ → RunEnd → Type 0
IsCaptureListing form profile limit port octets = IsRecords (capture_listing (record { label = of_records (no_label form); profile = profile; limit = limit; port = port }) octets)
