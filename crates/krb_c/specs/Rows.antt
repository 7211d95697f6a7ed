-- What C is given of records in rows of cells: by names, of the listing of a kind.
use Rattle.std.specs.Prelude.{ℕ, ◌≡◌, ◌==◌, ◌-◌, ◌++◌, Bool, false, if◌then◌else◌, List, [], ◌∷◌, length, take, drop}
use Rattle.krb_choice.specs.Choices.{Choice}
use Rattle.krb_choice.specs.Wanted.{choice_form}
use Rattle.krb_choosing.specs.Listings.{chosen_listing, told_listing}
use Rattle.krb_fields.specs.declared.shape.Listing.{Listing}
use Rattle.krb_fields.specs.declared.shape.Listing.TheVariants as listing
use Rattle.krb_input.specs.Sources.{command_for}
use Rattle.krb_input.specs.declared.source_kind.SourceKind.{SourceKind}
use Rattle.krb_input.specs.declared.source_kind.SourceKind.TheVariants as kind
use Rattle.krb_record.specs.FileNames.{name_text}
use Rattle.krb_record.specs.Text.{line_feed}
use Rattle.krb_record.specs.declared.form.Form.{Form}
use Rattle.krb_run.specs.declared.run.RunEnd.{RunEnd}
use Rattle.krb_run.specs.declared.run.RunEnd.TheVariants as run
use Rattle.krb_words.specs.Chosen.{AreRowsOf, SaysNoRows}
use Rattle.krb_c.specs.declared.rows.Options.{Options}
use Rattle.krb_c.specs.Listed.{IsCaptureListing, IsCcacheListing, IsKeytabListing, IsMessageListing, IsStreamListing}

-- ---- numbers
-- what octets are: 1 to 5 say it, and by any other number their first octets do
abbrev pub kind_of : ℕ → (octets : List ℕ) → SourceKind
kind_of number octets =
    if number == 1 then kind.Stream
    else (if number == 2 then kind.Message
    else (if number == 3 then kind.Keytab
    else (if number == 4 then kind.Ccache
    else (if number == 5 then kind.Capture
    else command_for octets))))

-- the listings that have the names: the one, or all
abbrev pub listings_of : ℕ → List Listing
listings_of number =
    if number == 1 then listing.Stream ∷ []
    else (if number == 2 then listing.Message ∷ []
    else (if number == 3 then listing.Keytab ∷ []
    else (if number == 4 then listing.Ccache ∷ []
    else (if number == 5 then listing.Capture ∷ []
    else listing.Stream ∷ listing.Message ∷ listing.Keytab ∷ listing.Ccache ∷ listing.Capture ∷ []))))

-- ---- listings
-- the listing of a kind, and how it ends
abbrev pub IsListingOf : SourceKind → Options → Form → (octets text : List ℕ) → RunEnd → Type 0
IsListingOf kind.Stream options form octets text end = IsStreamListing options.goes_on form options.profile options.limit octets text end
IsListingOf kind.Message options form octets text end = IsMessageListing form options.profile octets text end
IsListingOf kind.Keytab options form octets text end = IsKeytabListing form octets text end
IsListingOf kind.Ccache options form octets text end = IsCcacheListing form options.time octets text end
IsListingOf kind.Capture options form octets text end = IsCaptureListing form options.profile options.limit options.port octets text end

-- a stream alone may go on after a refusal, so that none ends it
abbrev pub goes_on_in : SourceKind → Options → Bool
goes_on_in kind.Stream options = options.goes_on
goes_on_in _ options = false

-- what is told of the last record is said if not all was read
abbrev pub said_of : RunEnd → (told : List ℕ) → List ℕ
said_of run.Clean told = []
said_of run.Refused told = told
said_of run.RefusedAtOnce told = told

-- The rows that a choice makes of the listing of a kind, in its form.
pub record AreRows (choice : Choice) (kind : SourceKind) (options : Options) (octets rows said : List ℕ) (end : RunEnd) : Type 0 where
  pub text : List ℕ
  pub listed : IsListingOf kind options (choice_form choice) octets text end
  pub chosen : rows ≡ chosen_listing choice (goes_on_in kind options) text
  pub told : said ≡ said_of end (told_listing choice (goes_on_in kind options) text)

-- ---- names
-- what an error says, with a line feed: what is after `error: `, and before a line that names the help
abbrev pub line_of : List ℕ → List ℕ
line_of error = take (length (drop 7 error) - 37) (drop 7 error)

-- no kind of record has them, and this says why
abbrev pub AreNoNames : List Listing → (names : List ℕ) → (line : List ℕ) → Type 0
AreNoNames listings names line = (said : List ℕ) × SaysNoRows listings (name_text names) said × (line ≡ said ++ line_feed)

-- the rows of names, which are names of the listing
abbrev pub AreRowsBy : List Listing → (names : List ℕ) → SourceKind → Options → (octets rows said : List ℕ) → RunEnd → Type 0
AreRowsBy listings names kind options octets rows said end = (choice : Choice) × AreRowsOf listings (name_text names) choice × AreRows choice kind options octets rows said end
