-- The laws of whole listings: that each line of them is one, whatever octets were read. Each is the contract of a function of the module `listings`.
use Rattle.std.specs.Prelude.{ℕ, ◌≡◌, ◌<◌, ◌^◌, false, List, ◌++◌, length, Option, IfSome}
use Rattle.std.specs.List.{AllByRecursion, flat_map}
use Rattle.json.specs.Json.{Json}
use Rattle.krb_capture.specs.Captures.{Settings}
use Rattle.krb_capture.specs.Labels.{of_records}
use Rattle.krb_capture_run.specs.Captures.{capture_listing}
use Rattle.krb_der.specs.Octets.{AreOctets}
use Rattle.krb_der.specs.declared.profile.Profile.{Profile}
use Rattle.krb_file_run.specs.Files.{ccache_listing, keytab_listing}
use Rattle.krb_laws.specs.JsonLaws.{IsJson}
use Rattle.krb_record.specs.Labels.{Label}
use Rattle.krb_record.specs.Text.{IsPrintable, line_feed}
use Rattle.krb_record.specs.declared.form.Base.{Base}
use Rattle.krb_record.specs.Forms.{form_of, is_marked}
use Rattle.krb_record.specs.declared.form.Form.{Form}
use Rattle.krb_record.specs.declared.form.Form.TheVariants as forms
use Rattle.krb_run.specs.Records.{text_of}
use Rattle.krb_tool.specs.GoingOn.{AreCountedLines, IsCountedListing}
use Rattle.krb_tool.specs.Listing.{AreLines, IsListing}
use Rattle.krb_tool.specs.MessageLines.{lines_listed}
use Rattle.krb_tool.specs.Messages.{message_listing, octets_listing}

-- A line in a form, without its line feed: blanks and graphic characters of ASCII, and in the form Json the JSON text (RFC 8259) of one value, in which no object has a name twice.
pub record IsLineOf (form : Form) (line : List ℕ) : Type 0 where
  pub printable : IsPrintable line
  pub json : form ≡ forms.Json → (value : Json) × IsJson line value

-- A text is such lines, each with a line feed after it.
abbrev pub AreLinesOf : Form → List ℕ → Type 0
AreLinesOf form text = (lines : List (List ℕ)) × AllByRecursion (IsLineOf form) lines × (text ≡ flat_map (λ line. line ++ line_feed) lines)

-- the form is one that is printed, without marks, and the name of a file is octets
abbrev pub IsNamed : Label → Type 0
IsNamed label = (is_marked label.form ≡ false) × IfSome label.file AreOctets

-- octets that a reader may have, fewer than 2^64
abbrev pub AreRead : List ℕ → Type 0
AreRead octets = AreOctets octets × (length octets < 2 ^ 64)

-- the listing of a stream, with which a run ends, and the part of it that is written before a read that fails; and those of a stream that goes on after refusals
pub record StreamsAreLines : Type 0 where
  pub whole : (label : Label) (profile : Profile) (limit : ℕ) (stream text : List ℕ) → IsNamed label → AreRead stream → IsListing label profile limit stream text → AreLinesOf label.form text
  pub part : (label : Label) (profile : Profile) (limit : ℕ) (stream text : List ℕ) → IsNamed label → AreRead stream → AreLines label profile limit stream text → AreLinesOf label.form text
  pub counted : (label : Label) (profile : Profile) (limit : ℕ) (stream text : List ℕ) → IsNamed label → AreRead stream → IsCountedListing label profile limit stream text → AreLinesOf label.form text
  pub counted_part : (label : Label) (profile : Profile) (limit : ℕ) (stream text : List ℕ) → IsNamed label → AreRead stream → AreCountedLines label profile limit stream text → AreLinesOf label.form text

-- the listing of one message, which octets are or an input spells, and that of messages that the lines of a text spell
pub record MessagesAreLines : Type 0 where
  pub of_octets : (base : Base) (profile : Profile) (octets : List ℕ) → AreRead octets → AreLinesOf (form_of base) (octets_listing (form_of base) profile octets).text
  pub of_input : (label : Label) (profile : Profile) (input : List ℕ) → IsNamed label → AreRead input → AreLinesOf label.form (message_listing label profile input).text
  pub of_lines : (label : Label) (profile : Profile) (text : List ℕ) → IsNamed label → AreRead text → AreLinesOf label.form (lines_listed label profile text).text

-- ---- files
-- A text is lines of printable ASCII, each with a line feed after it.
abbrev pub ArePrintedLines : List ℕ → Type 0
ArePrintedLines text = (lines : List (List ℕ)) × AllByRecursion IsPrintable lines × (text ≡ flat_map (λ line. line ++ line_feed) lines)

-- the listing of a keytab, and of a cache
abbrev pub KeytabsArePrinted : Type 0
KeytabsArePrinted = (label : Label) (file : List ℕ) → IsNamed label → AreOctets file → ArePrintedLines (text_of (keytab_listing label file))

abbrev pub CachesArePrinted : Type 0
CachesArePrinted = (label : Label) (now : Option ℕ) (file : List ℕ) → IsNamed label → AreOctets file → ArePrintedLines (text_of (ccache_listing label now file))

-- these are lines in their form
abbrev pub KeytabsAreLines : Type 0
KeytabsAreLines = (label : Label) (file : List ℕ) → IsNamed label → AreRead file → AreLinesOf label.form (text_of (keytab_listing label file))

abbrev pub CachesAreLines : Type 0
CachesAreLines = (label : Label) (now : Option ℕ) (file : List ℕ) → IsNamed label → AreRead file → AreLinesOf label.form (text_of (ccache_listing label now file))

-- ---- captures
-- the listing of a capture
abbrev pub CapturesAreLines : Type 0
CapturesAreLines = (label : Label) (settings : Settings) (file : List ℕ) → settings.label ≡ of_records label → IsNamed label → AreRead file → AreLinesOf label.form (text_of (capture_listing settings file))
