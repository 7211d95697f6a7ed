-- What sources hold, by their first octets.
use Rattle.std.specs.Prelude.{ℕ, ◌||◌, ◌==◌, if◌then◌else◌, List, [], ◌∷◌, codes, Option, Some, None}
use Rattle.std.specs.Option.{option_and_then, unwrap_or}
use Rattle.krb_input.specs.Characters.{is_text}
use Rattle.krb_input.specs.Octets.{is_marked}
use Rattle.krb_input.specs.Signatures.{signed}
use Rattle.krb_input.specs.declared.hint.Hint.{Hint}
use Rattle.krb_input.specs.declared.hint.Hint.TheVariants as hint
use Rattle.krb_input.specs.declared.source_kind.SourceKind.{SourceKind}
use Rattle.krb_input.specs.declared.source_kind.SourceKind.TheVariants as kind

-- the command that lists what a source holds
abbrev pub kind_name : SourceKind → List ℕ
kind_name kind.Keytab = codes "keytab"
kind_name kind.Ccache = codes "ccache"
kind_name kind.Capture = codes "capture"
kind_name kind.Message = codes "message"
kind_name kind.Stream = codes "stream"

-- the kind of a file that has a signature of its own, and is listed
abbrev pub file_kind : Hint → Option SourceKind
file_kind hint.Keytab = Some kind.Keytab
file_kind hint.Ccache = Some kind.Ccache
file_kind hint.Capture = Some kind.Capture
file_kind hint = None

-- octets of no such file are a message if they begin with a text or as a token of SPNEGO, and else, or if there are none, a stream
abbrev pub kind_of_octets : List ℕ → SourceKind
kind_of_octets [] = kind.Stream
kind_of_octets (first ∷ octets) = if is_text first || first == 0xA0 || first == 0xA1 || is_marked (first ∷ octets) then kind.Message else kind.Stream

-- The kind of a source, by its first octets.
abbrev pub command_for : List ℕ → SourceKind
command_for first = unwrap_or (option_and_then file_kind (signed first)) (kind_of_octets first)
