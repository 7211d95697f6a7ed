-- What may help where a source is refused at once: what its first octets say that it is, and the command that reads it.
use Rattle.std.specs.Prelude.{ℕ, ◌||◌, ◌&&◌, ◌==◌, not, nat_eq, nat_le, if◌then◌else◌, is_none, Bool, true, false, List, [], ◌∷◌, ◌++◌, take, codes, Option, Some, None}
use Rattle.std.specs.List.{list_any, starts_with}
use Rattle.std.specs.Option.{option_or}
use Rattle.krb_input.specs.Octets.{first_no_text, is_tag}
use Rattle.krb_input.specs.Signatures.{signed}
use Rattle.krb_input.specs.TokenHints.{named_token, refused_by}
use Rattle.krb_input.specs.declared.hint.Hint.{Hint}
use Rattle.krb_input.specs.declared.hint.Hint.TheVariants as hint
use Rattle.krb_input.specs.declared.source_kind.SourceKind.{SourceKind}
use Rattle.krb_input.specs.declared.source_kind.SourceKind.TheVariants as kind

-- ---- which hint
-- the tag of a message, a Ticket or a token
abbrev pub begins_message : ℕ → Bool
begins_message octet = is_tag octet || octet == 0xA0 || octet == 0xA1

-- A credential cache of version 2 has the two octets of a keytab, and then the type of a name, from 0 to 12 (RFC 4120, 6.2; 6111; 5179), where a keytab has the length of an entry, which is greater.
abbrev pub is_version_two : List ℕ → Bool
is_version_two (a ∷ b ∷ c ∷ d ∷ e ∷ name_type ∷ octets) = a == 0x05 && b == 0x02 && c == 0x00 && d == 0x00 && e == 0x00 && nat_le name_type 12
is_version_two octets = false

-- what octets are by their signature
unfoldable pub signed_or_old : List ℕ → Option Hint
signed_or_old first = if is_version_two first then Some hint.VersionTwo else signed first

-- the primary file of a collection of caches has the name of one of them, which begins with `tkt`
abbrev pub is_primary : List ℕ → Bool
is_primary first = starts_with nat_eq first (codes "tkt") && not (list_any (λ octet. nat_eq octet 0x20) first) && not (list_any (λ octet. nat_eq octet 0x09) first)

-- a frame of fewer than 2^24 octets, of which the fifth begins a message
abbrev pub is_frame : List ℕ → Bool
is_frame (a ∷ b ∷ c ∷ d ∷ fifth ∷ octets) = a == 0x00 && begins_message fifth
is_frame octets = false

abbrev pub holds_caches : SourceKind → Bool
holds_caches kind.Ccache = true
holds_caches kind.Message = true
holds_caches kind = false

-- octets that begin as a message, or are text
abbrev pub guessed_message : List ℕ → Option Hint
guessed_message [] = None
guessed_message (first ∷ octets) =
    if is_none (first_no_text (first ∷ octets)) then Some hint.Text
    else if begins_message first then Some hint.Message
    else None

-- what octets without a signature may be
abbrev pub guessed : SourceKind → List ℕ → Option Hint
guessed used first =
    if holds_caches used && is_primary first then Some hint.Primary
    else if is_frame first then Some hint.Stream
    else guessed_message first

-- the command that a hint ends in, over the same file
abbrev pub leads_to : Hint → Option SourceKind
leads_to hint.Keytab = Some kind.Keytab
leads_to hint.Ccache = Some kind.Ccache
leads_to hint.Capture = Some kind.Capture
leads_to hint.Stream = Some kind.Stream
leads_to hint.Message = Some kind.Message
leads_to hint.Text = Some kind.Message
leads_to hint = None

abbrev pub same_kind : SourceKind → SourceKind → Bool
same_kind kind.Keytab kind.Keytab = true
same_kind kind.Ccache kind.Ccache = true
same_kind kind.Capture kind.Capture = true
same_kind kind.Message kind.Message = true
same_kind kind.Stream kind.Stream = true
same_kind one other = false

-- a hint to the command that was used is none
abbrev pub leads_back : SourceKind → Option SourceKind → Bool
leads_back used None = false
leads_back used (Some kind) = same_kind used kind

abbrev pub unless_used : SourceKind → Option Hint → Option Hint
unless_used used None = None
unless_used used (Some hint) = if leads_back used (leads_to hint) then None else Some hint

-- The hint for a source that a command refused at once, by its first octets, of which 16 are looked at.
abbrev pub hint_for : SourceKind → List ℕ → Option Hint
hint_for used first =
    option_or (option_or (named_token (take 16 first)) (unless_used used (option_or (signed_or_old (take 16 first)) (guessed used (take 16 first)))))
    (refused_by used (take 16 first))

-- ---- what it says
-- a command as it was given, and a blank, or nothing where a source was listed without one
abbrev pub given_command : Option (List ℕ) → List ℕ
given_command None = []
given_command (Some command) = command ++ codes " "

abbrev pub packed_text : (words given file : List ℕ) → List ℕ
packed_text words given file = words ++ file ++ codes " | krbls " ++ given ++ codes "-"

abbrev pub converted_text : (words file : List ℕ) → List ℕ
converted_text words file = words ++ codes ": editcap -F pcap " ++ file ++ codes " - | krbls capture -"

abbrev pub http_text : (file : List ℕ) → List ℕ
http_text file = codes "this is HTTP; if a header has a token: grep -ai negotiate " ++ file ++ codes " | krbls message --lines -"

abbrev pub hint_text : Hint → (given : Option (List ℕ)) → (file : List ℕ) → List ℕ
hint_text hint.Gzip given file = packed_text (codes "this is a gzip file: zcat ") (given_command given) file
hint_text hint.Xz given file = packed_text (codes "this is an xz file: xzcat ") (given_command given) file
hint_text hint.Zstd given file = packed_text (codes "this is a zstd file: zstdcat ") (given_command given) file
hint_text hint.Bzip2 given file = packed_text (codes "this is a bzip2 file: bzcat ") (given_command given) file
hint_text hint.Keytab given file = codes "this is a keytab: krbls keytab " ++ file
hint_text hint.VersionTwo given file = codes "this is a keytab, or a cache of version 2, which krbls does not read"
hint_text hint.Ccache given file = codes "this is a credential cache: krbls ccache " ++ file
hint_text hint.VersionOne given file = codes "this is a keytab or credential cache of version 1, which krbls does not read"
hint_text hint.Capture given file = codes "this is a capture: krbls capture " ++ file
hint_text hint.ModifiedPcap given file = converted_text (codes "this is a modified pcap") file
hint_text hint.Snoop given file = converted_text (codes "this is a snoop capture") file
hint_text hint.Pem given file = codes "this is PEM, which holds certificates or keys and no Kerberos"
hint_text hint.Sqlite given file = codes "this is an SQLite database, which krbls does not read"
hint_text hint.Iakerb given file = codes "this is a token of IAKERB, which krbls does not read"
hint_text hint.MicToken given file = codes "this is a MIC token of GSS-API, which has no message of Kerberos in it"
hint_text hint.WrapToken given file = codes "this is a Wrap token of GSS-API, which has no message of Kerberos in it"
hint_text hint.Negotiation given file = codes "this is a token of SPNEGO with no token of Kerberos in it"
hint_text hint.Header given file = codes "this is a header of HTTP, of which krbls reads the token after Negotiate or Kerberos"
hint_text hint.Primary given file = codes "this may be the primary file of a collection: krbls ccache DIR:DIRECTORY"
hint_text hint.Http given file = http_text file
hint_text hint.Stream given file = codes "this may be a stream: krbls stream " ++ file
hint_text hint.Message given file = codes "this may be a message: krbls message " ++ file
hint_text hint.Text given file = codes "this is text; if it is a message: krbls message " ++ file
