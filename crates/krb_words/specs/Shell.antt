-- The word of a shell that is a name (POSIX.1-2024, Shell Command Language, 2.2): it reads the name and nothing else.
use Rattle.std.specs.Prelude.{ℕ, Bool, true, false, not, ◌==◌, ◌&&◌, ◌||◌, nat_le, nat_lt, if◌then◌else◌, List, [], ◌∷◌, ◌++◌, length, codes}
use Rattle.std.specs.List.{flat_map, list_all}
use Rattle.krb_record.specs.Text.{two_hex}
use Rattle.krb_words.specs.declared.shell.Quoting.{Quoting}
use Rattle.krb_words.specs.declared.shell.Quoting.TheVariants.{Bare, Single, Escaped}

abbrev pub between : (least greatest octet : ℕ) → Bool
between least greatest octet = nat_le least octet && nat_le octet greatest

-- a letter, one of - . / and the digits, or one of _ +
abbrev pub is_bare : ℕ → Bool
is_bare octet = between 0x41 0x5A octet || between 0x61 0x7A octet || between 0x2D 0x39 octet || octet == 0x5F || octet == 0x2B

abbrev pub is_printable : ℕ → Bool
is_printable octet = between 0x20 0x7E octet

abbrev pub are_bare : List ℕ → Bool
are_bare name = nat_lt 0 (length name) && list_all is_bare name

abbrev pub are_printable : List ℕ → Bool
are_printable name = list_all is_printable name

-- as it is; or between single quotes; or, of what is not printed, as escapes after a dollar
abbrev pub quoting_of : List ℕ → Quoting
quoting_of name = if are_bare name then Bare else if are_printable name then Single else Escaped

abbrev pub opening : Quoting → List ℕ
opening Bare = []
opening Single = codes "'"
opening Escaped = codes "$'"

abbrev pub closing : Quoting → List ℕ
closing Bare = []
closing Single = codes "'"
closing Escaped = codes "'"

abbrev pub is_single : Quoting → Bool
is_single Single = true
is_single quoting = false

abbrev pub is_itself : Quoting → ℕ → Bool
is_itself Bare octet = is_bare octet
is_itself Single octet = is_printable octet && not (octet == 0x27)
is_itself Escaped octet = is_printable octet && not (octet == 0x27) && not (octet == 0x5C)

-- what stands for an octet that does not stand for itself: in single quotes, which end before a quote and begin again after it, and else two digits
abbrev pub instead : Quoting → ℕ → List ℕ
instead quoting octet = if is_single quoting then codes "'\\''" else codes "\\x" ++ two_hex octet

abbrev pub word_octet : Quoting → ℕ → List ℕ
word_octet quoting octet = if is_itself quoting octet then octet ∷ [] else instead quoting octet

abbrev pub shell_word : List ℕ → List ℕ
shell_word name = opening (quoting_of name) ++ flat_map (word_octet (quoting_of name)) name ++ closing (quoting_of name)
