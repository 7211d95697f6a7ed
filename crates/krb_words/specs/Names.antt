-- The words of the command line as `clap` reads them, and the names of files in them.
use Rattle.std.specs.Prelude.{ℕ, ◌+◌, ◌-◌, ◌*◌, ◌%◌, Bool, length, ◌==◌, ◌&&◌, ◌||◌, nat_le, nat_lt, List, [], ◌∷◌, ◌++◌, codes, if◌then◌else◌}
use Rattle.std.specs.List.{list_all}
use Rattle.std.specs.Str.{bytes_eq}
use Rattle.krb_der.specs.Octets.{when}

-- a word of letters a to z, which are the names of commands and no other first words
abbrev pub is_name : List ℕ → Bool
is_name word = nat_lt 0 (length word) && list_all (λ octet. nat_le 97 octet && nat_le octet 122) word

abbrev pub stands_alone : List ℕ → Bool
stands_alone word = bytes_eq word (codes "-h") || bytes_eq word (codes "--help") || bytes_eq word (codes "-V") || bytes_eq word (codes "--version")

-- the name of a command
abbrev pub is_command : List ℕ → Bool
is_command name =
    bytes_eq name (codes "list") || bytes_eq name (codes "stream") || bytes_eq name (codes "message") || bytes_eq name (codes "items") || bytes_eq name (codes "keytab")
    || bytes_eq name (codes "ccache") || bytes_eq name (codes "capture") || bytes_eq name (codes "decode") || bytes_eq name (codes "encode")

-- The words as those of a command: `list` comes before a first word that is no name and does not stand alone, and `--help` after the words in place of `help` before them.
abbrev pub as_command : List (List ℕ) → List (List ℕ)
as_command [] = codes "list" ∷ []
as_command (first ∷ others) =
    if bytes_eq first (codes "help") then others ++ codes "--help" ∷ []
    else (if is_name first || stands_alone first then first ∷ others
    else codes "list" ∷ first ∷ others)

-- a hexadecimal digit in lower case
abbrev pub digit_value : ℕ → ℕ
digit_value octet = (if nat_lt octet 58 then octet - 48 else octet - 87) % 16

abbrev mutual
  -- The name that a word shows, by the escape of file names: `\x` and two digits are one octet, each other octet is itself. It undoes that escape.
  pub named : List ℕ → List ℕ
  named [] = []
  named (octet ∷ text) = when (octet == 0x5C) (λ _. named_after_backslash text) (λ _. octet ∷ named text)

  pub named_after_backslash : List ℕ → List ℕ
  named_after_backslash (x ∷ high ∷ low ∷ text) = (16 * digit_value high + digit_value low) ∷ named text
  named_after_backslash text = []
