-- The names of files.
use Rattle.std.specs.Prelude.{ℕ, Bool, ◌||◌, ◌==◌, List, [], ◌∷◌, ◌++◌, codes, if◌then◌else◌}
use Rattle.std.specs.List.{flat_map}
use Rattle.krb_record.specs.Text.{is_plain, two_hex}

-- 21 to 7E but `\`
abbrev pub is_plain_in_name : ℕ → Bool
is_plain_in_name octet = is_plain octet || octet == 0x2F || octet == 0x40

-- an octet itself, or `\x` and its two digits
abbrev pub name_octet : ℕ → List ℕ
name_octet octet = if is_plain_in_name octet then octet ∷ [] else codes "\\x" ++ two_hex octet

abbrev pub name_text : List ℕ → List ℕ
name_text name = flat_map name_octet name
