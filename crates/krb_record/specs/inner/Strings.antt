-- Octets as strings of JSON have them.
use Rattle.std.specs.Prelude.{ℕ, Bool, ◌&&◌, ◌==◌, nat_le, not, List}
use Rattle.std.specs.List.{flat_map}
use Rattle.krb_record.specs.declared.json.Escape.{Escape}
use Rattle.krb_record.specs.declared.json.Escape.TheVariants as escapes
use Rattle.krb_record.specs.Text.{escape_octet, is_plain}
use Rattle.krb_record.specs.Forms.{json_character, shown_octet}

abbrev pub escaped : Escape → ℕ → List ℕ
escaped escapes.Line octet = escape_octet octet
escaped escapes.Object octet = shown_octet octet

-- whether an octet is not escaped
abbrev pub is_unescaped : Escape → ℕ → Bool
is_unescaped escapes.Line octet = is_plain octet
is_unescaped escapes.Object octet = nat_le 0x20 octet && nat_le octet 0x7E && not (octet == 0x5C)

-- whether an octet is as it is in a line, or in a string of JSON that has the text of a line
abbrev pub is_plain_in : (in_json : Bool) → ℕ → Bool
is_plain_in in_json octet = is_plain octet && not (in_json && octet == 0x22)

-- whether an octet is as it is in a string of JSON that has octets
abbrev pub is_bare : ℕ → Bool
is_bare octet = is_unescaped escapes.Object octet && not (octet == 0x22)

abbrev pub quoted : Escape → List ℕ → List ℕ
quoted escape octets = flat_map (λ octet. flat_map json_character (escaped escape octet)) octets
