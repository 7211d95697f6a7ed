-- The flags of a ticket by name (RFC 4120, 5.3). Bit i of the 32 is 1 shifted left by 31 - i.
use Rattle.std.specs.Prelude.{ℕ, ◌/◌, ◌%◌, ◌==◌, List, [], ◌∷◌, ◌++◌, codes, if◌then◌else◌}
use Rattle.std.specs.List.{filter}
use Rattle.std.specs.Int.RustNames.{bit_and}
use Rattle.krb_record.specs.Text.{joined, two_hex}

-- the flags that have names, which are those of the bits 1 to 13
abbrev pub named_flags : List ℕ
named_flags =
    0x4000_0000 ∷ 0x2000_0000 ∷ 0x1000_0000 ∷ 0x0800_0000 ∷ 0x0400_0000 ∷ 0x0200_0000 ∷ 0x0100_0000
    ∷ 0x0080_0000 ∷ 0x0040_0000 ∷ 0x0020_0000 ∷ 0x0010_0000 ∷ 0x0008_0000 ∷ 0x0004_0000 ∷ []

-- the name of one of them
unfoldable pub flag_name : ℕ → List ℕ
flag_name flag =
    if flag == 0x4000_0000 then codes "forwardable"
    else if flag == 0x2000_0000 then codes "forwarded"
    else if flag == 0x1000_0000 then codes "proxiable"
    else if flag == 0x0800_0000 then codes "proxy"
    else if flag == 0x0400_0000 then codes "may-postdate"
    else if flag == 0x0200_0000 then codes "postdated"
    else if flag == 0x0100_0000 then codes "invalid"
    else if flag == 0x0080_0000 then codes "renewable"
    else if flag == 0x0040_0000 then codes "initial"
    else if flag == 0x0020_0000 then codes "pre-authent"
    else if flag == 0x0010_0000 then codes "hw-authent"
    else if flag == 0x0008_0000 then codes "transited-policy-checked"
    else codes "ok-as-delegate"

-- those of them that are set, in order of bit number
abbrev pub set_flags : ℕ → List ℕ
set_flags flags = filter (λ flag. bit_and flags flag == flag) named_flags

-- their names, or `-`
unfoldable pub names_text : ℕ → List ℕ
names_text flags = joined (codes "-") (codes ",") flag_name (set_flags flags)

-- the bits that have no name
abbrev pub other_flags : ℕ → ℕ
other_flags flags = bit_and flags 0x8003_FFFF

-- a number of 32 bits in eight hexadecimal digits
unfoldable pub eight_hex : ℕ → List ℕ
eight_hex n = two_hex (n / 16777216) ++ two_hex (n / 65536 % 256) ++ two_hex (n / 256 % 256) ++ two_hex (n % 256)

abbrev pub others_text : ℕ → List ℕ
others_text others = if others == 0 then [] else codes "+" ++ eight_hex others

-- the names of the flags that are set, or `-`, and the bits without a name
unfoldable pub ticket_flags_text : ℕ → List ℕ
ticket_flags_text flags = names_text flags ++ others_text (other_flags flags)
