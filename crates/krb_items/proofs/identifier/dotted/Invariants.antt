use Rattle.std.proofs.Common.{◌≡◌, ◌++◌, [], codes, decimal, drop, string_bytes}
use Rattle.std.specs.List.{flat_map}
use Rattle.krb_record.specs.Text.{joined}
use Rattle.krb_items.specs.Records.{identifier_numbers}
use Rattle.krb_items.proofs.identifier.dotted.Given as goal

-- the text, and the numbers that are left
abbrev pub invariant-others : goal.invariant-others
invariant-others l =
    string_bytes l.text ++ flat_map (λ number. codes "." ++ decimal number) (drop l.number-index l.others) ≡ joined [] (codes ".") decimal (identifier_numbers l.numbers)
