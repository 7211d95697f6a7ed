use Rattle.std.proofs.Common.{◌≡◌, ◌++◌, ◌<◌, ◌^◌, true, nat_lt, drop}
use Rattle.std.specs.List.{list_all}
use Rattle.krb_items.specs.Records.{numbers_in}
use Rattle.krb_items.proofs.identifier.numbers_in.Given as goal

-- the numbers that are read, and what is left
abbrev pub invariant-octets : goal.invariant-octets
invariant-octets l =
    (l.part < 2 ^ 64)
    × (numbers_in 0 l.octets ≡ l.numbers.items ++ numbers_in l.part (drop l.octet-index l.octets))
    × (list_all (λ number. nat_lt number (2 ^ 64)) l.numbers.items ≡ true)
