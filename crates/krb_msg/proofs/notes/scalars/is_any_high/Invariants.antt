use Rattle.std.proofs.Common.{◌≡◌, ◌||◌, nat_lt, drop}
use Rattle.std.specs.List.{list_any}
use Rattle.krb_msg.proofs.notes.scalars.is_any_high.Given as goal

abbrev pub invariant-octets : goal.invariant-octets
invariant-octets l = list_any (λ octet. nat_lt 0x7F octet) l.fn.octets ≡ (nat_lt 0x7F l.bits || list_any (λ octet. nat_lt 0x7F octet) (drop l.octet-index l.fn.octets))
