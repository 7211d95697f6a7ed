use Rattle.std.proofs.Common.{◌≡◌, ◌++◌, take}
use Rattle.std.specs.List.{flat_map}
use Rattle.krb_record.specs.inner.Cells.{octet_at}
use Rattle.krb_record.proofs.cell.put_each.Given as goal

-- the octets so far
abbrev pub invariant-loop-octet : goal.invariant-loop-octet
invariant-loop-octet l = l.text ≡ l.initial.text ++ flat_map (octet_at l.at) (take l.octet-index l.octets)
