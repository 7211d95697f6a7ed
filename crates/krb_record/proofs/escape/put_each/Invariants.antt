use Rattle.std.proofs.Common.{◌≡◌, ◌++◌, take}
use Rattle.std.specs.List.{flat_map}
use Rattle.krb_record.specs.Text.{escape_octet}
use Rattle.krb_record.proofs.escape.put_each.Given as goal

-- the octets so far
abbrev pub invariant-loop-octet : goal.invariant-loop-octet
invariant-loop-octet l = l.line ≡ l.initial.line ++ flat_map escape_octet (take l.octet-index l.octets)
