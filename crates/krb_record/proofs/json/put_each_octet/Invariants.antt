use Rattle.std.proofs.Common.{◌≡◌, ◌++◌, take}
use Rattle.krb_record.specs.inner.Strings.{quoted}
use Rattle.krb_record.proofs.json.put_each_octet.Given as goal

-- the octets so far
abbrev pub invariant-loop-octet : goal.invariant-loop-octet
invariant-loop-octet l = l.object ≡ l.initial.object ++ quoted l.escape (take l.octet-index l.octets)
