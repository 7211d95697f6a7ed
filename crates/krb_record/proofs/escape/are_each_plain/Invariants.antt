use Rattle.std.proofs.Common.{◌≡◌, take}
use Rattle.std.specs.List.{list_all}
use Rattle.krb_record.specs.inner.Strings.{is_plain_in}
use Rattle.krb_record.proofs.escape.are_each_plain.Given as goal

-- the octets so far
abbrev pub invariant-loop-octet : goal.invariant-loop-octet
invariant-loop-octet l = l.plain ≡ list_all (is_plain_in l.in_json) (take l.octet-index l.octets)
