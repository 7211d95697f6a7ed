use Rattle.std.proofs.Common.{◌≡◌, take}
use Rattle.std.specs.List.{list_all}
use Rattle.krb_record.specs.inner.Strings.{is_bare}
use Rattle.krb_record.proofs.json.are_bare.Given as goal

-- the octets so far
abbrev pub invariant-loop-octet : goal.invariant-loop-octet
invariant-loop-octet l = l.bare ≡ list_all is_bare (take l.octet-index l.octets)
