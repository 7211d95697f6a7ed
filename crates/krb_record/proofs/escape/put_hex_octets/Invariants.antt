use Rattle.std.proofs.Common.{◌≡◌, ◌++◌, take}
use Rattle.krb_record.specs.Text.{hex}
use Rattle.krb_record.proofs.escape.put_hex_octets.Given as goal

-- the octets so far
abbrev pub invariant-loop-octet : goal.invariant-loop-octet
invariant-loop-octet l = l.line ≡ l.initial.line ++ hex (take l.octet-index l.octets)
