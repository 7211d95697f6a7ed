use Rattle.std.proofs.Common.{◌≡◌, take}
use Rattle.krb_json.specs.Spelling.{shown}
use Rattle.krb_json.proofs.writing.shown.Given as goal

abbrev pub invariant-loop-octet : goal.invariant-loop-octet
invariant-loop-octet l = l.text.items ≡ shown (take l.octet-index l.octets)
