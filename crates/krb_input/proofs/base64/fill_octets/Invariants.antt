use Rattle.std.proofs.Common.{◌≡◌, ◌*◌, take, drop}
use Rattle.krb_input.specs.Base64.{base64}
use Rattle.krb_input.specs.Readings.{prepend}
use Rattle.krb_input.proofs.base64.fill_octets.Given as goal

abbrev pub invariant-loop-index : goal.invariant-loop-index
invariant-loop-index l = base64 l.text ≡ prepend (take (3 * l.index) l.room) (base64 (drop (4 * l.index) l.text))
