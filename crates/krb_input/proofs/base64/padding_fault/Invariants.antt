use Rattle.std.proofs.Common.{◌≡◌, length}
use Rattle.krb_input.specs.Base64.{padding_fault}
use Rattle.krb_input.proofs.base64.padding_fault.Given as goal

abbrev pub invariant-loop-rest : goal.invariant-loop-rest
invariant-loop-rest l = padding_fault l.fn.due l.fn.text ≡ padding_fault l.due l.rest

abbrev pub decreases-loop-rest : goal.decreases-loop-rest
decreases-loop-rest l = length l.rest
