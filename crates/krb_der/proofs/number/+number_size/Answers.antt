use Rattle.std.proofs.Common.{arith}
use Rattle.krb_der.specs.inner.Numbers.{length-spelled-step, length-spelled-le}
use Rattle.krb_der.proofs.number.+number_size.Goals as goal

pub returns-else-number-bound-clause-value : goal.returns-else-number-bound-clause-value
returns-else-number-bound-clause-value t c = omega (arith, length-spelled-step c.args.bound c.args.number (omega arith) (omega arith))

pub returns-else-number-bound-clause-small : goal.returns-else-number-bound-clause-small
returns-else-number-bound-clause-small t c =
    omega (arith, length-spelled-step c.args.bound c.args.number (omega arith) (omega arith), length-spelled-le c.args.bound 8 c.args.number (omega arith) (omega arith))
