use Rattle.std.proofs.Common.{arith, rules}
use Rattle.krb_der.proofs.Appends.{appended}
use Rattle.krb_der.specs.inner.Numbers.{length-spelled-step, spelled-step}
use Rattle.krb_der.proofs.number.+put_number.Goals as goal

pub put_number-requires : goal.put_number-requires
put_number-requires t c = (omega arith, (omega arith, (omega arith, omega (arith, length-spelled-step c.args.bound c.args.number (omega arith) (omega arith)))))

pub push_reserved-requires-else-number-bound : goal.push_reserved-requires-else-number-bound
push_reserved-requires-else-number-bound t c = omega (arith, length-spelled-step c.args.bound c.args.number (omega arith) (omega arith))

pub returns-else-number-bound : goal.returns-else-number-bound
returns-else-number-bound t c = record {
  items = appended _ _ _ _ _ _ c.push_reserved-else-number-bound.ensures.items c.put_number.ensures.items (spelled-step c.args.bound c.args.number (omega arith) (omega arith));
  len = omega (arith, length-spelled-step c.args.bound c.args.number (omega arith) (omega arith));
  capacity = search rules;
}
