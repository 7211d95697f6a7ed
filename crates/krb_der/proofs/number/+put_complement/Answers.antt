use Rattle.std.proofs.Common.{arith, rules, ◌/◌}
use Rattle.krb_der.specs.Octets.{spelled}
use Rattle.krb_der.proofs.Appends.{appended}
use Rattle.krb_der.specs.inner.Numbers.{length-spelled-step}
use Rattle.krb_der.proofs.Sizes.{complement-step, length-complement}
use Rattle.krb_der.proofs.number.+put_complement.Goals as goal

pub put_complement-requires : goal.put_complement-requires
put_complement-requires t c = (omega arith, omega (arith, length-spelled-step 128 c.args.number (omega arith) (omega arith)))

pub push_reserved-requires-else-number-lt128 : goal.push_reserved-requires-else-number-lt128
push_reserved-requires-else-number-lt128 t c =
    omega (
      arith,
      length-spelled-step 128 c.args.number (omega arith) (omega arith),
      length-complement (spelled 128 (c.args.number / 256)),
    )

pub returns-else-number-lt128 : goal.returns-else-number-lt128
returns-else-number-lt128 t c = record {
  items = appended _ _ _ _ _ _ c.push_reserved-else-number-lt128.ensures.items c.put_complement.ensures.items (complement-step c.args.number (omega arith));
  len =
      omega (
        arith,
        length-spelled-step 128 c.args.number (omega arith) (omega arith),
        length-complement (spelled 128 (c.args.number / 256)),
        length-complement (spelled 128 c.args.number),
      );
  capacity = search rules;
}
