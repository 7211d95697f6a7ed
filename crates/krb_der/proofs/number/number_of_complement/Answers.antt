use Rattle.std.proofs.Common.{ℕ, ◌+◌, ◌*◌, ◌<◌, arith, sym, ap, ◌∙◌, drop}
use Rattle.krb_der.specs.Octets.{number_from, complement}
use Rattle.krb_der.proofs.Spelled.{complement-next, complement-end, small-next, small}
use Rattle.krb_der.proofs.number.number_of_complement.Goals as goal

pub overflow_mul-number : goal.overflow_mul-number
overflow_mul-number c = omega (arith, small c.loop-octet.octet-index 4 c.loop-octet.number (omega arith) c.loop-octet.invariant.1)

pub overflow_add-number : goal.overflow_add-number
overflow_add-number c = omega (arith, small c.loop-octet.octet-index 4 c.loop-octet.number (omega arith) c.loop-octet.invariant.1, c.from.ensures, c.type_inv.octets c.loop-octet.octet-index)

pub loop-octet-preserved : goal.loop-octet-preserved
loop-octet-preserved c =
    let octet : c.from.result < 256 = omega (arith, c.from.ensures, c.type_inv.octets c.loop-octet.octet-index) in (
      c.loop-octet.invariant.0
          ∙ complement-next c.args.octets.now c.loop-octet.octet-index c.loop-octet.number c.loop-octet-test.true
          ∙ ap (λ (octet : ℕ). number_from (c.loop-octet.number * 256 + octet) (complement (drop (c.loop-octet.octet-index + 1) c.args.octets.now))) (sym c.from.ensures),
      small-next c.loop-octet.octet-index c.loop-octet.number c.from.result c.loop-octet.invariant.1 octet,
    )

pub returns-clause-value : goal.returns-clause-value
returns-clause-value c = sym (c.loop-octet.invariant.0 ∙ complement-end c.args.octets.now c.loop-octet.octet-index c.loop-octet.number c.loop-octet-test.false)

pub returns-clause-small : goal.returns-clause-small
returns-clause-small c = small c.loop-octet.octet-index 5 c.loop-octet.number (omega arith) c.loop-octet.invariant.1
