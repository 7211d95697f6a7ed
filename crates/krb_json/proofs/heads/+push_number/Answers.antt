use Rattle.std.proofs.Common.{◌++◌, ◌∷◌, [], ◌/◌, ◌%◌, ap, sym, ◌∙◌, append_assoc, arith}
use Rattle.krb_der.specs.Octets.{spelled}
use Rattle.krb_der.specs.inner.Numbers.{length-spelled-step, length-spelled-le, spelled-step}
use Rattle.krb_json.proofs.heads.+push_number.Goals as goal

pub returns-clause-octets : goal.returns-clause-octets
returns-clause-octets t c =
    c.in_ok-push-2.ensures.items ∙ ap (λ l. l ++ c.args.number % 256 ∷ []) c.in_ok-count.ensures.octets
    ∙ append_assoc c.args.out.now.items (spelled 256 (c.args.number / 256)) (c.args.number % 256 ∷ [])
    ∙ ap (λ l. c.args.out.now.items ++ l) (sym (spelled-step 256 c.args.number (omega arith) (omega arith)))

pub returns-clause-count : goal.returns-clause-count
returns-clause-count t c = omega (arith, c.in_ok-count.ensures.count, length-spelled-step 256 c.args.number (omega arith) (omega arith))

pub returns-clause-small : goal.returns-clause-small
returns-clause-small t c = omega (arith, c.in_ok-count.ensures.count, length-spelled-step 256 c.args.number (omega arith) (omega arith), length-spelled-le 256 7 c.args.number (omega arith) (omega arith))
