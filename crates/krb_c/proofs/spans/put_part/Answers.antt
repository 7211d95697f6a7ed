use Rattle.std.proofs.Common.{◌≡◌, ◌+◌, length, Option, Some, OnOk, refl, sym, subst}
use Rattle.krb_der.specs.declared.verdict.Refusal.{Refusal}
use Rattle.krb_judge.specs.Parses.{refusal_of}
use Rattle.krb_c.specs.Spans.{unless_refused}
use Rattle.krb_c.specs.inner.Adding.{Adds}
use Rattle.krb_c.proofs.spans.put_part.Goals as goal

pub returns-in-Err : goal.returns-in-Err
returns-in-Err c =
    let is : refusal_of c.args.profile c.args.part.now ≡ Some c.in-Err._refusal = (c.in-Err.ensures.refused c.in-Err._refusal).0 refl in
    subst (λ (r : Option Refusal). OnOk c.put_refused.result (Adds (unless_refused r c.args.begin (c.args.begin + length c.args.part.now) c.args.all) c.args.spans.now c.put_refused.new.self)) (sym is) c.put_refused.ensures
