use Rattle.std.proofs.Common.{Some, refl, sym, ap, subst}
use Rattle.krb_capture.specs.Captures.{over_tcp}
use Rattle.krb_capture.specs.Directions.{in_flow, kept}
use Rattle.krb_capture.specs.Rests.{HoldsBut, RepresentsBut}
use Rattle.krb_capture.proofs.Follows.{represents-all}
use Rattle.krb_capture.proofs.directions.Directions.keep_or_wait.Goals as goal

pub returns-in_ok-keep-in-None-clause-kept : goal.returns-in_ok-keep-in-None-clause-kept
returns-in_ok-keep-in-None-clause-kept c = λ limit table sent due left h known r.
    let all = represents-all c.args.last.sending.value limit sent c.args.stepped.left left c.in-None.is r in
    (c.in_ok-keep-in-None.ensures limit table sent h known all.0, ap (λ xs. over_tcp due (in_flow sent.flow xs)) all.1)

pub returns-in_ok-new-in-Some-clause-kept : goal.returns-in_ok-new-in-Some-clause-kept
returns-in_ok-new-in-Some-clause-kept c = λ limit table sent due left h known r.
    subst (λ x. HoldsBut c.args.self.now limit (kept c.args.flow c.args.last.number c.args.stepped.step sent table) due x (over_tcp due (in_flow sent.flow left))) (sym c.in_ok-new-in-Some.ensures.ok)
    (record {
      sent = sent;
      others = table;
      maps = h;
      none = c.requires;
      known = known;
      left = left;
      represents = subst (λ o. RepresentsBut c.args.last.sending.value limit sent (Some o) left) (sym c.in-Some.left-is) (subst (λ o. RepresentsBut c.args.last.sending.value limit sent o left) c.in-Some.is r);
      table_is = refl;
      is = refl;
    })
