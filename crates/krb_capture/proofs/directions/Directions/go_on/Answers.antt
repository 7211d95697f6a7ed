use Rattle.std.proofs.Common.{sym, ◌∙◌, ap, subst}
use Rattle.std.proofs.lemmas.Result.{IfOk-weaker}
use Rattle.std.specs.Prelude.{if◌then◌else◌}
use Rattle.krb_capture.specs.Directions.{kept, without}
use Rattle.krb_capture.specs.Sending.{Represents, after_segment, segment_found, step_of}
use Rattle.krb_capture.proofs.Follows.{both-ok, follows-kept, kept-same}
use Rattle.krb_capture.proofs.Tables.{known-after}
use Rattle.krb_capture.proofs.directions.Directions.go_on.Goals as goal

pub returns : goal.returns
returns c = IfOk-weaker c.keep_or_wait.result _ _
    (λ rest k limit table sent h known s.
    let there = subst (λ x. Represents x limit sent) (sym c.deref_mut.ensures.value) s in
    let stepped = c.in_ok-stepped.stepped in
    let after = after_segment sent c.args.segment.now in
    let sends = c.in_ok-stepped.ensures.found limit sent there in
    let step = c.in_ok-stepped.ensures.step ∙ ap (λ x. step_of x c.args.segment.now) there.state in
    let wanted = step_of sent.state c.args.segment.now in
    let number = if wanted.began then c.args.due.packet else c.args.last.number in
    follows-kept c.keep_or_wait.new.self limit c.args.due rest c.take.new.self after (kept sent.flow number wanted after (without c.args.last.number table)) stepped.left c.deref_mut.result.now.flow (segment_found limit sent c.args.segment.now) c.args.listing.now c.take.new.listing there.flow sends k.0
    (kept-same c.keep_or_wait.new.self limit c.args.due rest _ c.flow-flow.result sent.flow c.number_after.result number stepped.step wanted after (without c.args.last.number table)
    (c.flow-flow.ensures ∙ ap (λ x. x.flow) c.deref.ensures ∙ sends.represents.flow)
    (c.number_after.ensures ∙ ap (λ x. if x.began then c.args.due.packet else c.args.last.number) step)
    step
    (k.1 limit (without c.args.last.number table) after c.args.due sends.left (record { limit_is = h.limit_is; numbers = h.numbers; active = h.active; ended = h.ended; recent = h.recent })
    (known-after stepped.step c.flow-flow.result c.args.last _ c.args.due.packet c.args.self.now.numbers.entries c.flow_after.ensures c.number_after.ensures known) sends.represents)))
    (both-ok _ _ c.keep_or_wait.result c.keep_or_wait.ensures.waits c.keep_or_wait.ensures.kept)
