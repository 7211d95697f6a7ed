use Rattle.std.proofs.Common.{sym, ◌∙◌, ap, subst}
use Rattle.std.proofs.lemmas.Result.{IfOk-weaker}
use Rattle.std.specs.BTreeMap.{insert_entry}
use Rattle.krb_capture.specs.Directions.{flow_cmp, flow_of, kept, state_after}
use Rattle.krb_capture.specs.Rests.{RepresentsBut}
use Rattle.krb_capture.specs.Sending.{Represents, after_segment, segment_found, sent_from, step_of}
use Rattle.krb_capture.proofs.Follows.{both-ok, follows-kept, kept-begun}
use Rattle.krb_capture.proofs.Tables.{represents-begun}
use Rattle.krb_capture.proofs.directions.Directions.begin.Goals as goal

pub returns : goal.returns
returns c = IfOk-weaker c.keep_or_wait.result _ _
    (λ rest k limit table h.
    let flow = flow_of c.args.segment.now in
    let fresh = sent_from flow c.args.service (state_after c.args.had) in
    let sent = after_segment fresh c.args.segment.now in
    let stepped = c.in_ok-stepped.stepped in
    let made = represents-begun c.new-sending.result c.args.self.now.limit limit c.args.flow flow c.args.service c.direction_after-direction.result.state c.new-sending.ensures h.limit_is c.requires.of_segment in
    let represents = subst (λ s. Represents c.new-sending.result limit (sent_from flow c.args.service s)) c.direction_after-direction.ensures.state made in
    let sends = c.in_ok-stepped.ensures.found limit fresh represents in
    let step = c.in_ok-stepped.ensures.step ∙ ap (λ s. step_of s c.args.segment.now) represents.state in
    follows-kept c.keep_or_wait.new.self limit c.args.due rest c.take.new.self sent (kept flow c.args.due.packet (step_of fresh.state c.args.segment.now) sent table) stepped.left c.new-sending.result.flow (segment_found limit fresh c.args.segment.now) c.args.listing.now c.take.new.listing represents.flow sends k.0
    (kept-begun c.keep_or_wait.new.self limit c.args.due rest _ c.args.flow flow c.args.due.packet stepped.step (step_of fresh.state c.args.segment.now) sent table c.requires.of_segment step c.requires.begins
    (k.1 limit (record table { numbers = insert_entry flow_cmp table.numbers c.args.flow c.args.due.packet }) sent c.args.due sends.left (record { limit_is = h.limit_is; numbers = h.numbers; active = h.active; ended = h.ended; recent = h.recent })
    c.requires.known
    (subst (λ x. RepresentsBut x limit sent stepped.left sends.left) (sym c.in_ok-new.ensures.ok) sends.represents))))
    (both-ok _ _ c.keep_or_wait.result c.keep_or_wait.ensures.waits c.keep_or_wait.ensures.kept)
