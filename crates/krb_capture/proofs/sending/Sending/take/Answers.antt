use Rattle.std.proofs.Common.{List, ℕ, ◌++◌, sym, ◌∙◌, ap, ap₂, subst}
use Rattle.krb_flow.specs.Directions.{Outcome, outcome_of, step}
use Rattle.krb_flow.specs.Unread.{untaken_of}
use Rattle.krb_flow.specs.Window.{Keeps, stream_at, stream_with}
use Rattle.krb_record.specs.declared.flow.Transport.TheVariants as transports
use Rattle.krb_capture.specs.Flows.{origin_of}
use Rattle.krb_capture.specs.Rests.{RepresentsBut, Sends, Takes, TookSome}
use Rattle.krb_capture.specs.Sending.{after_segment, outcome_found, segment_found}
use Rattle.krb_capture.specs.Taken.{Took}
use Rattle.krb_capture.proofs.Sendings.{outcome-listed}
use Rattle.krb_capture.proofs.sending.Sending.take.Goals as goal

pub returns-clause-found : goal.returns-clause-found
returns-clause-found c = λ limit sent s.
    let n = c.args.self.now.limit in
    let origin = c.over-origin.result in
    let rest = c.in_ok-left.left in
    let began = c.in_ok-begin.ensures.same in
    let same = c.in_ok-left.ensures.same in
    let made : Outcome = outcome_of c.in_ok-taken.taken c.take.new.waited.items in
    let outcome = c.in_ok-taken.ensures.outcome ∙ ap (λ st. (step st c.args.segment.now).0) s.state in
    let untaken = c.in_ok-taken.ensures.untaken sent.stream s.keeps ∙ ap (λ st. untaken_of st sent.stream c.args.segment.now) s.state in
    let stream_is = ap (λ st. stream_with st sent.stream c.args.segment.now) s.state in
    let at = stream_at c.in_ok-taken.taken.begins sent.stream in
    let took0 = subst (λ n. Took c.args.self.now.frames n sent.stream) (sym s.limit_is) s.took in
    let took1 = c.in_ok-begin.ensures.took sent.stream took0 in
    let takes = subst (λ (y : List ℕ). Takes c.begin.new.self.frames c.list.new.self.frames n at (record { octets = c.in_ok-taken.taken.octets.now ++ y; end = c.in_ok-taken.taken.end }) rest origin c.list_untaken.new.listing c.list.new.listing) c.as_slice.ensures.value (c.in_ok-left.ensures.found n at took1) in
    let listed = outcome-listed origin sent.service n sent.stream c.in_ok-taken.taken.untaken made rest c.args.self.now.frames c.begin.new.self.frames c.list.new.self.frames c.args.listing.now c.list_end.new.listing c.begin.new.listing c.list_untaken.new.listing c.list.new.listing
    s.frames (c.in_ok-begin.ensures.service (s.frames ∙ sym s.service) ∙ s.service)
    (c.in_ok-list_end.ensures n sent.stream took0) c.in_ok-begin.ensures.found c.in_ok-list_untaken.ensures takes
    in
    let represents : RepresentsBut c.list.new.self n (after_segment sent c.args.segment.now) rest listed.left = record {
      limit_is = ap (λ x. x.limit) same ∙ ap (λ x. x.limit) began;
      flow = ap (λ x. x.flow) same ∙ ap (λ x. x.flow) began ∙ s.flow;
      service = ap (λ x. x.service) same ∙ ap (λ x. x.service) began ∙ s.service;
      frames = takes.service ∙ c.in_ok-begin.ensures.service (s.frames ∙ sym s.service) ∙ s.service;
      state = ap (λ x. x.direction.state) same ∙ ap (λ x. x.direction.state) began ∙ c.in_ok-taken.ensures.state ∙ ap (λ st. (step st c.args.segment.now).1) s.state;
      keeps = subst (λ d. Keeps d (stream_with sent.state sent.stream c.args.segment.now)) (sym (ap (λ x. x.direction) same ∙ ap (λ x. x.direction) began)) (subst (λ l. Keeps c.take.new.self l) stream_is (c.in_ok-taken.ensures.keeps sent.stream s.keeps));
      took = subst (λ o. TookSome c.list.new.self.frames n (stream_at o.begins sent.stream ++ o.octets) rest listed.left) outcome listed.took;
    } in
    subst (λ n. Sends c.list.new.self n (after_segment sent c.args.segment.now) rest (origin_of c.args.due transports.Tcp c.args.self.now.flow.source c.args.self.now.flow.target) (segment_found n sent c.args.segment.now) c.args.listing.now c.list.new.listing) s.limit_is
    (subst (λ o. Sends c.list.new.self n (after_segment sent c.args.segment.now) rest o (segment_found n sent c.args.segment.now) c.args.listing.now c.list.new.listing) c.over-origin.ensures
    (record {
      listed = listed.listed;
      left = listed.left;
      parts = ap₂ (λ u o. outcome_found sent.service n sent.stream u o) (sym untaken) (sym outcome) ∙ listed.parts;
      written = listed.written;
      full = takes.full;
      represents = represents;
    }))
