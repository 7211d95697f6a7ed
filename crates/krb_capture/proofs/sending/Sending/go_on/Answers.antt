use Rattle.std.proofs.Common.{sym, ◌∙◌, ap, subst}
use Rattle.std.proofs.lemmas.Result.{IfOk-weaker}
use Rattle.krb_flow.specs.Window.{Keeps}
use Rattle.krb_capture.specs.Rests.{Sends, TookSome}
use Rattle.krb_capture.proofs.sending.Sending.go_on.Goals as goal

pub returns-clause-found : goal.returns-clause-found
returns-clause-found c = IfOk-weaker c.list_left.result _ _
    (λ rest k limit sent found r.
    let t = k limit r.took.stream r.took.took in
    let same = c.list_left.ensures.same in
    subst (λ o. Sends c.list_left.new.self limit sent rest o found c.args.listing.now c.list_left.new.listing) c.over-origin.ensures
    (record {
      listed = t.listed;
      left = t.left;
      parts = r.took.is ∙ t.parts;
      written = t.written;
      full = t.full;
      represents = record {
        limit_is = ap (λ x. x.limit) same ∙ r.limit_is;
        flow = ap (λ x. x.flow) same ∙ r.flow;
        service = ap (λ x. x.service) same ∙ r.service;
        frames = t.service ∙ r.frames;
        state = ap (λ x. x.direction.state) same ∙ r.state;
        keeps = subst (λ d. Keeps d sent.stream) (sym (ap (λ x. x.direction) same)) r.keeps;
        took = subst (λ s. TookSome c.list_left.new.self.frames limit s rest t.left) r.took.parts t.took;
      };
    }))
    c.list_left.ensures.found
