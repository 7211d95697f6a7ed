use Rattle.std.proofs.Common.{Some, refl, sym, ◌∙◌, subst}
use Rattle.std.proofs.lemmas.Result.{IfOk-weaker}
use Rattle.krb_capture.specs.Directions.{kept}
use Rattle.krb_capture.specs.Rests.{Follows, HoldsBut, RepresentsBut}
use Rattle.krb_capture.proofs.Follows.{both-ok, follows-kept, known-same}
use Rattle.krb_capture.proofs.Tables.{holds-none}
use Rattle.krb_capture.proofs.directions.Directions.go_on_with.Goals as goal

pub returns : goal.returns
returns c = IfOk-weaker c.keep_or_wait.result _ _
    (λ next k limit table found h.
    let rest = c.into_inner-last.result in
    let but = subst (λ x. HoldsBut c.args.self.now limit table c.args.due x found) (sym c.into_inner-last.ensures) h in
    let maps = c.in_ok-put_back.ensures.maps limit but.others (holds-none c.args.self.now limit but.others but.none but.maps) in
    let there = subst (λ x. RepresentsBut x limit but.sent (Some rest.left) but.left) (sym c.deref_mut.ensures.value) but.represents in
    let sends = c.in_ok-left.ensures.found limit but.sent but.left there in
    let known = known-same rest.step.began rest.flow rest.last _ c.args.self.now.numbers.entries c.put_back.new.self.numbers.entries refl refl (but.maps.numbers ∙ sym maps.numbers) but.known in
    let table_of = kept rest.flow rest.last.number rest.step but.sent but.others in
    subst (λ t. Follows c.keep_or_wait.new.self limit t c.args.due next found c.args.listing.now c.go_on.new.listing) (sym but.table_is)
    (subst (λ f. Follows c.keep_or_wait.new.self limit table_of c.args.due next f c.args.listing.now c.go_on.new.listing) (sym but.is)
    (follows-kept c.keep_or_wait.new.self limit c.args.due next c.go_on.new.self but.sent table_of c.in_ok-left.left c.deref_mut.result.now.flow but.left c.args.listing.now c.go_on.new.listing there.flow sends k.0
    (k.1 limit but.others but.sent c.args.due sends.left maps known sends.represents))))
    (both-ok _ _ c.keep_or_wait.result c.keep_or_wait.ensures.waits c.keep_or_wait.ensures.kept)
