use Rattle.std.proofs.Common.{◌≡◌, Some, sym, ◌∙◌, ap}
use Rattle.std.proofs.lemmas.Result.{on_ok_weaker}
use Rattle.krb_capture.specs.Boxed.{happened_in}
use Rattle.krb_capture.specs.Found.{Written}
use Rattle.krb_capture.specs.Told.{with_news_if}
use Rattle.krb_capture.proofs.Segments.{segment-told}
use Rattle.krb_capture.proofs.listing.Listing.put_segment.Goals as goal

pub returns : goal.returns
returns c =
    let old : c.args.self.now.happened ≡ Some c.deref_mut.result.now = sym (ap (λ (w : Written). w.happened) c.self.view_is) ∙ ap happened_in c.in-Some.is ∙ ap Some (sym c.deref_mut.ensures.value) in
    on_ok_weaker c.put_news_if-3.result
    (segment-told c.args.header c.args.origin.now c.moment_of-now.result c.deref_mut.result.now c.take_segment.new.self c.in_ok-reset.reset c.in_ok-reset.silent c.in_ok-reset.missed c.args.self.now c.put_news_if.new.self c.put_news_if-2.new.self c.put_news_if-3.new.self c.moment_of-now.ensures old c.in_ok-reset.ensures.happened c.in_ok-reset.ensures.news
    (c.in_ok-put_news_if.ensures ∙ ap (λ (w : Written). with_news_if c.in_ok-reset.reset c.moment_of-now.result (record w { happened = Some c.take_segment.new.self })) c.self.view_is) c.in_ok-put_news_if-2.ensures)
    c.put_news_if-3.ensures
