use Rattle.std.proofs.Common.{◌+◌}
use Rattle.krb_msg.specs.Term.{Application}
use Rattle.krb_msg.specs.Viewed.{AreContents, AreNoContents}
use Rattle.krb_msg.proofs.FieldViews.{else_both, inside_no_item, inside_none, inside_some}
use Rattle.krb_msg.proofs.fields.view.ApplicationViewSequence.view_into.Goals as goal

pub returns-in-None : goal.returns-in-None
returns-in-None g c = λ value a. inside_no_item (0x60 + g.row.NUMBER) c.tag.result g.E.ViewSequence.term c.args.contents.now c.tag.ensures c.in-None.ensures value a.form

pub returns-in-Some : goal.returns-in-Some
returns-in-Some g c =
    else_both _ _ (AreNoContents (Application g.row.NUMBER g.E.ViewSequence.term) c.args.contents.now) _ (AreContents (Application g.row.NUMBER g.E.ViewSequence.term) c.args.contents.now (g.E.ViewSequence.value c.view_into.new.seen)) _ _
    (λ none value a. inside_none (0x60 + g.row.NUMBER) c.tag.result g.E.ViewSequence.term c.args.contents.now c.in-Some.inner.now c.tag.ensures c.in-Some.ensures none value a.fits a.form)
    (λ a. record { fits = a.fits; form = inside_some (0x60 + g.row.NUMBER) c.tag.result g.E.ViewSequence.term c.args.contents.now c.in-Some.inner.now (g.E.ViewSequence.value c.view_into.new.seen) c.tag.ensures c.in-Some.ensures a })
    (λ known. known) c.view_into.ensures
