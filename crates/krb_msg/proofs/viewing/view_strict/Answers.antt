use Rattle.std.proofs.Common.{◌≡◌, ◌∙◌, true, false, sym, arith}
use Rattle.krb_der.specs.declared.profile.Profile.TheVariants.{Strict}
use Rattle.krb_der.specs.inner.Numbers.{AreOctets-slice}
use Rattle.krb_msg.proofs.FieldViews.{match_none}
use Rattle.krb_msg.proofs.Judged.{lenient_whole}
use Rattle.krb_msg.proofs.StrictViews.{strict_whole, strict_kept}
use Rattle.krb_msg.proofs.viewing.view_strict.Goals as goal

pub returns-in_err-message : goal.returns-in_err-message
returns-in_err-message c =
    let octets = c.args.octets.now in
    match_none _ _ _ c.from_residual.ensures (λ whole. c.in_err-message.ensures c.requires.short (lenient_whole Strict _ octets c.requires.short (AreOctets-slice octets c.type_inv.octets) (omega arith) whole))

pub returns-then-is_strict_view : goal.returns-then-is_strict_view
returns-then-is_strict_view c = (c.in_ok-message.ensures, strict_whole c.args.octets.now c.in_ok-message.message c.in_ok-message.ensures (sym c.is_strict_view.ensures ∙ c.if-is_strict_view.true))

pub returns-else-is_strict_view : goal.returns-else-is_strict_view
returns-else-is_strict_view c = λ whole.
    let octets = c.args.octets.now in
    let kept = strict_kept octets c.in_ok-message.message c.requires.short (AreOctets-slice octets c.type_inv.octets) c.in_ok-message.ensures whole in
    let both : false ≡ true = sym c.if-is_strict_view.false ∙ c.is_strict_view.ensures ∙ kept in
    absurd cc
