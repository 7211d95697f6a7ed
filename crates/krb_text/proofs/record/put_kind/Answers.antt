use Rattle.std.proofs.Common.{◌≡◌, ◌++◌, ◌∙◌, ap, refl, subst, sym}
use Rattle.krb_der.specs.inner.Numbers.{AreOctets-slice}
use Rattle.krb_msg.specs.ViewValues.{message_of_view}
use Rattle.krb_text.specs.inner.Records.{is_kept, text_after}
use Rattle.krb_text.proofs.Recorded.{kept_whole, no_message, not_kept, text_of_parts}
use Rattle.krb_text.proofs.record.put_kind.Goals as goal

pub returns-then-not-view_into : goal.returns-then-not-view_into
returns-then-not-view_into g c = (no_message c.args.profile c.args.octets.now (AreOctets-slice c.args.octets.now c.type_inv.octets) c.if-not-view_into.ensures, refl)

pub returns-then-not-is_kept : goal.returns-then-not-is_kept
returns-then-not-is_kept g c =
    let octets = c.args.octets.now in
    let kept = sym (ap (is_kept c.args.profile) c.notes-notes.ensures) ∙ sym c.is_kept.ensures ∙ c.if-not-is_kept.true in
    (not_kept c.args.profile octets _ (AreOctets-slice octets c.type_inv.octets) c.if-not-view_into.ensures kept, refl)

-- the fields and the parts of the view are those of its message, which is the message that is read
pub returns : goal.returns
returns g c =
    let kept = sym (ap (is_kept c.args.profile) c.notes-notes.ensures) ∙ sym c.is_kept.ensures ∙ c.if-not-is_kept.false in
    let m = message_of_view (g.K.MessageKind.as_message c.view_into.new.seen) in
    let same = c.requires.recorded c.view_into.new.seen in
    let text = text_of_parts
    c.args.form
    c.args.from
    m
    c.args.text.now
    (rw (c.name.ensures, ← same.same_kind) at c.in_ok-put_heading.ensures)
    (rw (← same.same_kind, ← same.same_fields, c.notes-notes.ensures, ← same.same_inside) at c.in_ok-put_shown.ensures)
    c.in_ok-put_last.ensures in
    (kept_whole c.args.profile c.args.octets.now _ c.if-not-view_into.ensures kept, subst (λ m. c.put_last.new.text ≡ c.args.text.now ++ text_after c.args.form c.args.from m) c.if-not-view_into.ensures.read text)
