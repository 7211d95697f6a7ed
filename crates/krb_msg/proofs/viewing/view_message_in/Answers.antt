use Rattle.std.proofs.Common.{◌≡◌, length, sym, subst}
use Rattle.std.specs.Prelude.{MatchOption}
use Rattle.krb_der.specs.declared.verdict.Verdict.TheVariants.{Whole}
use Rattle.krb_msg.specs.Judgement.{judgement}
use Rattle.krb_msg.specs.ViewValues.{IsMessageView}
use Rattle.krb_msg.proofs.FieldViews.{match_map}
use Rattle.krb_msg.proofs.viewing.view_message_in.Goals as goal

pub returns-in-Lenient : goal.returns-in-Lenient
returns-in-Lenient c =
    let octets = c.args.octets.now in
    subst (λ profile. MatchOption c.view_short_message.result (judgement profile (length octets) octets ≡ Whole → ⊥) (λ m. IsMessageView octets m × (judgement profile (length octets) octets ≡ Whole))) (sym c.in-Lenient.is)
    (match_map c.view_short_message.result _ _ _ _ (λ none. none c.requires.short) (λ m v. (v, v.whole)) c.view_short_message.ensures)

pub returns-in-Strict : goal.returns-in-Strict
returns-in-Strict c =
    let octets = c.args.octets.now in
    subst (λ profile. MatchOption c.view_strict.result (judgement profile (length octets) octets ≡ Whole → ⊥) (λ m. IsMessageView octets m × (judgement profile (length octets) octets ≡ Whole))) (sym c.in-Strict.is) c.view_strict.ensures
