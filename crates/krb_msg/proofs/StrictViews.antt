-- Views of the messages that the strict profile judges whole.
use Rattle.std.proofs.Common.{◌≡◌, ◌↔◌, ℕ, ◌<◌, ◌^◌, true, List, [], ◌++◌, length, sym, ap, ◌∙◌, subst, arith}
use Rattle.krb_der.specs.Octets.{AreOctets}
use Rattle.krb_der.specs.declared.profile.Profile.TheVariants.{Strict}
use Rattle.krb_der.specs.declared.verdict.Verdict.TheVariants.{Whole}
use Rattle.krb_msg.specs.declared.message.Message.{Message}
use Rattle.krb_msg.specs.declared.message_view.MessageView.{MessageView}
use Rattle.krb_msg.specs.Judgement.{judgement}
use Rattle.krb_msg.specs.ViewValues.{IsMessageView, message_of_view}
use Rattle.krb_msg.specs.Notes.{is_strict}
use Rattle.krb_msg.proofs.Judged.{whole_is_message, message_is_whole, der_is_prefix_free}
use Rattle.krb_msg.proofs.Strictness.{strict_is_narrower}

-- a message that keeps the strict rules is judged whole
pub strict_whole : (octets : List ℕ) (m : MessageView) → IsMessageView octets m → is_strict (message_of_view m) ≡ true → judgement Strict (length octets) octets ≡ Whole
strict_whole octets m v k = subst (λ l. judgement Strict (length l) l ≡ Whole) v.form (message_is_whole Strict (message_of_view m) ((strict_is_narrower (message_of_view m)).1 (v.in_profile, k)))

-- and one that is judged whole keeps them
pub strict_kept : (octets : List ℕ) (m : MessageView) → length octets < 2 ^ 31 → AreOctets octets → IsMessageView octets m → judgement Strict (length octets) octets ≡ Whole → is_strict (message_of_view m) ≡ true
strict_kept octets m short are v whole =
    let s = whole_is_message Strict (length octets) octets short are (omega arith) whole in
    let same : s.message ≡ message_of_view m = (der_is_prefix_free s.message (message_of_view m) [] [] (ap (λ l. l ++ []) (s.form ∙ sym v.form))).0 in
    subst (λ (n : Message). is_strict n ≡ true) same ((strict_is_narrower s.message).0 s.in_profile).1

-- so it is judged whole exactly if it keeps them
pub strict_exactly : (octets : List ℕ) (m : MessageView) → length octets < 2 ^ 31 → AreOctets octets → IsMessageView octets m → (judgement Strict (length octets) octets ≡ Whole) ↔ (is_strict (message_of_view m) ≡ true)
strict_exactly octets m short a v = (strict_kept octets m short a v, strict_whole octets m v)
