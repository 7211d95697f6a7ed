-- The record of a message that octets are, by the view of its kind.
use Rattle.std.proofs.Common.{◌≡◌, ℕ, ◌^◌, ◌<◌, Bool, true, false, List, [], ◌∷◌, ◌++◌, length, refl, sym, ap, ◌∙◌, append_assoc, arith, not, ◌||◌}
use Rattle.std.specs.List.{list_any}
use Rattle.krb_der.specs.Octets.{AreOctets}
use Rattle.krb_der.specs.declared.profile.Profile.{Profile}
use Rattle.krb_der.specs.declared.profile.Profile.TheVariants as profiles
use Rattle.krb_der.specs.declared.verdict.Verdict.TheVariants.{Whole}
use Rattle.krb_msg.specs.Judgement.{judgement}
use Rattle.krb_msg.specs.Notes.{are_none, notes_have, notes_of}
use Rattle.krb_msg.specs.ViewValues.{IsMessageView, IsNoMessage, message_of_view}
use Rattle.krb_msg.specs.Views.{kind_name, kind_of}
use Rattle.krb_msg.specs.declared.message.Message.{Message}
use Rattle.krb_msg.specs.declared.message_view.MessageView.{MessageView}
use Rattle.krb_msg.specs.declared.notes.Notes.{Notes}
use Rattle.krb_msg.proofs.Judged.{lenient_whole}
use Rattle.krb_msg.proofs.StrictViews.{strict_kept, strict_whole}
use Rattle.krb_record.specs.declared.form.Form.{Form}
use Rattle.krb_text.specs.declared.record.Heading.{Heading}
use Rattle.krb_text.specs.declared.record.Heading.TheVariants as headings
use Rattle.krb_record.specs.Forms.{end_text, heading, record_text, shows_kind}
use Rattle.krb_text.specs.Inside.{inside_of}
use Rattle.krb_text.specs.Messages.{fields_of, message_record, unless_hidden}
use Rattle.krb_text.specs.inner.Records.{headed, heading_last, heading_origin, is_kept, shown_text, text_after}
use Rattle.krb_text.proofs.Records.{message_aside, message_fields, message_inside, message_kind}
use Rattle.krb_record.specs.Values.{Printed, with_last, with_origin}
use Rattle.std.proofs.lemmas.List.{append-nil}

-- ---- the text
text_by : (is_shown : Bool) (form : Form) (from : Heading) (m : Message) (old : List ℕ) {l₁ l₂ l₃ : List ℕ} → l₁ ≡ old ++ heading form (heading_origin form from) (kind_name (kind_of m)) → l₂ ≡ l₁ ++ shown_text is_shown form (fields_of m) (notes_of m) (inside_of m) → l₃ ≡ l₂ ++ end_text form (heading_last from)
    → l₃ ≡ old ++ record_text form (with_last (heading_last from) (with_origin (heading_origin form from) (unless_hidden is_shown (message_record m))))
unfolding record_text
text_by true form from m old h₁ h₂ h₃ = rw (h₃, h₂, h₁, message_kind m, message_fields form m, message_inside m, message_aside m) (simp (append_assoc, append-nil))
text_by false form from m old h₁ h₂ h₃ = rw (h₃, h₂, h₁, message_kind m) (simp (append_assoc, append-nil))

-- it has this origin, and this last
headed-is : (is_shown : Bool) (form : Form) (from : Heading) (m : Message) → headed form from (unless_hidden is_shown (message_record m)) ≡ with_last (heading_last from) (with_origin (heading_origin form from) (unless_hidden is_shown (message_record m)))
unfolding message_record
headed-is true form headings.Alone m = refl
headed-is true form (headings.Captured origin) m = refl
headed-is true form (headings.From origin) m = refl
headed-is false form headings.Alone m = refl
headed-is false form (headings.Captured origin) m = refl
headed-is false form (headings.From origin) m = refl

pub text_of_parts : (form : Form) (from : Heading) (m : Message) (old : List ℕ) {l₁ l₂ l₃ : List ℕ} → l₁ ≡ old ++ heading form (heading_origin form from) (kind_name (kind_of m)) → l₂ ≡ l₁ ++ shown_text (shows_kind form (kind_name (kind_of m))) form (fields_of m) (notes_of m) (inside_of m) → l₃ ≡ l₂ ++ end_text form (heading_last from) → l₃ ≡ old ++ text_after form from m
text_of_parts form from m old h₁ h₂ h₃ =
    let is_shown : Bool = shows_kind form (kind_name (kind_of m)) in
    text_by is_shown form from m old h₁ h₂ h₃ ∙ ap (λ (r : Printed). old ++ record_text form r) (sym (headed-is is_shown form from m))

-- ---- the profile
pub any_or_none : (n : Notes) → not (list_any (notes_have n) (1 ∷ 2 ∷ 3 ∷ 4 ∷ [])) ≡ are_none n
any_or_none n = by n.high_octet n.few_flags n.negative n.empty_list
  where
    by : (a b c d : Bool) → not (a || (b || (c || (d || false)))) ≡ not (((a || b) || c) || d)
    by true b c d = refl
    by false true c d = refl
    by false false true d = refl
    by false false false true = refl
    by false false false false = refl

pub kept_whole : (profile : Profile) (octets : List ℕ) (view : MessageView) → IsMessageView octets view → is_kept profile (notes_of (message_of_view view)) ≡ true → judgement profile (length octets) octets ≡ Whole
kept_whole profiles.Lenient octets view seen kept = seen.whole
kept_whole profiles.Strict octets view seen kept = strict_whole octets view seen kept

pub not_kept : (profile : Profile) (octets : List ℕ) (view : MessageView) → AreOctets octets → IsMessageView octets view → is_kept profile (notes_of (message_of_view view)) ≡ false → length octets < 2 ^ 31 → judgement profile (length octets) octets ≡ Whole → ⊥
not_kept profiles.Lenient octets view are seen kept short whole = absurd cc
not_kept profiles.Strict octets view are seen kept short whole = let e = strict_kept octets view short are seen whole in absurd cc

pub no_message : (profile : Profile) (octets : List ℕ) → AreOctets octets → IsNoMessage octets → length octets < 2 ^ 31 → judgement profile (length octets) octets ≡ Whole → ⊥
no_message profile octets are none short whole = none short (lenient_whole profile (length octets) octets short are (omega arith) whole)
