-- Messages as they are listed: those of a kind that a form does not show have no fields, and no choice keeps them.
use Rattle.std.proofs.Common.{◌≡◌, ◌∙◌, ℕ, Bool, true, false, cond, Option, List, [], sym, refl, ap}
use Rattle.krb_der.specs.declared.profile.Profile.TheVariants as profiles
use Rattle.krb_msg.specs.Views.{IsInProfile, kind_name, kind_of}
use Rattle.krb_msg.specs.declared.message.Message.{Message}
use Rattle.krb_msg.specs.declared.message.Message.TheVariants as message
use Rattle.krb_source.specs.declared.layer.Layer.{Layer}
use Rattle.krb_record.specs.Captures.{captured}
use Rattle.krb_record.specs.Forms.{shows_kind}
use Rattle.krb_record.specs.Laws.{OriginIsInRange}
use Rattle.krb_record.specs.Origins.{message_origin}
use Rattle.krb_record.specs.Values.{Printed, printed, with_origin}
use Rattle.krb_record.specs.declared.capture_origin.CaptureOrigin.{CaptureOrigin}
use Rattle.krb_record.specs.declared.form.Form.{Form}
use Rattle.krb_text.specs.Messages.{message_record, shown_record, unless_hidden}
use Rattle.krb_choice.specs.Choices.{Choice, chosen_text, is_kept, kind_alone, shown, text_by}
use Rattle.krb_choice.specs.Wanted.{choice_form}
use Rattle.krb_choice_laws.specs.Plain.{IsPlain}
use Rattle.krb_choice_laws.proofs.KeptKinds.{kept-shown}
use Rattle.krb_choice_laws.proofs.MessagesPlain.{captured-plain, from-plain}
use Rattle.krb_choice_laws.proofs.RecordsPlain.{from-message, of-capture, of-fields}

-- ---- they are plain
pub listed-plain : (form : Form) (line : Option ℕ) (layers : List Layer) (m : Message) → IsInProfile profiles.Lenient m → IsPlain (with_origin (message_origin line layers) (shown_record form m))
listed-plain form line layers m good = by (shows_kind form (kind_name (kind_of m)))
  where
    by : (is : Bool) → IsPlain (with_origin (message_origin line layers) (unless_hidden is (message_record m)))
    by true = from-plain line layers m good
    by false = of-fields (message_origin line layers) (message_record m).kind [] (from-message line layers) (from-plain line layers m good).kind tt

pub listed-captured : (form : Form) (origin : CaptureOrigin) (m : Message) → OriginIsInRange origin → IsInProfile profiles.Lenient m → IsPlain (captured form origin (shown_record form m))
listed-captured form origin m range good = by (shows_kind form (kind_name (kind_of m)))
  where
    by : (is : Bool) → IsPlain (captured form origin (unless_hidden is (message_record m)))
    by true = captured-plain form origin m range good
    by false = of-capture form origin (message_record m).kind [] range (captured-plain form origin m range good).kind tt

-- ---- none that is hidden is kept
no-blank : (m : Message) → kind_alone (message_record m).kind ≡ kind_name (kind_of m)
unfolding message_record
no-blank (message.AsReq m) = refl
no-blank other = refl

module _ (c : Choice) (is_last : Bool) where
  not-kept : (r : Printed) → IsPlain r → shows_kind (choice_form c) (kind_alone r.kind) ≡ false → chosen_text c is_last r ≡ []
  unfolding chosen_text
  not-kept r plain e = ap (λ b. cond b (text_by c.print r) []) (by (is_kept c is_last (shown r)) refl)
    where
      by : (b : Bool) → is_kept c is_last (shown r) ≡ b → b ≡ false
      by true k = sym (kept-shown c is_last r plain k) ∙ e
      by false k = refl

  pub listed-whole : (line : Option ℕ) (layers : List Layer) (m : Message) → IsInProfile profiles.Lenient m
      → chosen_text c is_last (with_origin (message_origin line layers) (shown_record (choice_form c) m)) ≡ chosen_text c is_last (with_origin (message_origin line layers) (message_record m))
  listed-whole line layers m good = by (shows_kind (choice_form c) (kind_name (kind_of m))) refl
    where
      by : (is : Bool) → shows_kind (choice_form c) (kind_name (kind_of m)) ≡ is
          → chosen_text c is_last (with_origin (message_origin line layers) (unless_hidden is (message_record m))) ≡ chosen_text c is_last (with_origin (message_origin line layers) (message_record m))
      by true e = refl
      by false e =
          let plain = from-plain line layers m good in
          let hidden = ap (shows_kind (choice_form c)) (no-blank m) ∙ e in
          not-kept (with_origin (message_origin line layers) (printed (message_record m).kind [])) (of-fields (message_origin line layers) (message_record m).kind [] (from-message line layers) plain.kind tt) hidden
          ∙ sym (not-kept (with_origin (message_origin line layers) (message_record m)) plain hidden)

  pub captured-whole : (origin : CaptureOrigin) (m : Message) → OriginIsInRange origin → IsInProfile profiles.Lenient m
      → chosen_text c is_last (captured (choice_form c) origin (shown_record (choice_form c) m)) ≡ chosen_text c is_last (captured (choice_form c) origin (message_record m))
  captured-whole origin m range good = by (shows_kind (choice_form c) (kind_name (kind_of m))) refl
    where
      by : (is : Bool) → shows_kind (choice_form c) (kind_name (kind_of m)) ≡ is
          → chosen_text c is_last (captured (choice_form c) origin (unless_hidden is (message_record m))) ≡ chosen_text c is_last (captured (choice_form c) origin (message_record m))
      by true e = refl
      by false e =
          let plain = captured-plain (choice_form c) origin m range good in
          let hidden = ap (shows_kind (choice_form c)) (no-blank m) ∙ e in
          not-kept (captured (choice_form c) origin (printed (message_record m).kind [])) (of-capture (choice_form c) origin (message_record m).kind [] range plain.kind tt) hidden
          ∙ sym (not-kept (captured (choice_form c) origin (message_record m)) plain hidden)
