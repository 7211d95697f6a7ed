-- What is written in a style.
use Rattle.std.proofs.Common.{◌≡◌, true, false, if◌then◌else◌, List, [], ◌++◌, Option, Some, None, ℕ, sym, ◌∙◌, ap, subst, append_assoc}
use Rattle.std.specs.Prelude.{is_some}
use Rattle.krb_der.specs.declared.profile.Profile.TheVariants.{Lenient}
use Rattle.krb_msg.specs.ViewValues.{IsMessageView}
use Rattle.krb_msg.specs.Views.{IsInProfile, message_der, message_of_der}
use Rattle.krb_msg.specs.declared.message_view.MessageView.{MessageView}
use Rattle.krb_record.specs.declared.capture_origin.CaptureOrigin.{CaptureOrigin}
use Rattle.krb_capture.specs.Decoded.{IsOfMessage, decoded_message}
use Rattle.krb_capture.specs.Found.{Found, Whole, decoded_line, written_line}
use Rattle.krb_capture.specs.Labels.{Label, writes}
use Rattle.krb_capture.specs.declared.style.Decoding.{Decoding}

-- what is said after an opening
pub said_after : (now between text opening path said : List ℕ) → now ≡ (between ++ path) ++ said → between ≡ text ++ opening → now ≡ text ++ ((opening ++ path) ++ said)
said_after now between text opening path said n b = n ∙ ap (λ t. (t ++ path) ++ said) b ∙ ap (λ t. t ++ said) (append_assoc text opening path) ∙ append_assoc text (opening ++ path) said

-- nothing of other packets
pub unwritten : (decoding : Option Decoding) (label : Label) (origin : CaptureOrigin) (found : Found) → writes decoding origin ≡ false → written_line decoding label origin found ≡ []
unwritten None label origin found e = cc
unwritten (Some decoding) label origin found e = ap (λ b. if b then decoded_line label origin found else []) e

-- a message as it is decoded
pub written_whole : (decoding : Option Decoding) (label : Label) (origin : CaptureOrigin) (octets : List ℕ) → is_some decoding ≡ true → writes decoding origin ≡ true → written_line decoding label origin (Whole octets) ≡ decoded_message label.form origin (message_of_der octets)
written_whole None label origin octets some e = cc
written_whole (Some decoding) label origin octets some e = ap (λ b. if b then decoded_message label.form origin (message_of_der octets) else []) e

-- octets that are viewed as a message are one
pub message_viewed : (octets : List ℕ) (view : MessageView) → IsMessageView octets view → IsOfMessage octets
message_viewed octets view v = record { in_profile = subst (IsInProfile Lenient) v.read v.in_profile; form = ap message_der (sym v.read) ∙ v.form }
