-- The message of the DER of a message is that message.
use Rattle.std.proofs.Common.{◌≡◌, ◌^◌, ◌<◌, true, length, ◌∙◌, ap, arith}
use Rattle.krb_der.specs.declared.profile.Profile.{Profile}
use Rattle.krb_msg.specs.ValueOfDer.{first_or_zero, value_of_der}
use Rattle.krb_msg.specs.Shape.{is_unambiguous}
use Rattle.krb_msg.specs.Term.{Term, Value, der}
use Rattle.krb_msg.specs.Views.{kind_of, kind_of_tag, kind_term, message_of, message_of_der, message_of_kind, message_value, message_der, IsInProfile}
use Rattle.krb_msg.specs.declared.message.Message.{Message}
use Rattle.krb_msg.specs.inner.Kinds.{kind_of_tag-tag, kind_unambiguous, message_round_trips}
use Rattle.krb_msg.specs.inner.Values.{der_is}
use Rattle.krb_msg.proofs.ValueOfDer.{value_of_der_is_value}

short-read : (term : Term) (value : Value term) → is_unambiguous term ≡ true → length (der term value) < 2 ^ 31 → value_of_der term (der term value) ≡ value
short-read term value u short = value_of_der_is_value term value u (omega arith)

pub message_of_der_is_message : (profile : Profile) (m : Message) → IsInProfile profile m → message_of_der (message_der m) ≡ m
message_of_der_is_message profile m p =
    ap (λ kind. message_of_kind kind (message_der m)) of_tag
    ∙ ap (message_of (kind_of m)) (short-read (kind_term (kind_of m)) (message_value m) (kind_unambiguous (kind_of m)) p.short)
    ∙ message_round_trips m
  where
    of_tag : kind_of_tag (first_or_zero (message_der m)) ≡ kind_of m
    of_tag = ap (λ octets. kind_of_tag (first_or_zero octets)) (der_is (kind_term (kind_of m)) (message_value m)) ∙ kind_of_tag-tag (kind_of m)
