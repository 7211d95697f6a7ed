-- The kinds of messages, one by one, for the laws about any message. asn1/generate wrote this from asn1/krb5.asn1
use Rattle.std.proofs.Common.{◌≡◌, ℕ, inl, inr, List, ◌∷◌, Some, refl, sym}
use Rattle.krb_der.specs.declared.profile.Profile.{Profile}
use Rattle.krb_der.specs.declared.profile.Profile.TheVariants.{Lenient}
use Rattle.krb_msg.specs.Grammar.{messages}
use Rattle.krb_msg.specs.Judgement.{judgement, term_judgement}
use Rattle.krb_msg.specs.Shape.{IsOneOf}
use Rattle.krb_msg.specs.Term.{Term, Value, Fits, tag_of}
use Rattle.krb_msg.specs.Types.{kdc_req_of, kdc_rep_of, ap_req_of, ap_rep_of, krb_safe_of, krb_priv_of, krb_cred_of, krb_error_of}
use Rattle.krb_msg.specs.Views.{kind_term_in, kind_of_tag}
use Rattle.krb_msg.specs.Kinds.{kind_with_tag, kind_tag, kind_term, message_value, message_of_view, message_view_value, IsValidMessage}
use Rattle.krb_msg.specs.declared.message.Message.TheVariants as message
use Rattle.krb_msg.specs.declared.message.Kind.{Kind}
use Rattle.krb_msg.specs.declared.message.Kind.TheVariants as kind
use Rattle.krb_msg.specs.declared.message_view.MessageView.{MessageView}
use Rattle.krb_msg.specs.declared.message_view.MessageView.TheVariants as view
use Rattle.krb_msg.proofs.KindSteps.{IsValueOfMessage, IsValueOfMessage-same, first_choice, some_is_none}
use Rattle.krb_msg.proofs.TypeValues.{kdc_req_value-of, kdc_req_value-seen, kdc_rep_value-of, kdc_rep_value-seen, ap_req_value-of, ap_req_value-seen, ap_rep_value-of, ap_rep_value-seen, krb_safe_value-of, krb_safe_value-seen, krb_priv_value-of, krb_priv_value-seen, krb_cred_value-of, krb_cred_value-seen, krb_error_value-of, krb_error_value-seen}

pub kind_is_one_of : (profile : Profile) (k : Kind) → IsOneOf (kind_term_in profile k) (messages profile)
kind_is_one_of profile kind.AsReq = inl refl
kind_is_one_of profile kind.AsRep = inr (inl refl)
kind_is_one_of profile kind.TgsReq = inr (inr (inl refl))
kind_is_one_of profile kind.TgsRep = inr (inr (inr (inl refl)))
kind_is_one_of profile kind.ApReq = inr (inr (inr (inr (inl refl))))
kind_is_one_of profile kind.ApRep = inr (inr (inr (inr (inr (inl refl)))))
kind_is_one_of profile kind.KrbSafe = inr (inr (inr (inr (inr (inr (inl refl))))))
kind_is_one_of profile kind.KrbPriv = inr (inr (inr (inr (inr (inr (inr (inl refl)))))))
kind_is_one_of profile kind.KrbCred = inr (inr (inr (inr (inr (inr (inr (inr (inl refl))))))))
kind_is_one_of profile kind.KrbError = inr (inr (inr (inr (inr (inr (inr (inr (inr (inl refl)))))))))

pub kind_of_one_of : (profile : Profile) (term : Term) → IsOneOf term (messages profile) → (k : Kind) × (term ≡ kind_term_in profile k)
kind_of_one_of profile term (inl e) = (kind.AsReq, e)
kind_of_one_of profile term (inr (inl e)) = (kind.AsRep, e)
kind_of_one_of profile term (inr (inr (inl e))) = (kind.TgsReq, e)
kind_of_one_of profile term (inr (inr (inr (inl e)))) = (kind.TgsRep, e)
kind_of_one_of profile term (inr (inr (inr (inr (inl e))))) = (kind.ApReq, e)
kind_of_one_of profile term (inr (inr (inr (inr (inr (inl e)))))) = (kind.ApRep, e)
kind_of_one_of profile term (inr (inr (inr (inr (inr (inr (inl e))))))) = (kind.KrbSafe, e)
kind_of_one_of profile term (inr (inr (inr (inr (inr (inr (inr (inl e)))))))) = (kind.KrbPriv, e)
kind_of_one_of profile term (inr (inr (inr (inr (inr (inr (inr (inr (inl e))))))))) = (kind.KrbCred, e)
kind_of_one_of profile term (inr (inr (inr (inr (inr (inr (inr (inr (inr (inl e)))))))))) = (kind.KrbError, e)
kind_of_one_of profile term (inr (inr (inr (inr (inr (inr (inr (inr (inr (inr none)))))))))) = absurd none

pub kind_has_message : (k : Kind) (value : Value (kind_term k)) → Fits (kind_term k) value → IsValueOfMessage (kind_term k) value
kind_has_message kind.AsReq value f = IsValueOfMessage-same (message.AsReq (kdc_req_of value)) value (kdc_req_value-of 10 value f)
kind_has_message kind.AsRep value f = IsValueOfMessage-same (message.AsRep (kdc_rep_of value)) value (kdc_rep_value-of 11 value f)
kind_has_message kind.TgsReq value f = IsValueOfMessage-same (message.TgsReq (kdc_req_of value)) value (kdc_req_value-of 12 value f)
kind_has_message kind.TgsRep value f = IsValueOfMessage-same (message.TgsRep (kdc_rep_of value)) value (kdc_rep_value-of 13 value f)
kind_has_message kind.ApReq value f = IsValueOfMessage-same (message.ApReq (ap_req_of value)) value (ap_req_value-of value f)
kind_has_message kind.ApRep value f = IsValueOfMessage-same (message.ApRep (ap_rep_of value)) value (ap_rep_value-of value f)
kind_has_message kind.KrbSafe value f = IsValueOfMessage-same (message.KrbSafe (krb_safe_of value)) value (krb_safe_value-of value f)
kind_has_message kind.KrbPriv value f = IsValueOfMessage-same (message.KrbPriv (krb_priv_of value)) value (krb_priv_value-of value f)
kind_has_message kind.KrbCred value f = IsValueOfMessage-same (message.KrbCred (krb_cred_of value)) value (krb_cred_value-of value f)
kind_has_message kind.KrbError value f = IsValueOfMessage-same (message.KrbError (krb_error_of value)) value (krb_error_value-of value f)

-- the term of the kind with this tag, by computation
pub chosen : (k : Kind) (n : ℕ) (rest : List ℕ) → judgement Lenient n (kind_tag k ∷ rest) ≡ term_judgement (kind_term k) n (kind_tag k ∷ rest)
chosen kind.AsReq n rest = refl
chosen other n rest = refl

-- the kind with a tag
pub kind_tags : (k : Kind) → (kind_with_tag (kind_tag k) ≡ Some k) × (kind_of_tag (kind_tag k) ≡ k) × (tag_of (kind_term k) ≡ kind_tag k)
kind_tags kind.AsReq = (refl, refl, refl)
kind_tags other = (refl, refl, refl)

pub kind_from_tag : (k : Kind) (tag : ℕ) → kind_with_tag tag ≡ Some k → kind_tag k ≡ tag
kind_from_tag k tag =
    first_choice tag kind.AsReq k _
    (first_choice tag kind.AsRep k _
    (first_choice tag kind.TgsReq k _
    (first_choice tag kind.TgsRep k _
    (first_choice tag kind.ApReq k _
    (first_choice tag kind.ApRep k _
    (first_choice tag kind.KrbSafe k _
    (first_choice tag kind.KrbPriv k _
    (first_choice tag kind.KrbCred k _
    (first_choice tag kind.KrbError k _
    (λ e. absurd (some_is_none k (sym e))))))))))))

-- a view has the value of its message
pub message_value-seen : (m : MessageView) → IsValidMessage m → message_value (message_of_view m) ≡ message_view_value m
message_value-seen (view.AsReq m) lists = kdc_req_value-seen 10 m lists
message_value-seen (view.AsRep m) lists = kdc_rep_value-seen 11 m lists
message_value-seen (view.TgsReq m) lists = kdc_req_value-seen 12 m lists
message_value-seen (view.TgsRep m) lists = kdc_rep_value-seen 13 m lists
message_value-seen (view.ApReq m) lists = ap_req_value-seen m lists
message_value-seen (view.ApRep m) lists = ap_rep_value-seen m lists
message_value-seen (view.KrbSafe m) lists = krb_safe_value-seen m lists
message_value-seen (view.KrbPriv m) lists = krb_priv_value-seen m lists
message_value-seen (view.KrbCred m) lists = krb_cred_value-seen m lists
message_value-seen (view.KrbError m) lists = krb_error_value-seen m lists
