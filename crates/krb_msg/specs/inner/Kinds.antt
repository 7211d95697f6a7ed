-- The kinds of messages, one by one: their tags, their terms, and that a message comes back from its value. asn1/generate wrote this from asn1/krb5.asn1
use Rattle.std.specs.Prelude.{◌≡◌, true, refl}
use Rattle.std.proofs.Common.{ap}
use Rattle.krb_msg.specs.Shape.{is_unambiguous}
use Rattle.krb_msg.specs.Term.{tag_of}
use Rattle.krb_msg.specs.Views.{kind_of, kind_term, kind_of_tag, message_value, message_of}
use Rattle.krb_msg.specs.inner.RoundTrips.{kdc_req-back, kdc_rep-back, ap_req-back, ap_rep-back, krb_safe-back, krb_priv-back, krb_cred-back, krb_error-back}
use Rattle.krb_msg.specs.declared.message.Message.{Message}
use Rattle.krb_msg.specs.declared.message.Message.TheVariants as message
use Rattle.krb_msg.specs.declared.message.Kind.{Kind}
use Rattle.krb_msg.specs.declared.message.Kind.TheVariants as kind

pub kind_of_tag-tag : (k : Kind) → kind_of_tag (tag_of (kind_term k)) ≡ k
kind_of_tag-tag kind.AsReq = refl
kind_of_tag-tag kind.AsRep = refl
kind_of_tag-tag kind.TgsReq = refl
kind_of_tag-tag kind.TgsRep = refl
kind_of_tag-tag kind.ApReq = refl
kind_of_tag-tag kind.ApRep = refl
kind_of_tag-tag kind.KrbSafe = refl
kind_of_tag-tag kind.KrbPriv = refl
kind_of_tag-tag kind.KrbCred = refl
kind_of_tag-tag kind.KrbError = refl

pub kind_unambiguous : (k : Kind) → is_unambiguous (kind_term k) ≡ true
kind_unambiguous kind.AsReq = refl
kind_unambiguous kind.AsRep = refl
kind_unambiguous kind.TgsReq = refl
kind_unambiguous kind.TgsRep = refl
kind_unambiguous kind.ApReq = refl
kind_unambiguous kind.ApRep = refl
kind_unambiguous kind.KrbSafe = refl
kind_unambiguous kind.KrbPriv = refl
kind_unambiguous kind.KrbCred = refl
kind_unambiguous kind.KrbError = refl

pub message_round_trips : (m : Message) → message_of (kind_of m) (message_value m) ≡ m
message_round_trips (message.AsReq m) = ap message.AsReq (kdc_req-back 10 m)
message_round_trips (message.AsRep m) = ap message.AsRep (kdc_rep-back 11 m)
message_round_trips (message.TgsReq m) = ap message.TgsReq (kdc_req-back 12 m)
message_round_trips (message.TgsRep m) = ap message.TgsRep (kdc_rep-back 13 m)
message_round_trips (message.ApReq m) = ap message.ApReq (ap_req-back m)
message_round_trips (message.ApRep m) = ap message.ApRep (ap_rep-back m)
message_round_trips (message.KrbSafe m) = ap message.KrbSafe (krb_safe-back m)
message_round_trips (message.KrbPriv m) = ap message.KrbPriv (krb_priv-back m)
message_round_trips (message.KrbCred m) = ap message.KrbCred (krb_cred-back m)
message_round_trips (message.KrbError m) = ap message.KrbError (krb_error-back m)
