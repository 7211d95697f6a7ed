-- KDC-REQ (RFC 4120, 5.4.1): values of the type and of views of it, as values of its term, and back. asn1/generate wrote this from asn1/krb5.asn1
use Rattle.std.specs.Prelude.{ℕ, pos, map}
use Rattle.std.specs.Option.{option_map}
use Rattle.krb_msg.specs.Term.{Value, IfPresent}
use Rattle.krb_msg.specs.Viewed.{AreViewed, items_of}
use Rattle.krb_msg.specs.Grammar.{as_req, pa_data}
use Rattle.krb_msg.specs.declared.kdc_req.KdcReq.{KdcReq}
use Rattle.krb_msg.specs.declared.kdc_req.KdcReqView.{KdcReqView}
use Rattle.krb_msg.specs.Types.PaData.{pa_data_value, pa_data_of}
use Rattle.krb_msg.specs.Types.KdcReqBody.{kdc_req_body_value, kdc_req_body_of, kdc_req_body_view_value, IsValidKdcReqBody}

-- the values of AS-REQ and of TGS-REQ, which differ in their message type alone
abbrev pub KdcReqValue : Type 0
KdcReqValue = Value as_req

abbrev pub kdc_req_value : ℕ → KdcReq → KdcReqValue
kdc_req_value message_type m = (pos 5, (pos message_type, (option_map (map pa_data_value) m.padata, (kdc_req_body_value m.body, tt))))

abbrev pub kdc_req_of : KdcReqValue → KdcReq
kdc_req_of v = record { padata = option_map (map pa_data_of) v.1.1.0; body = kdc_req_body_of v.1.1.1.0 }

-- ---- a view of it: as a value of its term, as a value of the type, and what is known of it
abbrev pub kdc_req_view_value : ℕ → KdcReqView → KdcReqValue
kdc_req_view_value message_type m =
    (pos 5, (pos message_type, (option_map (λ items. items_of pa_data items.octets.now) m.padata, (kdc_req_body_view_value m.body, tt))))

abbrev pub kdc_req_of_view : KdcReqView → KdcReq
kdc_req_of_view m = kdc_req_of (kdc_req_view_value 10 m)

abbrev pub IsValidKdcReq : KdcReqView → Type 0
IsValidKdcReq m = IfPresent (λ items. AreViewed pa_data items.octets.now) m.padata × IsValidKdcReqBody m.body
