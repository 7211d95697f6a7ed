-- Messages without what is encrypted or opaque: each octet of ciphers, of checksums and of user data is 00, also inside of pre-authentication data and of the data of errors, and so is each octet of what is not told of these.
use Rattle.std.specs.Prelude.{ℕ, ℤ, Bool, true, false, List, length, map, Option, Some, None}
use Rattle.std.specs.Option.{option_map}
use Rattle.krb_file.specs.Fields.{zeros}
use Rattle.krb_msg.specs.declared.ap_rep.ApRep.{ApRep}
use Rattle.krb_msg.specs.declared.ap_req.ApReq.{ApReq}
use Rattle.krb_msg.specs.declared.checksum.Checksum.{Checksum}
use Rattle.krb_msg.specs.declared.encrypted_data.EncryptedData.{EncryptedData}
use Rattle.krb_msg.specs.declared.kdc_rep.KdcRep.{KdcRep}
use Rattle.krb_msg.specs.declared.kdc_req.KdcReq.{KdcReq}
use Rattle.krb_msg.specs.declared.kdc_req_body.KdcReqBody.{KdcReqBody}
use Rattle.krb_msg.specs.declared.krb_cred.KrbCred.{KrbCred}
use Rattle.krb_msg.specs.declared.krb_error.KrbError.{KrbError}
use Rattle.krb_msg.specs.declared.krb_priv.KrbPriv.{KrbPriv}
use Rattle.krb_msg.specs.declared.krb_safe.KrbSafe.{KrbSafe}
use Rattle.krb_msg.specs.declared.krb_safe_body.KrbSafeBody.{KrbSafeBody}
use Rattle.krb_msg.specs.declared.message.Message.{Message}
use Rattle.krb_msg.specs.declared.message.Message.TheVariants as message
use Rattle.krb_msg.specs.declared.pa_data.PaData.{PaData}
use Rattle.krb_msg.specs.declared.ticket.Ticket.{Ticket}
use Rattle.krb_msg.specs.Grammar.{ap_req, checksum, encrypted_data, method_data, pa_data, ticket}
use Rattle.krb_msg.specs.Term.{Term, Value, der}
use Rattle.krb_padata.specs.Grammar.{etype_info, etype_info2, kerb_error_data, krb_fast_armor, pa_for_user, pa_fx_fast_reply, pa_fx_fast_request, pa_pac_options, typed_data, typed_data_item}
use Rattle.krb_padata.specs.PacRequest.{pac_request_in}
use Rattle.krb_text.specs.Inside.{clear_type, ext_error_if, is_ap_req_armor, is_extended}
use Rattle.krb_text.specs.Judged.{judged}
use Rattle.krb_text.specs.declared.clear_type.Carrier.{Carrier}
use Rattle.krb_text.specs.declared.clear_type.Carrier.TheVariants as carriers
use Rattle.krb_text.specs.declared.clear_type.ClearType.{ClearType}
use Rattle.krb_text.specs.declared.clear_type.ClearType.TheVariants as types

-- ---- parts
abbrev pub masked_encrypted : EncryptedData → EncryptedData
masked_encrypted e = record e { cipher = zeros (length e.cipher) }

abbrev pub masked_checksum : Checksum → Checksum
masked_checksum c = record c { checksum = zeros (length c.checksum) }

abbrev pub masked_ticket : Ticket → Ticket
masked_ticket t = record t { enc_part = masked_encrypted t.enc_part }

abbrev pub masked_req_body : KdcReqBody → KdcReqBody
masked_req_body b = record b { enc_authorization_data = option_map masked_encrypted b.enc_authorization_data; additional_tickets = option_map (map masked_ticket) b.additional_tickets }

abbrev pub masked_safe_body : KrbSafeBody → KrbSafeBody
masked_safe_body b = record b { user_data = zeros (length b.user_data) }

-- ---- pre-authentication data, as values of their terms
abbrev pub masked_encrypted_value : Value encrypted_data → Value encrypted_data
masked_encrypted_value v = (v.0, (v.1.0, (zeros (length v.1.1.0), tt)))

abbrev pub masked_checksum_value : Value checksum → Value checksum
masked_checksum_value v = (v.0, (zeros (length v.1.0), tt))

abbrev pub masked_ticket_value : Value ticket → Value ticket
masked_ticket_value v = (v.0, (v.1.0, (v.1.1.0, (masked_encrypted_value v.1.1.1.0, tt))))

abbrev pub masked_ap_req_value : Value ap_req → Value ap_req
masked_ap_req_value v = (v.0, (v.1.0, (v.1.1.0, (masked_ticket_value v.1.1.1.0, (masked_encrypted_value v.1.1.1.1.0, tt)))))

abbrev pub masked_for_user : Value pa_for_user → Value pa_for_user
masked_for_user v = (v.0, (v.1.0, (masked_checksum_value v.1.1.0, (v.1.1.1.0, tt))))

-- the DER of a value, or octets 00
abbrev pub der_or_zeros : (term : Term) → List ℕ → Option (Value term) → List ℕ
der_or_zeros term octets None = zeros (length octets)
der_or_zeros term octets (Some value) = der term value

-- octets that are judged, as those of another value; what is not judged to be of its term is opaque
abbrev pub masked_as : (term : Term) → (Value term → Value term) → List ℕ → List ℕ
masked_as term mask octets = der_or_zeros term octets (option_map mask (judged term octets))

-- an armor is opaque unless it is an AP-REQ
abbrev pub masked_armor_if : Bool → List ℕ → List ℕ
masked_armor_if false octets = zeros (length octets)
masked_armor_if true octets = masked_as ap_req masked_ap_req_value octets

abbrev pub masked_armor : Value krb_fast_armor → Value krb_fast_armor
masked_armor v = (v.0, (masked_armor_if (is_ap_req_armor v.0) v.1.0, tt))

abbrev pub masked_fast_request : Value pa_fx_fast_request → Value pa_fx_fast_request
masked_fast_request v = (option_map masked_armor v.0, (masked_checksum_value v.1.0, (masked_encrypted_value v.1.1.0, tt)))

abbrev pub masked_fast_reply : Value pa_fx_fast_reply → Value pa_fx_fast_reply
masked_fast_reply v = (masked_encrypted_value v.0, tt)

abbrev pub octets_or_zeros : {A : Type 0} → List ℕ → Option A → List ℕ
octets_or_zeros octets None = zeros (length octets)
octets_or_zeros octets (Some value) = octets

-- by type; what is of another type is opaque
abbrev pub masked_clear : ClearType → List ℕ → List ℕ
masked_clear types.TgsReq octets = masked_as ap_req masked_ap_req_value octets
masked_clear types.EncTimestamp octets = masked_as encrypted_data masked_encrypted_value octets
masked_clear types.PwSalt octets = octets
masked_clear types.SaltOrError octets = octets
masked_clear types.EtypeInfo octets = octets_or_zeros octets (judged etype_info octets)
masked_clear types.EtypeInfo2 octets = octets_or_zeros octets (judged etype_info2 octets)
masked_clear types.PacRequest octets = octets_or_zeros octets (pac_request_in octets)
masked_clear types.ForUser octets = masked_as pa_for_user masked_for_user octets
masked_clear types.FastRequest octets = masked_as pa_fx_fast_request masked_fast_request octets
masked_clear types.FastReply octets = masked_as pa_fx_fast_reply masked_fast_reply octets
masked_clear types.EncryptedChallenge octets = masked_as encrypted_data masked_encrypted_value octets
masked_clear types.PacOptions octets = octets_or_zeros octets (judged pa_pac_options octets)
masked_clear types.Other octets = zeros (length octets)

-- by what carries it
abbrev pub masked_item : Carrier → PaData → PaData
masked_item carrier p = record p { padata_value = masked_clear (clear_type carrier p.padata_type) p.padata_value }

-- ---- the data of errors, as values of their terms
abbrev pub masked_method : Value pa_data → Value pa_data
masked_method item = (item.0, (masked_clear (clear_type carriers.Error item.0) item.1.0, tt))

-- a value of a type is opaque unless it is an extended error
abbrev pub masked_typed : ℤ → List ℕ → List ℕ
masked_typed type octets = octets_or_zeros octets (ext_error_if (is_extended type) octets)

abbrev pub masked_typed_item : Value typed_data_item → Value typed_data_item
masked_typed_item item = (item.0, (option_map (masked_typed item.0) item.1.0, tt))

abbrev pub masked_error_data : Value kerb_error_data → Value kerb_error_data
masked_error_data v = (v.0, (option_map (masked_typed v.0) v.1.0, tt))

-- the first of METHOD-DATA, TYPED-DATA and KERB-ERROR-DATA that they are decides; what is none of them is opaque
abbrev pub masked_first : Option (Value method_data) → Option (Value typed_data) → List ℕ → List ℕ
masked_first (Some items) typed octets = der method_data (map masked_method items)
masked_first None (Some items) octets = der typed_data (map masked_typed_item items)
masked_first None None octets = masked_as kerb_error_data masked_error_data octets

abbrev pub masked_data : List ℕ → List ℕ
masked_data octets = masked_first (judged method_data octets) (judged typed_data octets) octets

-- ---- messages
abbrev pub masked_kdc_req : KdcReq → KdcReq
masked_kdc_req m = record m { padata = option_map (map (masked_item carriers.Request)) m.padata; body = masked_req_body m.body }

abbrev pub masked_kdc_rep : KdcRep → KdcRep
masked_kdc_rep m = record m { padata = option_map (map (masked_item carriers.Reply)) m.padata; ticket = masked_ticket m.ticket; enc_part = masked_encrypted m.enc_part }

abbrev pub masked_ap_req : ApReq → ApReq
masked_ap_req m = record m { ticket = masked_ticket m.ticket; authenticator = masked_encrypted m.authenticator }

abbrev pub masked_ap_rep : ApRep → ApRep
masked_ap_rep m = record m { enc_part = masked_encrypted m.enc_part }

abbrev pub masked_krb_safe : KrbSafe → KrbSafe
masked_krb_safe m = record m { body = masked_safe_body m.body; cksum = masked_checksum m.cksum }

abbrev pub masked_krb_priv : KrbPriv → KrbPriv
masked_krb_priv m = record m { enc_part = masked_encrypted m.enc_part }

abbrev pub masked_krb_cred : KrbCred → KrbCred
masked_krb_cred m = record m { tickets = map masked_ticket m.tickets; enc_part = masked_encrypted m.enc_part }

abbrev pub masked_krb_error : KrbError → KrbError
masked_krb_error m = record m { e_data = option_map masked_data m.e_data }

abbrev pub masked : Message → Message
masked (message.AsReq m) = message.AsReq (masked_kdc_req m)
masked (message.AsRep m) = message.AsRep (masked_kdc_rep m)
masked (message.TgsReq m) = message.TgsReq (masked_kdc_req m)
masked (message.TgsRep m) = message.TgsRep (masked_kdc_rep m)
masked (message.ApReq m) = message.ApReq (masked_ap_req m)
masked (message.ApRep m) = message.ApRep (masked_ap_rep m)
masked (message.KrbSafe m) = message.KrbSafe (masked_krb_safe m)
masked (message.KrbPriv m) = message.KrbPriv (masked_krb_priv m)
masked (message.KrbCred m) = message.KrbCred (masked_krb_cred m)
masked (message.KrbError m) = message.KrbError (masked_krb_error m)
