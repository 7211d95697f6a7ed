-- The values of each type come back from those of its term: each field does. asn1/generate wrote this from asn1/krb5.asn1
use Rattle.std.specs.Prelude.{ℕ, pos, ◌≡◌, refl}
use Rattle.krb_msg.specs.Basic.{micros_of}
use Rattle.krb_msg.specs.Types.{principal_name_value, principal_name_of, host_address_value, host_address_of, pa_data_value, pa_data_of, encrypted_data_value, encrypted_data_of, checksum_value, checksum_of, ticket_value, ticket_of, kdc_req_body_value, kdc_req_body_of, kdc_req_value, kdc_req_of, kdc_rep_value, kdc_rep_of, ap_req_value, ap_req_of, ap_rep_value, ap_rep_of, krb_safe_body_value, krb_safe_body_of, krb_safe_value, krb_safe_of, krb_priv_value, krb_priv_of, krb_cred_value, krb_cred_of, krb_error_value, krb_error_of}
use Rattle.krb_msg.specs.inner.Backs.{map-back, option-back, list-back}
use Rattle.krb_msg.specs.declared.principal_name.PrincipalName.{PrincipalName}
use Rattle.krb_msg.specs.declared.host_address.HostAddress.{HostAddress}
use Rattle.krb_msg.specs.declared.pa_data.PaData.{PaData}
use Rattle.krb_msg.specs.declared.encrypted_data.EncryptedData.{EncryptedData}
use Rattle.krb_msg.specs.declared.checksum.Checksum.{Checksum}
use Rattle.krb_msg.specs.declared.ticket.Ticket.{Ticket}
use Rattle.krb_msg.specs.declared.kdc_req_body.KdcReqBody.{KdcReqBody}
use Rattle.krb_msg.specs.declared.kdc_req.KdcReq.{KdcReq}
use Rattle.krb_msg.specs.declared.kdc_rep.KdcRep.{KdcRep}
use Rattle.krb_msg.specs.declared.ap_req.ApReq.{ApReq}
use Rattle.krb_msg.specs.declared.ap_rep.ApRep.{ApRep}
use Rattle.krb_msg.specs.declared.krb_safe_body.KrbSafeBody.{KrbSafeBody}
use Rattle.krb_msg.specs.declared.krb_safe.KrbSafe.{KrbSafe}
use Rattle.krb_msg.specs.declared.krb_priv.KrbPriv.{KrbPriv}
use Rattle.krb_msg.specs.declared.krb_cred.KrbCred.{KrbCred}
use Rattle.krb_msg.specs.declared.krb_error.KrbError.{KrbError}

pub principal_name-back : (p : PrincipalName) → principal_name_of (principal_name_value p) ≡ p
principal_name-back p = λ i. record { name_type = p.name_type; name = p.name }

pub host_address-back : (a : HostAddress) → host_address_of (host_address_value a) ≡ a
host_address-back a = λ i. record { addr_type = a.addr_type; address = a.address }

pub pa_data-back : (p : PaData) → pa_data_of (pa_data_value p) ≡ p
pa_data-back p = λ i. record { padata_type = p.padata_type; padata_value = p.padata_value }

pub encrypted_data-back : (e : EncryptedData) → encrypted_data_of (encrypted_data_value e) ≡ e
encrypted_data-back e = λ i. record { etype = e.etype; kvno = e.kvno; cipher = e.cipher }

pub checksum-back : (c : Checksum) → checksum_of (checksum_value c) ≡ c
checksum-back c = λ i. record { cksumtype = c.cksumtype; checksum = c.checksum }

pub ticket-back : (t : Ticket) → ticket_of (ticket_value t) ≡ t
ticket-back t = λ i. record { realm = t.realm; sname = principal_name-back t.sname i; enc_part = encrypted_data-back t.enc_part i }

pub kdc_req_body-back : (b : KdcReqBody) → kdc_req_body_of (kdc_req_body_value b) ≡ b
kdc_req_body-back b = λ i. record {
  kdc_options = b.kdc_options;
  cname = option-back principal_name_value principal_name_of principal_name-back b.cname i;
  realm = b.realm;
  sname = option-back principal_name_value principal_name_of principal_name-back b.sname i;
  from = b.from;
  till = b.till;
  rtime = b.rtime;
  nonce = b.nonce;
  etype = b.etype;
  addresses = list-back host_address_value host_address_of host_address-back b.addresses i;
  enc_authorization_data = option-back encrypted_data_value encrypted_data_of encrypted_data-back b.enc_authorization_data i;
  additional_tickets = list-back ticket_value ticket_of ticket-back b.additional_tickets i;
}

pub kdc_req-back : (n : ℕ) (m : KdcReq) → kdc_req_of (kdc_req_value n m) ≡ m
kdc_req-back n m = λ i. record { padata = list-back pa_data_value pa_data_of pa_data-back m.padata i; body = kdc_req_body-back m.body i }

pub kdc_rep-back : (n : ℕ) (m : KdcRep) → kdc_rep_of (kdc_rep_value n m) ≡ m
kdc_rep-back n m = λ i. record {
  padata = list-back pa_data_value pa_data_of pa_data-back m.padata i;
  crealm = m.crealm;
  cname = principal_name-back m.cname i;
  ticket = ticket-back m.ticket i;
  enc_part = encrypted_data-back m.enc_part i;
}

pub ap_req-back : (m : ApReq) → ap_req_of (ap_req_value m) ≡ m
ap_req-back m = λ i. record { ap_options = m.ap_options; ticket = ticket-back m.ticket i; authenticator = encrypted_data-back m.authenticator i }

pub ap_rep-back : (m : ApRep) → ap_rep_of (ap_rep_value m) ≡ m
ap_rep-back m = λ i. record { enc_part = encrypted_data-back m.enc_part i }

pub krb_safe_body-back : (b : KrbSafeBody) → krb_safe_body_of (krb_safe_body_value b) ≡ b
krb_safe_body-back b = λ i. record {
  user_data = b.user_data;
  timestamp = b.timestamp;
  usec = option-back pos micros_of (λ number. refl) b.usec i;
  seq_number = b.seq_number;
  s_address = host_address-back b.s_address i;
  r_address = option-back host_address_value host_address_of host_address-back b.r_address i;
}

pub krb_safe-back : (m : KrbSafe) → krb_safe_of (krb_safe_value m) ≡ m
krb_safe-back m = λ i. record { body = krb_safe_body-back m.body i; cksum = checksum-back m.cksum i }

pub krb_priv-back : (m : KrbPriv) → krb_priv_of (krb_priv_value m) ≡ m
krb_priv-back m = λ i. record { enc_part = encrypted_data-back m.enc_part i }

pub krb_cred-back : (m : KrbCred) → krb_cred_of (krb_cred_value m) ≡ m
krb_cred-back m = λ i. record { tickets = map-back ticket_value ticket_of ticket-back m.tickets i; enc_part = encrypted_data-back m.enc_part i }

pub krb_error-back : (m : KrbError) → krb_error_of (krb_error_value m) ≡ m
krb_error-back m = λ i. record {
  ctime = m.ctime;
  cusec = option-back pos micros_of (λ number. refl) m.cusec i;
  stime = m.stime;
  susec = m.susec;
  error_code = m.error_code;
  crealm = m.crealm;
  cname = option-back principal_name_value principal_name_of principal_name-back m.cname i;
  realm = m.realm;
  sname = principal_name-back m.sname i;
  e_text = m.e_text;
  e_data = m.e_data;
}
