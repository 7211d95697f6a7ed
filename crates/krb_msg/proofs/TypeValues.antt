-- A value that fits a term is that of the type that it is; and a view has the value of what is copied out of it. asn1/generate wrote this from asn1/krb5.asn1
use Rattle.std.specs.Prelude.{ℕ, pos, ◌≡◌, ◌≤ℤ◌, map}
use Rattle.std.specs.Option.{option_map}
use Rattle.krb_msg.specs.Term.{Value, Fits}
use Rattle.krb_msg.specs.Grammar.{sequence_of, microseconds, principal_name, host_address, pa_data, encrypted_data, checksum, ticket, kdc_req_body, kdc_req, kdc_rep, ap_req, ap_rep, krb_safe_body, krb_safe, krb_priv, krb_cred, krb_error, kerberos_string, int32}
use Rattle.krb_msg.specs.Basic.{micros_of, flags_of_view}
use Rattle.krb_msg.specs.Types.{principal_name_value, principal_name_of, principal_name_view_value, principal_name_of_view, IsValidPrincipalName, host_address_value, host_address_of, host_address_view_value, host_address_of_view, IsValidHostAddress, pa_data_value, pa_data_of, pa_data_view_value, pa_data_of_view, IsValidPaData, encrypted_data_value, encrypted_data_of, encrypted_data_view_value, encrypted_data_of_view, IsValidEncryptedData, checksum_value, checksum_of, checksum_view_value, checksum_of_view, IsValidChecksum, ticket_value, ticket_of, ticket_view_value, ticket_of_view, IsValidTicket, kdc_req_body_value, kdc_req_body_of, kdc_req_body_view_value, kdc_req_body_of_view, IsValidKdcReqBody, KdcReqValue, kdc_req_value, kdc_req_of, kdc_req_view_value, kdc_req_of_view, IsValidKdcReq, KdcRepValue, kdc_rep_value, kdc_rep_of, kdc_rep_view_value, kdc_rep_of_view, IsValidKdcRep, ap_req_value, ap_req_of, ap_req_view_value, ap_req_of_view, IsValidApReq, ap_rep_value, ap_rep_of, ap_rep_view_value, ap_rep_of_view, IsValidApRep, krb_safe_body_value, krb_safe_body_of, krb_safe_body_view_value, krb_safe_body_of_view, IsValidKrbSafeBody, krb_safe_value, krb_safe_of, krb_safe_view_value, krb_safe_of_view, IsValidKrbSafe, krb_priv_value, krb_priv_of, krb_priv_view_value, krb_priv_of_view, IsValidKrbPriv, krb_cred_value, krb_cred_of, krb_cred_view_value, krb_cred_of_view, IsValidKrbCred, krb_error_value, krb_error_of, krb_error_view_value, krb_error_of_view, IsValidKrbError}
use Rattle.krb_msg.specs.Viewed.{items_of}
use Rattle.krb_msg.proofs.ValuesBack.{exactly_one, micros-back, option_fits-back, list_fits-back, option_seen-back, option_part-back, items-back, option_items-back}
use Rattle.krb_msg.specs.declared.principal_name.PrincipalNameView.{PrincipalNameView}
use Rattle.krb_msg.specs.declared.host_address.HostAddressView.{HostAddressView}
use Rattle.krb_msg.specs.declared.pa_data.PaDataView.{PaDataView}
use Rattle.krb_msg.specs.declared.encrypted_data.EncryptedDataView.{EncryptedDataView}
use Rattle.krb_msg.specs.declared.checksum.ChecksumView.{ChecksumView}
use Rattle.krb_msg.specs.declared.ticket.TicketView.{TicketView}
use Rattle.krb_msg.specs.declared.kdc_req_body.KdcReqBodyView.{KdcReqBodyView}
use Rattle.krb_msg.specs.declared.kdc_req.KdcReqView.{KdcReqView}
use Rattle.krb_msg.specs.declared.kdc_rep.KdcRepView.{KdcRepView}
use Rattle.krb_msg.specs.declared.ap_req.ApReqView.{ApReqView}
use Rattle.krb_msg.specs.declared.ap_rep.ApRepView.{ApRepView}
use Rattle.krb_msg.specs.declared.krb_safe_body.KrbSafeBodyView.{KrbSafeBodyView}
use Rattle.krb_msg.specs.declared.krb_safe.KrbSafeView.{KrbSafeView}
use Rattle.krb_msg.specs.declared.krb_priv.KrbPrivView.{KrbPrivView}
use Rattle.krb_msg.specs.declared.krb_cred.KrbCredView.{KrbCredView}
use Rattle.krb_msg.specs.declared.krb_error.KrbErrorView.{KrbErrorView}

pub principal_name_value-of : (v : Value principal_name) → Fits principal_name v → principal_name_value (principal_name_of v) ≡ v
principal_name_value-of v f = λ i. (v.0, (v.1.0, tt))

pub principal_name_value-seen : (p : PrincipalNameView) → IsValidPrincipalName p → principal_name_value (principal_name_of_view p) ≡ principal_name_view_value p
principal_name_value-seen p lists = λ i. (p.name_type, (items_of kerberos_string p.name.octets.now, tt))

pub host_address_value-of : (v : Value host_address) → Fits host_address v → host_address_value (host_address_of v) ≡ v
host_address_value-of v f = λ i. (v.0, (v.1.0, tt))

pub host_address_value-seen : (a : HostAddressView) → IsValidHostAddress a → host_address_value (host_address_of_view a) ≡ host_address_view_value a
host_address_value-seen a lists = λ i. (a.addr_type, (a.address.now, tt))

pub pa_data_value-of : (v : Value pa_data) → Fits pa_data v → pa_data_value (pa_data_of v) ≡ v
pa_data_value-of v f = λ i. (v.0, (v.1.0, tt))

pub pa_data_value-seen : (p : PaDataView) → IsValidPaData p → pa_data_value (pa_data_of_view p) ≡ pa_data_view_value p
pa_data_value-seen p lists = λ i. (p.padata_type, (p.padata_value.now, tt))

pub encrypted_data_value-of : (v : Value encrypted_data) → Fits encrypted_data v → encrypted_data_value (encrypted_data_of v) ≡ v
encrypted_data_value-of v f = λ i. (v.0, (v.1.0, (v.1.1.0, tt)))

pub encrypted_data_value-seen : (e : EncryptedDataView) → IsValidEncryptedData e → encrypted_data_value (encrypted_data_of_view e) ≡ encrypted_data_view_value e
encrypted_data_value-seen e lists = λ i. (e.etype, (e.kvno, (e.cipher.now, tt)))

pub checksum_value-of : (v : Value checksum) → Fits checksum v → checksum_value (checksum_of v) ≡ v
checksum_value-of v f = λ i. (v.0, (v.1.0, tt))

pub checksum_value-seen : (c : ChecksumView) → IsValidChecksum c → checksum_value (checksum_of_view c) ≡ checksum_view_value c
checksum_value-seen c lists = λ i. (c.cksumtype, (c.checksum.now, tt))

pub ticket_value-of : (v : Value ticket) → Fits ticket v → ticket_value (ticket_of v) ≡ v
ticket_value-of v f = λ i.
    (exactly_one 5 v.0 f.0.0 f.0.1 i, (v.1.0, (principal_name_value-of v.1.1.0 f.1.1.0 i, (encrypted_data_value-of v.1.1.1.0 f.1.1.1.0 i, tt))))

pub ticket_value-seen : (t : TicketView) → IsValidTicket t → ticket_value (ticket_of_view t) ≡ ticket_view_value t
ticket_value-seen t lists = λ i.
    (pos 5, (t.realm.now, (principal_name_value-seen t.sname lists.0 i, (encrypted_data_value-seen t.enc_part lists.1 i, tt))))

pub kdc_req_body_value-of : (v : Value kdc_req_body) → Fits kdc_req_body v → kdc_req_body_value (kdc_req_body_of v) ≡ v
kdc_req_body_value-of v f = λ i. (
  v.0,
  (
    option_fits-back (Fits principal_name) principal_name_value principal_name_of principal_name_value-of v.1.0 f.1.0 i,
    (
      v.1.1.0,
      (
        option_fits-back (Fits principal_name) principal_name_value principal_name_of principal_name_value-of v.1.1.1.0 f.1.1.1.0 i,
        (
          v.1.1.1.1.0,
          (
            v.1.1.1.1.1.0,
            (
              v.1.1.1.1.1.1.0,
              (
                v.1.1.1.1.1.1.1.0,
                (
                  v.1.1.1.1.1.1.1.1.0,
                  (
                    option_fits-back (Fits (sequence_of host_address)) (map host_address_value) (map host_address_of) (λ vs g. list_fits-back (Fits host_address) host_address_value host_address_of host_address_value-of vs g.1) v.1.1.1.1.1.1.1.1.1.0 f.1.1.1.1.1.1.1.1.1.0 i,
                    (
                      option_fits-back (Fits encrypted_data) encrypted_data_value encrypted_data_of encrypted_data_value-of v.1.1.1.1.1.1.1.1.1.1.0 f.1.1.1.1.1.1.1.1.1.1.0 i,
                      (
                        option_fits-back (Fits (sequence_of ticket)) (map ticket_value) (map ticket_of) (λ vs g. list_fits-back (Fits ticket) ticket_value ticket_of ticket_value-of vs g.1) v.1.1.1.1.1.1.1.1.1.1.1.0 f.1.1.1.1.1.1.1.1.1.1.1.0 i,
                        tt,
                      ),
                    ),
                  ),
                ),
              ),
            ),
          ),
        ),
      ),
    ),
  ),
)

pub kdc_req_body_value-seen : (b : KdcReqBodyView) → IsValidKdcReqBody b → kdc_req_body_value (kdc_req_body_of_view b) ≡ kdc_req_body_view_value b
kdc_req_body_value-seen b lists = λ i. (
  flags_of_view b.kdc_options,
  (
    option_part-back IsValidPrincipalName principal_name_view_value principal_name_value principal_name_of principal_name_value-seen b.cname lists.cname i,
    (
      b.realm.now,
      (
        option_part-back IsValidPrincipalName principal_name_view_value principal_name_value principal_name_of principal_name_value-seen b.sname lists.sname i,
        (
          option_map (λ time. time.now) b.from,
          (
            b.till.now,
            (
              option_map (λ time. time.now) b.rtime,
              (
                b.nonce,
                (
                  items_of int32 b.etype.octets.now,
                  (
                    option_items-back host_address host_address_value host_address_of host_address_value-of b.addresses lists.addresses i,
                    (
                      option_part-back IsValidEncryptedData encrypted_data_view_value encrypted_data_value encrypted_data_of encrypted_data_value-seen b.enc_authorization_data lists.enc_authorization_data i,
                      (
                        option_items-back ticket ticket_value ticket_of ticket_value-of b.additional_tickets lists.additional_tickets i,
                        tt,
                      ),
                    ),
                  ),
                ),
              ),
            ),
          ),
        ),
      ),
    ),
  ),
)

pub kdc_req_value-of : (n : ℕ) (v : KdcReqValue) → Fits (kdc_req n) v → kdc_req_value n (kdc_req_of v) ≡ v
kdc_req_value-of n v f = λ i. (
  exactly_one 5 v.0 f.0.0 f.0.1 i,
  (
    exactly_one n v.1.0 f.1.0.0 f.1.0.1 i,
    (
      option_fits-back (Fits (sequence_of pa_data)) (map pa_data_value) (map pa_data_of) (λ vs g. list_fits-back (Fits pa_data) pa_data_value pa_data_of pa_data_value-of vs g.1) v.1.1.0 f.1.1.0 i,
      (kdc_req_body_value-of v.1.1.1.0 f.1.1.1.0 i, tt),
    ),
  ),
)

pub kdc_req_value-seen : (n : ℕ) (m : KdcReqView) → IsValidKdcReq m → kdc_req_value n (kdc_req_of_view m) ≡ kdc_req_view_value n m
kdc_req_value-seen n m lists = λ i.
    (pos 5, (pos n, (option_items-back pa_data pa_data_value pa_data_of pa_data_value-of m.padata lists.0 i, (kdc_req_body_value-seen m.body lists.1 i, tt))))

pub kdc_rep_value-of : (n : ℕ) (v : KdcRepValue) → Fits (kdc_rep n) v → kdc_rep_value n (kdc_rep_of v) ≡ v
kdc_rep_value-of n v f = λ i. (
  exactly_one 5 v.0 f.0.0 f.0.1 i,
  (
    exactly_one n v.1.0 f.1.0.0 f.1.0.1 i,
    (
      option_fits-back (Fits (sequence_of pa_data)) (map pa_data_value) (map pa_data_of) (λ vs g. list_fits-back (Fits pa_data) pa_data_value pa_data_of pa_data_value-of vs g.1) v.1.1.0 f.1.1.0 i,
      (
        v.1.1.1.0,
        (
          principal_name_value-of v.1.1.1.1.0 f.1.1.1.1.0 i,
          (ticket_value-of v.1.1.1.1.1.0 f.1.1.1.1.1.0 i, (encrypted_data_value-of v.1.1.1.1.1.1.0 f.1.1.1.1.1.1.0 i, tt)),
        ),
      ),
    ),
  ),
)

pub kdc_rep_value-seen : (n : ℕ) (m : KdcRepView) → IsValidKdcRep m → kdc_rep_value n (kdc_rep_of_view m) ≡ kdc_rep_view_value n m
kdc_rep_value-seen n m lists = λ i. (
  pos 5,
  (
    pos n,
    (
      option_items-back pa_data pa_data_value pa_data_of pa_data_value-of m.padata lists.padata i,
      (
        m.crealm.now,
        (
          principal_name_value-seen m.cname lists.cname i,
          (ticket_value-seen m.ticket lists.ticket i, (encrypted_data_value-seen m.enc_part lists.enc_part i, tt)),
        ),
      ),
    ),
  ),
)

pub ap_req_value-of : (v : Value ap_req) → Fits ap_req v → ap_req_value (ap_req_of v) ≡ v
ap_req_value-of v f = λ i. (
  exactly_one 5 v.0 f.0.0 f.0.1 i,
  (
    exactly_one 14 v.1.0 f.1.0.0 f.1.0.1 i,
    (v.1.1.0, (ticket_value-of v.1.1.1.0 f.1.1.1.0 i, (encrypted_data_value-of v.1.1.1.1.0 f.1.1.1.1.0 i, tt))),
  ),
)

pub ap_req_value-seen : (m : ApReqView) → IsValidApReq m → ap_req_value (ap_req_of_view m) ≡ ap_req_view_value m
ap_req_value-seen m lists = λ i.
    (pos 5, (pos 14, (flags_of_view m.ap_options, (ticket_value-seen m.ticket lists.0 i, (encrypted_data_value-seen m.authenticator lists.1 i, tt)))))

pub ap_rep_value-of : (v : Value ap_rep) → Fits ap_rep v → ap_rep_value (ap_rep_of v) ≡ v
ap_rep_value-of v f = λ i.
    (exactly_one 5 v.0 f.0.0 f.0.1 i, (exactly_one 15 v.1.0 f.1.0.0 f.1.0.1 i, (encrypted_data_value-of v.1.1.0 f.1.1.0 i, tt)))

pub ap_rep_value-seen : (m : ApRepView) → IsValidApRep m → ap_rep_value (ap_rep_of_view m) ≡ ap_rep_view_value m
ap_rep_value-seen m lists = λ i. (pos 5, (pos 15, (encrypted_data_value-seen m.enc_part lists i, tt)))

pub krb_safe_body_value-of : (v : Value krb_safe_body) → Fits krb_safe_body v → krb_safe_body_value (krb_safe_body_of v) ≡ v
krb_safe_body_value-of v f = λ i. (
  v.0,
  (
    v.1.0,
    (
      option_fits-back (Fits microseconds) pos micros_of (λ z g. micros-back z g.0) v.1.1.0 f.1.1.0 i,
      (
        v.1.1.1.0,
        (
          host_address_value-of v.1.1.1.1.0 f.1.1.1.1.0 i,
          (
            option_fits-back (Fits host_address) host_address_value host_address_of host_address_value-of v.1.1.1.1.1.0 f.1.1.1.1.1.0 i,
            tt,
          ),
        ),
      ),
    ),
  ),
)

pub krb_safe_body_value-seen : (b : KrbSafeBodyView) → IsValidKrbSafeBody b → krb_safe_body_value (krb_safe_body_of_view b) ≡ krb_safe_body_view_value b
krb_safe_body_value-seen b lists = λ i. (
  b.user_data.now,
  (
    option_map (λ time. time.now) b.timestamp,
    (
      option_seen-back (λ number. pos 0 ≤ℤ number) pos micros_of micros-back b.usec lists.usec i,
      (
        b.seq_number,
        (
          host_address_value-seen b.s_address lists.s_address i,
          (
            option_part-back IsValidHostAddress host_address_view_value host_address_value host_address_of host_address_value-seen b.r_address lists.r_address i,
            tt,
          ),
        ),
      ),
    ),
  ),
)

pub krb_safe_value-of : (v : Value krb_safe) → Fits krb_safe v → krb_safe_value (krb_safe_of v) ≡ v
krb_safe_value-of v f = λ i.
    (exactly_one 5 v.0 f.0.0 f.0.1 i, (exactly_one 20 v.1.0 f.1.0.0 f.1.0.1 i, (krb_safe_body_value-of v.1.1.0 f.1.1.0 i, (checksum_value-of v.1.1.1.0 f.1.1.1.0 i, tt))))

pub krb_safe_value-seen : (m : KrbSafeView) → IsValidKrbSafe m → krb_safe_value (krb_safe_of_view m) ≡ krb_safe_view_value m
krb_safe_value-seen m lists = λ i. (pos 5, (pos 20, (krb_safe_body_value-seen m.body lists.0 i, (checksum_value-seen m.cksum lists.1 i, tt))))

pub krb_priv_value-of : (v : Value krb_priv) → Fits krb_priv v → krb_priv_value (krb_priv_of v) ≡ v
krb_priv_value-of v f = λ i.
    (exactly_one 5 v.0 f.0.0 f.0.1 i, (exactly_one 21 v.1.0 f.1.0.0 f.1.0.1 i, (encrypted_data_value-of v.1.1.0 f.1.1.0 i, tt)))

pub krb_priv_value-seen : (m : KrbPrivView) → IsValidKrbPriv m → krb_priv_value (krb_priv_of_view m) ≡ krb_priv_view_value m
krb_priv_value-seen m lists = λ i. (pos 5, (pos 21, (encrypted_data_value-seen m.enc_part lists i, tt)))

pub krb_cred_value-of : (v : Value krb_cred) → Fits krb_cred v → krb_cred_value (krb_cred_of v) ≡ v
krb_cred_value-of v f = λ i. (
  exactly_one 5 v.0 f.0.0 f.0.1 i,
  (
    exactly_one 22 v.1.0 f.1.0.0 f.1.0.1 i,
    (
      list_fits-back (Fits ticket) ticket_value ticket_of ticket_value-of v.1.1.0 f.1.1.0.1 i,
      (encrypted_data_value-of v.1.1.1.0 f.1.1.1.0 i, tt),
    ),
  ),
)

pub krb_cred_value-seen : (m : KrbCredView) → IsValidKrbCred m → krb_cred_value (krb_cred_of_view m) ≡ krb_cred_view_value m
krb_cred_value-seen m lists = λ i.
    (pos 5, (pos 22, (items-back ticket ticket_value ticket_of ticket_value-of m.tickets.octets.now lists.0 i, (encrypted_data_value-seen m.enc_part lists.1 i, tt))))

pub krb_error_value-of : (v : Value krb_error) → Fits krb_error v → krb_error_value (krb_error_of v) ≡ v
krb_error_value-of v f = λ i. (
  exactly_one 5 v.0 f.0.0 f.0.1 i,
  (
    exactly_one 30 v.1.0 f.1.0.0 f.1.0.1 i,
    (
      v.1.1.0,
      (
        option_fits-back (Fits microseconds) pos micros_of (λ z g. micros-back z g.0) v.1.1.1.0 f.1.1.1.0 i,
        (
          v.1.1.1.1.0,
          (
            micros-back v.1.1.1.1.1.0 f.1.1.1.1.1.0.0 i,
            (
              v.1.1.1.1.1.1.0,
              (
                v.1.1.1.1.1.1.1.0,
                (
                  option_fits-back (Fits principal_name) principal_name_value principal_name_of principal_name_value-of v.1.1.1.1.1.1.1.1.0 f.1.1.1.1.1.1.1.1.0 i,
                  (
                    v.1.1.1.1.1.1.1.1.1.0,
                    (
                      principal_name_value-of v.1.1.1.1.1.1.1.1.1.1.0 f.1.1.1.1.1.1.1.1.1.1.0 i,
                      (v.1.1.1.1.1.1.1.1.1.1.1.0, (v.1.1.1.1.1.1.1.1.1.1.1.1.0, tt)),
                    ),
                  ),
                ),
              ),
            ),
          ),
        ),
      ),
    ),
  ),
)

pub krb_error_value-seen : (m : KrbErrorView) → IsValidKrbError m → krb_error_value (krb_error_of_view m) ≡ krb_error_view_value m
krb_error_value-seen m lists = λ i. (
  pos 5,
  (
    pos 30,
    (
      option_map (λ time. time.now) m.ctime,
      (
        option_seen-back (λ number. pos 0 ≤ℤ number) pos micros_of micros-back m.cusec lists.cusec i,
        (
          m.stime.now,
          (
            micros-back m.susec lists.susec i,
            (
              m.error_code,
              (
                option_map (λ octets. octets.now) m.crealm,
                (
                  option_part-back IsValidPrincipalName principal_name_view_value principal_name_value principal_name_of principal_name_value-seen m.cname lists.cname i,
                  (
                    m.realm.now,
                    (
                      principal_name_value-seen m.sname lists.sname i,
                      (option_map (λ octets. octets.now) m.e_text, (option_map (λ octets. octets.now) m.e_data, tt)),
                    ),
                  ),
                ),
              ),
            ),
          ),
        ),
      ),
    ),
  ),
)
