-- KDC-REQ-BODY (RFC 4120, 5.4.1): values of the type and of views of it, as values of its term, and back. asn1/generate wrote this from asn1/krb5.asn1
use Rattle.std.specs.Prelude.{map}
use Rattle.std.specs.Option.{option_map}
use Rattle.krb_msg.specs.Term.{Value, IfPresent, IsTimeFrom}
use Rattle.krb_msg.specs.Basic.{flags_of_view}
use Rattle.krb_msg.specs.Viewed.{AreViewed, items_of}
use Rattle.krb_msg.specs.Grammar.{kdc_req_body, int32, host_address, ticket}
use Rattle.krb_msg.specs.declared.kdc_req_body.KdcReqBody.{KdcReqBody}
use Rattle.krb_msg.specs.declared.kdc_req_body.KdcReqBodyView.{KdcReqBodyView}
use Rattle.krb_msg.specs.Types.PrincipalName.{principal_name_value, principal_name_of, principal_name_view_value, IsValidPrincipalName}
use Rattle.krb_msg.specs.Types.HostAddress.{host_address_value, host_address_of}
use Rattle.krb_msg.specs.Types.EncryptedData.{encrypted_data_value, encrypted_data_of, encrypted_data_view_value, IsValidEncryptedData}
use Rattle.krb_msg.specs.Types.Ticket.{ticket_value, ticket_of}

abbrev pub kdc_req_body_value : KdcReqBody → Value kdc_req_body
kdc_req_body_value b = (
  b.kdc_options,
  (
    option_map principal_name_value b.cname,
    (
      b.realm,
      (
        option_map principal_name_value b.sname,
        (
          b.from,
          (
            b.till,
            (
              b.rtime,
              (
                b.nonce,
                (
                  b.etype,
                  (
                    option_map (map host_address_value) b.addresses,
                    (option_map encrypted_data_value b.enc_authorization_data, (option_map (map ticket_value) b.additional_tickets, tt)),
                  ),
                ),
              ),
            ),
          ),
        ),
      ),
    ),
  ),
)

abbrev pub kdc_req_body_of : Value kdc_req_body → KdcReqBody
kdc_req_body_of (kdc_options, (cname, (realm, (sname, (from, (till, (rtime, (nonce, (etype, (addresses, (enc_authorization_data, (additional_tickets, none)))))))))))) = record {
  kdc_options = kdc_options;
  cname = option_map principal_name_of cname;
  realm = realm;
  sname = option_map principal_name_of sname;
  from = from;
  till = till;
  rtime = rtime;
  nonce = nonce;
  etype = etype;
  addresses = option_map (map host_address_of) addresses;
  enc_authorization_data = option_map encrypted_data_of enc_authorization_data;
  additional_tickets = option_map (map ticket_of) additional_tickets;
}

-- ---- a view of it: as a value of its term, as a value of the type, and what is known of it
abbrev pub kdc_req_body_view_value : KdcReqBodyView → Value kdc_req_body
kdc_req_body_view_value b = (
  flags_of_view b.kdc_options,
  (
    option_map principal_name_view_value b.cname,
    (
      b.realm.now,
      (
        option_map principal_name_view_value b.sname,
        (
          option_map (λ time. time.now) b.from,
          (
            b.till.now,
            (
              option_map (λ time. time.now) b.rtime,
              (
                b.nonce,
                (
                  items_of int32 b.etype.octets.now,
                  (
                    option_map (λ items. items_of host_address items.octets.now) b.addresses,
                    (
                      option_map encrypted_data_view_value b.enc_authorization_data,
                      (option_map (λ items. items_of ticket items.octets.now) b.additional_tickets, tt),
                    ),
                  ),
                ),
              ),
            ),
          ),
        ),
      ),
    ),
  ),
)

abbrev pub kdc_req_body_of_view : KdcReqBodyView → KdcReqBody
kdc_req_body_of_view b = kdc_req_body_of (kdc_req_body_view_value b)

pub record IsValidKdcReqBody (b : KdcReqBodyView) : Type 0 where
  pub cname : IfPresent IsValidPrincipalName b.cname
  pub sname : IfPresent IsValidPrincipalName b.sname
  pub from : IfPresent (λ time. IsTimeFrom 14 time.now) b.from
  pub till : IsTimeFrom 14 b.till.now
  pub rtime : IfPresent (λ time. IsTimeFrom 14 time.now) b.rtime
  pub etype : AreViewed int32 b.etype.octets.now
  pub addresses : IfPresent (λ items. AreViewed host_address items.octets.now) b.addresses
  pub enc_authorization_data : IfPresent IsValidEncryptedData b.enc_authorization_data
  pub additional_tickets : IfPresent (λ items. AreViewed ticket items.octets.now) b.additional_tickets
