-- The types of the grammar, a file each: values of a type as those of its term, and back; views of it. asn1/generate wrote this from asn1/krb5.asn1
pub mod PrincipalName
pub mod HostAddress
pub mod PaData
pub mod EncryptedData
pub mod Checksum
pub mod Ticket
pub mod KdcReqBody
pub mod KdcReq
pub mod KdcRep
pub mod ApReq
pub mod ApRep
pub mod KrbSafeBody
pub mod KrbSafe
pub mod KrbPriv
pub mod KrbCred
pub mod KrbError
pub use PrincipalName.{principal_name_value, principal_name_of, principal_name_view_value, principal_name_of_view, IsValidPrincipalName}
pub use HostAddress.{host_address_value, host_address_of, host_address_view_value, host_address_of_view, IsValidHostAddress}
pub use PaData.{pa_data_value, pa_data_of, pa_data_view_value, pa_data_of_view, IsValidPaData}
pub use EncryptedData.{encrypted_data_value, encrypted_data_of, encrypted_data_view_value, encrypted_data_of_view, IsValidEncryptedData}
pub use Checksum.{checksum_value, checksum_of, checksum_view_value, checksum_of_view, IsValidChecksum}
pub use Ticket.{ticket_value, ticket_of, ticket_view_value, ticket_of_view, IsValidTicket}
pub use KdcReqBody.{kdc_req_body_value, kdc_req_body_of, kdc_req_body_view_value, kdc_req_body_of_view, IsValidKdcReqBody}
pub use KdcReq.{KdcReqValue, kdc_req_value, kdc_req_of, kdc_req_view_value, kdc_req_of_view, IsValidKdcReq}
pub use KdcRep.{KdcRepValue, kdc_rep_value, kdc_rep_of, kdc_rep_view_value, kdc_rep_of_view, IsValidKdcRep}
pub use ApReq.{ap_req_value, ap_req_of, ap_req_view_value, ap_req_of_view, IsValidApReq}
pub use ApRep.{ap_rep_value, ap_rep_of, ap_rep_view_value, ap_rep_of_view, IsValidApRep}
pub use KrbSafeBody.{krb_safe_body_value, krb_safe_body_of, krb_safe_body_view_value, krb_safe_body_of_view, IsValidKrbSafeBody}
pub use KrbSafe.{krb_safe_value, krb_safe_of, krb_safe_view_value, krb_safe_of_view, IsValidKrbSafe}
pub use KrbPriv.{krb_priv_value, krb_priv_of, krb_priv_view_value, krb_priv_of_view, IsValidKrbPriv}
pub use KrbCred.{krb_cred_value, krb_cred_of, krb_cred_view_value, krb_cred_of_view, IsValidKrbCred}
pub use KrbError.{krb_error_value, krb_error_of, krb_error_view_value, krb_error_of_view, IsValidKrbError}
