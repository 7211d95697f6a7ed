-- asn1/generate wrote this from asn1/krb5.asn1
use Rattle.std.proofs.Common.{refl, ◌∙◌}
use Rattle.std.proofs.lemmas.List.{map-id}
use Rattle.krb_msg.specs.Types.{principal_name_of, principal_name_view_value, host_address_of, encrypted_data_of, encrypted_data_view_value, ticket_of}
use Rattle.krb_codec.proofs.Copies.{option_seen}
use Rattle.krb_codec.proofs.kdc_req_body.KdcReqBodyFromView.from_view.Goals as goal

pub returns : goal.returns
returns c = λ i. record {
  from = c.copy_plain_option.ensures i;
  till = c.from_plain_view.ensures i;
  rtime = c.copy_plain_option-2.ensures i;
  nonce = c.from_plain_view-2.ensures i;
  kdc_options = c.in_ok-from_view.ensures i;
  cname = (c.in_ok-copy_option.ensures ∙ option_seen principal_name_of principal_name_view_value c.args.seen.now.cname) i;
  realm = c.in_ok-from_view-2.ensures i;
  sname = (c.in_ok-copy_option-2.ensures ∙ option_seen principal_name_of principal_name_view_value c.args.seen.now.sname) i;
  etype = (c.in_ok-copy_items.ensures (λ item. item) (λ seen. refl) ∙ map-id _) i;
  addresses = c.in_ok-copy_item_option.ensures host_address_of (λ seen. refl) i;
  enc_authorization_data = (c.in_ok-copy_option-3.ensures ∙ option_seen encrypted_data_of encrypted_data_view_value c.args.seen.now.enc_authorization_data) i;
  additional_tickets = c.in_ok-copy_item_option-2.ensures ticket_of (λ seen. refl) i;
}
