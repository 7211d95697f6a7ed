-- asn1/generate wrote this from asn1/krb5.asn1
use Rattle.std.proofs.Common.{subst, sym, w64, FitsSigned, rules}
use Rattle.std.specs.Option.{option_map}
use Rattle.std.proofs.lemmas.Int.{to_z-of_z}
use Rattle.krb_msg.specs.Grammar.{host_address, int32, ticket}
use Rattle.krb_msg.specs.Grammar.{kdc_req_body}
use Rattle.krb_msg.specs.Viewed.{AreContents, items_of}
use Rattle.krb_msg.specs.Types.{principal_name_view_value, encrypted_data_view_value}
use Rattle.krb_msg.specs.Basic.{flags_of_view}
use Rattle.krb_msg.proofs.kdc_req_body.KdcReqBodyViewImpl.view_into.Goals as goal

pub returns : goal.returns
returns c =
    let fits_nonce : FitsSigned w64 c.view_into.new.seen.1.1.1.1.1.1.nonce = search rules in
    (subst (AreContents kdc_req_body c.args.contents.now) (λ i. (flags_of_view c.view_into.new.seen.0, (option_map principal_name_view_value c.view_into.new.seen.1.0, (c.view_into.new.seen.1.1.0.now, (option_map principal_name_view_value c.view_into.new.seen.1.1.1.0, (option_map (λ time. time.now) c.view_into.new.seen.1.1.1.1.0, (c.view_into.new.seen.1.1.1.1.1.0.now, (option_map (λ time. time.now) c.view_into.new.seen.1.1.1.1.1.1.rtime, ((sym (to_z-of_z w64 c.view_into.new.seen.1.1.1.1.1.1.nonce fits_nonce)) i, (items_of int32 c.view_into.new.seen.1.1.1.1.1.1.etype.octets.now, (option_map (λ items. items_of host_address items.octets.now) c.view_into.new.seen.1.1.1.1.1.1.addresses, (option_map encrypted_data_view_value c.view_into.new.seen.1.1.1.1.1.1.enc_authorization_data, (option_map (λ items. items_of ticket items.octets.now) c.view_into.new.seen.1.1.1.1.1.1.additional_tickets, tt))))))))))))) c.if-not-view_into.ensures.0, (record { cname = c.if-not-view_into.ensures.1.1.0; sname = c.if-not-view_into.ensures.1.1.1.1.0; from = c.if-not-view_into.ensures.1.1.1.1.1.0; till = c.if-not-view_into.ensures.1.1.1.1.1.1.0; rtime = c.if-not-view_into.ensures.1.1.1.1.1.1.1.0; etype = c.if-not-view_into.ensures.1.1.1.1.1.1.1.1.1.0; addresses = c.if-not-view_into.ensures.1.1.1.1.1.1.1.1.1.1.0; enc_authorization_data = c.if-not-view_into.ensures.1.1.1.1.1.1.1.1.1.1.1.0; additional_tickets = c.if-not-view_into.ensures.1.1.1.1.1.1.1.1.1.1.1.1.0 }))
