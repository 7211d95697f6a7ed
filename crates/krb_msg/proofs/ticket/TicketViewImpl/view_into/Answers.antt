-- asn1/generate wrote this from asn1/krb5.asn1
use Rattle.std.proofs.Common.{pos, subst, sym, w64, FitsSigned, rules}
use Rattle.std.proofs.lemmas.Int.{to_z-of_z}
use Rattle.krb_msg.specs.Grammar.{ticket}
use Rattle.krb_msg.specs.Viewed.{AreContents}
use Rattle.krb_msg.specs.Types.{principal_name_view_value, encrypted_data_view_value}
use Rattle.krb_msg.proofs.ticket.TicketViewImpl.view_into.Goals as goal

pub returns : goal.returns
returns c =
    let fits_0 : FitsSigned w64 c.in-Some.sname.name_type = search rules in
    let fits_1 : FitsSigned w64 c.in-Some.enc_part.etype = search rules in
    (subst (AreContents ticket c.args.contents.now) (λ i. (pos 5, (c.in-Some.realm.now, (principal_name_view_value (record { name_type = (sym (to_z-of_z w64 c.in-Some.sname.name_type fits_0) i); name = c.in-Some.sname.name }), (encrypted_data_view_value (record { etype = (sym (to_z-of_z w64 c.in-Some.enc_part.etype fits_1) i); kvno = c.in-Some.enc_part.kvno; cipher = c.in-Some.enc_part.cipher }), tt))))) c.in-Some.ensures.0, (c.in-Some.ensures.1.1.0, c.in-Some.ensures.1.1.1.0))
