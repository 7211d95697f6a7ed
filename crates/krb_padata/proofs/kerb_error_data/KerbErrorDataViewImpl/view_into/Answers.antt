-- asn1/generate wrote this from asn1/padata.asn1
use Rattle.std.proofs.Common.{subst, sym, w64, FitsSigned, rules}
use Rattle.std.specs.Option.{option_map}
use Rattle.std.proofs.lemmas.Int.{to_z-of_z}
use Rattle.krb_padata.specs.Grammar.{kerb_error_data}
use Rattle.krb_msg.specs.Viewed.{AreContents}
use Rattle.krb_padata.proofs.kerb_error_data.KerbErrorDataViewImpl.view_into.Goals as goal

pub returns : goal.returns
returns c =
    let fits_data_type : FitsSigned w64 c.view_into.new.seen.0 = search rules in
    (subst (AreContents kerb_error_data c.args.contents.now) (λ i. ((sym (to_z-of_z w64 c.view_into.new.seen.0 fits_data_type)) i, (option_map (λ octets. octets.now) c.view_into.new.seen.1.0, tt))) c.if-not-view_into.ensures.0, (c.if-not-view_into.ensures.1.1.0))
