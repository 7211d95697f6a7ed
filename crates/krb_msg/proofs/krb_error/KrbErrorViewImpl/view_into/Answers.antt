-- asn1/generate wrote this from asn1/krb5.asn1
use Rattle.std.proofs.Common.{pos, subst, sym, w64, FitsSigned, rules}
use Rattle.std.specs.Prelude.{◌≤ℤ◌}
use Rattle.std.specs.Option.{option_map}
use Rattle.std.proofs.lemmas.Int.{to_z-of_z}
use Rattle.std.proofs.lemmas.Iterator.Adapters.{option_map_id}
use Rattle.krb_msg.specs.Grammar.{krb_error}
use Rattle.krb_msg.specs.Viewed.{AreContents}
use Rattle.krb_msg.specs.Types.{principal_name_view_value}
use Rattle.krb_msg.proofs.krb_error.KrbErrorViewImpl.view_into.Goals as goal

pub returns : goal.returns
returns c =
    let fits_susec : FitsSigned w64 c.view_into.new.seen.1.1.1.0 = search rules in
    let fits_error_code : FitsSigned w64 c.view_into.new.seen.1.1.1.1.0 = search rules in
    (subst (AreContents krb_error c.args.contents.now) (λ i. (pos 5, (pos 30, (option_map (λ time. time.now) c.view_into.new.seen.0, (option_map_id c.view_into.new.seen.1.0 i, (c.view_into.new.seen.1.1.0.now, ((sym (to_z-of_z w64 c.view_into.new.seen.1.1.1.0 fits_susec)) i, ((sym (to_z-of_z w64 c.view_into.new.seen.1.1.1.1.0 fits_error_code)) i, (option_map (λ octets. octets.now) c.view_into.new.seen.1.1.1.1.1.crealm, (option_map principal_name_view_value c.view_into.new.seen.1.1.1.1.1.cname, (c.view_into.new.seen.1.1.1.1.1.realm.now, (principal_name_view_value c.view_into.new.seen.1.1.1.1.1.sname, (option_map (λ octets. octets.now) c.view_into.new.seen.1.1.1.1.1.e_text, (option_map (λ octets. octets.now) c.view_into.new.seen.1.1.1.1.1.e_data, tt)))))))))))))) c.if-not-view_into.ensures.0, (record { ctime = c.if-not-view_into.ensures.1.0; cusec = c.if-not-view_into.ensures.1.1.0; stime = c.if-not-view_into.ensures.1.1.1.0; susec = subst (λ number. pos 0 ≤ℤ number) (sym (to_z-of_z w64 c.view_into.new.seen.1.1.1.0 fits_susec)) c.if-not-view_into.ensures.1.1.1.1.0; cname = c.if-not-view_into.ensures.1.1.1.1.1.1.1.0; sname = c.if-not-view_into.ensures.1.1.1.1.1.1.1.1.1.0; e_data = c.if-not-view_into.ensures.1.1.1.1.1.1.1.1.1.1.1.0 }))
