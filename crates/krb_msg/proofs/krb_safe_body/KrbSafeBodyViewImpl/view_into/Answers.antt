-- asn1/generate wrote this from asn1/krb5.asn1
use Rattle.std.proofs.Common.{subst}
use Rattle.std.specs.Option.{option_map}
use Rattle.std.proofs.lemmas.Iterator.Adapters.{option_map_id}
use Rattle.krb_msg.specs.Grammar.{krb_safe_body}
use Rattle.krb_msg.specs.Viewed.{AreContents}
use Rattle.krb_msg.specs.Types.{host_address_view_value}
use Rattle.krb_msg.proofs.krb_safe_body.KrbSafeBodyViewImpl.view_into.Goals as goal

pub returns : goal.returns
returns c = (subst (AreContents krb_safe_body c.args.contents.now) (λ i. (c.view_into.new.seen.0.now, (option_map (λ time. time.now) c.view_into.new.seen.1.0, (option_map_id c.view_into.new.seen.1.1.0 i, (option_map_id c.view_into.new.seen.1.1.1.0 i, (host_address_view_value c.view_into.new.seen.1.1.1.1.0, (option_map host_address_view_value c.view_into.new.seen.1.1.1.1.1.0, tt))))))) c.if-not-view_into.ensures.0, (record { user_data = c.if-not-view_into.ensures.1.0; timestamp = c.if-not-view_into.ensures.1.1.0; usec = c.if-not-view_into.ensures.1.1.1.0; s_address = c.if-not-view_into.ensures.1.1.1.1.1.0; r_address = c.if-not-view_into.ensures.1.1.1.1.1.1.0 }))
