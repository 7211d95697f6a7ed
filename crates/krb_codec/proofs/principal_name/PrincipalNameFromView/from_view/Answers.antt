-- asn1/generate wrote this from asn1/krb5.asn1
use Rattle.std.proofs.Common.{refl, ◌∙◌}
use Rattle.std.proofs.lemmas.List.{map-id}
use Rattle.krb_codec.proofs.principal_name.PrincipalNameFromView.from_view.Goals as goal

pub returns : goal.returns
returns c = λ i. record { name_type = c.from_plain_view.ensures i; name = (c.in_ok-copy_items.ensures (λ item. item) (λ seen. refl) ∙ map-id _) i }
