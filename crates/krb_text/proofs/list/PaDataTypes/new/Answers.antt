use Rattle.std.proofs.Common.{ap, sym}
use Rattle.krb_msg.specs.Types.{pa_data_of}
use Rattle.krb_registry.specs.declared.registry.Registry.TheVariants.{PreAuthenticationData}
use Rattle.krb_record.specs.Values.{Numbers}
use Rattle.krb_text.proofs.Items.{map-map}
use Rattle.krb_text.proofs.list.PaDataTypes.new.Goals as goal

pub returns : goal.returns
returns c = ap (Numbers PreAuthenticationData) (sym (map-map (λ p. p.padata_type) pa_data_of _))
