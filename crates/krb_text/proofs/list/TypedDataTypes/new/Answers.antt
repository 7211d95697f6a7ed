use Rattle.std.proofs.Common.{ap, sym}
use Rattle.krb_padata.specs.Types.{typed_data_item_of}
use Rattle.krb_registry.specs.declared.registry.Registry.TheVariants.{PreAuthenticationData}
use Rattle.krb_record.specs.Values.{Numbers}
use Rattle.krb_text.proofs.Items.{map-map}
use Rattle.krb_text.proofs.list.TypedDataTypes.new.Goals as goal

pub returns : goal.returns
returns c = ap (Numbers PreAuthenticationData) (sym (map-map (λ item. item.data_type) typed_data_item_of _))
