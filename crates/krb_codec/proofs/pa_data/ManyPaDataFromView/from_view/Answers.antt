-- asn1/generate wrote this from asn1/krb5.asn1
use Rattle.std.proofs.Common.{refl}
use Rattle.std.proofs.lemmas.Result.{IfOk-weaker}
use Rattle.krb_msg.specs.Types.{pa_data_of}
use Rattle.krb_codec.proofs.pa_data.ManyPaDataFromView.from_view.Goals as goal

pub returns : goal.returns
returns c = IfOk-weaker c.copy_items.result _ _ (λ values copies. copies pa_data_of (λ seen. refl)) c.copy_items.ensures
