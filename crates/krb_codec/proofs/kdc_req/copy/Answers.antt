-- asn1/generate wrote this from asn1/krb5.asn1
use Rattle.std.proofs.Common.{refl}
use Rattle.krb_msg.specs.Types.{pa_data_of}
use Rattle.krb_codec.proofs.kdc_req.copy.Goals as goal

pub returns : goal.returns
returns g c = λ i. record { padata = c.in_ok-copy_item_option.ensures pa_data_of (λ seen. refl) i; body = c.in_ok-from_view.ensures i }
