-- asn1/generate wrote this from asn1/krb5.asn1
use Rattle.std.proofs.Common.{refl}
use Rattle.krb_msg.specs.Types.{pa_data_of}
use Rattle.krb_codec.proofs.kdc_rep.copy.Goals as goal

pub returns : goal.returns
returns g c = λ i. record {
  padata = c.in_ok-copy_item_option.ensures pa_data_of (λ seen. refl) i;
  crealm = c.in_ok-from_view.ensures i;
  cname = c.in_ok-from_view-2.ensures i;
  ticket = c.in_ok-from_view-3.ensures i;
  enc_part = c.in_ok-from_view-4.ensures i;
}
