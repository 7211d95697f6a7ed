-- asn1/generate wrote this from asn1/krb5.asn1
use Rattle.std.proofs.Common.{refl}
use Rattle.krb_msg.specs.Types.{ticket_of}
use Rattle.krb_codec.proofs.krb_cred.KrbCredFromView.from_view.Goals as goal

pub returns : goal.returns
returns c = λ i. record { tickets = c.in_ok-copy_items.ensures ticket_of (λ seen. refl) i; enc_part = c.in_ok-from_view.ensures i }
