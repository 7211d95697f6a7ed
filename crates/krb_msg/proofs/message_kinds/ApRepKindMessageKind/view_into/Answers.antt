-- asn1/generate wrote this from asn1/krb5.asn1
use Rattle.std.proofs.Common.{refl}
use Rattle.krb_der.specs.inner.Numbers.{AreOctets-slice}
use Rattle.krb_msg.specs.declared.message.Kind.TheVariants as kind
use Rattle.krb_msg.specs.declared.message_view.MessageView.TheVariants as view
use Rattle.krb_msg.specs.Types.{ap_rep_view_value}
use Rattle.krb_msg.proofs.MessageViews.{made_as}
use Rattle.krb_msg.proofs.message_kinds.ApRepKindMessageKind.view_into.Goals as goal

pub returns : goal.returns
returns c = made_as kind.ApRep c.args.octets.now (λ seen. view.ApRep seen) (λ seen. ap_rep_view_value seen) (λ seen. refl) (AreOctets-slice c.args.octets.now c.type_inv.octets) c.requires c.view_whole_into.result c.view_whole_into.new.seen c.view_whole_into.ensures
