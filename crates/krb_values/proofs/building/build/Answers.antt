use Rattle.std.proofs.Common.{ap, ◌∙◌, arith}
use Rattle.std.proofs.lemmas.Result.{IfOk-weaker}
use Rattle.krb_der.specs.inner.Numbers.{AreOctets-slice}
use Rattle.krb_msg.specs.Views.{message_der}
use Rattle.krb_msg.proofs.Judged.{lenient_whole}
use Rattle.krb_values.proofs.building.build.Goals as goal

-- the octets are judged whole
pub unreachable-requires : goal.unreachable-requires
unreachable-requires c = c.in_default.ensures c.requires.short (lenient_whole c.requires.whole.profile _ c.args.octets.now c.requires.short (AreOctets-slice c.args.octets.now c.type_inv.octets) (omega arith) c.requires.whole.whole)

pub returns : goal.returns
returns c = IfOk-weaker c.copy_message.result _ _ (λ m e. ap message_der e ∙ c.in-Some.ensures.form) c.copy_message.ensures
