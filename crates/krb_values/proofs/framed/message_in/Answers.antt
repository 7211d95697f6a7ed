use Rattle.std.proofs.Common.{ap, ◌∙◌}
use Rattle.std.proofs.lemmas.Result.{IfOk-weaker}
use Rattle.krb_msg.specs.Views.{message_der}
use Rattle.krb_values.proofs.framed.message_in.Goals as goal

pub returns : goal.returns
returns c = IfOk-weaker c.copy_message.result _ _ (λ m e. ap message_der e ∙ c.view.ensures.form) c.copy_message.ensures
