use Rattle.std.proofs.Common.{◌∙◌}
use Rattle.std.proofs.lemmas.Result.{IfOk-weaker}
use Rattle.krb_items.proofs.label.last_after.Goals as goal

pub returns : goal.returns
returns c = λ members is. IfOk-weaker c.from_str.result _ _
    (λ text made. made ∙ c.members_of.ensures members (c.as_str.ensures.value ∙ c.in_ok-text.ensures ∙ is))
    c.from_str.ensures.ok
