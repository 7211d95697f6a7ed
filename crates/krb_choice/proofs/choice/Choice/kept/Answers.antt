use Rattle.krb_choice.proofs.Kept.{kept_is}
use Rattle.krb_choice.proofs.choice.Choice.kept.Goals as goal

pub invariant_of-result : goal.invariant_of-result
invariant_of-result c = kept_is c.kept.result c.args.base _ c.new.result.items c.kept.ensures
