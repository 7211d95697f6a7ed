use Rattle.std.proofs.Common.{arith}
use Rattle.std.proofs.lemmas.Grind.{common_steps}
use Rattle.krb_token.proofs.item.Part.enter.Goals as goal

pub returns-in-Ok-clause-item : goal.returns-in-Ok-clause-item
returns-in-Ok-clause-item c = grind (arith, common_steps)

pub returns-in-Ok-2-clause-item : goal.returns-in-Ok-2-clause-item
returns-in-Ok-2-clause-item c = grind (arith, common_steps)

pub returns-in-Err-clause-item : goal.returns-in-Err-clause-item
returns-in-Err-clause-item c = grind (arith, common_steps)
