use Rattle.std.proofs.Common.{arith, drop}
use Rattle.std.proofs.lemmas.Grind.{common_steps}
use Rattle.krb_choice.proofs.Columns.{all_found_none}
use Rattle.krb_choice.proofs.record.has_all.Goals as goal

pub returns-else-index-found : goal.returns-else-index-found
returns-else-index-found c = grind (arith, common_steps, all_found_none (drop c.columns.index c.args.columns.now))
