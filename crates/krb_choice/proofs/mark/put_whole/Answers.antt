use Rattle.std.proofs.Common.{arith}
use Rattle.std.proofs.lemmas.Grind.{common_steps}
use Rattle.krb_choice.proofs.Marks.{first_piece}
use Rattle.krb_choice.proofs.mark.put_whole.Goals as goal

pub pieces-preserved : goal.pieces-preserved
pieces-preserved c = grind (arith, common_steps, first_piece c.in-Some.mark.now c.in-Some.after.now)
