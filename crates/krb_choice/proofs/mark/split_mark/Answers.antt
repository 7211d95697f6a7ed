use Rattle.std.proofs.Common.{arith}
use Rattle.std.proofs.lemmas.Grind.{common_steps}
use Rattle.krb_choice.proofs.Marks.{at_mark, pieces_from, to_mark, unmarked_le}
use Rattle.krb_choice.proofs.mark.split_mark.Goals as goal

pub split_at-requires : goal.split_at-requires
split_at-requires c = omega (arith, unmarked_le c.args.text.now)

pub returns-clause-text : goal.returns-clause-text
returns-clause-text c = grind (arith, common_steps, to_mark c.args.text.now)

pub returns-clause-at_mark : goal.returns-clause-at_mark
returns-clause-at_mark c = grind (arith, common_steps, at_mark c.args.text.now)

pub returns-clause-pieces : goal.returns-clause-pieces
returns-clause-pieces c = grind (arith, common_steps, pieces_from c.args.text.now)
