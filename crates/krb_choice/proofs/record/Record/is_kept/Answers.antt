use Rattle.std.proofs.Common.{arith}
use Rattle.std.proofs.lemmas.Grind.{common_steps}
use Rattle.krb_choice.proofs.Columns.{has_each}
use Rattle.krb_choice.specs.Choices.{columns_of}
use Rattle.krb_choice.specs.Marked.{read_pieces}
use Rattle.krb_choice.proofs.record.Record.is_kept.Goals as goal

pub returns : goal.returns
returns c = grind (arith, common_steps, has_each (read_pieces c.args.self.now.pieces.items) (columns_of c.args.choice.now.print))
