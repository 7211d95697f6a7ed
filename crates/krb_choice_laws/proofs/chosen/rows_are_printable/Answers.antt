use Rattle.krb_choice_laws.proofs.RowLines.{is-row}
use Rattle.krb_choice_laws.proofs.chosen.rows_are_printable.Goals as goal

pub returns : goal.returns
returns c = is-row
