use Rattle.krb_choice_laws.proofs.Kept.{written-is}
use Rattle.krb_choice_laws.proofs.chosen.written_is_chosen.Goals as goal

pub returns : goal.returns
returns c = written-is
