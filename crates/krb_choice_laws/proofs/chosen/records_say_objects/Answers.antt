use Rattle.krb_choice_laws.proofs.FilesSay.{files-say}
use Rattle.krb_choice_laws.proofs.RecordsSay.{captures-say, ends-say}
use Rattle.krb_choice_laws.proofs.RowsObjects.{rows-have}
use Rattle.krb_choice_laws.proofs.chosen.records_say_objects.Goals as goal

pub returns-clause-end : goal.returns-clause-end
returns-clause-end c = ends-say

pub returns-clause-capture : goal.returns-clause-capture
returns-clause-capture c = captures-say

pub returns-clause-file : goal.returns-clause-file
returns-clause-file c = files-say

pub returns-clause-same : goal.returns-clause-same
returns-clause-same c = rows-have
