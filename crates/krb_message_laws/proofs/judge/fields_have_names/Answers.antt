use Rattle.krb_judge.proofs.KindNodes.{fields_have_names}
use Rattle.krb_message_laws.proofs.judge.fields_have_names.Goals as goal

pub returns : goal.returns
returns c = fields_have_names
