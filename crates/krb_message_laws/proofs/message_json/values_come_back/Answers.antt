use Rattle.krb_json.proofs.Back.{term-back}
use Rattle.krb_message_laws.proofs.message_json.values_come_back.Goals as goal

pub returns : goal.returns
returns c term names path value named fits short = term-back term names named path value fits short
