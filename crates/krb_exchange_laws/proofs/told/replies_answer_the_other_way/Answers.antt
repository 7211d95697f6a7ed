use Rattle.krb_exchange_laws.proofs.Answering.{replies_answer_the_other_way}
use Rattle.krb_exchange_laws.proofs.told.replies_answer_the_other_way.Goals as goal

pub returns : goal.returns
returns c = replies_answer_the_other_way
