use Rattle.krb_msg.proofs.Judged.{messages_are_grammar}
use Rattle.krb_msg.proofs.law.messages_are_grammar.Goals as goal

pub returns : goal.returns
returns c = messages_are_grammar
