use Rattle.krb_laws.proofs.JsonMessages.{messages_are_json}
use Rattle.krb_laws.proofs.objects.messages_are_json.Goals as goal

pub returns : goal.returns
returns c = messages_are_json
