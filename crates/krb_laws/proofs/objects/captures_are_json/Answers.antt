use Rattle.krb_laws.proofs.JsonEnds.{captures_are_json}
use Rattle.krb_laws.proofs.objects.captures_are_json.Goals as goal

pub returns : goal.returns
returns c = captures_are_json
