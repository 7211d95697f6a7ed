use Rattle.krb_laws.proofs.JsonEnds.{ends_are_json}
use Rattle.krb_laws.proofs.objects.ends_are_json.Goals as goal

pub returns : goal.returns
returns c = ends_are_json
