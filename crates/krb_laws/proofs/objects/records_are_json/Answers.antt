use Rattle.krb_laws.proofs.JsonShown.{record_is_json}
use Rattle.krb_laws.proofs.objects.records_are_json.Goals as goal

pub returns : goal.returns
returns c = record_is_json
