use Rattle.krb_laws.proofs.JsonFiles.{files_are_json}
use Rattle.krb_laws.proofs.objects.files_are_json.Goals as goal

pub returns : goal.returns
returns c = files_are_json c.refusals_are_inside.ensures
