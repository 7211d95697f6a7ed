use Rattle.krb_laws.proofs.Base64Alone.{base64_is_spelled}
use Rattle.krb_laws.proofs.spelled.base64_is_spelled.Goals as goal

pub returns : goal.returns
returns c = base64_is_spelled
