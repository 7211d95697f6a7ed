use Rattle.krb_file_laws.proofs.Spelled.{credentials-spelled}
use Rattle.krb_file_laws.proofs.ccache.credentials_are_spelled.Goals as goal

pub returns : goal.returns
returns c = credentials-spelled
