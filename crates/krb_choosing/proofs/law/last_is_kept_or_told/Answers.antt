use Rattle.krb_choosing.proofs.Told.{last-kept}
use Rattle.krb_choosing.proofs.law.last_is_kept_or_told.Goals as goal

pub returns : goal.returns
returns c = last-kept
