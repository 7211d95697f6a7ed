use Rattle.krb_capture.proofs.Noted.{none-at}
use Rattle.krb_capture.proofs.numbers.no_recent.Goals as goal

pub returns : goal.returns
returns c = λ place. none-at 64 place
