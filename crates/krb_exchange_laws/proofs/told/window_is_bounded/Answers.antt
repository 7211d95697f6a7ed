use Rattle.krb_exchange_laws.proofs.Windows.{window_is_bounded}
use Rattle.krb_exchange_laws.proofs.told.window_is_bounded.Goals as goal

pub returns : goal.returns
returns c = window_is_bounded
