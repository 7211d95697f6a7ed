use Rattle.krb_json.proofs.Fit.{term-fits}
use Rattle.krb_message_laws.proofs.message_json.spelled_fits.Goals as goal

pub returns : goal.returns
returns c term names path j value named is = term-fits term names named path j value is
