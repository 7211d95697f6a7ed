use Rattle.krb_codec.proofs.Fitting.{string_fits}
use Rattle.krb_codec.proofs.scalars.KStringItem.size.Goals as goal

pub returns : goal.returns
returns c = record { octets = c.size.ensures.octets; fits = string_fits c.args.self.now c.size.ensures.fits }
