use Rattle.krb_codec.proofs.Fitting.{flags_fit}
use Rattle.krb_codec.proofs.scalars.FlagsItem.size.Goals as goal

pub returns : goal.returns
returns c = record { octets = c.size.ensures.octets; fits = flags_fit c.args.self.now c.size.ensures.fits }
