use Rattle.krb_codec.proofs.Fitting.{micros_fit}
use Rattle.krb_codec.proofs.scalars.MicrosItem.size.Goals as goal

pub returns : goal.returns
returns c = record { octets = c.size.ensures.octets; fits = micros_fit c.args.self.now c.size.ensures.fits }
