use Rattle.krb_codec.proofs.scalars.Int32Item.size.Goals as goal

pub returns : goal.returns
returns c = record { octets = c.size.ensures.octets; fits = c.size.ensures.fits }
