use Rattle.krb_codec.proofs.scalars.OctetsItem.size.Goals as goal

pub returns : goal.returns
returns c = record { octets = c.size.ensures.octets; fits = c.size.ensures.fits }
