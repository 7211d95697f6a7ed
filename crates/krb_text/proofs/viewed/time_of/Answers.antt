use Rattle.krb_der.proofs.Shapes.{ascii-from_time}
use Rattle.krb_text.proofs.viewed.time_of.Goals as goal

pub new-requires : goal.new-requires
new-requires c = ascii-from_time 14 _ c.requires
