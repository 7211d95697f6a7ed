use Rattle.krb_record.proofs.Lanes.{ends_picked}
use Rattle.krb_record.proofs.escape.first_and_last_four.Goals as goal

pub returns : goal.returns
returns c = ends_picked 4 c.args.octets.now c.requires
