use Rattle.std.proofs.Common.{rules}
use Rattle.krb_packet.proofs.Places.{pushed_index}
use Rattle.krb_packet.proofs.datagrams.Datagrams.push.Goals as goal

pub returns-clause-index : goal.returns-clause-index
returns-clause-index c = pushed_index c.args.self.now.places.items c.insert.new.self.items c.args.self.now.pending.items c.push.new.self.items c.args.at c.len-place.result c.in_ok-pending.pending c.args.pending c.requires.index c.requires.gap c.requires.«open» (search rules) (search rules) (search rules) (search rules)
