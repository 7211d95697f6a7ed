use Rattle.std.proofs.Common.{◌≤◌, length, rules}
use Rattle.krb_packet.proofs.Places.{no_box}
use Rattle.krb_packet.proofs.datagrams.Datagrams.compare.Goals as goal

pub returns-in-None : goal.returns-in-None
returns-in-None c =
    let none : length c.args.self.now.pending.items ≤ c.args.place = search rules in
    no_box c.args.self.now.pending.items c.args.place c.args.original.now none
