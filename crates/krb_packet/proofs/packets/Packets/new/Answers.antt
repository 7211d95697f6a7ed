use Rattle.std.proofs.Common.{◌≡◌, rules}
use Rattle.krb_packet.proofs.Streams.{starts}
use Rattle.krb_packet.proofs.packets.Packets.new.Goals as goal

pub returns-clause-begins : goal.returns-clause-begins
returns-clause-begins g c = λ file known.
    let most : c.unwrap-limit.result ≡ 16777216 = search rules in
    rw (c.new-2.ensures, most) (starts file (g.R.Read.remaining c.args.reader) known)
