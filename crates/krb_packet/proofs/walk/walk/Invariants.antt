use Rattle.std.proofs.Common.{◌≡◌, ◌-◌}
use Rattle.krb_packet.specs.Contents.{walk}
use Rattle.krb_packet.proofs.walk.walk.Given as goal

abbrev pub invariant-loop : goal.invariant-loop
invariant-loop l = walk l.port (l.most - l.counter) l.header l.packet ≡ walk l.port l.most l.fn.header l.fn.packet
