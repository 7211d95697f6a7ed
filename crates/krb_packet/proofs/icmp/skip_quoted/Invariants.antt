use Rattle.std.proofs.Common.{◌≡◌, ◌-◌}
use Rattle.krb_packet.specs.Icmp.{skip_quoted}
use Rattle.krb_packet.proofs.icmp.skip_quoted.Given as goal

abbrev pub invariant-loop : goal.invariant-loop
invariant-loop l = skip_quoted (l.most - l.counter) l.kind l.packet ≡ skip_quoted l.most l.fn.kind l.fn.packet
