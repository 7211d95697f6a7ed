use Rattle.std.proofs.Common.{◌≡◌, ◌-◌}
use Rattle.krb_packet.specs.Contents.{extensions}
use Rattle.krb_packet.proofs.internet.extensions.Given as goal

abbrev pub invariant-loop : goal.invariant-loop
invariant-loop l = extensions (l.most - l.counter) l.kind l.packet ≡ extensions l.most l.fn.kind l.fn.packet
