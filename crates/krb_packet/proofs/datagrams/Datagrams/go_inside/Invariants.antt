use Rattle.std.proofs.Common.{◌≡◌, ◌-◌}
use Rattle.krb_packet.specs.Fragments.{inside}
use Rattle.krb_packet.specs.Table.{table_of}
use Rattle.krb_packet.specs.inner.Places.{IsIndexed}
use Rattle.krb_packet.proofs.datagrams.Datagrams.go_inside.Given as goal

abbrev pub invariant-loop : goal.invariant-loop
invariant-loop l = IsIndexed l.self × (inside l.port (l.most - l.counter) l.whole (table_of l.self) ≡ inside l.port l.most l.initial.whole (table_of l.initial.self))
