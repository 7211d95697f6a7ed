use Rattle.std.proofs.Common.{Some, sym, arith}
use Rattle.krb_capture.proofs.Noted.{noted-set}
use Rattle.krb_capture.proofs.numbers.Numbers.insert.Goals as goal

pub invariant_of-self-2 : goal.invariant_of-self-2
invariant_of-self-2 c =
    noted-set c.self.inside.map.entries c.insert.new.self.entries c.args.flow c.in_ok-insert.ensures.updates.2 c.self.inside.recent c.place_of.result (Some (record { flow = c.args.flow; number = c.args.number })) c.self.invariant c.place_of.ensures.value (omega arith)
    (sym c.place_of.ensures.value, c.in_ok-insert.ensures.updates.1)
