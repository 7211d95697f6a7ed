use Rattle.std.proofs.Common.{◌∙◌, ℕ, Vec, Global, ap, sym}
use Rattle.krb_decode.specs.inner.Sorter.{taken}
use Rattle.krb_decode.proofs.Sorters.{sorts-written}
use Rattle.krb_decode.proofs.sorting.Sorter.take.Goals as goal

pub returns-then-goes_to_message-clause-sorts : goal.returns-then-goes_to_message-clause-sorts
returns-then-goes_to_message-clause-sorts g c = λ before given s.
    let self = c.args.self.now in let new = c.write_lines.new.self in let e = c.write_lines.ensures in
    sorts-written (g.T.Tell.IsTold c.args.teller.now) before (g.W.Write.contents c.args.writer.now) given self.is_within self.begun.items self.has_told s
    (g.W.Write.contents c.write_lines.new.writer) c.args.text.now (taken c.write_lines.result c.args.text.now) new.is_within new.begun.items new.has_told
    (sym c.goes_to_message.ensures ∙ c.if-goes_to_message.true) e.written e.of_messages e.within (ap (λ (v : Vec ℕ Global). v.items) e.same.0) e.same.1
