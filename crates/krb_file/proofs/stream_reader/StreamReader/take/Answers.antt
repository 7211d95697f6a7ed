use Rattle.std.proofs.Common.{sym, Some, arith}
use Rattle.krb_file.proofs.Taken.{Takes-asked, none_long}
use Rattle.krb_file.proofs.stream_reader.StreamReader.take.Goals as goal

pub returns-clause-taken : goal.returns-clause-taken
returns-clause-taken g c =
    let s = c.self.inside in
    rw (sym c.self.view_is)
    (Takes-asked (g.R.Read.remaining s.reader) (g.R.Read.remaining c.ask.new.reader) s.ended s.ahead s.place c.in_ok-count.count (record { end = s.end; limit = Some s.limit }) c.ask.new.octets c.if-self.false (none_long s.ahead (omega (arith, c.count.ensures.count, c.if-count-gt0.false))) c.in_ok-count.ensures.count c.in_ok-count.ensures.taken c.in_ok-count.ensures.end)
