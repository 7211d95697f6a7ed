use Rattle.std.proofs.Common.{sym, ◌∙◌, Some}
use Rattle.krb_file.proofs.Taken.{Takes-seen, none_long}
use Rattle.krb_file.proofs.stream_reader.StreamReader.read_ahead.Goals as goal

pub returns-in_ok-refill-clause-same : goal.returns-in_ok-refill-clause-same
returns-in_ok-refill-clause-same g c =
    let s = c.self.inside in
    rw (sym c.self.view_is)
    (Takes-seen (g.R.Read.remaining s.reader) (g.R.Read.remaining c.refill.new.reader) s.ended s.ahead c.refill.new.self s.place c.count-count.result (record { end = s.end; limit = Some s.limit }) c.if-not-self.true (none_long s.ahead (sym c.count.ensures.count ∙ c.if-count-eq0.true)) c.count-count.ensures.count c.in_ok-refill.ensures.taken c.in_ok-refill.ensures.end)
