use Rattle.krb_keytab.specs.Reading.{entry_at}
use Rattle.krb_keytab.proofs.Bounded.{within_read}
use Rattle.krb_keytab.proofs.reading.entry_within.Goals as goal

pub returns-clause-read : goal.returns-clause-read
returns-clause-read g c =
    within_read c.args.size c.place-place.result c.from.result c.end-outer.result entry_at c.in_ok-entry.entry (g.F.FieldReader.cursor c.args.reader.now) (g.F.FieldReader.cursor c.set_end.new.self) (g.F.FieldReader.cursor c.entry.new.reader) (g.F.FieldReader.cursor c.set_end-2.new.self)
    c.end-outer.ensures c.place-place.ensures.value c.from.ensures c.set_end.ensures c.in_ok-entry.ensures.read c.set_end-2.ensures
