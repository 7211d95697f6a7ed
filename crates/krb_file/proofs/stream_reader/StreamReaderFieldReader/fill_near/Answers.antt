use Rattle.std.proofs.Common.{sym, refl, None, length}
use Rattle.krb_file.specs.FieldReaders.{left_of}
use Rattle.krb_file.proofs.Taken.{near-read}
use Rattle.krb_file.proofs.stream_reader.StreamReaderFieldReader.fill_near.Goals as goal

pub returns-clause-read : goal.returns-clause-read
returns-clause-read g c = λ _.
    let s = c.self.inside in
    rw (sym c.self.view_is)
    (near-read None s.near (length c.args.octets.now) (length c.fill.new.octets) s.ahead c.fill.new.self c.fill.new.octets (left_of s.ended (g.R.Read.remaining s.reader)) s.place s.end s.limit c.self.invariant.2 c.if-octets-self.false refl c.fill.ensures c.fill.auto.octets refl)
