use Rattle.std.proofs.Common.{◌≡◌, ◌+◌, sym, ap, arith, length, length-append}
use Rattle.krb_file.specs.FieldReaders.{left_of}
use Rattle.krb_file.proofs.Taken.{near-left, near-octets}
use Rattle.krb_file.proofs.stream_reader.StreamReaderFieldReader.octets.Goals as goal

pub invariant_of-self-2 : goal.invariant_of-self-2
invariant_of-self-2 g c =
    let s = c.self.inside in
    let octets = c.copy.new.copied.items in
    let long : length s.ahead ≡ c.args.size + length c.copy.new.self = omega (arith, ap length c.in_ok-copy.ensures.given, length-append octets c.copy.new.self, c.in_ok-copy.ensures.count) in
    (omega (arith, c.self.invariant.0, long), c.self.invariant.1, near-left s.near c.args.size (length s.ahead) (length c.copy.new.self) s.place s.end s.limit c.self.invariant.2 c.if-size-self.false long)

pub returns-clause-read : goal.returns-clause-read
returns-clause-read g c =
    let s = c.self.inside in
    rw (sym c.self.view_is)
    (near-octets s.near c.args.size s.ahead c.copy.new.self c.copy.new.copied.items (left_of s.ended (g.R.Read.remaining s.reader)) s.place s.end s.limit c.self.invariant.2 c.if-size-self.false c.in_ok-copy.ensures.given c.in_ok-copy.ensures.count)
