use Rattle.std.proofs.Common.{rules}
use Rattle.krb_file.proofs.FieldReaders.{some_rest}
use Rattle.krb_file.proofs.field_reader.FieldReader.expect.Goals as goal

pub returns-else-is_one_of-clause-read : goal.returns-else-is_one_of-clause-read
returns-else-is_one_of-clause-read g c =
    let now = some_rest (g.Self.FieldReader.cursor c.number8.new.self) in
    let a = c.in_ok-octet.ensures.read.from now.rest now.there in
    rw c.refused.ensures (record { octets = a.0; there = a.1; refused = rw (a.2, c.place-place.ensures.value) (search rules) })
