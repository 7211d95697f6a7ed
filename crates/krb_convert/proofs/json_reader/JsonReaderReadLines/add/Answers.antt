use Rattle.std.proofs.Common.{◌≡◌, ◌+◌, ◌<◌, ◌≤◌, Some, ap, arith, length, refl}
use Rattle.krb_convert.specs.Encoding.{LongLine, most_of_line}
use Rattle.krb_convert.proofs.EncodedLines.{adds-last, adds-some}
use Rattle.krb_convert.proofs.json_reader.JsonReaderReadLines.add.Goals as goal

pub returns-then-len-most-clause-added : goal.returns-then-len-most-clause-added
returns-then-len-most-clause-added c =
    let most : c.most_of_line-most.result ≡ most_of_line c.args.self.now.request.limit = c.most_of_line-most.ensures in
    let short : length c.extend_from_slice.new.self.items ≤ most_of_line c.args.self.now.request.limit = omega (arith, c.if-len-most.true, c.len.ensures, c.extend_from_slice.new.self.ok.0, most) in
    adds-some c.args.self.now _ c.args.octets.now c.requires.open.0 c.in_ok-extend_from_slice.ensures.items refl refl refl refl refl short

pub returns-clause-added : goal.returns-clause-added
returns-clause-added c =
    let most : c.most_of_line-most.result ≡ most_of_line c.args.self.now.request.limit = c.most_of_line-most.ensures in
    let long : most_of_line c.args.self.now.request.limit < length c.extend_from_slice.new.self.items = omega (arith, c.if-len-most.false, c.len.ensures, c.extend_from_slice.new.self.ok.0, most) in
    adds-last c.args.self.now _ c.args.octets.now c.requires.open.0 c.in_ok-extend_from_slice.ensures.items refl refl refl (ap (λ m. Some (LongLine (c.args.self.now.lines + 1) m)) most) long
