use Rattle.std.proofs.Common.{arith, ◌∙◌}
use Rattle.krb_record.proofs.Hexadecimal.{four_octets_are}
use Rattle.krb_record.proofs.status.put_digits.Goals as goal

pub returns : goal.returns
returns c =
    let octets = c.to_be_bytes.ensures ∙ four_octets_are c.args.number (omega (arith, c.ranges.number.fits)) in
    rw octets at c.put_hex.ensures
