use Rattle.std.proofs.Common.{arith, ap, ◌∙◌}
use Rattle.krb_record.specs.Text.{hex}
use Rattle.krb_record.proofs.Hexadecimal.{eight_hex_is}
use Rattle.krb_record.proofs.ticket_flags.put_eight_hex.Goals as goal

pub returns : goal.returns
returns c =
    let digits = ap hex c.to_be_bytes.ensures ∙ eight_hex_is c.args.number (omega (arith, c.ranges.number.fits)) in
    rw digits at c.put_hex.ensures
