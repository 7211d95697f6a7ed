use Rattle.std.proofs.Common.{arith, ◌∙◌}
use Rattle.krb_record.proofs.Hexadecimal.{four_octets_are}
use Rattle.krb_record.proofs.ticket_flags.put_object.Goals as goal

pub returns : goal.returns
returns c =
    let octets = c.to_be_bytes.ensures ∙ four_octets_are c.args.flags (omega (arith, c.ranges.flags.fits)) in
    rw octets at c.put_flags_object.ensures
