use Rattle.std.proofs.Common.{length, ◌-◌, arith}
use Rattle.std.proofs.lemmas.List.{take_rest}
use Rattle.krb_record.proofs.Copies.{ends_copied}
use Rattle.krb_record.proofs.text_buffer.overwrite_ends.Goals as goal

pub returns : goal.returns
returns g c =
    let others = length c.args.octets.now - g.row.N in
    ends_copied c.args.place g.row.N others c.args.to.now c.overwrite_first.new.to c.overwrite_first-2.new.to c.args.octets.now
    (omega (arith, c.requires.fits)) (omega (arith, c.requires.many, c.requires.few)) (omega (arith, c.requires.many)) c.overwrite_first.ensures
    (rw (take_rest c.args.octets.now others) at c.overwrite_first-2.ensures)
