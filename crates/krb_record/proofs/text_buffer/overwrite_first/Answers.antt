use Rattle.std.proofs.Common.{◌≡◌, length, take, arith, length-take-le}
use Rattle.std.proofs.lemmas.Simd.{take_more_put_chunk}
use Rattle.krb_record.proofs.text_buffer.overwrite_first.Goals as goal

pub returns : goal.returns
returns g c =
    let front = take g.row.N c.args.octets.now in
    let count : length front ≡ g.row.N = length-take-le g.row.N c.args.octets.now c.requires.many in
    take_more_put_chunk c.args.place c.args.to.now front _ (omega (arith, count)) c.requires.fits
