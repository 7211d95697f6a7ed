use Rattle.std.proofs.Common.{◌∙◌, ◌+◌, ap, append_assoc, length, take}
use Rattle.krb_record.proofs.Copies.{put_between}
use Rattle.krb_record.proofs.text_buffer.put_between.Goals as goal

pub returns : goal.returns
returns c =
    simp append_assoc
    (ap (take (c.args.used + length c.args.octets.now)) (simp append_assoc at c.overwrite.ensures.all)
    ∙ put_between c.args.used c.args.place c.args.to.now c.copy_within.new.self c.args.octets.now c.requires.place c.requires.fits c.copy_within.ensures.after)
