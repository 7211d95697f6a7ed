use Rattle.std.proofs.Common.{arith}
use Rattle.krb_files.proofs.KeytabSizes.{size-hole}
use Rattle.krb_files.proofs.keytab.writing.put_record.Goals as goal

pub put_hole-requires : goal.put_hole-requires
put_hole-requires c = omega (arith, size-hole c.args.record.now c.in-Hole.hole c.in-Hole.is, c.requires.spare_capacity)
