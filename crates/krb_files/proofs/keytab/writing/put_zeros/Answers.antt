use Rattle.std.proofs.Common.{◌∷◌, [], arith, append_assoc}
use Rattle.krb_file.specs.Fields.{zeros}
use Rattle.krb_files.proofs.KeytabSizes.{zeros-more}
use Rattle.krb_files.proofs.keytab.writing.put_zeros.Goals as goal

pub loop-preserved : goal.loop-preserved
loop-preserved c = record {
  items = rw (c.push_reserved.ensures.items, c.loop.invariant.items, zeros-more c.loop.counter) (append_assoc c.args.out.now.items (zeros c.loop.counter) (0 ∷ []));
  len = omega (arith, c.push_reserved.ensures.len);
  capacity = omega (arith, c.push_reserved.ensures.capacity);
}
