use Rattle.krb_registry.proofs.Names.{all_plain}
use Rattle.krb_record.proofs.flags.put_names.Goals as goal

pub first_set-requires : goal.first_set-requires
first_set-requires c = rw c.rows.ensures (all_plain c.args.registry)
