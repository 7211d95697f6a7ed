use Rattle.std.proofs.Common.{refl, sym, ap}
use Rattle.krb_c.specs.Judged.{whole_unless}
use Rattle.krb_c.proofs.judging.whole_verdict.Goals as goal

pub returns-in-Err : goal.returns-in-Err
returns-in-Err c = ap whole_unless (sym ((c.in-Err.ensures.refused c.in-Err.refusal).0 refl))
