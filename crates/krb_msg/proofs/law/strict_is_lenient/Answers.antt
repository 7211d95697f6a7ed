use Rattle.krb_der.specs.declared.profile.Profile.TheVariants.{Strict}
use Rattle.krb_msg.proofs.Judged.{lenient_whole}
use Rattle.krb_msg.proofs.law.strict_is_lenient.Goals as goal

pub returns : goal.returns
returns c = lenient_whole Strict
