use Rattle.krb_registry.proofs.Names.{name_is_plain}
use Rattle.krb_registry.proofs.law.names_are_plain.Goals as goal

pub returns : goal.returns
returns c = name_is_plain
