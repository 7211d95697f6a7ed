use Rattle.krb_text_laws.proofs.Escapes.{principal_text-injective}
use Rattle.krb_text_laws.proofs.text.principal_text_is_injective.Goals as goal

pub returns : goal.returns
returns c = principal_text-injective
