use Rattle.krb_laws.proofs.TokenOpened.{layers_are_opened}
use Rattle.krb_laws.proofs.tokens.layers_are_opened.Goals as goal

pub returns : goal.returns
returns c = layers_are_opened
