use Rattle.krb_laws.proofs.TokenSpellings.{tokens_are_spelled}
use Rattle.krb_laws.proofs.spelled.tokens_are_spelled.Goals as goal

pub returns : goal.returns
returns c = tokens_are_spelled
