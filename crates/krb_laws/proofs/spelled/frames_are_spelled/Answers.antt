use Rattle.krb_laws.proofs.TokenSpellings.{frames_are_spelled}
use Rattle.krb_laws.proofs.spelled.frames_are_spelled.Goals as goal

pub returns : goal.returns
returns c = frames_are_spelled
