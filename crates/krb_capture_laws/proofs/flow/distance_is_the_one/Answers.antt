use Rattle.krb_capture_laws.proofs.Distances.{separates, only_one}
use Rattle.krb_capture_laws.proofs.flow.distance_is_the_one.Goals as goal

pub returns : goal.returns
returns c = λ expected number small fits. (separates expected number small fits, only_one expected number small fits)
