use Rattle.krb_decode_laws.proofs.AlikeInputs.{inputs_are_decoded_alike}
use Rattle.krb_decode_laws.proofs.unencrypted.inputs_are_decoded_alike.Goals as goal

pub returns : goal.returns
returns c = inputs_are_decoded_alike c.unencrypted_changes_nothing.ensures
