use Rattle.krb_decode_laws.proofs.AlikeStreams.{streams_are_decoded_alike}
use Rattle.krb_decode_laws.proofs.unencrypted.streams_are_decoded_alike.Goals as goal

pub returns : goal.returns
returns c = streams_are_decoded_alike c.unencrypted_changes_nothing.ensures c.der_is_prefix_free.ensures
