use Rattle.krb_capture.proofs.Styles.{said_after}
use Rattle.krb_capture.proofs.decoded.put_unencrypted.Goals as goal

pub returns : goal.returns
returns c = said_after _ _ _ _ _ _ c.in_ok-push_pair.ensures c.in_ok-put_captured_opening.ensures
