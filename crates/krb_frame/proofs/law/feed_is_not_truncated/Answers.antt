use Rattle.krb_frame.proofs.Refusals.{feed_is_not_truncated}
use Rattle.krb_frame.proofs.law.feed_is_not_truncated.Goals as goal

pub returns : goal.returns
returns c = feed_is_not_truncated
