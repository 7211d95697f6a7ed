use Rattle.krb_msg.specs.Grammar.{messages}
use Rattle.krb_frame.proofs.Feeding.{HasDecoded-new}
use Rattle.krb_frame.proofs.decoder.Decoder.with_profile.Goals as goal

pub returns-clause-decoded : goal.returns-clause-decoded
returns-clause-decoded c = rw c.over.ensures (HasDecoded-new (messages c.args.profile) _ c.args.limit _ _)
