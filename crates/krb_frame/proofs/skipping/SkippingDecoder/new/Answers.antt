use Rattle.std.proofs.Common.{refl}
use Rattle.krb_msg.specs.Grammar.{messages}
use Rattle.krb_frame.proofs.Skips.{goes_on-decoded}
use Rattle.krb_frame.proofs.skipping.SkippingDecoder.new.Goals as goal

pub returns-clause-goes_on : goal.returns-clause-goes_on
returns-clause-goes_on c = λ stream cleared h. goes_on-decoded (messages c.args.decoder.profile) c.args.decoder _ stream cleared refl h
