use Rattle.krb_msg.specs.Grammar.{messages}
use Rattle.std.proofs.Common.{sym, ◌∙◌}
use Rattle.krb_frame.proofs.GoingOn.{keeps, gives-up}
use Rattle.krb_frame.proofs.decoder.Decoder.skip.Goals as goal

pub returns-in-None : goal.returns-in-None
returns-in-None c = keeps (messages c.args.self.now.profile) c.args.self.now (sym c.rest_to_come.ensures ∙ c.in-None.is)

pub returns-in-Some : goal.returns-in-Some
returns-in-Some c = gives-up (messages c.args.self.now.profile) c.args.self.now c.forget.new.self _ (sym c.rest_to_come.ensures ∙ c.in-Some.is) c.forget.ensures.left c.forget.ensures.ample
