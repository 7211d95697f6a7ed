use Rattle.std.proofs.Common.{arith, subst}
use Rattle.std.specs.Prelude.{IfOk}
use Rattle.krb_tool.specs.Messages.{OneRecord, Puts}
use Rattle.krb_tool.proofs.Messages.{opened-listing}
use Rattle.krb_tool.proofs.message_input.MessageInput.put_octets.Goals as goal

pub returns-in-Message-clause-put : goal.returns-in-Message-clause-put
returns-in-Message-clause-put c =
    subst (λ (listing : OneRecord). IfOk c.put_message.result (Puts c.args.self.now.form c.args.text.now c.put_message.new.text listing))
    (opened-listing c.args.self.now c.args.spelling c.args.octets.now c.open-opened.result _ (omega arith) c.open-opened.ensures.opened c.in-Message.is)
    c.put_message.ensures.put
