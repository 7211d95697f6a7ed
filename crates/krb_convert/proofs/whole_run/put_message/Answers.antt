use Rattle.std.proofs.Common.{sym, ◌∙◌}
use Rattle.krb_json.specs.Unencrypted.{unencrypted_in}
use Rattle.krb_msg.specs.Views.{message_of_der}
use Rattle.krb_convert.proofs.DecodedFrames.{whole-line, whole-path}
use Rattle.krb_convert.proofs.whole_run.put_message.Goals as goal

pub returns-in-Some-clause-put : goal.returns-in-Some-clause-put
returns-in-Some-clause-put c = whole-path c.args.octets.now c.new-lines.result c.put_message.new.self c.new-lines.ensures.text c.new-lines.ensures.none (unencrypted_in (message_of_der c.args.octets.now)) c.in-Some.path c.in_ok-put_message.ensures (sym c.take.ensures.value ∙ c.in-Some.is)

pub returns-clause-put : goal.returns-clause-put
returns-clause-put c = whole-line c.args.octets.now c.new-lines.result c.put_message.new.self c.new-lines.ensures.text c.new-lines.ensures.none (unencrypted_in (message_of_der c.args.octets.now)) c.in_ok-put_message.ensures (sym c.take.ensures.value ∙ c.in-None.is)
