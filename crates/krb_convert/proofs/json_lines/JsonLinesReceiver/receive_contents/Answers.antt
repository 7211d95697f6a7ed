use Rattle.std.proofs.Common.{refl}
use Rattle.std.specs.Prelude.{IsSome}
use Rattle.krb_msg.specs.Views.{message_of_der}
use Rattle.krb_json.specs.Unencrypted.{unencrypted_in}
use Rattle.krb_convert.proofs.DecodedFrames.{message_viewed, not_full, receives-nothing, receives-put}
use Rattle.krb_convert.proofs.json_lines.JsonLinesReceiver.receive_contents.Goals as goal

pub returns-then-is_some : goal.returns-then-is_some
returns-then-is_some c = let full : IsSome c.args.self.now.unencrypted = cc in (c.in-Some.ensures.1, receives-nothing c.args.contents.now c.args.self.now full)

pub put_message-requires-clause-message : goal.put_message-requires-clause-message
put_message-requires-clause-message c = message_viewed c.args.contents.now _ c.in-Some.ensures.0

pub returns : goal.returns
returns c = (c.in-Some.ensures.1, receives-put c.args.contents.now c.args.self.now c.put_message.new.self (unencrypted_in (message_of_der c.args.contents.now)) (not_full c.args.self.now (λ full. cc)) refl c.in_ok-put_message.ensures)
