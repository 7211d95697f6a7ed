use Rattle.std.proofs.Common.{length, Some, refl, arith, ap, ◌∙◌}
use Rattle.krb_record.specs.Refusals.{known_path}
use Rattle.krb_tool.proofs.Messages.{short-ticket-path}
use Rattle.krb_tool.proofs.message_input.MessageInput.ticket_path.Goals as goal

pub returns-clause-path : goal.returns-clause-path
returns-clause-path c = ap (known_path c.args.self.now.form) (ap Some c.in_ok-ticket_path.ensures ∙ short-ticket-path c.args.self.now.profile c.args.octets.now c.args.refusal (length c.args.octets.now) c.min-prefix.result (omega arith) refl c.min-prefix.ensures)
