use Rattle.std.proofs.Common.{◌∙◌, ap, inl, Ok}
use Rattle.krb_der.specs.inner.Numbers.{AreOctets-slice}
use Rattle.krb_msg.specs.Views.{message_der}
use Rattle.krb_judge.proofs.Slices.{message_in, message_not_refused}
use Rattle.krb_values.proofs.Parsed.{are_of, same_message, no_message, as_fault, not_refused_here}
use Rattle.krb_values.proofs.parsing.parse_in.Goals as goal

pub returns-in_err-copy_message-in-Ok-clause-none : goal.returns-in_err-copy_message-in-Ok-clause-none
returns-in_err-copy_message-in-Ok-clause-none c = no_message c.args.profile c.args.octets.now (AreOctets-slice c.args.octets.now c.type_inv.octets)

pub returns-in_ok-copy_message-in-Ok-clause-message : goal.returns-in_ok-copy_message-in-Ok-clause-message
returns-in_ok-copy_message-in-Ok-clause-message c =
    let octets = c.args.octets.now in
    are_of c.args.profile c.in_ok-copy_message-in-Ok.field-0 (message_in c.args.profile octets (AreOctets-slice octets c.type_inv.octets) c.in-Ok.ensures.whole) (ap message_der c.in_ok-copy_message-in-Ok.ensures ∙ c.in-Ok.ensures.message.form)

pub returns-in_ok-copy_message-in-Ok-clause-found : goal.returns-in_ok-copy_message-in-Ok-clause-found
returns-in_ok-copy_message-in-Ok-clause-found c = λ m a. inl (ap Ok (same_message c.in_ok-copy_message-in-Ok.field-0 m (ap message_der c.in_ok-copy_message-in-Ok.ensures ∙ c.in-Ok.ensures.message.form) a.form))

pub returns-in_ok-copy_message-in-Ok-clause-none : goal.returns-in_ok-copy_message-in-Ok-clause-none
returns-in_ok-copy_message-in-Ok-clause-none c = no_message c.args.profile c.args.octets.now (AreOctets-slice c.args.octets.now c.type_inv.octets)

pub returns-in-Err-clause-found : goal.returns-in-Err-clause-found
returns-in-Err-clause-found c = λ m a. not_refused_here c.in-Err.refusal c.in-Err.ensures.refused (message_not_refused c.args.profile m a)

pub returns-in-Err-clause-refused : goal.returns-in-Err-clause-refused
returns-in-Err-clause-refused c = as_fault c.in-Err.refusal c.in-Err.ensures.refused

pub returns-in-Err-clause-none : goal.returns-in-Err-clause-none
returns-in-Err-clause-none c = no_message c.args.profile c.args.octets.now (AreOctets-slice c.args.octets.now c.type_inv.octets)
