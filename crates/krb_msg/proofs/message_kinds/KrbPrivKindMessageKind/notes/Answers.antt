-- asn1/generate wrote this from asn1/krb5.asn1
use Rattle.std.proofs.Common.{◌∙◌}
use Rattle.krb_msg.specs.Grammar.{krb_priv}
use Rattle.krb_msg.specs.declared.message_view.MessageView.TheVariants as view
use Rattle.krb_msg.proofs.KindLaws.{message_value-seen}
use Rattle.krb_msg.proofs.Noted.{same_value}
use Rattle.krb_msg.proofs.message_kinds.KrbPrivKindMessageKind.notes.Goals as goal

pub returns : goal.returns
returns c = c.notes.ensures ∙ same_value krb_priv (message_value-seen (view.KrbPriv c.args.view.now) c.requires)
