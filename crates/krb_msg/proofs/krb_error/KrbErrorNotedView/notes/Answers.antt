-- asn1/generate wrote this from asn1/krb5.asn1
use Rattle.std.proofs.Common.{refl, ◌∙◌}
use Rattle.krb_msg.specs.Grammar.{microseconds}
use Rattle.krb_msg.proofs.Noted.{same_option}
use Rattle.krb_msg.proofs.krb_error.KrbErrorNotedView.notes.Goals as goal

pub returns : goal.returns
returns c = rw (c.or-8.ensures, c.or-7.ensures, c.or-6.ensures, c.or-5.ensures, c.or-4.ensures, c.or-3.ensures, c.or-2.ensures, c.or.ensures, c.none.ensures, c.no_optional_view_notes.ensures, c.no_optional_view_notes-2.ensures ∙ same_option microseconds c.args.seen.now.cusec, c.optional_view_notes.ensures, c.optional_view_notes-2.ensures, c.notes.ensures, c.notes-2.ensures, c.optional_view_notes-3.ensures, c.no_optional_view_notes-3.ensures) refl
