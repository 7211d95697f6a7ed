-- asn1/generate wrote this from asn1/krb5.asn1
use Rattle.std.proofs.Common.{refl, ◌∙◌}
use Rattle.krb_msg.specs.Grammar.{kerberos_string, kerberos_time, octet_string}
use Rattle.krb_msg.proofs.Noted.{same_option}
use Rattle.krb_codec.proofs.krb_error.KrbErrorNoted.notes.Goals as goal

pub returns : goal.returns
returns c = rw (c.any_of.ensures, c.any_of-or-7.ensures, c.any_of-or-6.ensures, c.any_of-or-5.ensures, c.any_of-or-4.ensures, c.any_of-or-3.ensures, c.any_of-or-2.ensures, c.any_of-or.ensures, c.any_of-none.ensures, c.no_optional_notes.ensures ∙ same_option kerberos_time c.args.self.now.ctime, c.no_optional_notes-2.ensures, c.optional_notes.ensures ∙ same_option kerberos_string c.args.self.now.crealm, c.optional_notes-2.ensures, c.notes.ensures, c.notes-2.ensures, c.optional_notes-3.ensures ∙ same_option kerberos_string c.args.self.now.e_text, c.no_optional_notes-3.ensures ∙ same_option octet_string c.args.self.now.e_data) refl
