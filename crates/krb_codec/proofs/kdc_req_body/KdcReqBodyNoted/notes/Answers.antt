-- asn1/generate wrote this from asn1/krb5.asn1
use Rattle.std.proofs.Common.{refl, ◌∙◌}
use Rattle.krb_msg.specs.Grammar.{int32, kerberos_time}
use Rattle.krb_msg.proofs.Noted.{same_list, same_option}
use Rattle.krb_codec.proofs.kdc_req_body.KdcReqBodyNoted.notes.Goals as goal

pub returns : goal.returns
returns c = rw (c.any_of.ensures, c.any_of-or-10.ensures, c.any_of-or-9.ensures, c.any_of-or-8.ensures, c.any_of-or-7.ensures, c.any_of-or-6.ensures, c.any_of-or-5.ensures, c.any_of-or-4.ensures, c.any_of-or-3.ensures, c.any_of-or-2.ensures, c.any_of-or.ensures, c.any_of-none.ensures, c.notes.ensures, c.optional_notes.ensures, c.notes-2.ensures, c.optional_notes-2.ensures, c.no_optional_notes.ensures ∙ same_option kerberos_time c.args.self.now.from, c.no_optional_notes-2.ensures ∙ same_option kerberos_time c.args.self.now.rtime, c.notes-3.ensures, c.notes-4.ensures ∙ same_list int32 c.args.self.now.etype, c.optional_list_notes.ensures, c.optional_notes-3.ensures, c.optional_list_notes-2.ensures) refl
