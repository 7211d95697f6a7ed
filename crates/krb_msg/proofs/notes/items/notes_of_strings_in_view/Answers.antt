use Rattle.std.proofs.Common.{nat_lt, sym, ap, ◌∙◌}
use Rattle.std.specs.List.{list_any, flat_map}
use Rattle.krb_msg.specs.Grammar.{kerberos_string}
use Rattle.krb_msg.specs.Term.{der}
use Rattle.krb_msg.specs.Viewed.{items_of}
use Rattle.krb_msg.proofs.FieldViews.{same_contents}
use Rattle.krb_msg.proofs.HighOctets.{no_high_strings}
use Rattle.krb_msg.proofs.Noted.{same_notes}
use Rattle.krb_msg.proofs.notes.items.notes_of_strings_in_view.Goals as goal

pub returns-else-has_high_octet : goal.returns-else-has_high_octet
returns-else-has_high_octet c =
    let octets = c.args.items.now.octets.now in
    let strings = items_of kerberos_string octets in
    let none = sym (ap (list_any (λ octet. nat_lt 0x7F octet)) (same_contents 0x30 octets (flat_map (der kerberos_string) strings) c.requires.items.form)) ∙ sym c.has_high_octet.ensures ∙ c.if-has_high_octet.false in
    c.none.ensures ∙ same_notes (λ note. sym (no_high_strings strings none note))
