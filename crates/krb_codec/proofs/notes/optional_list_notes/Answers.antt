use Rattle.std.proofs.Common.{◌∙◌}
use Rattle.krb_msg.proofs.Noted.{optional-has}
use Rattle.krb_codec.proofs.notes.optional_list_notes.Goals as goal

pub returns-in-Some : goal.returns-in-Some
returns-in-Some g c =
    rw c.in-Some.is
    (c.or.ensures ∙ rw (c.of_empty_list.ensures, c.is_empty_list.ensures, c.notes.ensures) (optional-has g.T.Item.term (g.T.Item.value c.in-Some.value)))
