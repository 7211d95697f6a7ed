use Rattle.std.proofs.Common.{◌∙◌}
use Rattle.krb_msg.proofs.Noted.{optional-has}
use Rattle.krb_msg.proofs.fields.view_notes.optional_list_view_notes.Goals as goal

pub returns-in-Some : goal.returns-in-Some
returns-in-Some g c =
    rw c.in-Some.is
    (c.or.ensures ∙ rw (c.of_empty_list.ensures, c.is_empty_list.ensures, c.notes.ensures) (optional-has g.T.View.term (g.T.View.value c.in-Some.seen)))
