use Rattle.std.proofs.Common.{◌∙◌}
use Rattle.krb_msg.proofs.Noted.{optional_other-has}
use Rattle.krb_msg.proofs.fields.view_notes.optional_view_notes.Goals as goal

pub returns-in-Some : goal.returns-in-Some
returns-in-Some g c =
    rw c.in-Some.is
    (c.notes.ensures ∙ optional_other-has g.T.View.term (g.T.View.value c.in-Some.seen) c.requires.no_list)
