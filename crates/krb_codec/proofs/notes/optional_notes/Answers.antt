use Rattle.std.proofs.Common.{◌∙◌}
use Rattle.krb_msg.proofs.Noted.{optional_other-has}
use Rattle.krb_codec.proofs.notes.optional_notes.Goals as goal

pub returns-in-Some : goal.returns-in-Some
returns-in-Some g c =
    rw c.in-Some.is
    (c.notes.ensures ∙ optional_other-has g.T.Item.term (g.T.Item.value c.in-Some.value) c.requires)
