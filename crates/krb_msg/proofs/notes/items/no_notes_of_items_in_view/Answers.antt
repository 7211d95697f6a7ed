use Rattle.std.proofs.Common.{sym, ◌∙◌}
use Rattle.krb_msg.specs.Viewed.{items_of}
use Rattle.krb_msg.proofs.Noted.{same_notes, no_items-have}
use Rattle.krb_msg.proofs.notes.items.no_notes_of_items_in_view.Goals as goal

pub returns : goal.returns
returns g c = c.none.ensures ∙ same_notes (λ note. sym (no_items-have g.T.View.term c.requires (items_of g.T.View.term c.args._items.now.octets.now) note))
