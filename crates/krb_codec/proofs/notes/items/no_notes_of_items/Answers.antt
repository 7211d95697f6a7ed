use Rattle.std.proofs.Common.{map, sym, ◌∙◌}
use Rattle.krb_msg.proofs.Noted.{same_notes, no_items-have}
use Rattle.krb_codec.proofs.notes.items.no_notes_of_items.Goals as goal

pub returns : goal.returns
returns g c = c.none.ensures ∙ same_notes (λ note. sym (no_items-have g.T.Item.term c.requires (map g.T.Item.value c.args._values.now) note))
