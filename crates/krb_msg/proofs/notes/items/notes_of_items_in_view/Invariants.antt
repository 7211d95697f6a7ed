use Rattle.std.proofs.Common.{◌≡◌, length}
use Rattle.std.specs.List.{list_any}
use Rattle.krb_msg.specs.Notes.{has, notes_by, either}
use Rattle.krb_msg.specs.Viewed.{AreViewed, items_of}
use Rattle.krb_msg.proofs.notes.items.notes_of_items_in_view.Given as goal

-- the notes so far, and those of the items that are left
abbrev pub invariant-items : goal.invariant-items
invariant-items g l =
    AreViewed g.T.View.term l.rest.octets.now
    × (either l.notes (notes_by (λ note. list_any (has note g.T.View.term) (items_of g.T.View.term l.rest.octets.now)))
    ≡ notes_by (λ note. list_any (has note g.T.View.term) (items_of g.T.View.term l.initial.rest.octets.now)))

abbrev pub decreases-items : goal.decreases-items
decreases-items g l = length l.rest.octets.now
