use Rattle.std.proofs.Common.{◌≡◌, take}
use Rattle.std.specs.List.{list_any}
use Rattle.krb_msg.specs.Notes.{has, notes_by}
use Rattle.krb_codec.proofs.notes.items.notes_of_items.Given as goal

-- the notes of the values so far
abbrev pub invariant-loop-value : goal.invariant-loop-value
invariant-loop-value g l = l.notes ≡ notes_by (λ note. list_any (λ value. has note g.T.Item.term (g.T.Item.value value)) (take l.value-index l.value-items))
