use Rattle.std.proofs.Common.{◌≡◌, ◌++◌, pos, take}
use Rattle.std.specs.List.{filter}
use Rattle.krb_msg.specs.Notes.{notes_have}
use Rattle.krb_record.specs.Items.{number_item}
use Rattle.krb_record.proofs.Listed.{listed, separator_after}
use Rattle.krb_text.proofs.notes.put_numbers.Given as goal

-- the numbers so far of notes that hold, and what precedes the next
abbrev pub invariant-loop-number : goal.invariant-loop-number
invariant-loop-number l =
    (l.text ≡ l.initial.text ++ listed (λ number. number_item l.form (pos number)) (filter (notes_have l.notes) (take l.number-index l.number-items)))
    × (l.separator ≡ separator_after (filter (notes_have l.notes) (take l.number-index l.number-items)))
