use Rattle.std.proofs.Common.{◌≡◌, ◌++◌, OnOk, subst}
use Rattle.krb_record.specs.Forms.{cell}
use Rattle.krb_text.proofs.Cells.{name_notes, whole_notes}
use Rattle.krb_text.proofs.notes.ShownNotesShown.put_cell.Goals as goal

pub returns-in-Whole : goal.returns-in-Whole
unfolding cell
returns-in-Whole c =
    rw c.in-Whole.is
    (subst
    (λ text. OnOk c.put_cell_of.result (c.put_cell_of.new.text ≡ c.args.text.now ++ text))
    (whole_notes c.args.self.now.0.now)
    c.put_cell_of.ensures)

pub returns-in-Names : goal.returns-in-Names
unfolding cell
returns-in-Names c =
    rw c.in-Names.is
    (subst
    (λ text. OnOk c.put_cell_of-in-Names.result (c.put_cell_of-in-Names.new.text ≡ c.args.text.now ++ text))
    (name_notes c.args.self.now.0.now)
    c.put_cell_of-in-Names.ensures)
