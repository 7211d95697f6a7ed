use Rattle.std.proofs.Common.{ℕ, pos, [], ◌∷◌, refl, sym, ◌∙◌, append_assoc}
use Rattle.krb_msg.specs.Notes.{notes_have}
use Rattle.krb_record.specs.Items.{number_item}
use Rattle.krb_record.proofs.Listed.{listed_one, listed_none}
use Rattle.krb_text.proofs.notes.put_numbers.Goals.{then-has+in_ok-push_str+in_ok-put_note, else-has}
use Rattle.krb_text.proofs.notes.put_numbers.Goals as goal

pub loop-number-preserved : goal.loop-number-preserved
loop-number-preserved c =
    elim c.if-has.branch [
      | then-has+in_ok-push_str+in_ok-put_note w ↦
          let one = listed_one (λ (number : ℕ). number_item c.args.form (pos number)) (notes_have c.args.notes.now) (1 ∷ 2 ∷ 3 ∷ 4 ∷ []) c.loop-number.number-index 0 c.loop-number-test.true (sym c.has.ensures ∙ w.if-has.true) in (
            rw (w.text-is, w.in_ok-put_note.ensures, w.in_ok-push_str.ensures, c.loop-number.invariant.0, c.loop-number.invariant.1, one.0) (simp append_assoc),
            rw (w.separator-is, one.1) refl,
          )
      | else-has w ↦
          let none = listed_none (notes_have c.args.notes.now) (1 ∷ 2 ∷ 3 ∷ 4 ∷ []) c.loop-number.number-index 0 c.loop-number-test.true (sym c.has.ensures ∙ w.if-has.false) in
          rw (w.text-is, w.separator-is, none) c.loop-number.invariant
    ]
