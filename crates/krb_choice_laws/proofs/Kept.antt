-- What is written of the text of a record, in rows and whole.
use Rattle.std.proofs.Common.{◌≡◌, ◌∙◌, ℕ, ◌&&◌, ◌||◌, not, Bool, true, false, cond, List, [], ◌∷◌, map, Option, Some, None, sym, refl, ap, ap₂}
use Rattle.std.specs.List.{AllByRecursion, list_any}
use Rattle.std.specs.Option.{option_map}
use Rattle.std.specs.Prelude.{IfSome, bytes_eq}
use Rattle.krb_record.specs.Forms.{has_inside, kept_form, nothing_wanted, record_text}
use Rattle.krb_record.specs.Values.{Part, Printed}
use Rattle.krb_record.specs.declared.form.Base.{Base}
use Rattle.krb_record.specs.declared.form.Form.TheVariants as form
use Rattle.krb_record.specs.declared.form.Wanted.{Wanted}
use Rattle.krb_choice.specs.Choices.{Choice, Column, Print, Rows, Whole, chooses, chosen_text, has, is_kept, kind_alone, parts_of, rows_text, shown, shown_part}
use Rattle.krb_choice.specs.Marked.{Piece, after_kind, inside_read, is_marked, kind_read, parts_read, pieces, read_pieces, read_record, written}
use Rattle.krb_choice.specs.Wanted.{choice_form, may_be_inside, wanted_by, with_kinds}
use Rattle.krb_choice_laws.specs.Plain.{IsPlain, IsPlainPart}
use Rattle.krb_choice_laws.proofs.Marks.{pieces-spelled}
use Rattle.krb_choice_laws.proofs.Reading.{inside_by, part_by, record-read, record_by}
use Rattle.krb_choice_laws.proofs.Rows.{all-has, parts-any, rows-same}
use Rattle.krb_choice_laws.proofs.Spelled.{record-are, record-spelled, record_pieces}
use Rattle.krb_choice.proofs.Columns.{parts_inside}
use Rattle.krb_choice_laws.proofs.Whole.{any-kind, first-kind, inside_kinds, kinds-are, kinds_of, whole-is}
use Rattle.krb_choice_laws.proofs.Wants.{all-wanted, inside-kept, inside-wanted, kinds-inside}

-- what is read of the text of rows
pub read-is : (w : Wanted) (r : Printed) → IsPlain r → read_record (record_text (form.Rows w) r) ≡ record_by w r
read-is w r plain = ap read_pieces (ap pieces (sym (record-spelled w r)) ∙ pieces-spelled (record_pieces w r) (record-are w r plain)) ∙ record-read w r

-- ---- the kinds of what is inside
none-chosen : (test : List ℕ → Bool) (parts : List Part) → AllByRecursion IsPlainPart parts → ((kind : List ℕ) → may_be_inside kind ≡ true → test kind ≡ true → ⊥) → list_any (λ p. test p.kind) (map shown_part parts) ≡ false
none-chosen test [] h never = refl
none-chosen test (p ∷ others) h never =
    ap₂ (λ a b. a || b) (by (test p.kind) refl) (none-chosen test others h.1 never)
  where
    by : (is : Bool) → test p.kind ≡ is → is ≡ false
    by true e = absurd (never p.kind h.0.is_inside e)
    by false e = refl

-- the kinds of what is inside have no blank
part-kinds : (test : List ℕ → Bool) (parts : List Part) → AllByRecursion IsPlainPart parts → list_any test (map (λ p. kind_alone p.kind) parts) ≡ list_any (λ p. test p.kind) (map shown_part parts)
part-kinds test [] h = refl
part-kinds test (p ∷ others) h = ap₂ (λ k b. test k || b) h.0.word (part-kinds test others h.1)

kinds-any : (test : List ℕ → Bool) (inside : Option (List Part)) → IfSome inside (λ parts. AllByRecursion IsPlainPart parts) → list_any test (inside_kinds inside) ≡ list_any (λ p. test p.kind) (parts_of (option_map (map shown_part) inside))
kinds-any test None h = refl
kinds-any test (Some parts) h = part-kinds test parts h

abbrev chosen_of : List (List ℕ) → List ℕ → Bool
chosen_of kinds kind = list_any (bytes_eq kind) kinds

module _ (kinds : List (List ℕ)) (columns : List Column) where
  abbrev chosen : List ℕ → Bool
  chosen kind = chosen_of kinds kind

  abbrev all : Wanted
  all = wanted_by true kinds columns

  -- if what is inside is not wanted, none of the kinds is one of it
  never-inside : has_inside all ≡ false → (kind : List ℕ) → may_be_inside kind ≡ true → chosen kind ≡ true → ⊥
  never-inside e kind h c = let v = inside-wanted all (inside-kept (with_kinds nothing_wanted true kinds) columns (kinds-inside nothing_wanted kinds kind h c)) in cc

  inside-any : (has : Bool) → has_inside all ≡ has → (inside : Option (List Part)) → IfSome inside (λ parts. AllByRecursion IsPlainPart parts)
      → list_any (λ p. chosen p.kind) (parts_of (inside_by all inside)) ≡ list_any (λ p. chosen p.kind) (parts_of (option_map (map shown_part) inside))
  inside-any has e None h = refl
  inside-any true e (Some parts) h = ap (λ b. list_any (λ p. chosen p.kind) (parts_of (cond b (Some (map (part_by all) parts)) None))) e ∙ parts-any all chosen parts h
  inside-any false e (Some parts) h = ap (λ b. list_any (λ p. chosen p.kind) (parts_of (cond b (Some (map (part_by all) parts)) None))) e ∙ sym (none-chosen chosen parts h (never-inside e))

-- ---- rows
rows-kept : (by_kind : Bool) (kinds : List (List ℕ)) (columns : List Column) (is_last : Bool) (r : Printed) → IsPlain r
    → is_kept (record { by_kind = by_kind; kinds = kinds; print = Rows columns }) is_last (record_by (wanted_by by_kind kinds columns) r) ≡ is_kept (record { by_kind = by_kind; kinds = kinds; print = Rows columns }) is_last (shown r)
rows-kept true kinds columns is_last r plain = ap (λ b. list_any (bytes_eq (kind_alone r.kind)) kinds || b) (inside-any kinds columns (has_inside (wanted_by true kinds columns)) refl r.inside plain.inside)
rows-kept false kinds columns is_last r plain =
    ap (λ b. list_any (bytes_eq (kind_alone r.kind)) kinds && b && (list_any chooses columns || not is_last)) (all-has (wanted_by false kinds columns) r plain columns (all-wanted (with_kinds nothing_wanted false kinds) columns))

pub rows-written : (by_kind : Bool) (kinds : List (List ℕ)) (columns : List Column) (is_last : Bool) (r : Printed) → IsPlain r
    → cond (is_kept (record { by_kind = by_kind; kinds = kinds; print = Rows columns }) is_last (read_record (record_text (form.Rows (wanted_by by_kind kinds columns)) r))) (rows_text columns (read_record (record_text (form.Rows (wanted_by by_kind kinds columns)) r))) []
    ≡ cond (is_kept (record { by_kind = by_kind; kinds = kinds; print = Rows columns }) is_last (shown r)) (rows_text columns (shown r)) []
rows-written by_kind kinds columns is_last r plain =
    let w = wanted_by by_kind kinds columns in
    ap (λ of. cond (is_kept (record { by_kind = by_kind; kinds = kinds; print = Rows columns }) is_last of) (rows_text columns of) []) (read-is w r plain)
    ∙ ap₂ (λ (b : Bool) (l : List ℕ). cond b l []) (rows-kept by_kind kinds columns is_last r plain) (rows-same w r plain columns (all-wanted (with_kinds nothing_wanted by_kind kinds) columns))

-- ---- whole
module _ (kinds : List (List ℕ)) (base : Base) (r : Printed) (plain : IsPlain r) where
  abbrev pub whole_pieces : List Piece
  whole_pieces = pieces (record_text (kept_form base) r)

  pub whole-parts : (kind_read whole_pieces ≡ kind_alone r.kind) × (kinds_of (after_kind whole_pieces) ≡ inside_kinds r.inside)
  whole-parts = first-kind whole_pieces (kind_alone r.kind) (inside_kinds r.inside) (kinds-are base r plain)

  whole-inside : list_any (λ p. chosen_of kinds p.kind) (parts_of (inside_read (list_any (is_marked 4) whole_pieces) (parts_read (after_kind whole_pieces)))) ≡ list_any (λ p. chosen_of kinds p.kind) (parts_of (option_map (map shown_part) r.inside))
  whole-inside =
      ap (list_any (λ p. chosen_of kinds p.kind)) (parts_inside (list_any (is_marked 4) whole_pieces) (parts_read (after_kind whole_pieces)))
      ∙ any-kind (chosen_of kinds) (after_kind whole_pieces) ∙ ap (list_any (chosen_of kinds)) whole-parts.1 ∙ kinds-any (chosen_of kinds) r.inside plain.inside

  whole-kept : (by_kind is_last : Bool) → is_kept (record { by_kind = by_kind; kinds = kinds; print = Whole base }) is_last (read_pieces whole_pieces) ≡ is_kept (record { by_kind = by_kind; kinds = kinds; print = Whole base }) is_last (shown r)
  whole-kept true is_last = ap₂ (λ k b. chosen_of kinds k || b) whole-parts.0 whole-inside
  whole-kept false is_last = ap (λ k. chosen_of kinds k && true && (false || not is_last)) whole-parts.0

-- of its text and of itself alike
pub kept-is : (c : Choice) (is_last : Bool) (r : Printed) → IsPlain r → is_kept c is_last (read_record (record_text (choice_form c) r)) ≡ is_kept c is_last (shown r)
unfolding choice_form
kept-is c is_last r plain = by c.print
  where
    by : (print : Print)
        → is_kept (record { by_kind = c.by_kind; kinds = c.kinds; print = print }) is_last (read_record (record_text (choice_form (record { by_kind = c.by_kind; kinds = c.kinds; print = print })) r))
        ≡ is_kept (record { by_kind = c.by_kind; kinds = c.kinds; print = print }) is_last (shown r)
    by (Rows columns) =
        let choice : Choice = record { by_kind = c.by_kind; kinds = c.kinds; print = Rows columns } in
        ap (is_kept choice is_last) (read-is (wanted_by c.by_kind c.kinds columns) r plain) ∙ rows-kept c.by_kind c.kinds columns is_last r plain
    by (Whole base) = whole-kept c.kinds base r plain c.by_kind is_last

pub written-is : (c : Choice) (is_last : Bool) (r : Printed) → IsPlain r → written c is_last (record_text (choice_form c) r) ≡ chosen_text c is_last r
unfolding written chosen_text choice_form
written-is c is_last r plain = by c.print
  where
    by : (print : Print)
        → written (record { by_kind = c.by_kind; kinds = c.kinds; print = print }) is_last (record_text (choice_form (record { by_kind = c.by_kind; kinds = c.kinds; print = print })) r)
        ≡ chosen_text (record { by_kind = c.by_kind; kinds = c.kinds; print = print }) is_last r
    by (Rows columns) = rows-written c.by_kind c.kinds columns is_last r plain
    by (Whole base) = ap₂ (λ (b : Bool) (l : List ℕ). cond b l []) (whole-kept c.kinds base r plain c.by_kind is_last) (whole-is base r plain)
