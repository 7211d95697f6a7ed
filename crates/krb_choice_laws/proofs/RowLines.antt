-- Rows of records whose texts are printable are lines of printable cells.
use Rattle.std.proofs.Common.{◌≡◌, ℕ, zero, suc, ◌==◌, ◌&&◌, nat_lt, Bool, true, false, cond, List, [], ◌∷◌, ◌++◌, length, map, Option, Some, None, sym, refl, ap, codes}
use Rattle.std.proofs.lemmas.List.{length-map}
use Rattle.std.proofs.lemmas.List.Folds.{flat_map-map}
use Rattle.std.specs.List.{AllByRecursion, filter, flat_map, slice_get}
use Rattle.std.specs.Option.{option_map}
use Rattle.std.specs.Prelude.{IfSome, bytes_eq}
use Rattle.krb_record.specs.Forms.{cell}
use Rattle.krb_record.specs.Text.{IsPrintable, joined, line_feed}
use Rattle.krb_record.specs.Values.{Field, Part, Printed}
use Rattle.krb_record.specs.declared.path.Path.{Path}
use Rattle.krb_record.proofs.Printable.{word}
use Rattle.krb_choice.specs.Choices.{Column, Inside, Kind, Member, ShownPart, Shows, cell_in, cell_of, cell_within, inside_cell, is_of, kind_alone, own_cell, part_cell, parts_of, repeated, row_text, shown, shown_field, shown_part}
use Rattle.krb_choice_laws.specs.Laws.{IsRowOf}
use Rattle.krb_choice_laws.specs.Plain.{ArePlain, IsPlain, IsPlainPart}
use Rattle.krb_choice_laws.proofs.Spelled.{prints}

dash : IsPrintable (codes "-")
dash = (word (codes "-") refl).all

alone : (kind : List ℕ) → IsPrintable kind → IsPrintable (kind_alone kind)
alone [] h = tt
alone (c ∷ others) h = elim (c == 32) as (λ b. IsPrintable (cond b [] (c ∷ kind_alone others))) [ true ↦ tt | false ↦ (h.0, alone others h.1) ]

pub all-plain : (xs ys : List Field) → ArePlain xs → ArePlain ys → ArePlain (xs ++ ys)
all-plain [] ys h k = k
all-plain (x ∷ xs) ys h k = (h.0, all-plain xs ys h.1 k)

field-cell : (name : List ℕ) (path : Path) (fields : List Field) → ArePlain fields → IsPrintable (cell_of name path (map shown_field fields))
field-cell name path [] h = dash
field-cell name path (f ∷ others) h =
    elim (bytes_eq f.name name) as (λ b. IsPrintable (cond b (cell path f.value) (cell_of name path (map shown_field others)))) [ true ↦ h.0.cells path | false ↦ field-cell name path others h.1 ]

one-part : (shows : Shows) (p : Part) → IsPlainPart p → IsPrintable (part_cell shows (Some (shown_part p)))
one-part Kind p h = h.kind
one-part Inside p h = dash
one-part (Member name path) p h = field-cell name path p.fields h.fields

first-part : (shows : Shows) (p : ShownPart) (L : List ShownPart) → IsPrintable (part_cell shows (Some p)) → ((row : ℕ) → IsPrintable (part_cell shows (slice_get L row))) → (is : Bool) (row : ℕ) → IsPrintable (part_cell shows (slice_get (cond is (p ∷ L) L) row))
first-part shows p L one rest true zero = one
first-part shows p L one rest true (suc n) = rest n
first-part shows p L one rest false row = rest row

parts-cell : (kind : List ℕ) (shows : Shows) (parts : List Part) → AllByRecursion IsPlainPart parts → (row : ℕ) → IsPrintable (part_cell shows (slice_get (filter (is_of kind) (map shown_part parts)) row))
parts-cell kind shows [] h row = dash
parts-cell kind shows (p ∷ others) h row = first-part shows (shown_part p) (filter (is_of kind) (map shown_part others)) (one-part shows p h.0) (parts-cell kind shows others h.1) (bytes_eq p.kind kind) row

kinds-rest : (parts : List Part) → AllByRecursion IsPlainPart parts → IsPrintable (flat_map (λ p. codes "," ++ p.kind) (map shown_part parts))
kinds-rest [] h = tt
kinds-rest (p ∷ others) h = prints (codes "," ++ p.kind) (flat_map (λ p. codes "," ++ p.kind) (map shown_part others)) (prints (codes ",") p.kind (word (codes ",") refl).all h.0.kind) (kinds-rest others h.1)

kinds-cell : (inside : Option (List Part)) → IfSome inside (λ parts. AllByRecursion IsPlainPart parts) → IsPrintable (inside_cell (option_map (map shown_part) inside))
kinds-cell None h = dash
kinds-cell (Some []) h = (word (codes "[]") refl).all
kinds-cell (Some (p ∷ others)) h = prints p.kind (flat_map (λ p. codes "," ++ p.kind) (map shown_part others)) h.0.kind (kinds-rest others h.1)

within-cell : (kind : List ℕ) (shows : Shows) (row : ℕ) (inside : Option (List Part)) → IfSome inside (λ parts. AllByRecursion IsPlainPart parts) → IsPrintable (part_cell shows (slice_get (filter (is_of kind) (parts_of (option_map (map shown_part) inside))) row))
within-cell kind shows row None h = dash
within-cell kind shows row (Some parts) h = parts-cell kind shows parts h row

again : (row : ℕ) (text : List ℕ) → IsPrintable text → IsPrintable (repeated row text)
again row text h = by (nat_lt 0 row && nat_lt 256 (length text))
  where
    by : (b : Bool) → IsPrintable (cond b (codes "..") text)
    by true = (word (codes "..") refl).all
    by false = h

module _ (r : Printed) (plain : IsPlain r) where
  own : (shows : Shows) → IsPrintable (own_cell shows (shown r))
  own Kind = alone r.kind plain.kind
  own Inside = kinds-cell r.inside plain.inside
  own (Member name path) = field-cell name path (r.origin ++ r.fields ++ r.last) (all-plain (r.origin ++ r.fields) r.last (all-plain r.origin r.fields plain.origin plain.fields) plain.last)

  of-column : (row : ℕ) (within : Option (List ℕ)) (shows : Shows) → IsPrintable (cell_within within shows row (shown r))
  of-column row None shows = again row (own_cell shows (shown r)) (own shows)
  of-column row (Some kind) shows = within-cell kind shows row r.inside plain.inside

  each : (row : ℕ) (columns : List Column) → AllByRecursion IsPrintable (map (cell_in row (shown r)) columns)
  each row [] = tt
  each row (column ∷ others) = (of-column row column.within column.shows, each row others)

cells-joined : {A : Type 0} (text : A → List ℕ) (all : List A) → joined [] (9 ∷ []) text all ≡ joined [] (9 ∷ []) (λ cell. cell) (map text all)
cells-joined text [] = refl
cells-joined text (first ∷ others) = ap (λ l. text first ++ l) (sym (flat_map-map (λ cell. (9 ∷ []) ++ cell) text others))

pub is-row : (columns : List Column) (r : Printed) (row : ℕ) → IsPlain r → IsRowOf (length columns) (row_text columns (shown r) row)
is-row columns r row plain = (map (cell_in row (shown r)) columns, length-map columns (cell_in row (shown r)), each r plain row columns, ap (λ l. l ++ line_feed) (cells-joined (cell_in row (shown r)) columns))
