-- What columns show of what is read is what they show of the record.
use Rattle.std.proofs.Common.{◌≡◌, ◌∙◌, ℕ, zero, suc, ◌/◌, ◌%◌, ◌==◌, ◌&&◌, ◌||◌, not, Bool, true, false, cond, List, [], ◌∷◌, ◌++◌, append_assoc, length, map, Option, Some, None, sym, refl, ap, ap₂, codes}
use Rattle.std.proofs.lemmas.Bool.{and_parts, eq-eqb, not-true}
use Rattle.std.proofs.lemmas.Grind.{flat_map-append}
use Rattle.std.proofs.lemmas.Nat.Bits.{bit_at-suc, bit_at_lowest}
use Rattle.std.proofs.lemmas.Slice.Eq.{bytes_eq-Decides}
use Rattle.std.specs.Int.{bit_at}
use Rattle.std.specs.List.{AllByRecursion, filter, flat_map, list_all, list_any, slice_get}
use Rattle.std.specs.Option.{option_map}
use Rattle.std.specs.Prelude.{IfSome, bytes_eq}
use Rattle.krb_record.specs.Forms.{all_paths, cell, path_letter, path_number}
use Rattle.krb_record.specs.Text.{line_feed}
use Rattle.krb_record.specs.Values.{Field, Part, Printed, Value}
use Rattle.krb_record.specs.declared.form.Wanted.{Wanted}
use Rattle.krb_record.specs.declared.path.Path.{Path}
use Rattle.krb_record.specs.declared.path.Path.TheVariants as paths
use Rattle.krb_choice.specs.Choices.{Column, Inside, Kind, Member, ShownField, ShownPart, Shows, below, cell_in, cell_of, cell_within, count_rows, count_within, greatest, chooses, has, has_shown, has_within, inside_cell, is_called, is_of, is_there, own_cell, part_cell, parts_of, repeated, row_text, rows_text, shown, shown_field, shown_part}
use Rattle.krb_choice.specs.Marked.{text_of_cells}
use Rattle.krb_choice_laws.specs.Plain.{IsPlain, IsPlainPart}
use Rattle.krb_choice_laws.proofs.Reading.{cells_by, field_by, field_if, fields_by, inside_by, part_by, record_by}
use Rattle.krb_choice_laws.proofs.Spelled.{begin_of, is_unwanted, paths_of}
use Rattle.krb_choice_laws.proofs.Wants.{HasInside, HasName, HasPath, Wants, WantsShown, WantsWithin, inside-wanted, name-wanted}

-- ---- the cell of a path
-- no path before the n-th has the letter of this one
abbrev differ : ℕ → List Path → Path → Bool
differ zero ps path = true
differ (suc n) [] path = true
differ (suc n) (q ∷ qs) path = not (path_letter q == path_letter path) && differ n qs path

lookup : (bits : ℕ) (ps : List Path) (n : ℕ) (path : Path) (value : Value) → slice_get ps n ≡ Some path → differ n ps path ≡ true → bit_at bits n ≡ 1 → text_of_cells (cells_by bits ps value) path ≡ cell path value
lookup bits [] n path value e d b = cc
lookup bits (q ∷ qs) zero path value e d b =
    let same : q ≡ path = cc in
    let more = cells_by (bits / 2) qs value in
    ap (λ wanted. text_of_cells (cond wanted ((path_letter q ∷ cell q value) ∷ []) [] ++ more) path) (eq-eqb (bits % 2) 1 (sym (bit_at_lowest bits) ∙ b))
    ∙ ap (λ is. cond is (cell q value) (text_of_cells more path)) (eq-eqb (path_letter q) (path_letter path) (ap path_letter same)) ∙ ap (λ p. cell p value) same
lookup bits (q ∷ qs) (suc n) path value e d b =
    let parts = and_parts (not (path_letter q == path_letter path)) (differ n qs path) d in
    let rest = lookup (bits / 2) qs n path value e parts.1 (sym (bit_at-suc bits n) ∙ b) in
    elim (bits % 2 == 1) as (λ wanted. text_of_cells (cond wanted ((path_letter q ∷ cell q value) ∷ []) [] ++ cells_by (bits / 2) qs value) path ≡ cell path value) [
      | true ↦ ap (λ is. cond is (cell q value) (text_of_cells (cells_by (bits / 2) qs value) path)) (not-true (path_letter q == path_letter path) parts.0) ∙ rest
      | false ↦ rest
    ]

at-place : (path : Path) → slice_get all_paths (path_number path) ≡ Some path
at-place paths.Whole = refl
at-place path = refl

apart : (path : Path) → differ (path_number path) all_paths path ≡ true
apart paths.Whole = refl
apart path = refl

pub cell-found : (w : Wanted) (path : Path) (value : Value) → HasPath w path → text_of_cells (cells_by (paths_of w) all_paths value) path ≡ cell path value
cell-found w path value h = lookup (paths_of w) all_paths (path_number path) path value (at-place path) (apart path) h.is

-- ---- fields
module _ (w : Wanted) (name : List ℕ) (h : HasName w name) where
  wanted-as : (f : Field) → bytes_eq f.name name ≡ true → is_unwanted w (begin_of f) ≡ false
  wanted-as f called = ap (λ n. is_unwanted w (codes ",\"" ++ n)) ((bytes_eq-Decides f.name name).0 called) ∙ name-wanted w name h

  field-cell : (path : Path) → HasPath w path → (f : Field) (L M : List ShownField) → cell_of name path L ≡ cell_of name path M → cell_of name path (field_if w f ++ L) ≡ cell_of name path (shown_field f ∷ M)
  field-cell path k f L M e = by (bytes_eq f.name name) refl (is_unwanted w (begin_of f)) refl
    where
      by : (called : Bool) → bytes_eq f.name name ≡ called → (unwanted : Bool) → is_unwanted w (begin_of f) ≡ unwanted → cell_of name path (cond unwanted [] (field_by w f ∷ []) ++ L) ≡ cell_of name path (shown_field f ∷ M)
      by true c true u = let v = wanted-as f c in cc
      by true c false u =
          ap (λ b. cond b (text_of_cells (cells_by (paths_of w) all_paths f.value) path) (cell_of name path L)) c ∙ cell-found w path f.value k ∙ sym (ap (λ b. cond b (cell path f.value) (cell_of name path M)) c)
      by false c true u = e ∙ sym (ap (λ b. cond b (cell path f.value) (cell_of name path M)) c)
      by false c false u = ap (λ b. cond b (text_of_cells (cells_by (paths_of w) all_paths f.value) path) (cell_of name path L)) c ∙ e ∙ sym (ap (λ b. cond b (cell path f.value) (cell_of name path M)) c)

  fields-cell : (path : Path) → HasPath w path → (fields : List Field) → cell_of name path (fields_by w fields) ≡ cell_of name path (map shown_field fields)
  fields-cell path k [] = refl
  fields-cell path k (f ∷ others) = field-cell path k f (fields_by w others) (map shown_field others) (fields-cell path k others)

  field-has : (f : Field) (L M : List ShownField) → list_any (is_called name) L ≡ list_any (is_called name) M → list_any (is_called name) (field_if w f ++ L) ≡ list_any (is_called name) (shown_field f ∷ M)
  field-has f L M e = by (bytes_eq f.name name) refl (is_unwanted w (begin_of f)) refl
    where
      by : (called : Bool) → bytes_eq f.name name ≡ called → (unwanted : Bool) → is_unwanted w (begin_of f) ≡ unwanted → list_any (is_called name) (cond unwanted [] (field_by w f ∷ []) ++ L) ≡ (bytes_eq f.name name || list_any (is_called name) M)
      by true c true u = let v = wanted-as f c in cc
      by true c false u = ap (λ b. b || list_any (is_called name) L) c ∙ sym (ap (λ b. b || list_any (is_called name) M) c)
      by false c true u = e ∙ sym (ap (λ b. b || list_any (is_called name) M) c)
      by false c false u = ap (λ b. bytes_eq f.name name || b) e

  fields-has : (fields : List Field) → list_any (is_called name) (fields_by w fields) ≡ list_any (is_called name) (map shown_field fields)
  fields-has [] = refl
  fields-has (f ∷ others) = field-has f (fields_by w others) (map shown_field others) (fields-has others)

fields-of : (w : Wanted) (r : Printed) → fields_by w r.origin ++ (fields_by w r.fields ++ fields_by w r.last) ≡ fields_by w (r.origin ++ r.fields ++ r.last)
fields-of w r =
    sym (append_assoc (fields_by w r.origin) (fields_by w r.fields) (fields_by w r.last))
    ∙ ap (λ l. l ++ fields_by w r.last) (sym (flat_map-append (field_if w) r.origin r.fields)) ∙ sym (flat_map-append (field_if w) (r.origin ++ r.fields) r.last)

-- ---- what is inside
abbrev AreParts : List Part → Type 0
AreParts parts = AllByRecursion IsPlainPart parts

part-same : (w : Wanted) (shows : Shows) → WantsShown w shows → (p : Part) → IsPlainPart p → part_cell shows (Some (part_by w p)) ≡ part_cell shows (Some (shown_part p))
part-same w Kind wants p h = h.word
part-same w Inside wants p h = refl
part-same w (Member name path) wants p h = fields-cell w name wants.0 path wants.1 p.fields

module _ (w : Wanted) (kind : List ℕ) where
  first-cell : (p : Part) (shows : Shows) → part_cell shows (Some (part_by w p)) ≡ part_cell shows (Some (shown_part p)) → (L M : List ShownPart) → ((row : ℕ) → part_cell shows (slice_get L row) ≡ part_cell shows (slice_get M row))
      → (is : Bool) (row : ℕ) → part_cell shows (slice_get (cond is (part_by w p ∷ L) L) row) ≡ part_cell shows (slice_get (cond is (shown_part p ∷ M) M) row)
  first-cell p shows same L M rest true zero = same
  first-cell p shows same L M rest true (suc n) = rest n
  first-cell p shows same L M rest false row = rest row

  parts-cell : (shows : Shows) → WantsShown w shows → (parts : List Part) → AreParts parts → (row : ℕ) → part_cell shows (slice_get (filter (is_of kind) (map (part_by w) parts)) row) ≡ part_cell shows (slice_get (filter (is_of kind) (map shown_part parts)) row)
  parts-cell shows wants [] h row = refl
  parts-cell shows wants (p ∷ others) h row =
      ap (λ k. part_cell shows (slice_get (cond (bytes_eq k kind) (part_by w p ∷ filter (is_of kind) (map (part_by w) others)) (filter (is_of kind) (map (part_by w) others))) row)) h.0.word ∙ first-cell p shows (part-same w shows wants p h.0) (filter (is_of kind) (map (part_by w) others)) (filter (is_of kind) (map shown_part others)) (parts-cell shows wants others h.1) (bytes_eq p.kind kind) row

  parts-length : (parts : List Part) → AreParts parts → length (filter (is_of kind) (map (part_by w) parts)) ≡ length (filter (is_of kind) (map shown_part parts))
  parts-length [] h = refl
  parts-length (p ∷ others) h =
      ap (λ k. length (cond (bytes_eq k kind) (part_by w p ∷ filter (is_of kind) (map (part_by w) others)) (filter (is_of kind) (map (part_by w) others)))) h.0.word
      ∙ elim (bytes_eq p.kind kind) as (λ is.
      length (cond is (part_by w p ∷ filter (is_of kind) (map (part_by w) others)) (filter (is_of kind) (map (part_by w) others)))
      ≡ length (cond is (shown_part p ∷ filter (is_of kind) (map shown_part others)) (filter (is_of kind) (map shown_part others)))) [
        | true ↦ ap suc (parts-length others h.1)
        | false ↦ parts-length others h.1
      ]

-- a test of the kind of each
pub parts-any : (w : Wanted) (test : List ℕ → Bool) (parts : List Part) → AreParts parts → list_any (λ p. test p.kind) (map (part_by w) parts) ≡ list_any (λ p. test p.kind) (map shown_part parts)
parts-any w test [] h = refl
parts-any w test (p ∷ others) h = ap₂ (λ k b. test k || b) h.0.word (parts-any w test others h.1)

kinds-rest : (w : Wanted) (parts : List Part) → AreParts parts → flat_map (λ p. codes "," ++ p.kind) (map (part_by w) parts) ≡ flat_map (λ p. codes "," ++ p.kind) (map shown_part parts)
kinds-rest w [] h = refl
kinds-rest w (p ∷ others) h = ap₂ (λ k l. (codes "," ++ k) ++ l) h.0.word (kinds-rest w others h.1)

kinds-cell : (w : Wanted) (parts : List Part) → AreParts parts → inside_cell (Some (map (part_by w) parts)) ≡ inside_cell (Some (map shown_part parts))
kinds-cell w [] h = refl
kinds-cell w (p ∷ others) h = ap₂ (λ k l. k ++ l) h.0.word (kinds-rest w others h.1)

abbrev AreInside : Option (List Part) → Type 0
AreInside inside = IfSome inside (λ parts. AreParts parts)

pub inside-there : (w : Wanted) → HasInside w → (inside : Option (List Part)) → inside_by w inside ≡ option_map (map (part_by w)) inside
inside-there w h None = refl
inside-there w h (Some parts) = ap (λ b. cond b (Some (map (part_by w) parts)) None) (inside-wanted w h)

inside-cell : (w : Wanted) → HasInside w → (inside : Option (List Part)) → AreInside inside → inside_cell (inside_by w inside) ≡ inside_cell (option_map (map shown_part) inside)
inside-cell w e None h = refl
inside-cell w e (Some parts) h = ap inside_cell (inside-there w e (Some parts)) ∙ kinds-cell w parts h

inside-is : (w : Wanted) → HasInside w → (inside : Option (List Part)) → is_there (inside_by w inside) ≡ is_there (option_map (map shown_part) inside)
inside-is w e None = refl
inside-is w e (Some parts) = ap is_there (inside-there w e (Some parts))

within-cell : (w : Wanted) → HasInside w → (kind : List ℕ) (shows : Shows) → WantsShown w shows → (row : ℕ) (inside : Option (List Part)) → AreInside inside
    → part_cell shows (slice_get (filter (is_of kind) (parts_of (inside_by w inside))) row) ≡ part_cell shows (slice_get (filter (is_of kind) (parts_of (option_map (map shown_part) inside))) row)
within-cell w e kind shows wants row None h = refl
within-cell w e kind shows wants row (Some parts) h = ap (λ inside. part_cell shows (slice_get (filter (is_of kind) (parts_of inside)) row)) (inside-there w e (Some parts)) ∙ parts-cell w kind shows wants parts h row

within-length : (w : Wanted) → HasInside w → (kind : List ℕ) (inside : Option (List Part)) → AreInside inside
    → length (filter (is_of kind) (parts_of (inside_by w inside))) ≡ length (filter (is_of kind) (parts_of (option_map (map shown_part) inside)))
within-length w e kind None h = refl
within-length w e kind (Some parts) h = ap (λ inside. length (filter (is_of kind) (parts_of inside))) (inside-there w e (Some parts)) ∙ parts-length w kind parts h

pub within-any : (w : Wanted) → HasInside w → (test : List ℕ → Bool) (inside : Option (List Part)) → AreInside inside → list_any (λ p. test p.kind) (parts_of (inside_by w inside)) ≡ list_any (λ p. test p.kind) (parts_of (option_map (map shown_part) inside))
within-any w e test None h = refl
within-any w e test (Some parts) h = ap (λ inside. list_any (λ p. test p.kind) (parts_of inside)) (inside-there w e (Some parts)) ∙ parts-any w test parts h

-- ---- columns
module _ (w : Wanted) (r : Printed) (plain : IsPlain r) where
  own-same : (shows : Shows) → WantsShown w shows → own_cell shows (record_by w r) ≡ own_cell shows (shown r)
  own-same Kind wants = refl
  own-same Inside wants = inside-cell w wants r.inside plain.inside
  own-same (Member name path) wants = ap (cell_of name path) (fields-of w r) ∙ fields-cell w name wants.0 path wants.1 (r.origin ++ r.fields ++ r.last)

  cell-same : (row : ℕ) (within : Option (List ℕ)) (shows : Shows) → WantsShown w shows → WantsWithin w within → cell_within within shows row (record_by w r) ≡ cell_within within shows row (shown r)
  cell-same row None shows wants inside = ap (repeated row) (own-same shows wants)
  cell-same row (Some kind) shows wants inside = within-cell w inside kind shows wants row r.inside plain.inside

  count-same : (within : Option (List ℕ)) → WantsWithin w within → count_within within (record_by w r) ≡ count_within within (shown r)
  count-same None inside = refl
  count-same (Some kind) inside = within-length w inside kind r.inside plain.inside

  shown-has : (shows : Shows) → WantsShown w shows → has_shown shows (record_by w r) ≡ has_shown shows (shown r)
  shown-has Kind wants = refl
  shown-has Inside wants = inside-is w wants r.inside
  shown-has (Member name path) wants = ap (list_any (is_called name)) (fields-of w r) ∙ fields-has w name wants.0 (r.origin ++ r.fields ++ r.last)

  within-has : (within : Option (List ℕ)) (shows : Shows) → WantsShown w shows → WantsWithin w within → has_within within shows (record_by w r) ≡ has_within within shows (shown r)
  within-has None shows wants inside = shown-has shows wants
  within-has (Some kind) shows wants inside = within-any w inside (λ k. bytes_eq k kind) r.inside plain.inside

  abbrev AllWanted : List Column → Type 0
  AllWanted columns = AllByRecursion (λ column. Wants w column) columns

  -- whether it has all that chooses
  pub all-has : (columns : List Column) → AllWanted columns → list_all (λ column. not (chooses column) || has column (record_by w r)) columns ≡ list_all (λ column. not (chooses column) || has column (shown r)) columns
  all-has [] h = refl
  all-has (column ∷ others) h = ap₂ (λ a b. (not (chooses column) || a) && b) (within-has column.within column.shows h.0.shown h.0.within) (all-has others h.1)

  -- ---- rows
  rest-same : (row : ℕ) (columns : List Column) → AllWanted columns → flat_map (λ column. (9 ∷ []) ++ cell_in row (record_by w r) column) columns ≡ flat_map (λ column. (9 ∷ []) ++ cell_in row (shown r) column) columns
  rest-same row [] h = refl
  rest-same row (column ∷ others) h = ap₂ (λ a b. ((9 ∷ []) ++ a) ++ b) (cell-same row column.within column.shows h.0.shown h.0.within) (rest-same row others h.1)

  row-same : (columns : List Column) → AllWanted columns → (row : ℕ) → row_text columns (record_by w r) row ≡ row_text columns (shown r) row
  row-same [] h row = refl
  row-same (column ∷ others) h row = ap₂ (λ a b. (a ++ b) ++ line_feed) (cell-same row column.within column.shows h.0.shown h.0.within) (rest-same row others h.1)

  counts-same : (columns : List Column) → AllWanted columns → map (λ column. count_within column.within (record_by w r)) columns ≡ map (λ column. count_within column.within (shown r)) columns
  counts-same [] h = refl
  counts-same (column ∷ others) h = ap₂ (λ a b. a ∷ b) (count-same column.within h.0.within) (counts-same others h.1)

  each-same : (columns : List Column) → AllWanted columns → (rows : List ℕ) → flat_map (row_text columns (record_by w r)) rows ≡ flat_map (row_text columns (shown r)) rows
  each-same columns h [] = refl
  each-same columns h (row ∷ others) = ap₂ (λ a b. a ++ b) (row-same columns h row) (each-same columns h others)

  pub rows-same : (columns : List Column) → AllWanted columns → rows_text columns (record_by w r) ≡ rows_text columns (shown r)
  rows-same columns h =
      ap (λ counts. flat_map (row_text columns (record_by w r)) (below (greatest (1 ∷ counts)))) (counts-same columns h) ∙ each-same columns h (below (count_rows columns (shown r)))
