-- The text of a record in the form of rows, as pieces.
use Rattle.std.proofs.Common.{◌≡◌, ◌∙◌, ℕ, ◌/◌, ◌%◌, ◌^◌, ◌==◌, Bool, true, false, cond, List, [], ◌∷◌, ◌++◌, append-nil, append_assoc, Option, Some, None, sym, refl, ap, ap₂, arith, codes, if◌then◌else◌}
use Rattle.std.specs.Int.RustNames.{bit_and}
use Rattle.std.specs.List.{AllByRecursion, flat_map}
use Rattle.std.specs.Prelude.{IfSome}
use Rattle.krb_record.specs.Forms.{aside_text, all_paths, cell, cells, cells_from, closing, end_text, ending, fields_text, has_inside, heading, inside_text, kind_mark, labelled, name_bit, opening, opening_from, origin_text, part_text, parts_text, path_letter, record_text}
use Rattle.krb_record.specs.Text.{IsPrintable}
use Rattle.krb_record.specs.Values.{Field, LastLine, Part, Printed, Value}
use Rattle.krb_record.specs.declared.form.Form.TheVariants as form
use Rattle.krb_record.specs.declared.form.Wanted.{Wanted}
use Rattle.krb_record.specs.declared.path.Path.{Path}
use Rattle.krb_record.specs.declared.path.Path.TheVariants as paths
use Rattle.krb_record.proofs.Printable.{is_printable, join, word}
use Rattle.krb_choice.specs.Marked.{Piece}
use Rattle.krb_choice_laws.specs.Plain.{ArePlain, IsPlain, IsPlainField, IsPlainPart, line_text}
use Rattle.krb_choice_laws.proofs.Marks.{ArePieces, are-append, spelled, spelled-append}

abbrev pub marked : ℕ → List ℕ → Piece
marked mark text = record { mark = mark; text = text }

-- ---- the pieces
abbrev pub begin_of : Field → List ℕ
begin_of f = codes ",\"" ++ f.name

abbrev pub is_unwanted : Wanted → List ℕ → Bool
is_unwanted w begin = bit_and w.bits (name_bit begin) == 0

abbrev pub paths_of : Wanted → ℕ
paths_of w = w.bits / 2 ^ 32 % 2 ^ 26

abbrev pub cell_pieces : ℕ → List Path → Value → List Piece
cell_pieces bits [] value = []
cell_pieces bits (path ∷ others) value = (if bits % 2 == 1 then marked 3 (path_letter path ∷ cell path value) ∷ [] else []) ++ cell_pieces (bits / 2) others value

abbrev pub field_pieces : Wanted → Field → List Piece
field_pieces w f = if is_unwanted w (begin_of f) then [] else marked 2 (begin_of f) ∷ cell_pieces (paths_of w) all_paths f.value

abbrev pub fields_pieces : Wanted → List Field → List Piece
fields_pieces w fields = flat_map (field_pieces w) fields

abbrev pub kind_pieces : List ℕ → List Piece
kind_pieces kind = marked 1 kind ∷ marked 6 [] ∷ []

abbrev pub part_pieces : Wanted → Part → List Piece
part_pieces w p = kind_pieces p.kind ++ fields_pieces w p.fields

abbrev pub inside_pieces : Wanted → Option (List Part) → List Piece
inside_pieces w None = []
inside_pieces w (Some parts) = if has_inside w then marked 4 [] ∷ (flat_map (part_pieces w) parts ++ marked 7 [] ∷ []) else []

abbrev pub aside_pieces : Option LastLine → List Piece
aside_pieces None = []
aside_pieces (Some line) = marked 5 (line_text line) ∷ marked 6 [] ∷ []

abbrev pub record_pieces : Wanted → Printed → List Piece
record_pieces w r = fields_pieces w r.origin ++ (kind_pieces r.kind ++ (fields_pieces w r.fields ++ (aside_pieces r.aside ++ (inside_pieces w r.inside ++ fields_pieces w r.last))))

-- ---- they spell the text
one_cell : (wanted : Bool) (path : Path) (value : Value) → spelled (cond wanted (marked 3 (path_letter path ∷ cell path value) ∷ []) []) ≡ cond wanted (3 ∷ path_letter path ∷ cell path value) []
one_cell true path value = ap (λ l. 3 ∷ path_letter path ∷ l) (append-nil (cell path value))
one_cell false path value = refl

cells-spelled : (bits : ℕ) (paths : List Path) (value : Value) → spelled (cell_pieces bits paths value) ≡ cells_from bits paths value
cells-spelled bits [] value = refl
cells-spelled bits (path ∷ others) value =
    spelled-append (if bits % 2 == 1 then marked 3 (path_letter path ∷ cell path value) ∷ [] else []) (cell_pieces (bits / 2) others value)
    ∙ ap₂ (λ a b. a ++ b) (one_cell (bits % 2 == 1) path value) (cells-spelled (bits / 2) others value)

field_by : (unwanted : Bool) (w : Wanted) (begin : List ℕ) (value : Value)
    → spelled (cond unwanted [] (marked 2 begin ∷ cell_pieces (paths_of w) all_paths value)) ≡ cond unwanted [] (2 ∷ begin ++ cells_from (paths_of w) all_paths value)
field_by true w begin value = refl
field_by false w begin value = ap (λ l. 2 ∷ (begin ++ l)) (cells-spelled (paths_of w) all_paths value)

field-spelled : (w : Wanted) (f : Field) (label : List ℕ) → spelled (field_pieces w f) ≡ labelled (form.Rows w) label (begin_of f) f.value
unfolding labelled cells
field-spelled w f label = field_by (is_unwanted w (begin_of f)) w (begin_of f) f.value

fields-spelled : (w : Wanted) (fields : List Field) → spelled (fields_pieces w fields) ≡ fields_text (form.Rows w) fields
fields-spelled w [] = refl
fields-spelled w (f ∷ others) = spelled-append (field_pieces w f) (fields_pieces w others) ∙ ap₂ (λ a b. a ++ b) (field-spelled w f (codes " " ++ f.name ++ codes "=")) (fields-spelled w others)

origin-spelled : (w : Wanted) (fields : List Field) → spelled (fields_pieces w fields) ≡ origin_text (form.Rows w) fields
origin-spelled w [] = refl
origin-spelled w (f ∷ others) = spelled-append (field_pieces w f) (fields_pieces w others) ∙ ap₂ (λ a b. a ++ b) (field-spelled w f (f.name ++ codes "=")) (fields-spelled w others)

heading-spelled : (w : Wanted) (origin : List Field) (kind : List ℕ) → spelled (fields_pieces w origin ++ kind_pieces kind) ≡ heading (form.Rows w) origin kind
unfolding opening opening_from
heading-spelled w [] kind = refl
heading-spelled w (f ∷ others) kind = spelled-append (fields_pieces w (f ∷ others)) (kind_pieces kind) ∙ ap (λ l. l ++ kind_mark kind) (origin-spelled w (f ∷ others))

part-spelled : (w : Wanted) (p : Part) → spelled (part_pieces w p) ≡ part_text (form.Rows w) p
unfolding part_text opening closing
part-spelled w p = spelled-append (kind_pieces p.kind) (fields_pieces w p.fields) ∙ ap (λ l. kind_mark p.kind ++ l) (fields-spelled w p.fields) ∙ sym (append-nil (kind_mark p.kind ++ fields_text (form.Rows w) p.fields))

parts-spelled : (w : Wanted) (parts : List Part) → spelled (flat_map (part_pieces w) parts) ≡ flat_map (part_text (form.Rows w)) parts
parts-spelled w [] = refl
parts-spelled w (p ∷ others) = spelled-append (part_pieces w p) (flat_map (part_pieces w) others) ∙ ap₂ (λ a b. a ++ b) (part-spelled w p) (parts-spelled w others)

inside_by : (has : Bool) (w : Wanted) (parts : List Part)
    → spelled (cond has (marked 4 [] ∷ (flat_map (part_pieces w) parts ++ marked 7 [] ∷ [])) []) ≡ cond has (4 ∷ flat_map (part_text (form.Rows w)) parts ++ 7 ∷ []) []
inside_by true w parts = ap (λ l. 4 ∷ l) (spelled-append (flat_map (part_pieces w) parts) (marked 7 [] ∷ []) ∙ ap (λ l. l ++ 7 ∷ []) (parts-spelled w parts))
inside_by false w parts = refl

inside-spelled : (w : Wanted) (inside : Option (List Part)) → spelled (inside_pieces w inside) ≡ parts_text (form.Rows w) inside
unfolding inside_text
inside-spelled w None = refl
inside-spelled w (Some parts) = inside_by (has_inside w) w parts

aside-spelled : (w : Wanted) (aside : Option LastLine) → spelled (aside_pieces aside) ≡ aside_text (form.Rows w) aside
aside-spelled w None = refl
aside-spelled w (Some line) = refl

last-spelled : (w : Wanted) (last : List Field) → spelled (fields_pieces w last) ≡ end_text (form.Rows w) last
unfolding closing
last-spelled w [] = refl
last-spelled w (f ∷ others) = fields-spelled w (f ∷ others) ∙ sym (append-nil (fields_text (form.Rows w) (f ∷ others)))

pub record-spelled : (w : Wanted) (r : Printed) → spelled (record_pieces w r) ≡ record_text (form.Rows w) r
unfolding record_text
record-spelled w r =
    let all = inside_pieces w r.inside ++ fields_pieces w r.last in
    let tail = aside_pieces r.aside ++ all in
    let rest = fields_pieces w r.fields ++ tail in
    let head = heading (form.Rows w) r.origin r.kind in
    let texts = fields_text (form.Rows w) r.fields in
    let aside = aside_text (form.Rows w) r.aside in
    let end : spelled all ≡ ending (form.Rows w) r.inside r.last =
    spelled-append (inside_pieces w r.inside) (fields_pieces w r.last) ∙ ap₂ (λ a b. a ++ b) (inside-spelled w r.inside) (last-spelled w r.last) in
    ap spelled (sym (append_assoc (fields_pieces w r.origin) (kind_pieces r.kind) rest))
    ∙ spelled-append (fields_pieces w r.origin ++ kind_pieces r.kind) rest
    ∙ ap₂ (λ a b. a ++ b) (heading-spelled w r.origin r.kind)
    (spelled-append (fields_pieces w r.fields) tail ∙ ap₂ (λ a b. a ++ b) (fields-spelled w r.fields) (spelled-append (aside_pieces r.aside) all ∙ ap₂ (λ a b. a ++ b) (aside-spelled w r.aside) end))
    ∙ sym (append_assoc head texts (aside ++ ending (form.Rows w) r.inside r.last))
    ∙ sym (append_assoc (head ++ texts) aside (ending (form.Rows w) r.inside r.last))

-- ---- each is a mark and a printable text
letter : (path : Path) → is_printable (path_letter path) ≡ true
letter paths.Whole = refl
letter path = refl

pub prints : (xs ys : List ℕ) → IsPrintable xs → IsPrintable ys → IsPrintable (xs ++ ys)
prints xs ys h k = (join {xs = xs} {ys = ys} (record { all = h }) (record { all = k })).all

cells-are : (bits : ℕ) (paths : List Path) (value : Value) → ((path : Path) → IsPrintable (cell path value)) → ArePieces (cell_pieces bits paths value)
cells-are bits [] value h = tt
cells-are bits (path ∷ others) value h = are-append (if bits % 2 == 1 then marked 3 (path_letter path ∷ cell path value) ∷ [] else []) (cell_pieces (bits / 2) others value) (by (bits % 2 == 1)) (cells-are (bits / 2) others value h)
  where
    begins : IsPrintable (path_letter path ∷ [])
    begins = (word (path_letter path ∷ []) (rw (letter path) refl)).all

    by : (wanted : Bool) → ArePieces (cond wanted (marked 3 (path_letter path ∷ cell path value) ∷ []) [])
    by true = (record { mark = omega arith; text = (begins.0, h path) }, tt)
    by false = tt

field-are : (w : Wanted) (f : Field) → IsPlainField f → ArePieces (field_pieces w f)
field-are w f h = by (is_unwanted w (begin_of f))
  where
    by : (unwanted : Bool) → ArePieces (cond unwanted [] (marked 2 (begin_of f) ∷ cell_pieces (paths_of w) all_paths f.value))
    by true = tt
    by false = (record { mark = omega arith; text = prints (codes ",\"") f.name (word (codes ",\"") refl).all h.name }, cells-are (paths_of w) all_paths f.value h.cells)

fields-are : (w : Wanted) (fields : List Field) → ArePlain fields → ArePieces (fields_pieces w fields)
fields-are w [] h = tt
fields-are w (f ∷ others) h = are-append (field_pieces w f) (fields_pieces w others) (field-are w f h.0) (fields-are w others h.1)

kind-are : (kind : List ℕ) → IsPrintable kind → ArePieces (kind_pieces kind)
kind-are kind h = (record { mark = omega arith; text = h }, (record { mark = omega arith; text = tt }, tt))

parts-are : (w : Wanted) (parts : List Part) → AllByRecursion IsPlainPart parts → ArePieces (flat_map (part_pieces w) parts)
parts-are w [] h = tt
parts-are w (p ∷ others) h = are-append (part_pieces w p) (flat_map (part_pieces w) others) (are-append (kind_pieces p.kind) (fields_pieces w p.fields) (kind-are p.kind h.0.kind) (fields-are w p.fields h.0.fields)) (parts-are w others h.1)

inside-are : (w : Wanted) (inside : Option (List Part)) → IfSome inside (λ parts. AllByRecursion IsPlainPart parts) → ArePieces (inside_pieces w inside)
inside-are w None h = tt
inside-are w (Some parts) h = by (has_inside w)
  where
    by : (has : Bool) → ArePieces (cond has (marked 4 [] ∷ (flat_map (part_pieces w) parts ++ marked 7 [] ∷ [])) [])
    by true = (record { mark = omega arith; text = tt }, are-append (flat_map (part_pieces w) parts) (marked 7 [] ∷ []) (parts-are w parts h) (record { mark = omega arith; text = tt }, tt))
    by false = tt

aside-are : (aside : Option LastLine) → IfSome aside (λ line. IsPrintable (line_text line)) → ArePieces (aside_pieces aside)
aside-are None h = tt
aside-are (Some line) h = (record { mark = omega arith; text = h }, (record { mark = omega arith; text = tt }, tt))

pub record-are : (w : Wanted) (r : Printed) → IsPlain r → ArePieces (record_pieces w r)
record-are w r h =
    are-append (fields_pieces w r.origin) (kind_pieces r.kind ++ (fields_pieces w r.fields ++ (aside_pieces r.aside ++ (inside_pieces w r.inside ++ fields_pieces w r.last)))) (fields-are w r.origin h.origin)
    (are-append (kind_pieces r.kind) (fields_pieces w r.fields ++ (aside_pieces r.aside ++ (inside_pieces w r.inside ++ fields_pieces w r.last))) (kind-are r.kind h.kind)
    (are-append (fields_pieces w r.fields) (aside_pieces r.aside ++ (inside_pieces w r.inside ++ fields_pieces w r.last)) (fields-are w r.fields h.fields)
    (are-append (aside_pieces r.aside) (inside_pieces w r.inside ++ fields_pieces w r.last) (aside-are r.aside h.aside)
    (are-append (inside_pieces w r.inside) (fields_pieces w r.last) (inside-are w r.inside h.inside) (fields-are w r.last h.last)))))
