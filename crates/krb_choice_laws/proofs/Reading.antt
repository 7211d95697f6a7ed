-- What is read of the pieces of a record.
use Rattle.std.proofs.Common.{◌≡◌, ◌∙◌, ℕ, ◌/◌, ◌%◌, ◌==◌, Bool, true, false, cond, List, [], ◌∷◌, ◌++◌, append-nil, append_assoc, map, Option, Some, None, sym, refl, ap, ap₂, if◌then◌else◌}
use Rattle.std.specs.List.{flat_map, list_any}
use Rattle.std.specs.Option.{option_map}
use Rattle.krb_record.specs.Forms.{all_paths, cell, has_inside, path_letter}
use Rattle.krb_record.specs.Values.{Field, LastLine, Part, Printed, Value}
use Rattle.krb_record.specs.declared.form.Wanted.{Wanted}
use Rattle.krb_record.specs.declared.path.Path.{Path}
use Rattle.krb_choice.specs.Choices.{ShownField, ShownPart, ShownRecord, kind_alone}
use Rattle.krb_choice.specs.Marked.{Piece, after_kind, aside_of, field_read, first_cells, inside_read, is_marked, kind_read, own_fields, part_fields, parts_read, read_pieces, text_of_cells}
use Rattle.krb_choice_laws.specs.Plain.{line_text}
use Rattle.krb_choice_laws.proofs.Spelled.{aside_pieces, begin_of, cell_pieces, field_pieces, fields_pieces, inside_pieces, is_unwanted, kind_pieces, marked, part_pieces, paths_of, record_pieces}

-- ---- what is read
abbrev pub cells_by : ℕ → List Path → Value → List (List ℕ)
cells_by bits [] value = []
cells_by bits (path ∷ others) value = (if bits % 2 == 1 then (path_letter path ∷ cell path value) ∷ [] else []) ++ cells_by (bits / 2) others value

abbrev pub field_by : Wanted → Field → ShownField
field_by w f = record { name = f.name; text = text_of_cells (cells_by (paths_of w) all_paths f.value) }

abbrev pub field_if : Wanted → Field → List ShownField
field_if w f = if is_unwanted w (begin_of f) then [] else field_by w f ∷ []

abbrev pub fields_by : Wanted → List Field → List ShownField
fields_by w fields = flat_map (field_if w) fields

abbrev pub part_by : Wanted → Part → ShownPart
part_by w p = record { kind = kind_alone p.kind; fields = fields_by w p.fields }

abbrev pub inside_by : Wanted → Option (List Part) → Option (List ShownPart)
inside_by w None = None
inside_by w (Some parts) = if has_inside w then Some (map (part_by w) parts) else None

abbrev pub record_by : Wanted → Printed → ShownRecord
record_by w r = record { kind = kind_alone r.kind; fields = fields_by w r.origin ++ (fields_by w r.fields ++ fields_by w r.last); inside = inside_by w r.inside }

-- ---- fields
abbrev begins_cell : List Piece → Bool
begins_cell [] = false
begins_cell (p ∷ others) = p.mark == 3

no-cell : (rest : List Piece) → begins_cell rest ≡ false → first_cells rest ≡ []
no-cell [] e = refl
no-cell (p ∷ others) e = ap (λ b. cond b (p.text ∷ first_cells others) []) e

cells-first : (bits : ℕ) (paths : List Path) (value : Value) (rest : List Piece) → begins_cell rest ≡ false → first_cells (cell_pieces bits paths value ++ rest) ≡ cells_by bits paths value
cells-first bits [] value rest e = no-cell rest e
cells-first bits (path ∷ others) value rest e =
    elim (bits % 2 == 1) as (λ wanted.
    first_cells ((cond wanted (marked 3 (path_letter path ∷ cell path value) ∷ []) [] ++ cell_pieces (bits / 2) others value) ++ rest)
    ≡ cond wanted ((path_letter path ∷ cell path value) ∷ []) [] ++ cells_by (bits / 2) others value) [
      | true ↦ ap (λ l. (path_letter path ∷ cell path value) ∷ l) (cells-first (bits / 2) others value rest e)
      | false ↦ cells-first (bits / 2) others value rest e
    ]

-- what reads nothing of cells, and of fields
skip-cells : {X : Type 0} (F : List Piece → X) → ((text : List ℕ) (ps : List Piece) → F (marked 3 text ∷ ps) ≡ F ps) → (bits : ℕ) (paths : List Path) (value : Value) (rest : List Piece) → F (cell_pieces bits paths value ++ rest) ≡ F rest
skip-cells F h bits [] value rest = refl
skip-cells F h bits (path ∷ others) value rest =
    elim (bits % 2 == 1) as (λ wanted. F ((cond wanted (marked 3 (path_letter path ∷ cell path value) ∷ []) [] ++ cell_pieces (bits / 2) others value) ++ rest) ≡ F rest) [
      | true ↦ h (path_letter path ∷ cell path value) (cell_pieces (bits / 2) others value ++ rest) ∙ skip-cells F h (bits / 2) others value rest
      | false ↦ skip-cells F h (bits / 2) others value rest
    ]

skip-field : {X : Type 0} (F : List Piece → X) → ((text : List ℕ) (ps : List Piece) → F (marked 2 text ∷ ps) ≡ F ps) → ((text : List ℕ) (ps : List Piece) → F (marked 3 text ∷ ps) ≡ F ps)
    → (w : Wanted) (f : Field) (rest : List Piece) → F (field_pieces w f ++ rest) ≡ F rest
skip-field F g h w f rest = by (is_unwanted w (begin_of f))
  where
    by : (unwanted : Bool) → F (cond unwanted [] (marked 2 (begin_of f) ∷ cell_pieces (paths_of w) all_paths f.value) ++ rest) ≡ F rest
    by true = refl
    by false = g (begin_of f) (cell_pieces (paths_of w) all_paths f.value ++ rest) ∙ skip-cells F h (paths_of w) all_paths f.value rest

skip-fields : {X : Type 0} (F : List Piece → X) → ((text : List ℕ) (ps : List Piece) → F (marked 2 text ∷ ps) ≡ F ps) → ((text : List ℕ) (ps : List Piece) → F (marked 3 text ∷ ps) ≡ F ps)
    → (w : Wanted) (fields : List Field) (rest : List Piece) → F (fields_pieces w fields ++ rest) ≡ F rest
skip-fields F g h w [] rest = refl
skip-fields F g h w (f ∷ others) rest = ap F (append_assoc (field_pieces w f) (fields_pieces w others) rest) ∙ skip-field F g h w f (fields_pieces w others ++ rest) ∙ skip-fields F g h w others rest

fields-begin : (w : Wanted) (fields : List Field) (rest : List Piece) → begins_cell rest ≡ false → begins_cell (fields_pieces w fields ++ rest) ≡ false
fields-begin w [] rest e = e
fields-begin w (f ∷ others) rest e =
    ap begins_cell (append_assoc (field_pieces w f) (fields_pieces w others) rest)
    ∙ elim (is_unwanted w (begin_of f)) as (λ unwanted. begins_cell (cond unwanted [] (marked 2 (begin_of f) ∷ cell_pieces (paths_of w) all_paths f.value) ++ (fields_pieces w others ++ rest)) ≡ false) [
      | true ↦ fields-begin w others rest e
      | false ↦ refl
    ]

-- those that read a field and go on after it
module _ (F : List Piece → List ShownField) (cells : (text : List ℕ) (ps : List Piece) → F (marked 3 text ∷ ps) ≡ F ps) (reads : (text : List ℕ) (ps : List Piece) → F (marked 2 text ∷ ps) ≡ field_read text ps ∷ F ps) where
  one-read : (w : Wanted) (f : Field) (rest : List Piece) → begins_cell rest ≡ false → F (field_pieces w f ++ rest) ≡ field_if w f ++ F rest
  one-read w f rest e = by (is_unwanted w (begin_of f))
    where
      by : (unwanted : Bool) → F (cond unwanted [] (marked 2 (begin_of f) ∷ cell_pieces (paths_of w) all_paths f.value) ++ rest) ≡ cond unwanted [] (field_by w f ∷ []) ++ F rest
      by true = refl
      by false =
          reads (begin_of f) (cell_pieces (paths_of w) all_paths f.value ++ rest)
          ∙ ap₂ (λ (all : List (List ℕ)) (l : List ShownField). record { name = f.name; text = text_of_cells all } ∷ l) (cells-first (paths_of w) all_paths f.value rest e) (skip-cells F cells (paths_of w) all_paths f.value rest)

  pub each-read : (w : Wanted) (fields : List Field) (rest : List Piece) → begins_cell rest ≡ false → F (fields_pieces w fields ++ rest) ≡ fields_by w fields ++ F rest
  each-read w [] rest e = refl
  each-read w (f ∷ others) rest e =
      ap F (append_assoc (field_pieces w f) (fields_pieces w others) rest)
      ∙ one-read w f (fields_pieces w others ++ rest) (fields-begin w others rest e)
      ∙ ap (λ l. field_if w f ++ l) (each-read w others rest e)
      ∙ sym (append_assoc (field_if w f) (fields_by w others) (F rest))

own-read : (w : Wanted) (fields : List Field) (rest : List Piece) → begins_cell rest ≡ false → own_fields false (fields_pieces w fields ++ rest) ≡ fields_by w fields ++ own_fields false rest
own-read w fields rest e = each-read (own_fields false) (λ text ps. refl) (λ text ps. refl) w fields rest e

part-read : (w : Wanted) (fields : List Field) (rest : List Piece) → begins_cell rest ≡ false → part_fields (fields_pieces w fields ++ rest) ≡ fields_by w fields ++ part_fields rest
part-read w fields rest e = each-read part_fields (λ text ps. refl) (λ text ps. refl) w fields rest e

-- ---- what is inside
-- what follows a part has no field of it
record Ends (rest : List Piece) : Type 0 where
  pub cell : begins_cell rest ≡ false
  pub fields : part_fields rest ≡ []

parts-end : (w : Wanted) (parts : List Part) (rest : List Piece) → Ends rest → Ends (flat_map (part_pieces w) parts ++ rest)
parts-end w [] rest e = e
parts-end w (p ∷ others) rest e = record { cell = refl; fields = refl }

parts-are : (w : Wanted) (parts : List Part) (rest : List Piece) → Ends rest → parts_read (flat_map (part_pieces w) parts ++ rest) ≡ map (part_by w) parts ++ parts_read rest
parts-are w [] rest e = refl
parts-are w (p ∷ others) rest e =
    let more = flat_map (part_pieces w) others ++ rest in
    let ends = parts-end w others rest e in
    ap parts_read (append_assoc (part_pieces w p) (flat_map (part_pieces w) others) rest)
    ∙ ap₂ (λ (fields : List ShownField) (l : List ShownPart). record { kind = kind_alone p.kind; fields = fields } ∷ l)
    (part-read w p.fields more ends.cell ∙ ap (λ l. fields_by w p.fields ++ l) ends.fields ∙ append-nil (fields_by w p.fields))
    (skip-fields parts_read (λ text ps. refl) (λ text ps. refl) w p.fields more ∙ parts-are w others rest e)

-- what reads nothing of parts
skip-parts : {X : Type 0} (F : List Piece → X) → ((kind : List ℕ) (ps : List Piece) → F (marked 1 kind ∷ marked 6 [] ∷ ps) ≡ F ps) → ((text : List ℕ) (ps : List Piece) → F (marked 2 text ∷ ps) ≡ F ps)
    → ((text : List ℕ) (ps : List Piece) → F (marked 3 text ∷ ps) ≡ F ps) → (w : Wanted) (parts : List Part) (rest : List Piece) → F (flat_map (part_pieces w) parts ++ rest) ≡ F rest
skip-parts F k g h w [] rest = refl
skip-parts F k g h w (p ∷ others) rest =
    ap F (append_assoc (part_pieces w p) (flat_map (part_pieces w) others) rest)
    ∙ k p.kind (fields_pieces w p.fields ++ (flat_map (part_pieces w) others ++ rest))
    ∙ skip-fields F g h w p.fields (flat_map (part_pieces w) others ++ rest) ∙ skip-parts F k g h w others rest

-- ---- the record
module _ (w : Wanted) (r : Printed) where
  abbrev last : List Piece
  last = fields_pieces w r.last

  last-none : {X : Type 0} (F : List Piece → X) → ((text : List ℕ) (ps : List Piece) → F (marked 2 text ∷ ps) ≡ F ps) → ((text : List ℕ) (ps : List Piece) → F (marked 3 text ∷ ps) ≡ F ps) → F last ≡ F []
  last-none F g h = ap F (sym (append-nil last)) ∙ skip-fields F g h w r.last []

  last-own : own_fields false last ≡ fields_by w r.last
  last-own = ap (own_fields false) (sym (append-nil last)) ∙ own-read w r.last [] refl ∙ append-nil (fields_by w r.last)

  last-begin : begins_cell last ≡ false
  last-begin = ap begins_cell (sym (append-nil last)) ∙ fields-begin w r.last [] refl

  -- what is inside
  abbrev from_inside : Option (List Part) → List Piece
  from_inside inside = inside_pieces w inside ++ last

  inside-begin : (inside : Option (List Part)) → begins_cell (from_inside inside) ≡ false
  inside-begin None = last-begin
  inside-begin (Some parts) = by (has_inside w)
    where
      by : (has : Bool) → begins_cell (cond has (marked 4 [] ∷ (flat_map (part_pieces w) parts ++ marked 7 [] ∷ [])) [] ++ last) ≡ false
      by true = refl
      by false = last-begin

  inside-own : (inside : Option (List Part)) → own_fields false (from_inside inside) ≡ fields_by w r.last
  inside-own None = last-own
  inside-own (Some parts) = by (has_inside w)
    where
      by : (has : Bool) → own_fields false (cond has (marked 4 [] ∷ (flat_map (part_pieces w) parts ++ marked 7 [] ∷ [])) [] ++ last) ≡ fields_by w r.last
      by true =
          ap (own_fields true) (append_assoc (flat_map (part_pieces w) parts) (marked 7 [] ∷ []) last)
          ∙ skip-parts (own_fields true) (λ kind ps. refl) (λ text ps. refl) (λ text ps. refl) w parts (marked 7 [] ∷ last) ∙ last-own
      by false = last-own

  inside-is : (inside : Option (List Part)) → inside_read (list_any (is_marked 4) (from_inside inside)) (parts_read (from_inside inside)) ≡ inside_by w inside
  inside-is None = ap₂ inside_read (last-none (list_any (is_marked 4)) (λ text ps. refl) (λ text ps. refl)) (last-none parts_read (λ text ps. refl) (λ text ps. refl))
  inside-is (Some parts) = by (has_inside w)
    where
      by : (has : Bool)
          → inside_read (list_any (is_marked 4) (cond has (marked 4 [] ∷ (flat_map (part_pieces w) parts ++ marked 7 [] ∷ [])) [] ++ last)) (parts_read (cond has (marked 4 [] ∷ (flat_map (part_pieces w) parts ++ marked 7 [] ∷ [])) [] ++ last)) ≡ cond has (Some (map (part_by w) parts)) None
      by true =
          ap Some (ap parts_read (append_assoc (flat_map (part_pieces w) parts) (marked 7 [] ∷ []) last)
          ∙ parts-are w parts (marked 7 [] ∷ last) (record { cell = refl; fields = refl })
          ∙ ap (λ l. map (part_by w) parts ++ l) (last-none parts_read (λ text ps. refl) (λ text ps. refl)) ∙ append-nil (map (part_by w) parts))
      by false = ap₂ inside_read (last-none (list_any (is_marked 4)) (λ text ps. refl) (λ text ps. refl)) (last-none parts_read (λ text ps. refl) (λ text ps. refl))

  -- what tells of it
  abbrev from_aside : Option LastLine → List Piece
  from_aside aside = aside_pieces aside ++ from_inside r.inside

  skip-aside : {X : Type 0} (F : List Piece → X) → ((text : List ℕ) (ps : List Piece) → F (marked 5 text ∷ marked 6 [] ∷ ps) ≡ F ps) → (aside : Option LastLine) → F (from_aside aside) ≡ F (from_inside r.inside)
  skip-aside F k None = refl
  skip-aside F k (Some line) = k _ (from_inside r.inside)

  aside-begin : (aside : Option LastLine) → begins_cell (from_aside aside) ≡ false
  aside-begin None = inside-begin r.inside
  aside-begin (Some line) = refl

  abbrev after : List Piece
  after = fields_pieces w r.fields ++ from_aside r.aside

  after-own : own_fields false after ≡ fields_by w r.fields ++ fields_by w r.last
  after-own = own-read w r.fields (from_aside r.aside) (aside-begin r.aside) ∙ ap (λ l. fields_by w r.fields ++ l) (skip-aside (own_fields false) (λ text ps. refl) r.aside ∙ inside-own r.inside)

  after-parts : parts_read after ≡ parts_read (from_inside r.inside)
  after-parts = skip-fields parts_read (λ text ps. refl) (λ text ps. refl) w r.fields (from_aside r.aside) ∙ skip-aside parts_read (λ text ps. refl) r.aside

  abbrev all : List Piece
  all = fields_pieces w r.origin ++ (kind_pieces r.kind ++ after)

  any-inside : list_any (is_marked 4) all ≡ list_any (is_marked 4) (from_inside r.inside)
  any-inside =
      skip-fields (list_any (is_marked 4)) (λ text ps. refl) (λ text ps. refl) w r.origin (kind_pieces r.kind ++ after)
      ∙ skip-fields (list_any (is_marked 4)) (λ text ps. refl) (λ text ps. refl) w r.fields (from_aside r.aside)
      ∙ skip-aside (list_any (is_marked 4)) (λ text ps. refl) r.aside

  -- what tells of it
  inside-untold : (inside : Option (List Part)) → aside_of (from_inside inside) ≡ None
  inside-untold None = last-none aside_of (λ text ps. refl) (λ text ps. refl)
  inside-untold (Some parts) = by (has_inside w)
    where
      by : (has : Bool) → aside_of (cond has (marked 4 [] ∷ (flat_map (part_pieces w) parts ++ marked 7 [] ∷ [])) [] ++ last) ≡ None
      by true =
          ap aside_of (append_assoc (flat_map (part_pieces w) parts) (marked 7 [] ∷ []) last)
          ∙ skip-parts aside_of (λ kind ps. refl) (λ text ps. refl) (λ text ps. refl) w parts (marked 7 [] ∷ last) ∙ last-none aside_of (λ text ps. refl) (λ text ps. refl)
      by false = last-none aside_of (λ text ps. refl) (λ text ps. refl)

  aside-told : (aside : Option LastLine) → aside_of (from_aside aside) ≡ option_map line_text aside
  aside-told None = inside-untold r.inside
  aside-told (Some line) = refl

  pub told-is : aside_of (record_pieces w r) ≡ option_map line_text r.aside
  told-is =
      skip-fields aside_of (λ text ps. refl) (λ text ps. refl) w r.origin (kind_pieces r.kind ++ after)
      ∙ skip-fields aside_of (λ text ps. refl) (λ text ps. refl) w r.fields (from_aside r.aside) ∙ aside-told r.aside

  pub record-read : read_pieces (record_pieces w r) ≡ record_by w r
  record-read =
      let kind : kind_read all ≡ kind_alone r.kind = skip-fields kind_read (λ text ps. refl) (λ text ps. refl) w r.origin (kind_pieces r.kind ++ after) in
      let fields : own_fields false all ≡ fields_by w r.origin ++ (fields_by w r.fields ++ fields_by w r.last) =
      own-read w r.origin (kind_pieces r.kind ++ after) refl ∙ ap (λ l. fields_by w r.origin ++ l) after-own in
      let past : after_kind all ≡ marked 6 [] ∷ after = skip-fields after_kind (λ text ps. refl) (λ text ps. refl) w r.origin (kind_pieces r.kind ++ after) in
      let inside : inside_read (list_any (is_marked 4) all) (parts_read (after_kind all)) ≡ inside_by w r.inside =
      ap₂ inside_read any-inside (ap parts_read past ∙ after-parts) ∙ inside-is r.inside in
      λ i. record { kind = kind i; fields = fields i; inside = inside i }
