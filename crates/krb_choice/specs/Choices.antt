-- Choices: which records of a listing are kept, and the rows that are made of them.
use Rattle.std.specs.Prelude.{ℕ, suc, zero, ◌-◌, ◌==◌, ◌&&◌, ◌||◌, nat_lt, not, Bool, true, false, List, [], ◌∷◌, ◌++◌, length, map, Option, None, Some, bytes_eq, codes, if◌then◌else◌}
use Rattle.std.specs.Option.{option_map}
use Rattle.std.specs.List.{filter, flat_map, list_all, list_any, slice_get}
use Rattle.krb_record.specs.declared.path.Path.{Path}
use Rattle.krb_record.specs.declared.form.Base.{Base}
use Rattle.krb_record.specs.declared.form.Form.TheVariants.{NamedLines}
use Rattle.krb_record.specs.Forms.{cell, fields_text, form_of, heading, record_line}
use Rattle.krb_record.specs.Text.{joined, line_feed}
use Rattle.krb_record.specs.Values.{Field, LastLine, Part, Printed}

-- ---- columns
-- what a column shows: the kind, the kinds of what is inside, or a path of the field of a name
pub data Shows : Type 0 where
  Kind : Shows
  Inside : Shows
  Member : (name : List ℕ) → (path : Path) → Shows

-- of the record, or of what is inside of a kind
pub record Column : Type 0 where
  pub within : Option (List ℕ)
  pub shows : Shows

-- how what is kept is printed: whole, or in rows
pub data Print : Type 0 where
  Whole : (base : Base) → Print
  Rows : (columns : List Column) → Print

-- by its kinds alone, of records and of what is inside of them, or by what records of the kinds have
pub record Choice : Type 0 where
  pub by_kind : Bool
  pub kinds : List (List ℕ)
  pub print : Print

abbrev pub columns_of : Print → List Column
columns_of (Whole base) = []
columns_of (Rows columns) = columns

-- ---- what a record shows: cells of its fields, with those of its origin and what an object has last, and the records inside of it
pub record ShownField : Type 0 where
  pub name : List ℕ
  pub text : Path → List ℕ

pub record ShownPart : Type 0 where
  pub kind : List ℕ
  pub fields : List ShownField

pub record ShownRecord : Type 0 where
  pub kind : List ℕ
  pub fields : List ShownField
  pub inside : Option (List ShownPart)

abbrev pub shown_field : Field → ShownField
shown_field field = record { name = field.name; text = λ path. cell path field.value }

abbrev pub shown_part : Part → ShownPart
shown_part part = record { kind = part.kind; fields = map shown_field part.fields }

-- the kind of input that is refused has a word after a blank in lines
abbrev pub kind_alone : List ℕ → List ℕ
kind_alone [] = []
kind_alone (c ∷ others) = if c == 32 then [] else c ∷ kind_alone others

abbrev pub shown : Printed → ShownRecord
shown r = record { kind = kind_alone r.kind; fields = map shown_field (r.origin ++ r.fields ++ r.last); inside = option_map (map shown_part) r.inside }

-- ---- what it has
abbrev pub parts_of : Option (List ShownPart) → List ShownPart
parts_of None = []
parts_of (Some parts) = parts

abbrev pub is_there : {A : Type 0} → Option A → Bool
is_there None = false
is_there (Some a) = true

abbrev pub is_of : List ℕ → ShownPart → Bool
is_of kind part = bytes_eq part.kind kind

abbrev pub is_called : List ℕ → ShownField → Bool
is_called name field = bytes_eq field.name name

abbrev pub has_shown : Shows → ShownRecord → Bool
has_shown Kind r = true
has_shown Inside r = is_there r.inside
has_shown (Member name path) r = list_any (is_called name) r.fields

abbrev pub has_within : Option (List ℕ) → Shows → ShownRecord → Bool
has_within None shows r = has_shown shows r
has_within (Some kind) shows r = list_any (is_of kind) (parts_of r.inside)

-- whether a record has what a column shows: no value decides
abbrev pub has : Column → ShownRecord → Bool
has column r = has_within column.within column.shows r

-- ---- which records are kept
-- the kind and the origin of a record do not choose
abbrev pub is_of_origin : List ℕ → Bool
is_of_origin name = list_any (bytes_eq name) (codes "file" ∷ codes "packet" ∷ codes "t" ∷ codes "t_us" ∷ codes "flow" ∷ codes "line" ∷ codes "via" ∷ [])

abbrev pub shown_chooses : Shows → Bool
shown_chooses Kind = false
shown_chooses Inside = true
shown_chooses (Member name path) = not (is_of_origin name)

abbrev pub chooses_in : Option (List ℕ) → Shows → Bool
chooses_in None shows = shown_chooses shows
chooses_in (Some kind) shows = true

abbrev pub chooses : Column → Bool
chooses column = chooses_in column.within column.shows

abbrev pub is_kind_of : Choice → List ℕ → Bool
is_kind_of c kind = list_any (bytes_eq kind) c.kinds

-- by kind: its own, or that of something inside
abbrev pub has_kind : Choice → ShownRecord → Bool
has_kind c r = is_kind_of c r.kind || list_any (λ part. is_kind_of c part.kind) (parts_of r.inside)

-- by what it has: all that chooses, and if nothing chooses each record but a refusal that ends the listing
abbrev pub has_all : Choice → (is_last : Bool) → ShownRecord → Bool
has_all c is_last r =
    is_kind_of c r.kind
    && list_all (λ column. not (chooses column) || has column r) (columns_of c.print)
    && (list_any chooses (columns_of c.print) || not is_last)

abbrev pub is_kept : Choice → (is_last : Bool) → ShownRecord → Bool
is_kept c is_last r = if c.by_kind then has_kind c r else has_all c is_last r

-- ---- rows
-- the cell of the first field of a name, or `-`
abbrev pub cell_of : (name : List ℕ) → Path → List ShownField → List ℕ
cell_of name path [] = codes "-"
cell_of name path (field ∷ others) = if is_called name field then field.text path else cell_of name path others

abbrev pub part_cell : Shows → Option ShownPart → List ℕ
part_cell shows None = codes "-"
part_cell Kind (Some part) = part.kind
part_cell Inside (Some part) = codes "-"
part_cell (Member name path) (Some part) = cell_of name path part.fields

abbrev pub inside_cell : Option (List ShownPart) → List ℕ
inside_cell None = codes "-"
inside_cell (Some parts) = joined (codes "[]") (codes ",") (λ part. part.kind) parts

abbrev pub own_cell : Shows → ShownRecord → List ℕ
own_cell Kind r = r.kind
own_cell Inside r = inside_cell r.inside
own_cell (Member name path) r = cell_of name path r.fields

-- what is not of something inside is the same in each row, and `..` in later ones if it is long
abbrev pub repeated : (row : ℕ) → List ℕ → List ℕ
repeated row text = if nat_lt 0 row && nat_lt 256 (length text) then codes ".." else text

abbrev pub cell_within : Option (List ℕ) → Shows → (row : ℕ) → ShownRecord → List ℕ
cell_within None shows row r = repeated row (own_cell shows r)
cell_within (Some kind) shows row r = part_cell shows (slice_get (filter (is_of kind) (parts_of r.inside)) row)

abbrev pub cell_in : (row : ℕ) → ShownRecord → Column → List ℕ
cell_in row r column = cell_within column.within column.shows row r

-- the cells with tabs between, and a line feed
abbrev pub row_text : List Column → ShownRecord → (row : ℕ) → List ℕ
row_text columns r row = joined [] (9 ∷ []) (cell_in row r) columns ++ line_feed

-- how many records are inside of the kind of a column
abbrev pub count_within : Option (List ℕ) → ShownRecord → ℕ
count_within None r = 0
count_within (Some kind) r = length (filter (is_of kind) (parts_of r.inside))

abbrev pub greatest : List ℕ → ℕ
greatest [] = 0
greatest (n ∷ others) = if nat_lt n (greatest others) then greatest others else n

-- as many as the greatest number of records inside of one kind, but at least one
abbrev pub count_rows : List Column → ShownRecord → ℕ
count_rows columns r = greatest (1 ∷ map (λ column. count_within column.within r) columns)

abbrev pub below : ℕ → List ℕ
below zero = []
below (suc n) = below n ++ n ∷ []

abbrev pub rows_text : List Column → ShownRecord → List ℕ
rows_text columns r = flat_map (row_text columns r) (below (count_rows columns r))

-- ---- what is printed of a record, which may be the last of its listing
abbrev pub text_by : Print → Printed → List ℕ
text_by (Whole base) r = record_line (form_of base) r
text_by (Rows columns) r = rows_text columns (shown r)

unfoldable pub chosen_text : Choice → (is_last : Bool) → Printed → List ℕ
chosen_text c is_last r = if is_kept c is_last (shown r) then text_by c.print r else []

-- the last record of a source is told if it is not kept: its line with names, up to what counts what was refused
abbrev pub told_line : Option LastLine → List ℕ
told_line None = []
told_line (Some line) = heading NamedLines line.origin line.kind ++ fields_text NamedLines line.fields ++ line_feed

unfoldable pub told_text : Choice → Printed → List ℕ
told_text c r = if is_kept c true (shown r) then [] else told_line r.aside
