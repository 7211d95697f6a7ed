-- What columns show of a record: a cell of the record itself, the kinds of what is inside, or a cell of each that is inside of a kind.
use Rattle.std.specs.Prelude.{ℕ, ◌&&◌, ◌||◌, Bool, true, false, not, List, [], ◌∷◌, ◌++◌, length, map, Option, None, Some, codes, if◌then◌else◌}
use Rattle.std.specs.List.{filter, list_any, slice_get}
use Rattle.krb_record.specs.Text.{joined, line_feed}
use Rattle.krb_record.specs.declared.path.Path.{Path}
use Rattle.krb_choice.specs.Choices.{Column, Inside, Kind, Member, Print, Rows, ShownField, ShownPart, ShownRecord, Shows, Whole, cell_of, chooses, inside_cell, is_called, is_of, is_there, part_cell, parts_of, repeated}

pub data Found : Type 0 where
  Own : (cell : Option (List ℕ)) → Found
  Kinds : (text : List ℕ) → Found
  Within : (cells : List (List ℕ)) → Found

-- the cell of a field, if it is there
abbrev pub field_found : (name : List ℕ) → Path → List ShownField → Option (List ℕ)
field_found name path [] = None
field_found name path (field ∷ others) = if is_called name field then Some (field.text path) else field_found name path others

abbrev pub kinds_found : Option (List ShownPart) → Found
kinds_found None = Own None
kinds_found (Some parts) = Kinds (inside_cell (Some parts))

abbrev pub found_own : Shows → ShownRecord → Found
found_own Kind r = Own (Some r.kind)
found_own Inside r = kinds_found r.inside
found_own (Member name path) r = Own (field_found name path r.fields)

abbrev pub found_of : Option (List ℕ) → Shows → ShownRecord → Found
found_of None shows r = found_own shows r
found_of (Some kind) shows r = Within (map (λ part. part_cell shows (Some part)) (filter (is_of kind) (parts_of r.inside)))

abbrev pub found : ShownRecord → Column → Found
found r column = found_of column.within column.shows r

abbrev pub has_rows : Print → Bool
has_rows (Whole base) = false
has_rows (Rows columns) = true

-- ---- rows of what was found
abbrev pub is_any : {A : Type 0} → List A → Bool
is_any [] = false
is_any (first ∷ others) = true

abbrev pub has_found : Found → Bool
has_found (Own cell) = is_there cell
has_found (Kinds text) = true
has_found (Within cells) = is_any cells

abbrev pub count_found : Found → ℕ
count_found (Own cell) = 0
count_found (Kinds text) = 0
count_found (Within cells) = length cells

abbrev pub or_none : Option (List ℕ) → List ℕ
or_none None = codes "-"
or_none (Some cell) = cell

abbrev pub cell_found : (row : ℕ) → Found → List ℕ
cell_found row (Own cell) = repeated row (or_none cell)
cell_found row (Kinds text) = repeated row text
cell_found row (Within cells) = or_none (slice_get cells row)

abbrev pub row_found : (row : ℕ) → List Found → List ℕ
row_found row all = joined [] (9 ∷ []) (cell_found row) all ++ line_feed

-- all is there that chooses
abbrev pub all_found : List Column → List Found → Bool
all_found [] all = true
all_found (column ∷ others) [] = true
all_found (column ∷ others) (first ∷ all) = (not (chooses column) || has_found first) && all_found others all
