-- What columns show of a record.
use Rattle.std.proofs.Common.{◌≡◌, ◌∙◌, ◌||◌, ◌&&◌, ℕ, suc, ◌+◌, Bool, true, false, not, List, [], ◌∷◌, ◌++◌, Option, None, Some, ap, ap₂, sym, refl, arith, length, map}
use Rattle.std.specs.List.{filter, flat_map, list_all, list_any, slice_get}
use Rattle.std.proofs.lemmas.Grind.{common_steps}
use Rattle.std.proofs.lemmas.Option.{slice_get-map}
use Rattle.std.specs.Option.{option_map}
use Rattle.krb_record.specs.Text.{joined, line_feed}
use Rattle.krb_record.specs.declared.path.Path.{Path}
use Rattle.krb_choice.specs.Choices.{Column, Inside, Kind, Member, ShownField, ShownPart, ShownRecord, Shows, cell_in, cell_of, chooses, count_rows, count_within, greatest, has, inside_cell, is_called, is_of, is_there, part_cell, parts_of, row_text}
use Rattle.krb_choice.specs.Columns.{Found, Kinds, Own, Within, all_found, cell_found, count_found, field_found, found, has_found, is_any, kinds_found, or_none, row_found}
use Rattle.krb_choice.specs.Marked.{inside_read}

-- ---- what is inside
pub kinds_there : (has : Bool) (parts : List ShownPart) → (has || is_any parts) ≡ true → kinds_found (inside_read has parts) ≡ Kinds (inside_cell (Some parts))
kinds_there true parts is = refl
kinds_there false [] is = cc
kinds_there false (first ∷ others) is = refl

pub kinds_none : (has : Bool) (parts : List ShownPart) → (has || is_any parts) ≡ false → kinds_found (inside_read has parts) ≡ Own None
kinds_none true parts is = cc
kinds_none false [] is = refl
kinds_none false (first ∷ others) is = cc

pub parts_inside : (has : Bool) (parts : List ShownPart) → parts_of (inside_read has parts) ≡ parts
parts_inside true parts = refl
parts_inside false [] = refl
parts_inside false (first ∷ others) = refl

-- ---- whether it is there
pub all_found_none : (columns : List Column) → all_found columns [] ≡ true
all_found_none [] = refl
all_found_none (column ∷ others) = refl

field_there : (name : List ℕ) (path : Path) (fields : List ShownField) → is_there (field_found name path fields) ≡ list_any (is_called name) fields
field_there name path [] = refl
field_there name path (field ∷ others) = grind (arith, common_steps, field_there name path others)

any_of : (shows : Shows) (kind : List ℕ) (parts : List ShownPart) → is_any (map (λ part. part_cell shows (Some part)) (filter (is_of kind) parts)) ≡ list_any (is_of kind) parts
any_of shows kind [] = refl
any_of shows kind (part ∷ others) = grind (arith, common_steps, any_of shows kind others)

kinds_is : (inside : Option (List ShownPart)) → has_found (kinds_found inside) ≡ is_there inside
kinds_is None = refl
kinds_is (Some parts) = refl

has_one : (r : ShownRecord) (within : Option (List ℕ)) (shows : Shows) → has_found (found r (record { within = within; shows = shows })) ≡ has (record { within = within; shows = shows }) r
has_one r None Kind = refl
has_one r None Inside = kinds_is r.inside
has_one r None (Member name path) = field_there name path r.fields
has_one r (Some kind) shows = any_of shows kind (parts_of r.inside)

pub has_each : (r : ShownRecord) (columns : List Column) → all_found columns (map (found r) columns) ≡ list_all (λ column. not (chooses column) || has column r) columns
has_each r [] = refl
has_each r (column ∷ others) = ap₂ (λ a b. (not (chooses column) || a) && b) (has_one r column.within column.shows) (has_each r others)

-- ---- rows
field_cell : (name : List ℕ) (path : Path) (fields : List ShownField) → or_none (field_found name path fields) ≡ cell_of name path fields
field_cell name path [] = refl
field_cell name path (field ∷ others) = grind (arith, common_steps, field_cell name path others)

kinds_cell : (row : ℕ) (inside : Option (List ShownPart)) → cell_found row (kinds_found inside) ≡ cell_found row (Own (Some (inside_cell inside)))
kinds_cell row None = refl
kinds_cell row (Some parts) = refl

part_or_none : (shows : Shows) (part : Option ShownPart) → or_none (option_map (λ one. part_cell shows (Some one)) part) ≡ part_cell shows part
part_or_none shows None = refl
part_or_none shows (Some part) = refl

cell_is : (row : ℕ) (r : ShownRecord) (within : Option (List ℕ)) (shows : Shows) → cell_found row (found r (record { within = within; shows = shows })) ≡ cell_in row r (record { within = within; shows = shows })
cell_is row r None Kind = refl
cell_is row r None Inside = kinds_cell row r.inside
cell_is row r None (Member name path) = ap (λ cell. cell_found row (Own (Some cell))) (field_cell name path r.fields)
cell_is row r (Some kind) shows = ap or_none (slice_get-map (λ part. part_cell shows (Some part)) (filter (is_of kind) (parts_of r.inside)) row) ∙ part_or_none shows (slice_get (filter (is_of kind) (parts_of r.inside)) row)

rest_is : (row : ℕ) (r : ShownRecord) (columns : List Column) → flat_map (λ one. (9 ∷ []) ++ cell_found row one) (map (found r) columns) ≡ flat_map (λ column. (9 ∷ []) ++ cell_in row r column) columns
rest_is row r [] = refl
rest_is row r (column ∷ others) = ap₂ (λ a b. ((9 ∷ []) ++ a) ++ b) (cell_is row r column.within column.shows) (rest_is row r others)

-- a row of what was found is that of the record
pub row_is : (row : ℕ) (r : ShownRecord) (columns : List Column) → row_found row (map (found r) columns) ≡ row_text columns r row
row_is row r [] = refl
row_is row r (column ∷ others) = ap₂ (λ a b. (a ++ b) ++ line_feed) (cell_is row r column.within column.shows) (rest_is row r others)

length_is : (shows : Shows) (parts : List ShownPart) → length (map (λ part. part_cell shows (Some part)) parts) ≡ length parts
length_is shows [] = refl
length_is shows (part ∷ others) = ap suc (length_is shows others)

count_kinds : (inside : Option (List ShownPart)) → count_found (kinds_found inside) ≡ 0
count_kinds None = refl
count_kinds (Some parts) = refl

count_is : (r : ShownRecord) (within : Option (List ℕ)) (shows : Shows) → count_found (found r (record { within = within; shows = shows })) ≡ count_within within r
count_is r None Kind = refl
count_is r None Inside = count_kinds r.inside
count_is r None (Member name path) = refl
count_is r (Some kind) shows = length_is shows (filter (is_of kind) (parts_of r.inside))

counts_are : (r : ShownRecord) (columns : List Column) → map count_found (map (found r) columns) ≡ map (λ column. count_within column.within r) columns
counts_are r [] = refl
counts_are r (column ∷ others) = ap₂ (λ a b. a ∷ b) (count_is r column.within column.shows) (counts_are r others)

-- there are as many rows
pub rows_are : (r : ShownRecord) (columns : List Column) → greatest (1 ∷ map count_found (map (found r) columns)) ≡ count_rows columns r
rows_are r columns = ap (λ counts. greatest (1 ∷ counts)) (counts_are r columns)
