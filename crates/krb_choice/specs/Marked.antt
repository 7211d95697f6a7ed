-- Marked texts: what they show of records, and the text without marks.
use Rattle.std.specs.Prelude.{ℕ, ◌==◌, ◌||◌, nat_lt, not, Bool, true, false, List, [], ◌∷◌, ◌++◌, Option, None, Some, codes, if◌then◌else◌}
use Rattle.std.specs.List.{flat_map, list_any}
use Rattle.krb_record.specs.declared.path.Path.{Path}
use Rattle.krb_record.specs.Forms.{path_letter}
use Rattle.krb_record.specs.Text.{line_feed}
use Rattle.krb_choice.specs.Choices.{Choice, Print, Rows, ShownField, ShownPart, ShownRecord, Whole, is_kept, kind_alone, rows_text}

-- ---- pieces: a mark, which is an octet below 20, and the octets up to the next one
abbrev pub unmarked : List ℕ → List ℕ
unmarked [] = []
unmarked (c ∷ others) = if nat_lt c 32 then [] else c ∷ unmarked others

pub record Piece : Type 0 where
  pub mark : ℕ
  pub text : List ℕ

abbrev pub pieces : List ℕ → List Piece
pieces [] = []
pieces (c ∷ others) = if nat_lt c 32 then record { mark = c; text = unmarked others } ∷ pieces others else pieces others

-- ---- fields: 02, what begins the member, and cells
-- a cell is the letter of its path and its text
abbrev pub is_cell_of : Path → List ℕ → Bool
is_cell_of path [] = false
is_cell_of path (letter ∷ text) = letter == path_letter path

abbrev pub without_first : List ℕ → List ℕ
without_first [] = []
without_first (first ∷ others) = others

abbrev pub text_of_cells : List (List ℕ) → Path → List ℕ
text_of_cells [] path = codes "-"
text_of_cells (cell ∷ others) path = if is_cell_of path cell then without_first cell else text_of_cells others path

-- the cells of a field follow it at once
abbrev pub first_cells : List Piece → List (List ℕ)
first_cells [] = []
first_cells (piece ∷ others) = if piece.mark == 3 then piece.text ∷ first_cells others else []

-- what begins a member is `,"` and the name
abbrev pub field_read : (begin : List ℕ) → List Piece → ShownField
field_read begin others = record { name = without_first (without_first begin); text = text_of_cells (first_cells others) }

-- ---- records: what is inside lies between 04 and 07, and all other fields are those of the record
abbrev pub own_fields : (is_inside : Bool) → List Piece → List ShownField
own_fields is_inside [] = []
own_fields true (piece ∷ others) = own_fields (not (piece.mark == 7)) others
own_fields false (piece ∷ others) = if piece.mark == 2 then field_read piece.text others ∷ own_fields false others else own_fields (piece.mark == 4) others

-- the fields of what is inside follow its kind
abbrev pub part_fields : List Piece → List ShownField
part_fields [] = []
part_fields (piece ∷ others) =
    if piece.mark == 1 || piece.mark == 7 then []
    else if piece.mark == 2 then field_read piece.text others ∷ part_fields others
    else part_fields others

abbrev pub parts_read : List Piece → List ShownPart
parts_read [] = []
parts_read (piece ∷ others) = if piece.mark == 1 then record { kind = kind_alone piece.text; fields = part_fields others } ∷ parts_read others else parts_read others

-- the first kind is that of the record, and others are of what is inside
abbrev pub kind_read : List Piece → List ℕ
kind_read [] = []
kind_read (piece ∷ others) = if piece.mark == 1 then kind_alone piece.text else kind_read others

abbrev pub after_kind : List Piece → List Piece
after_kind [] = []
after_kind (piece ∷ others) = if piece.mark == 1 then others else after_kind others

abbrev pub is_marked : (mark : ℕ) → Piece → Bool
is_marked mark piece = piece.mark == mark

-- a record that is kept whole has no marks around what is inside
abbrev pub inside_read : Bool → List ShownPart → Option (List ShownPart)
inside_read true parts = Some parts
inside_read false [] = None
inside_read false (first ∷ others) = Some (first ∷ others)

abbrev pub read_pieces : List Piece → ShownRecord
read_pieces all = record { kind = kind_read all; fields = own_fields false all; inside = inside_read (list_any (is_marked 4) all) (parts_read (after_kind all)) }

-- what a marked record shows
abbrev pub read_record : List ℕ → ShownRecord
read_record text = read_pieces (pieces text)

-- the line that tells of a record that may be the last
abbrev pub aside_of : List Piece → Option (List ℕ)
aside_of [] = None
aside_of (piece ∷ others) = if piece.mark == 5 then Some piece.text else aside_of others

-- the text that stands between its marks
abbrev pub kept_piece : Piece → List ℕ
kept_piece piece = if piece.mark == 6 then piece.text else []

abbrev pub whole_text : List ℕ → List ℕ
whole_text text = unmarked text ++ flat_map kept_piece (pieces text) ++ line_feed

-- ---- what is written of a marked record, which may be the last
abbrev pub written_by : Print → List ℕ → List ℕ
written_by (Whole base) text = whole_text text
written_by (Rows columns) text = rows_text columns (read_record text)

unfoldable pub written : Choice → (is_last : Bool) → List ℕ → List ℕ
written c is_last text = if is_kept c is_last (read_record text) then written_by c.print text else []
