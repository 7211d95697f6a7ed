-- What is written of one record.
use Rattle.std.proofs.Common.{◌≡◌, ◌∙◌, ℕ, Bool, true, false, List, [], ◌∷◌, ◌++◌, map, cond, refl, ap}
use Rattle.std.specs.List.{flat_map}
use Rattle.krb_choice.specs.Choices.{Choice, Print, Rows, Whole, below, columns_of, count_rows, is_kept, row_text, rows_text}
use Rattle.krb_choice.specs.Columns.{found, has_rows, row_found}
use Rattle.krb_choice.specs.Marked.{read_pieces, read_record, whole_text, written, written_by}
use Rattle.krb_choice.specs.Read.{Finds, all_in}
use Rattle.krb_choice.specs.declared.record.Record.{Record}
use Rattle.krb_choice.proofs.Columns.{row_is, rows_are}
use Rattle.krb_choosing.specs.Listings.{chosen_of, is_last}
use Rattle.krb_choosing.specs.inner.Chooser.{rows_found}

each-row : (r : _) (columns : _) (rows : List ℕ) → flat_map (λ row. row_found row (map (found r) columns)) rows ≡ flat_map (row_text columns r) rows
each-row r columns [] = refl
each-row r columns (row ∷ others) = ap (λ l. l ++ flat_map (λ row. row_found row (map (found r) columns)) others) (row_is row r columns) ∙ ap (λ l. row_text columns r row ++ l) (each-row r columns others)

-- the rows of what was found are those of the record
pub rows-of : (c : Choice) (text : List ℕ) (of : Record) → Finds c text of → rows_found (all_in of.found.items) ≡ rows_text (columns_of c.print) (read_record text)
rows-of c text of finds =
    let r = read_record text in let columns = columns_of c.print in
    ap rows_found (finds.found_of ∙ ap (λ all. map (found (read_pieces all)) columns) finds.pieces_of)
    ∙ ap (λ n. flat_map (λ row. row_found row (map (found r) columns)) (below n)) (rows_are r columns)
    ∙ each-row r columns (below (count_rows columns r))

-- whether it is kept
pub kept-of : (c : Choice) (last : Bool) (text : List ℕ) (of : Record) → Finds c text of → is_kept c last (read_pieces of.pieces.items) ≡ is_kept c last (read_record text)
kept-of c last text of finds = ap (λ all. is_kept c last (read_pieces all)) finds.pieces_of

pub kept-as : (c : Choice) (goes_on : Bool) (text : List ℕ) (of : Record) (last kept : Bool) → Finds c text of → last ≡ is_last goes_on text → kept ≡ is_kept c last (read_pieces of.pieces.items) → kept ≡ is_kept c (is_last goes_on text) (read_record text)
kept-as c goes_on text of last kept finds is same = same ∙ ap (λ l. is_kept c l (read_pieces of.pieces.items)) is ∙ kept-of c (is_last goes_on text) text of finds

module _ (c : Choice) (goes_on : Bool) (text : List ℕ) where
  pub not-chosen : is_kept c (is_last goes_on text) (read_record text) ≡ false → chosen_of c goes_on text ≡ []
  unfolding written
  not-chosen is = ap (λ b. cond b (written_by c.print text) []) is

  pub is-chosen : is_kept c (is_last goes_on text) (read_record text) ≡ true → chosen_of c goes_on text ≡ written_by c.print text
  unfolding written
  is-chosen is = ap (λ b. cond b (written_by c.print text) []) is

pub by-rows : (print : Print) (text : List ℕ) → has_rows print ≡ true → written_by print text ≡ rows_text (columns_of print) (read_record text)
by-rows (Rows columns) text is = refl
by-rows (Whole base) text is = cc

pub by-whole : (print : Print) (text : List ℕ) → has_rows print ≡ false → written_by print text ≡ whole_text text
by-whole (Whole base) text is = refl
by-whole (Rows columns) text is = cc
