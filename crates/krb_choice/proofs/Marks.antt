-- Marks of a text.
use Rattle.std.proofs.Common.{◌≡◌, ◌∙◌, ℕ, ◌+◌, ◌<◌, ◌≤◌, Bool, true, false, List, [], ◌∷◌, ◌++◌, ap, sym, refl, arith, cond, eqb, length, take, drop, nat_lt}
use Rattle.std.specs.List.{prefix_len}
use Rattle.std.proofs.lemmas.List.{drop-drop, take-append-drop}
use Rattle.std.proofs.lemmas.List.Folds.{prefix_len-append}
use Rattle.std.proofs.lemmas.Bool.{cond-false, cond-true, eq-eqb, ne_eqb}
use Rattle.std.proofs.lemmas.List.Sums.{prefix_len-le-length}
use Rattle.std.proofs.lemmas.Simd.{length-chunk}
use Rattle.std.proofs.lemmas.Grind.{common_steps}
use Rattle.krb_choice.specs.Lanes.{is_text}
use Rattle.krb_choice.specs.Marked.{Piece, pieces, unmarked}
use Rattle.std.specs.List.{list_any}
use Rattle.krb_choice.specs.Columns.{is_any}
use Rattle.krb_choice.specs.Marked.{is_marked, parts_read}

pub unmarked_is : (text : List ℕ) → length (unmarked text) ≡ prefix_len is_text text
unmarked_is [] = refl
unmarked_is (octet ∷ text) = grind (arith, common_steps, unmarked_is text)

-- one look further
pub prefix_at : (xs : List ℕ) (at n : ℕ) → at + n ≤ length xs → prefix_len is_text (drop at xs) ≡ cond (eqb (prefix_len is_text (take n (drop at xs))) n) (n + prefix_len is_text (drop (at + n) xs)) (prefix_len is_text (take n (drop at xs)))
prefix_at xs at n room = ap (prefix_len is_text) (sym (take-append-drop n (drop at xs))) ∙ rw (prefix_len-append is_text (take n (drop at xs)) (drop n (drop at xs)), length-chunk at n xs room, drop-drop n at xs) refl

pub stops_here : (text : List ℕ) (at count : ℕ) → at + 16 ≤ length text → count ≡ prefix_len is_text (take 16 (drop at text)) → count < 16 → length (unmarked (drop at text)) ≡ count
stops_here text at count room is less =
    unmarked_is (drop at text) ∙ prefix_at text at 16 room ∙ cond-false _ _ _ (ne_eqb (prefix_len is_text (take 16 (drop at text))) 16 (λ e. absurd (omega (arith, is, e, less)))) ∙ sym is

pub goes_on : (text : List ℕ) (at count : ℕ) → at + 16 ≤ length text → count ≡ prefix_len is_text (take 16 (drop at text)) → 16 ≤ count → length (unmarked (drop at text)) ≡ 16 + length (unmarked (drop (at + 16) text))
goes_on text at count room is more =
    let most : prefix_len is_text (take 16 (drop at text)) ≤ 16 = omega (arith, prefix_len-le-length is_text (take 16 (drop at text)), length-chunk at 16 text room) in
    unmarked_is (drop at text) ∙ prefix_at text at 16 room ∙ cond-true _ _ _ (eq-eqb (prefix_len is_text (take 16 (drop at text))) 16 (omega (arith, is, more, most))) ∙ ap (λ n. 16 + n) (sym (unmarked_is (drop (at + 16) text)))

-- ---- parts

pub any_part : (all : List Piece) → is_any (parts_read all) ≡ list_any (is_marked 1) all
any_part [] = refl
any_part (piece ∷ others) = grind (arith, common_steps, any_part others)

-- ---- pieces
pub at_mark : (text : List ℕ) → unmarked (drop (length (unmarked text)) text) ≡ []
at_mark [] = refl
at_mark (octet ∷ text) = grind (arith, common_steps, at_mark text)

pub to_mark : (text : List ℕ) → take (length (unmarked text)) text ≡ unmarked text
to_mark [] = refl
to_mark (octet ∷ text) = grind (arith, common_steps, to_mark text)

pub pieces_from : (text : List ℕ) → pieces (drop (length (unmarked text)) text) ≡ pieces text
pieces_from [] = refl
pieces_from (octet ∷ text) = grind (arith, common_steps, pieces_from text)

pub first_piece : (mark : ℕ) (text : List ℕ) → unmarked (mark ∷ text) ≡ [] → pieces (mark ∷ text) ≡ record { mark = mark; text = unmarked text } ∷ pieces text
first_piece mark text is = grind (arith, common_steps, is)

pub unmarked_le : (text : List ℕ) → length (unmarked text) ≤ length text
unmarked_le [] = omega arith
unmarked_le (octet ∷ text) = grind (arith, common_steps, unmarked_le text)
