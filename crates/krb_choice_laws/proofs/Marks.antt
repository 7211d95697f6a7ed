-- Pieces of texts that are printable between marks.
use Rattle.std.proofs.Common.{◌≡◌, ◌∙◌, ℕ, ◌<◌, ◌≤◌, true, false, List, [], ◌∷◌, ◌++◌, append-nil, append_assoc, sym, refl, ap, ap₂, arith, nat_lt}
use Rattle.std.proofs.lemmas.Bool.{le-ltb, lt-ltb}
use Rattle.std.specs.List.{AllByRecursion}
use Rattle.krb_record.specs.Text.{IsPrintable}
use Rattle.krb_choice.specs.Marked.{Piece, pieces, unmarked}

no_mark : (c : ℕ) → 32 ≤ c → nat_lt c 32 ≡ false
no_mark c h = le-ltb c 32 h

is_mark : (c : ℕ) → c < 10 → nat_lt c 32 ≡ true
is_mark c h = lt-ltb c 32 (omega arith)

pub unmarked-append : (xs ys : List ℕ) → IsPrintable xs → unmarked (xs ++ ys) ≡ xs ++ unmarked ys
unmarked-append [] ys h = refl
unmarked-append (c ∷ xs) ys h = rw (no_mark c h.0.0) (ap (λ l. c ∷ l) (unmarked-append xs ys h.1))

pub pieces-append : (xs ys : List ℕ) → IsPrintable xs → pieces (xs ++ ys) ≡ pieces ys
pieces-append [] ys h = refl
pieces-append (c ∷ xs) ys h = rw (no_mark c h.0.0) (pieces-append xs ys h.1)

-- ---- the text of pieces
abbrev pub spelled : List Piece → List ℕ
spelled [] = []
spelled (p ∷ others) = p.mark ∷ (p.text ++ spelled others)

pub record IsPiece (p : Piece) : Type 0 where
  pub mark : p.mark < 10
  pub text : IsPrintable p.text

abbrev pub ArePieces : List Piece → Type 0
ArePieces all = AllByRecursion IsPiece all

pub spelled-append : (ps qs : List Piece) → spelled (ps ++ qs) ≡ spelled ps ++ spelled qs
spelled-append [] qs = refl
spelled-append (p ∷ ps) qs = ap (λ l. p.mark ∷ l) (ap (λ l. p.text ++ l) (spelled-append ps qs) ∙ sym (append_assoc p.text (spelled ps) (spelled qs)))

pub are-append : (ps qs : List Piece) → ArePieces ps → ArePieces qs → ArePieces (ps ++ qs)
are-append [] qs h k = k
are-append (p ∷ ps) qs h k = (h.0, are-append ps qs h.1 k)

pub no-lead : (ps : List Piece) → ArePieces ps → unmarked (spelled ps) ≡ []
no-lead [] h = refl
no-lead (p ∷ ps) h = rw (is_mark p.mark h.0.mark) refl

-- its pieces are these
pub pieces-spelled : (ps : List Piece) → ArePieces ps → pieces (spelled ps) ≡ ps
pieces-spelled [] h = refl
pieces-spelled (p ∷ ps) h =
    rw (is_mark p.mark h.0.mark) (ap₂ (λ (text : List ℕ) (others : List Piece). record { mark = p.mark; text = text } ∷ others)
    (unmarked-append p.text (spelled ps) h.0.text ∙ ap (λ l. p.text ++ l) (no-lead ps h.1) ∙ append-nil p.text)
    (pieces-append p.text (spelled ps) h.0.text ∙ pieces-spelled ps h.1))
