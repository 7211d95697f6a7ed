-- What the contents of a writer that sorts tell: whose writer it is, what that had, what lines are told to, and what was given.
use Rattle.std.proofs.Common.{◌≡◌, ◌∙◌, ℕ, List, [], ◌∷◌, ◌++◌, Option, refl, sym, ap, append_assoc}
use Rattle.std.specs.Coded.{Coded}
use base.Stored.{Gv, gnil, gnum, gcons}
use Rattle.krb_decode.specs.Sorters.{key, key_code, numbers_of}

abbrev head : List ℕ → ℕ
head [] = 0
head (x ∷ xs) = x

abbrev tail : List ℕ → List ℕ
tail [] = []
tail (x ∷ xs) = xs

-- numbers of a value and what follows them tell each other apart
numbers-apart : (a b : Gv) (x y : List ℕ) → numbers_of a ++ x ≡ numbers_of b ++ y → (a ≡ b) × (x ≡ y)
numbers-apart gnil gnil x y e = (refl, ap tail e)
numbers-apart (gnum m) (gnum n) x y e = (ap (λ l. gnum (head (tail l))) e, ap (λ l. tail (tail l)) e)
numbers-apart (gcons a b) (gcons c d) x y e =
    let p = numbers-apart a c (numbers_of b ++ x) (numbers_of d ++ y) (sym (append_assoc (numbers_of a) (numbers_of b) x) ∙ ap tail e ∙ append_assoc (numbers_of c) (numbers_of d) y) in
    let q = numbers-apart b d x y p.1 in
    (λ i. gcons (p.0 i) (q.0 i), q.1)
numbers-apart gnil (gnum n) x y e = let h : 0 ≡ 1 = ap head e in cc
numbers-apart gnil (gcons c d) x y e = let h : 0 ≡ 2 = ap head e in cc
numbers-apart (gnum m) gnil x y e = let h : 1 ≡ 0 = ap head e in cc
numbers-apart (gnum m) (gcons c d) x y e = let h : 1 ≡ 2 = ap head e in cc
numbers-apart (gcons a b) gnil x y e = let h : 2 ≡ 0 = ap head e in cc
numbers-apart (gcons a b) (gnum n) x y e = let h : 2 ≡ 1 = ap head e in cc

-- contents that grow are of the same writer
module _ {T : Type 0} (teller_code : Coded T) (writer writer' : ℕ) (had had' : Option (List ℕ)) (teller teller' : T) (given given' more : List ℕ) where
  pub grown : key teller_code writer' had' teller' ++ given' ≡ (key teller_code writer had teller ++ given) ++ more → (writer' ≡ writer) × ((had' ≡ had) × (teller' ≡ teller)) × (given' ≡ given ++ more)
  unfolding key
  grown e =
      let new : ℕ × (Option (List ℕ) × T) = (writer', (had', teller')) in let old : ℕ × (Option (List ℕ) × T) = (writer, (had, teller)) in
      let p = numbers-apart ((key_code teller_code).code new) ((key_code teller_code).code old) given' (given ++ more) (e ∙ append_assoc (numbers_of ((key_code teller_code).code old)) given more) in
      let q = (key_code teller_code).inj new old p.0 in
      (ap (λ t. t.0) q, (ap (λ t. t.1.0) q, ap (λ t. t.1.1) q), p.1)
