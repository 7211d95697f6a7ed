-- Entries from the greatest number on, and the same from the least one on.
use Rattle.std.proofs.Common.{◌≡◌, ℕ, Bool, true, false, List, [], ◌∷◌, ◌++◌, Some, refl, ◌∙◌, ap, subst}
use Rattle.std.specs.Prelude.{cond}
use Rattle.std.proofs.lemmas.Cmp.{nat_cmp_total}
use Rattle.std.proofs.lemmas.Map.Lookups.{exact_unsigned}
use Rattle.std.specs.BTreeMap.{insert_entry, is_at}
use Rattle.std.specs.List.{AllByRecursion}
use Rattle.std.specs.List.Sorted.{IsStrictlySortedBy}
use Rattle.std.specs.Map.{keys_of, lookup, remove_entry}
use Rattle.std.specs.Ordering.{is_eq, match_ordering, nat_cmp, ordering_reverse}
use Rattle.std.specs.declared.cmp.Ordering.{Ordering}
use Rattle.std.specs.declared.cmp.Ordering.TheVariants.{Less, Equal, Greater}
use Rattle.std.specs.declared.cmp.Reverse.{Reverse}
use Rattle.krb_capture.specs.Ended.{forward, newest_first}

flip : (a b : ℕ) (o : Ordering) → nat_cmp a b ≡ o → nat_cmp b a ≡ ordering_reverse o
flip a b o e = nat_cmp_total.antisymm b a ∙ ap ordering_reverse e

module _ {X : Type 0} where
  abbrev Below : ℕ → List (ℕ × X) → Type 0
  Below n xs = AllByRecursion (λ (x : ℕ × X). nat_cmp x.0 n ≡ Less) xs

  -- keys that are all below a number
  abbrev KeysBelow : ℕ → List (Reverse ℕ × X) → Type 0
  KeysBelow n es = AllByRecursion (λ (k : Reverse ℕ). nat_cmp k.0 n ≡ Less) (keys_of es)

  below-last : (n : ℕ) (xs : List (ℕ × X)) (x : ℕ × X) → Below n xs → nat_cmp x.0 n ≡ Less → Below n (xs ++ x ∷ [])
  below-last n [] x b e = (e, tt)
  below-last n (y ∷ ys) x b e = (b.0, below-last n ys x b.1 e)

  forward-below : (n : ℕ) (es : List (Reverse ℕ × X)) → KeysBelow n es → Below n (forward es)
  forward-below n [] b = tt
  forward-below n (e ∷ es) b = below-last n (forward es) (e.0.0, e.1) (forward-below n es b.1) b.0

  below-more : (m n : ℕ) → nat_cmp m n ≡ Less → (es : List (Reverse ℕ × X)) → KeysBelow m es → KeysBelow n es
  below-more m n l [] b = tt
  below-more m n l (e ∷ es) b = (nat_cmp_total.trans e.0.0 m n b.0 l, below-more m n l es b.1)

  -- ---- one more at the end
  insert-last : (n : ℕ) (v : X) (xs : List (ℕ × X)) → Below n xs → insert_entry nat_cmp xs n v ≡ xs ++ (n, v) ∷ []
  insert-last n v [] b = refl
  insert-last n v (x ∷ xs) b = ap (λ o. match_ordering o ((n, v) ∷ x ∷ xs) ((x.0, v) ∷ xs) (x ∷ insert_entry nat_cmp xs n v)) (flip x.0 n Less b.0) ∙ ap (λ l. x ∷ l) (insert-last n v xs b.1)

  insert-at : (n m : ℕ) (v w : X) → nat_cmp n m ≡ Equal → (xs : List (ℕ × X)) → Below n xs → insert_entry nat_cmp (xs ++ (m, w) ∷ []) n v ≡ xs ++ (m, v) ∷ []
  insert-at n m v w e [] b = ap (λ o. match_ordering o ((n, v) ∷ (m, w) ∷ []) ((m, v) ∷ []) ((m, w) ∷ (n, v) ∷ [])) e
  insert-at n m v w e (x ∷ xs) b = ap (λ o. match_ordering o ((n, v) ∷ x ∷ (xs ++ (m, w) ∷ [])) ((x.0, v) ∷ (xs ++ (m, w) ∷ [])) (x ∷ insert_entry nat_cmp (xs ++ (m, w) ∷ []) n v)) (flip x.0 n Less b.0) ∙ ap (λ l. x ∷ l) (insert-at n m v w e xs b.1)

  insert-before : (n m : ℕ) (v w : X) → nat_cmp n m ≡ Less → (xs : List (ℕ × X)) → insert_entry nat_cmp (xs ++ (m, w) ∷ []) n v ≡ insert_entry nat_cmp xs n v ++ (m, w) ∷ []
  insert-before n m v w e [] = ap (λ o. match_ordering o ((n, v) ∷ (m, w) ∷ []) ((m, v) ∷ []) ((m, w) ∷ (n, v) ∷ [])) e
  insert-before n m v w e (x ∷ xs) = by (nat_cmp n x.0) (insert-before n m v w e xs)
    where
      by : (o : Ordering) → insert_entry nat_cmp (xs ++ (m, w) ∷ []) n v ≡ insert_entry nat_cmp xs n v ++ (m, w) ∷ [] → match_ordering o ((n, v) ∷ x ∷ (xs ++ (m, w) ∷ [])) ((x.0, v) ∷ (xs ++ (m, w) ∷ [])) (x ∷ insert_entry nat_cmp (xs ++ (m, w) ∷ []) n v) ≡ match_ordering o ((n, v) ∷ x ∷ xs) ((x.0, v) ∷ xs) (x ∷ insert_entry nat_cmp xs n v) ++ (m, w) ∷ []
      by Less rest = refl
      by Equal rest = refl
      by Greater rest = ap (λ l. x ∷ l) rest

  pub forward-insert : (n : ℕ) (v : X) (es : List (Reverse ℕ × X)) → IsStrictlySortedBy newest_first (keys_of es) → insert_entry nat_cmp (forward es) n v ≡ forward (insert_entry newest_first es (record { 0 = n }) v)
  unfolding IsStrictlySortedBy
  forward-insert n v [] s = refl
  forward-insert n v (e ∷ es) s = by (nat_cmp e.0.0 n) refl (forward-insert n v es s.1)
    where
      by : (o : Ordering) → nat_cmp e.0.0 n ≡ o → insert_entry nat_cmp (forward es) n v ≡ forward (insert_entry newest_first es (record { 0 = n }) v) → insert_entry nat_cmp (forward es ++ (e.0.0, e.1) ∷ []) n v ≡ forward (match_ordering o ((record { 0 = n }, v) ∷ e ∷ es) ((e.0, v) ∷ es) (e ∷ insert_entry newest_first es (record { 0 = n }) v))
      by Less q rest = insert-last n v (forward es ++ (e.0.0, e.1) ∷ []) (below-last n (forward es) (e.0.0, e.1) (forward-below n es (below-more e.0.0 n q es s.0)) q)
      by Equal q rest = insert-at n e.0.0 v e.1 (flip e.0.0 n Equal q) (forward es) (subst (λ k. Below k (forward es)) (exact_unsigned e.0.0 n q) (forward-below e.0.0 es s.0))
      by Greater q rest = insert-before n e.0.0 v e.1 (flip e.0.0 n Greater q) (forward es) ∙ ap (λ l. l ++ (e.0.0, e.1) ∷ []) rest

  -- ---- one is looked for
  module _ (test : ℕ → Bool) where
    abbrev NonePass : List (ℕ × X) → Type 0
    NonePass xs = AllByRecursion (λ (x : ℕ × X). test x.0 ≡ false) xs

    lookup-skip : (m : ℕ) (w : X) → test m ≡ false → (xs : List (ℕ × X)) → lookup test (xs ++ (m, w) ∷ []) ≡ lookup test xs
    lookup-skip m w e [] = ap (λ b. cond b (Some w) (lookup test [])) e
    lookup-skip m w e (x ∷ xs) = ap (λ l. cond (test x.0) (Some x.1) l) (lookup-skip m w e xs)

    lookup-last : (m : ℕ) (w : X) → test m ≡ true → (xs : List (ℕ × X)) → NonePass xs → lookup test (xs ++ (m, w) ∷ []) ≡ Some w
    lookup-last m w e [] n = ap (λ b. cond b (Some w) (lookup test [])) e
    lookup-last m w e (x ∷ xs) n = ap (λ b. cond b (Some x.1) (lookup test (xs ++ (m, w) ∷ []))) n.0 ∙ lookup-last m w e xs n.1

    remove-skip : (m : ℕ) (w : X) → test m ≡ false → (xs : List (ℕ × X)) → remove_entry test (xs ++ (m, w) ∷ []) ≡ remove_entry test xs ++ (m, w) ∷ []
    remove-skip m w e [] = ap (λ b. cond b [] ((m, w) ∷ [])) e
    remove-skip m w e (x ∷ xs) = by (test x.0) (remove-skip m w e xs)
      where
        by : (b : Bool) → remove_entry test (xs ++ (m, w) ∷ []) ≡ remove_entry test xs ++ (m, w) ∷ [] → cond b (xs ++ (m, w) ∷ []) (x ∷ remove_entry test (xs ++ (m, w) ∷ [])) ≡ cond b xs (x ∷ remove_entry test xs) ++ (m, w) ∷ []
        by true rest = refl
        by false rest = ap (λ l. x ∷ l) rest

    remove-last : (m : ℕ) (w : X) → test m ≡ true → (xs : List (ℕ × X)) → NonePass xs → remove_entry test (xs ++ (m, w) ∷ []) ≡ xs
    remove-last m w e [] n = ap (λ b. cond b [] ((m, w) ∷ [])) e
    remove-last m w e (x ∷ xs) n = ap (λ b. cond b (xs ++ (m, w) ∷ []) (x ∷ remove_entry test (xs ++ (m, w) ∷ []))) n.0 ∙ ap (λ l. x ∷ l) (remove-last m w e xs n.1)

  below-passes : (n : ℕ) (xs : List (ℕ × X)) → Below n xs → NonePass (is_at (nat_cmp n)) xs
  below-passes n [] b = tt
  below-passes n (x ∷ xs) b = (ap is_eq (flip x.0 n Less b.0), below-passes n xs b.1)

  none-passes : (n m : ℕ) (es : List (Reverse ℕ × X)) → nat_cmp m n ≡ Equal → KeysBelow m es → NonePass (is_at (nat_cmp n)) (forward es)
  none-passes n m es q b = below-passes n (forward es) (subst (λ k. Below k (forward es)) (exact_unsigned m n q) (forward-below m es b))

  pub forward-lookup : (n : ℕ) (es : List (Reverse ℕ × X)) → IsStrictlySortedBy newest_first (keys_of es) → lookup (is_at (nat_cmp n)) (forward es) ≡ lookup (is_at (newest_first (record { 0 = n }))) es
  unfolding IsStrictlySortedBy
  forward-lookup n [] s = refl
  forward-lookup n (e ∷ es) s = by (nat_cmp e.0.0 n) refl (forward-lookup n es s.1)
    where
      by : (o : Ordering) → nat_cmp e.0.0 n ≡ o → lookup (is_at (nat_cmp n)) (forward es) ≡ lookup (is_at (newest_first (record { 0 = n }))) es → lookup (is_at (nat_cmp n)) (forward es ++ (e.0.0, e.1) ∷ []) ≡ cond (is_eq o) (Some e.1) (lookup (is_at (newest_first (record { 0 = n }))) es)
      by Less q rest = lookup-skip (is_at (nat_cmp n)) e.0.0 e.1 (ap is_eq (flip e.0.0 n Less q)) (forward es) ∙ rest
      by Equal q rest = lookup-last (is_at (nat_cmp n)) e.0.0 e.1 (ap is_eq (flip e.0.0 n Equal q)) (forward es) (none-passes n e.0.0 es q s.0)
      by Greater q rest = lookup-skip (is_at (nat_cmp n)) e.0.0 e.1 (ap is_eq (flip e.0.0 n Greater q)) (forward es) ∙ rest

  pub forward-remove : (n : ℕ) (es : List (Reverse ℕ × X)) → IsStrictlySortedBy newest_first (keys_of es) → remove_entry (is_at (nat_cmp n)) (forward es) ≡ forward (remove_entry (is_at (newest_first (record { 0 = n }))) es)
  unfolding IsStrictlySortedBy
  forward-remove n [] s = refl
  forward-remove n (e ∷ es) s = by (nat_cmp e.0.0 n) refl (forward-remove n es s.1)
    where
      by : (o : Ordering) → nat_cmp e.0.0 n ≡ o → remove_entry (is_at (nat_cmp n)) (forward es) ≡ forward (remove_entry (is_at (newest_first (record { 0 = n }))) es) → remove_entry (is_at (nat_cmp n)) (forward es ++ (e.0.0, e.1) ∷ []) ≡ forward (cond (is_eq o) es (e ∷ remove_entry (is_at (newest_first (record { 0 = n }))) es))
      by Less q rest = remove-skip (is_at (nat_cmp n)) e.0.0 e.1 (ap is_eq (flip e.0.0 n Less q)) (forward es) ∙ ap (λ l. l ++ (e.0.0, e.1) ∷ []) rest
      by Equal q rest = remove-last (is_at (nat_cmp n)) e.0.0 e.1 (ap is_eq (flip e.0.0 n Equal q)) (forward es) (none-passes n e.0.0 es q s.0)
      by Greater q rest = remove-skip (is_at (nat_cmp n)) e.0.0 e.1 (ap is_eq (flip e.0.0 n Greater q)) (forward es) ∙ ap (λ l. l ++ (e.0.0, e.1) ∷ []) rest

  -- ---- the last one of the map is the first
  pub forward-last : (last : Reverse ℕ × X) (es : List (Reverse ℕ × X)) → forward (es ++ last ∷ []) ≡ (last.0.0, last.1) ∷ forward es
  forward-last last [] = refl
  forward-last last (e ∷ es) = ap (λ l. l ++ (e.0.0, e.1) ∷ []) (forward-last last es)
