-- Look-ups in a map after an entry was put or removed, and keys that stay in order.
use Rattle.std.proofs.Common.{◌≡◌, Bool, true, false, List, [], ◌∷◌, Some, None, cond, refl, sym, ◌∙◌, ap}
use Rattle.std.specs.declared.cmp.Ordering.{Ordering}
use Rattle.std.specs.declared.cmp.Ordering.TheVariants.{Less, Equal, Greater}
use Rattle.std.specs.Ordering.{is_eq, match_ordering, ordering_reverse}
use Rattle.std.specs.Cmp.{IsTotalOrder}
use Rattle.std.specs.List.{AllByRecursion}
use Rattle.std.specs.Map.{keys_of, lookup, remove_entry}
use Rattle.std.specs.BTreeMap.{insert_entry, is_at}
use Rattle.std.proofs.lemmas.Cmp.{alike_right, tied_itself}

pub tied : (o : Ordering) → is_eq o ≡ true → o ≡ Equal
tied Less e = absurd cc
tied Equal e = refl
tied Greater e = absurd cc

-- each key comes before those after it
abbrev pub Ascend : {K : Type 0} → (K → K → Ordering) → List K → Type 0
Ascend R [] = Unit {0}
Ascend R (key ∷ keys) = AllByRecursion (λ other. R key other ≡ Less) keys × Ascend R keys

module _ {K X : Type 0} {R : K → K → Ordering} (o : IsTotalOrder R) where
  -- ---- look-ups
  pub lookup-inserted : (k : K) (v : X) (es : List (K × X)) → lookup (is_at (R k)) (insert_entry R es k v) ≡ Some v
  lookup-inserted k v [] = ap (λ c. cond (is_eq c) (Some v) None) (tied_itself o k)
  lookup-inserted k v (e ∷ es) = by (R k e.0) refl (lookup-inserted k v es)
    where
      by : (c : Ordering) → R k e.0 ≡ c → lookup (is_at (R k)) (insert_entry R es k v) ≡ Some v → lookup (is_at (R k)) (match_ordering c ((k, v) ∷ e ∷ es) ((e.0, v) ∷ es) (e ∷ insert_entry R es k v)) ≡ Some v
      by Less q rest = ap (λ c. cond (is_eq c) (Some v) (lookup (is_at (R k)) (e ∷ es))) (tied_itself o k)
      by Equal q rest = ap (λ c. cond (is_eq c) (Some v) (lookup (is_at (R k)) es)) q
      by Greater q rest = ap (λ c. cond (is_eq c) (Some e.1) (lookup (is_at (R k)) (insert_entry R es k v))) q ∙ rest

  -- at a key that is not tied with that one
  pub lookup-inserted_other : (q k : K) (v : X) (es : List (K × X)) → is_eq (R q k) ≡ false → lookup (is_at (R q)) (insert_entry R es k v) ≡ lookup (is_at (R q)) es
  lookup-inserted_other q k v [] n = ap (λ b. cond b (Some v) None) n
  lookup-inserted_other q k v (e ∷ es) n = by (R k e.0) refl (lookup-inserted_other q k v es n)
    where
      by : (c : Ordering) → R k e.0 ≡ c → lookup (is_at (R q)) (insert_entry R es k v) ≡ lookup (is_at (R q)) es → lookup (is_at (R q)) (match_ordering c ((k, v) ∷ e ∷ es) ((e.0, v) ∷ es) (e ∷ insert_entry R es k v)) ≡ cond (is_eq (R q e.0)) (Some e.1) (lookup (is_at (R q)) es)
      by Less c rest = ap (λ b. cond b (Some v) (lookup (is_at (R q)) (e ∷ es))) n
      by Equal c rest =
          let apart : is_eq (R q e.0) ≡ false = ap is_eq (sym (alike_right o k e.0 q c)) ∙ n in
          ap (λ b. cond b (Some v) (lookup (is_at (R q)) es)) apart ∙ sym (ap (λ b. cond b (Some e.1) (lookup (is_at (R q)) es)) apart)
      by Greater c rest = ap (λ l. cond (is_eq (R q e.0)) (Some e.1) l) rest

  pub lookup-removed_other : (q k : K) (es : List (K × X)) → is_eq (R q k) ≡ false → lookup (is_at (R q)) (remove_entry (is_at (R k)) es) ≡ lookup (is_at (R q)) es
  lookup-removed_other q k [] n = refl
  lookup-removed_other q k (e ∷ es) n = by (R k e.0) refl (lookup-removed_other q k es n)
    where
      by : (c : Ordering) → R k e.0 ≡ c → lookup (is_at (R q)) (remove_entry (is_at (R k)) es) ≡ lookup (is_at (R q)) es → lookup (is_at (R q)) (cond (is_eq c) es (e ∷ remove_entry (is_at (R k)) es)) ≡ cond (is_eq (R q e.0)) (Some e.1) (lookup (is_at (R q)) es)
      by Less c rest = ap (λ l. cond (is_eq (R q e.0)) (Some e.1) l) rest
      by Equal c rest = sym (ap (λ b. cond b (Some e.1) (lookup (is_at (R q)) es)) (ap is_eq (sym (alike_right o k e.0 q c)) ∙ n))
      by Greater c rest = ap (λ l. cond (is_eq (R q e.0)) (Some e.1) l) rest

  -- a key that comes before all of these is not among them
  pub lookup-before : (q : K) (es : List (K × X)) → AllByRecursion (λ k. R q k ≡ Less) (keys_of es) → lookup (is_at (R q)) es ≡ None
  lookup-before q [] a = refl
  lookup-before q (e ∷ es) a = ap (λ c. cond (is_eq c) (Some e.1) (lookup (is_at (R q)) es)) a.0 ∙ lookup-before q es a.1

  pub lookup-tied : (q k : K) (es : List (K × X)) → R q k ≡ Equal → lookup (is_at (R q)) es ≡ lookup (is_at (R k)) es
  lookup-tied q k es e = ap (λ c. lookup (is_at c) es) (λ i z. o.congr q k z e i)

  pub lookup-removed : (k : K) (es : List (K × X)) → Ascend R (keys_of es) → lookup (is_at (R k)) (remove_entry (is_at (R k)) es) ≡ None
  lookup-removed k [] s = refl
  lookup-removed k (e ∷ es) s = by (R k e.0) refl (lookup-removed k es s.1)
    where
      by : (c : Ordering) → R k e.0 ≡ c → lookup (is_at (R k)) (remove_entry (is_at (R k)) es) ≡ None → lookup (is_at (R k)) (cond (is_eq c) es (e ∷ remove_entry (is_at (R k)) es)) ≡ None
      by Less c rest = ap (λ c. cond (is_eq c) (Some e.1) (lookup (is_at (R k)) (remove_entry (is_at (R k)) es))) c ∙ rest
      by Equal c rest = lookup-tied k e.0 es c ∙ lookup-before e.0 es s.0
      by Greater c rest = ap (λ c. cond (is_eq c) (Some e.1) (lookup (is_at (R k)) (remove_entry (is_at (R k)) es))) c ∙ rest

  -- ---- keys in order
  all_inserted : (P : K → Type 0) (k : K) (v : X) (es : List (K × X)) → AllByRecursion P (keys_of es) → P k → AllByRecursion P (keys_of (insert_entry R es k v))
  all_inserted P k v [] a p = (p, a)
  all_inserted P k v (e ∷ es) a p = by (R k e.0) (all_inserted P k v es a.1 p)
    where
      by : (c : Ordering) → AllByRecursion P (keys_of (insert_entry R es k v)) → AllByRecursion P (keys_of (match_ordering c ((k, v) ∷ e ∷ es) ((e.0, v) ∷ es) (e ∷ insert_entry R es k v)))
      by Less rest = (p, a)
      by Equal rest = a
      by Greater rest = (a.0, rest)

  all_left : (P : K → Type 0) (test : K → Bool) (es : List (K × X)) → AllByRecursion P (keys_of es) → AllByRecursion P (keys_of (remove_entry test es))
  all_left P test [] a = a
  all_left P test (e ∷ es) a = by (test e.0) (all_left P test es a.1)
    where
      by : (b : Bool) → AllByRecursion P (keys_of (remove_entry test es)) → AllByRecursion P (keys_of (cond b es (e ∷ remove_entry test es)))
      by true rest = a.1
      by false rest = (a.0, rest)

  all_before : (k e : K) (es : List (K × X)) → R k e ≡ Less → AllByRecursion (λ y. R e y ≡ Less) (keys_of es) → AllByRecursion (λ y. R k y ≡ Less) (keys_of es)
  all_before k e [] l a = a
  all_before k e (x ∷ es) l a = (o.trans k e x.0 l a.0, all_before k e es l a.1)

  pub Ascend-inserted : (k : K) (v : X) (es : List (K × X)) → Ascend R (keys_of es) → Ascend R (keys_of (insert_entry R es k v))
  Ascend-inserted k v [] s = (s, s)
  Ascend-inserted k v (e ∷ es) s = by (R k e.0) refl (Ascend-inserted k v es s.1)
    where
      by : (c : Ordering) → R k e.0 ≡ c → Ascend R (keys_of (insert_entry R es k v)) → Ascend R (keys_of (match_ordering c ((k, v) ∷ e ∷ es) ((e.0, v) ∷ es) (e ∷ insert_entry R es k v)))
      by Less c rest = ((c, all_before k e.0 es c s.0), s)
      by Equal c rest = s
      by Greater c rest = (all_inserted (λ y. R e.0 y ≡ Less) k v es s.0 (o.antisymm e.0 k ∙ ap ordering_reverse c), rest)

  pub Ascend-removed : (test : K → Bool) (es : List (K × X)) → Ascend R (keys_of es) → Ascend R (keys_of (remove_entry test es))
  Ascend-removed test [] s = s
  Ascend-removed test (e ∷ es) s = by (test e.0) (Ascend-removed test es s.1)
    where
      by : (b : Bool) → Ascend R (keys_of (remove_entry test es)) → Ascend R (keys_of (cond b es (e ∷ remove_entry test es)))
      by true rest = s.1
      by false rest = (all_left (λ y. R e.0 y ≡ Less) test es s.0, rest)

  -- each entry is found by its key
  after_first : (e : K × X) (all es : List (K × X)) → AllByRecursion (λ k. R e.0 k ≡ Less) (keys_of es) → AllByRecursion (λ x. lookup (is_at (R x.0)) all ≡ Some x.1) es → AllByRecursion (λ x. lookup (is_at (R x.0)) (e ∷ all) ≡ Some x.1) es
  after_first e all [] l a = a
  after_first e all (x ∷ es) l a = (ap (λ c. cond (is_eq c) (Some e.1) (lookup (is_at (R x.0)) all)) (o.antisymm x.0 e.0 ∙ ap ordering_reverse l.0) ∙ a.0, after_first e all es l.1 a.1)

  pub found_each : (es : List (K × X)) → Ascend R (keys_of es) → AllByRecursion (λ e. lookup (is_at (R e.0)) es ≡ Some e.1) es
  found_each [] s = s
  found_each (e ∷ es) s = (ap (λ c. cond (is_eq c) (Some e.1) (lookup (is_at (R e.0)) es)) (tied_itself o e.0), after_first e es es s.0 (found_each es s.1))
