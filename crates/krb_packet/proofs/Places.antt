-- The places of datagrams, in the order of what their fragments have in common.
use Rattle.std.proofs.Common.{rules, ◌≡◌, ℕ, ◌+◌, ◌-◌, ◌<◌, ◌≤◌, zero, suc, nat_eq, nat_lt, if◌then◌else◌, ◌⊎◌, inl, inr, Bool, true, false, ◌||◌, Some, None, Result, Ok, Err, List, [], ◌∷◌, ◌++◌, length, map, take, drop, set, get_or, refl, sym, ap, subst, ◌∙◌, arith}
use Rattle.std.specs.Prelude.{Box, slice_get}
use Rattle.std.specs.Result.{OnErr}
use Rattle.std.specs.List.{insert, remove, list_any, position, position_or_len}
use Rattle.std.specs.List.Sorted.{IsSortedBy, IsBinarySearchResult, IsSearchInRange}
use Rattle.std.specs.Ordering.{eq_by_cmp, is_lt, is_eq, ordering_reverse}
use Rattle.std.specs.declared.alloc.Global.{Global}
use Rattle.std.specs.declared.cmp.Ordering.TheVariants.{Less, Equal, Greater}
use Rattle.std.proofs.lemmas.Bool.{cases_lt, true≢false, eqb-true, eq-eqb}
use Rattle.std.proofs.lemmas.Bool.Decides.{nat_tests}
use Rattle.std.proofs.lemmas.Cmp.{alike_right, tied_itself}
use Rattle.std.proofs.lemmas.List.{get_or_append_left, get_or-map, length-map, length-set, get_or-set_same, get_or-set_other, set-get_or, map-append, take-map}
use Rattle.std.proofs.lemmas.List.Sorted.{searchable_from_sorted}
use Rattle.std.proofs.lemmas.List.Sums.{position_or_len_is}
use Rattle.std.proofs.lemmas.List.Edits.{get_or-insert_below, get_or-insert_at, get_or-insert_above, get_or-remove_below, get_or-remove_above, length-insert, length-remove}
use Rattle.std.proofs.lemmas.Grind.{common_steps}
use Rattle.krb_packet.specs.contracts.contents.OriginalPartialEq.TheImpl as partial
use Rattle.krb_packet.specs.contracts.contents.OriginalOrd.TheImpl.Laws as laws
use Rattle.krb_packet.specs.declared.contents.Original.{Original}
use Rattle.krb_packet.specs.Table.{Table}
use Rattle.krb_packet.specs.declared.fragments.Pending.{Pending}
use Rattle.krb_packet.specs.declared.fragments.Reassembled.{Reassembled}
use Rattle.krb_packet.specs.Fragments.{same_original, no_fragments_of, plus, index_of, whole_of, without_first, with_datagram, finished}
use Rattle.krb_packet.specs.inner.Places.{original_cmp, IsIndex, IsGap, IsFound, fewer_than, place_without}

-- ---- the order

equals : (one other : Original) → same_original one other ≡ partial.ghosts.eq one other
equals one other = search rules

pub same_is : (one other : Original) → same_original one other ≡ eq_by_cmp original_cmp one other
same_is one other = equals one other ∙ laws.matches_eq-law one other

not_less : Less ≡ Equal → ⊥
not_less e = cc

not_greater : Greater ≡ Equal → ⊥
not_greater e = cc

after_less : (one other : Original) → original_cmp one other ≡ Less → original_cmp other one ≡ Greater
after_less one other less = laws.total-law.antisymm other one ∙ ap ordering_reverse less

differs_less : (one other : Original) → original_cmp one other ≡ Less → same_original one other ≡ false
differs_less one other less = same_is one other ∙ ap is_eq less

differs_greater : (one other : Original) → original_cmp one other ≡ Greater → same_original one other ≡ false
differs_greater one other greater = same_is one other ∙ ap is_eq greater

tied : (one other third : Original) → original_cmp other third ≡ Equal → original_cmp one third ≡ original_cmp one other
tied one other third equal = sym (alike_right laws.total-law other third one equal)

-- ---- places

pub by_default : {X : Type 0} (xs : List X) (k : ℕ) (d e : X) → k < length xs → get_or xs k d ≡ get_or xs k e
by_default [] k d e within = absurd (omega (arith, within))
by_default (x ∷ xs) zero d e within = refl
by_default (x ∷ xs) (suc k) d e within = by_default xs k d e (omega (arith, within))

position_is : {X : Type 0} (p : X → Bool) (xs : List X) (i : ℕ) (d : X) → i < length xs → p (get_or xs i d) ≡ true → ((k : ℕ) → k < i → p (get_or xs k d) ≡ false) → position p xs ≡ Some i
position_is p xs i d within passes fails =
    let e : position_or_len p xs ≡ i = position_or_len_is p xs i d (omega (arith, within)) fails (λ _. passes) in
    rw e (grind (arith, nat_tests, within))

position_none : {X : Type 0} (p : X → Bool) (xs : List X) (d : X) → ((k : ℕ) → k < length xs → p (get_or xs k d) ≡ false) → position p xs ≡ None
position_none p xs d fails =
    let e : position_or_len p xs ≡ length xs = position_or_len_is p xs (length xs) d (omega arith) fails (λ n. absurd (omega (arith, n))) in
    rw e (grind (arith, nat_tests))

record IsAt (places : List ℕ) (k : ℕ) : Type 0 where
  index : ℕ
  within : index < length places
  is : get_or places index 0 ≡ k

at_index : (places : List ℕ) (k : ℕ) → list_any (nat_eq k) places ≡ true → IsAt places k
at_index [] k any = absurd (true≢false (sym any))
at_index (place ∷ places) k any = by (nat_eq k place) refl any (λ later. at_index places k later)
  where
    by : (b : Bool) → nat_eq k place ≡ b → list_any (nat_eq k) (place ∷ places) ≡ true → (list_any (nat_eq k) places ≡ true → IsAt places k) → IsAt (place ∷ places) k
    by true here all there = record { index = 0; within = omega arith; is = sym (eqb-true k place here) }
    by false here all there =
        let later = there (rw here at all) in
        record { index = suc later.index; within = omega (arith, later.within); is = later.is }

any_at : (places : List ℕ) (k i : ℕ) → i < length places → get_or places i 0 ≡ k → list_any (nat_eq k) places ≡ true
any_at [] k i within is = absurd (omega (arith, within))
any_at (place ∷ places) k zero within is = rw (eq-eqb k place (sym is)) refl
any_at (place ∷ places) k (suc i) within is = by (nat_eq k place) (any_at places k i (omega (arith, within)) is)
  where
    by : (b : Bool) → list_any (nat_eq k) places ≡ true → (b || list_any (nat_eq k) places) ≡ true
    by true later = refl
    by false later = later

-- ---- what a search finds

module _ (places : List ℕ) (pending : List Pending) (index : IsIndex places pending) where
  pub sorted : (d : Pending) → IsSortedBy (λ a b. is_lt (original_cmp (get_or pending a d).original (get_or pending b d).original)) places
  sorted d = λ k e low within.
      let less = index.ordered k (k + 1) d (omega arith) within in
      let here : get_or places k e ≡ get_or places k 0 = by_default places k e 0 (omega (arith, within)) in
      let next : get_or places (k + 1) e ≡ get_or places (k + 1) 0 = by_default places (k + 1) e 0 within in
      rw (here, next) (ap is_lt (after_less (get_or pending (get_or places k 0) d).original (get_or pending (get_or places (k + 1) 0) d).original less))

  distinct : (d : Pending) (i j : ℕ) → i < length places → j < length places → get_or places i 0 ≡ get_or places j 0 → i ≡ j
  distinct d i j i_within j_within same = elim (cases_lt i j) [
    | inl before ↦ absurd (never i j before j_within same)
    | inr from ↦ elim (cases_lt j i) [
      | inl after ↦ absurd (never j i after i_within (sym same))
      | inr equal ↦ omega arith
    ]
  ]
    where
      never : (i j : ℕ) → i < j → j < length places → get_or places i 0 ≡ get_or places j 0 → ⊥
      never i j before within same =
          let at = (get_or pending (get_or places j 0) d).original in
          let less : original_cmp at at ≡ Less = subst (λ (n : ℕ). original_cmp (get_or pending n d).original at ≡ Less) same (index.ordered i j d before within) in
          not_less (sym less ∙ tied_itself laws.total-law at)

  pub found : (original : Original) (at : ℕ) (d : Pending) → at < length places → original_cmp (get_or pending (get_or places at 0) d).original original ≡ Equal → index_of original pending ≡ Some (get_or places at 0)
  found original at d within equal =
      position_is (λ other. same_original other.original original) pending (get_or places at 0) d (index.within at within)
      (same_is (get_or pending (get_or places at 0) d).original original ∙ ap is_eq equal)
      (λ k before. other k (omega (arith, before, index.within at within)) (λ same. absurd (omega (arith, before, same))))
    where
      place : ℕ
      place = get_or places at 0

      other : (k : ℕ) → k < length pending → (k ≡ place → ⊥) → same_original (get_or pending k d).original original ≡ false
      other k inside differs =
          let here = at_index places k (index.complete k inside) in
          let its = subst (λ (n : ℕ). (here.index < at) ⊎ (at < here.index) → same_original (get_or pending n d).original original ≡ false) here.is (by here.index here.within) in
          its (elim (cases_lt here.index at) [
            | inl before ↦ inl before
            | inr from ↦ elim (cases_lt at here.index) [
              | inl after ↦ inr after
              | inr equal ↦ absurd (differs (sym here.is ∙ ap (λ (n : ℕ). get_or places n 0) (omega arith)))
            ]
          ])
        where
          by : (i : ℕ) → i < length places → (i < at) ⊎ (at < i) → same_original (get_or pending (get_or places i 0) d).original original ≡ false
          by i there (inl before) = differs_less (get_or pending (get_or places i 0) d).original original (tied (get_or pending (get_or places i 0) d).original (get_or pending (get_or places at 0) d).original original equal ∙ index.ordered i at d before within)
          by i there (inr after) = differs_greater (get_or pending (get_or places i 0) d).original original (tied (get_or pending (get_or places i 0) d).original (get_or pending (get_or places at 0) d).original original equal ∙ after_less (get_or pending (get_or places at 0) d).original (get_or pending (get_or places i 0) d).original (index.ordered at i d after there))

  pub not_found : (original : Original) (at : ℕ) → at ≤ length places → ((i : ℕ) → i < at → original_cmp (get_or pending (get_or places i 0) (no_fragments_of original)).original original ≡ Less) → ((i : ℕ) → at ≤ i → i < length places → original_cmp (get_or pending (get_or places i 0) (no_fragments_of original)).original original ≡ Greater) → IsGap at original places pending
  not_found original at within less greater = record {
    none = position_none (λ other. same_original other.original original) pending (no_fragments_of original) (λ k inside.
        let here = at_index places k (index.complete k inside) in
        subst (λ (n : ℕ). same_original (get_or pending n (no_fragments_of original)).original original ≡ false) here.is (by here.index here.within (cases_lt here.index at)));
    within = within;
    before = λ i d before. subst (λ (p : Pending). original_cmp p.original original ≡ Less) (by_default pending (get_or places i 0) (no_fragments_of original) d (index.within i (omega (arith, within, before)))) (less i before);
    from = λ i d from inside. subst (λ (p : Pending). original_cmp p.original original ≡ Greater) (by_default pending (get_or places i 0) (no_fragments_of original) d (index.within i inside)) (greater i from inside);
  }
    where
      by : (i : ℕ) → i < length places → (i < at) ⊎ (at ≤ i) → same_original (get_or pending (get_or places i 0) (no_fragments_of original)).original original ≡ false
      by i there (inl before) = differs_less (get_or pending (get_or places i 0) (no_fragments_of original)).original original (less i before)
      by i there (inr from) = differs_greater (get_or pending (get_or places i 0) (no_fragments_of original)).original original (greater i from there)

-- ---- a datagram more

below_push : (pending : List Pending) (one : Pending) (k : ℕ) (d : Pending) → k < length pending → get_or (pending ++ one ∷ []) k d ≡ get_or pending k d
below_push pending one k d within = get_or_append_left pending (one ∷ []) d k within

last_push : (pending : List Pending) (one : Pending) (d : Pending) → get_or (pending ++ one ∷ []) (length pending) d ≡ one
last_push pending one d = grind (arith, common_steps)

length_push : (pending : List Pending) (one : Pending) → length (pending ++ one ∷ []) ≡ length pending + 1
length_push pending one = grind (arith, common_steps)

module _ (places : List ℕ) (pending : List Pending) (index : IsIndex places pending) (at : ℕ) (one : Pending) (gap : IsGap at one.original places pending) where
  new_places : List ℕ
  new_places = insert places at (length pending)

  new_pending : List Pending
  new_pending = pending ++ one ∷ []

  at_new : ℕ → Pending → Original
  at_new i d = (get_or new_pending (get_or new_places i 0) d).original

  below : (i : ℕ) → i < at → get_or new_places i 0 ≡ get_or places i 0
  unfolding new_places
  below i before = get_or-insert_below places at (length pending) 0 i before gap.within

  here : (i : ℕ) → i ≡ at → get_or new_places i 0 ≡ length pending
  unfolding new_places
  here i same = ap (λ (n : ℕ). get_or (insert places at (length pending)) n 0) same ∙ get_or-insert_at places at (length pending) 0 gap.within

  above : (i : ℕ) → at < i → get_or new_places i 0 ≡ get_or places (i - 1) 0
  unfolding new_places
  above i after =
      let e : (i - 1) + 1 ≡ i = omega arith in
      ap (λ (n : ℕ). get_or (insert places at (length pending)) n 0) (sym e) ∙ get_or-insert_above places at (length pending) 0 (i - 1) (omega arith) gap.within

  of_old : (i j : ℕ) (d : Pending) → get_or new_places i 0 ≡ get_or places j 0 → j < length places → at_new i d ≡ (get_or pending (get_or places j 0) d).original
  unfolding at_new new_pending
  of_old i j d same within = ap (λ (n : ℕ). (get_or (pending ++ one ∷ []) n d).original) same ∙ ap (λ (p : Pending). p.original) (below_push pending one (get_or places j 0) d (index.within j within))

  of_new : (i : ℕ) (d : Pending) → i ≡ at → at_new i d ≡ one.original
  unfolding at_new new_pending
  of_new i d same = ap (λ (n : ℕ). (get_or (pending ++ one ∷ []) n d).original) (here i same) ∙ ap (λ (p : Pending). p.original) (last_push pending one d)

  back : (one other : Original) → original_cmp one other ≡ Greater → original_cmp other one ≡ Less
  back one other greater = laws.total-law.antisymm other one ∙ ap ordering_reverse greater

  both : (a b c d : Original) → a ≡ c → b ≡ d → original_cmp c d ≡ Less → original_cmp a b ≡ Less
  both a b c d e f less = rw (e, f) less

  order : (i j : ℕ) (d : Pending) → i < j → j < length places + 1 → (i < at) ⊎ (at ≤ i) → (j < at) ⊎ (at ≤ j) → (at < i) ⊎ (i ≤ at) → (at < j) ⊎ (j ≤ at) → original_cmp (at_new i d) (at_new j d) ≡ Less
  order i j d upto inside (inl i_before) (inl j_before) i_after j_after = both (at_new i d) (at_new j d) _ _ (of_old i i d (below i i_before) (omega (arith, gap.within))) (of_old j j d (below j j_before) (omega (arith, gap.within))) (index.ordered i j d upto (omega (arith, gap.within)))
  order i j d upto inside (inl i_before) (inr j_from) i_after (inl j_after) = both (at_new i d) (at_new j d) _ _ (of_old i i d (below i i_before) (omega (arith, gap.within))) (of_old j (j - 1) d (above j j_after) (omega arith)) (index.ordered i (j - 1) d (omega arith) (omega arith))
  order i j d upto inside (inl i_before) (inr j_from) i_after (inr j_upto) = both (at_new i d) (at_new j d) _ _ (of_old i i d (below i i_before) (omega (arith, gap.within))) (of_new j d (omega arith)) (gap.before i d i_before)
  order i j d upto inside (inr i_from) j_place (inl i_after) j_after = both (at_new i d) (at_new j d) _ _ (of_old i (i - 1) d (above i i_after) (omega arith)) (of_old j (j - 1) d (above j (omega arith)) (omega arith)) (index.ordered (i - 1) (j - 1) d (omega arith) (omega arith))
  order i j d upto inside (inr i_from) j_place (inr i_upto) j_after = both (at_new i d) (at_new j d) _ _ (of_new i d (omega arith)) (of_old j (j - 1) d (above j (omega arith)) (omega arith)) (back (get_or pending (get_or places (j - 1) 0) d).original one.original (gap.from (j - 1) d (omega arith) (omega arith)))

  within_new : (i : ℕ) → i < length places + 1 → get_or new_places i 0 < length pending + 1
  within_new i inside = elim (cases_lt i at) [
    | inl before ↦ omega (arith, below i before, index.within i (omega (arith, gap.within)))
    | inr from ↦ elim (cases_lt at i) [
      | inl after ↦ omega (arith, above i after, index.within (i - 1) (omega arith))
      | inr same ↦ omega (arith, here i (omega arith))
    ]
  ]

  length_new : length new_places ≡ length places + 1
  unfolding new_places
  length_new = length-insert places at (length pending) gap.within

  complete_new : (k : ℕ) → k < length pending + 1 → list_any (nat_eq k) new_places ≡ true
  complete_new k inside = elim (cases_lt k (length pending)) [
    | inl old ↦ by (at_index places k (index.complete k old))
    | inr new ↦ any_at new_places k at (omega (arith, length_new, gap.within)) (here at refl ∙ omega arith)
  ]
    where
      by : IsAt places k → list_any (nat_eq k) new_places ≡ true
      by old = elim (cases_lt old.index at) [
        | inl before ↦ any_at new_places k old.index (omega (arith, length_new, old.within)) (below old.index before ∙ old.is)
        | inr from ↦ any_at new_places k (old.index + 1) (omega (arith, length_new, old.within)) (above (old.index + 1) (omega arith) ∙ ap (λ (n : ℕ). get_or places n 0) (omega arith) ∙ old.is)
      ]

  open_new : whole_of one ≡ None → (k : ℕ) (d : Pending) → k < length pending + 1 → whole_of (get_or new_pending k d) ≡ None
  unfolding new_pending
  open_new is k d inside = elim (cases_lt k (length pending)) [
    | inl old ↦ ap whole_of (below_push pending one k d old) ∙ index.«open» k d old
    | inr new ↦ ap (λ (n : ℕ). whole_of (get_or (pending ++ one ∷ []) n d)) (omega arith) ∙ ap whole_of (last_push pending one d) ∙ is
  ]

  pub pushed : whole_of one ≡ None → IsIndex (insert places at (length pending)) (pending ++ one ∷ [])
  unfolding new_places new_pending at_new
  pushed is = record {
    within = λ i inside. omega (arith, within_new i (omega (arith, length_new, inside)), length_push pending one);
    ordered = λ i j d upto inside. order i j d upto (omega (arith, length_new, inside)) (cases_lt i at) (cases_lt j at) (cases_lt at i) (cases_lt at j);
    complete = λ k inside. complete_new k (omega (arith, length_push pending one, inside));
    «open» = λ k d inside. open_new is k d (omega (arith, length_push pending one, inside));
  }

-- ---- a datagram less

module _ (places : List ℕ) (pending : List Pending) (index : IsIndex places pending) (at : ℕ) (there : at < length places) (d : Pending) where
  removed : ℕ
  removed = get_or places at 0

  is_there : removed < length pending
  unfolding removed
  is_there = index.within at there

  rest : List ℕ
  rest = remove places at

  left : List ℕ
  left = map (place_without removed) rest

  others : List Pending
  others = remove pending removed

  length_rest : length rest + 1 ≡ length places
  unfolding rest
  length_rest = length-remove places at there

  rest_before : (i : ℕ) → i < at → get_or rest i 0 ≡ get_or places i 0
  unfolding rest
  rest_before i before = get_or-remove_below places at 0 i before there

  rest_from : (i : ℕ) → at ≤ i → get_or rest i 0 ≡ get_or places (i + 1) 0
  unfolding rest
  rest_from i from = get_or-remove_above places at 0 i from there

  length_others : length others + 1 ≡ length pending
  unfolding others
  length_others = length-remove pending removed is_there

  others_before : (k : ℕ) (e : Pending) → k < removed → get_or others k e ≡ get_or pending k e
  unfolding others
  others_before k e before = get_or-remove_below pending removed e k before is_there

  others_from : (k : ℕ) (e : Pending) → removed ≤ k → get_or others k e ≡ get_or pending (k + 1) e
  unfolding others
  others_from k e from = get_or-remove_above pending removed e k from is_there

  -- a place of another datagram is still that of the datagram
  still_there : (place : ℕ) (e : Pending) → (place ≡ removed → ⊥) → get_or others (place_without removed place) e ≡ get_or pending place e
  unfolding removed
  still_there place e differs = by (nat_lt removed place) refl
    where
      by : (b : Bool) → nat_lt removed place ≡ b → get_or others (if b then place - 1 else place) e ≡ get_or pending place e
      by true after = let later : removed < place = grind (arith, nat_tests, after) in others_from (place - 1) e (omega (arith, later)) ∙ ap (λ (n : ℕ). get_or pending n e) (omega (arith, later))
      by false before = let upto : place ≤ removed = grind (arith, nat_tests, before) in others_before place e (lower upto (cases_lt place removed))
        where
          lower : place ≤ removed → (place < removed) ⊎ (removed ≤ place) → place < removed
          lower upto (inl less) = less
          lower upto (inr more) = absurd (differs (omega (arith, upto, more)))

  still_within : (place : ℕ) → (place ≡ removed → ⊥) → place < length pending → place_without removed place < length others
  unfolding removed
  still_within place differs inside = by (nat_lt removed place) refl (cases_lt place removed)
    where
      by : (b : Bool) → nat_lt removed place ≡ b → (place < removed) ⊎ (removed ≤ place) → (if b then place - 1 else place) < length others
      by true after which = let later : removed < place = grind (arith, nat_tests, after) in omega (arith, later, length_others, inside)
      by false before (inl less) = omega (arith, less, length_others, is_there)
      by false before (inr more) = let upto : place ≤ removed = grind (arith, nat_tests, before) in absurd (differs (omega (arith, upto, more)))

  not_removed : (j : ℕ) → j < length places → (j ≡ at → ⊥) → get_or places j 0 ≡ removed → ⊥
  unfolding removed
  not_removed j inside differs same = differs (distinct places pending index d j at inside there same)

  left_at : (i : ℕ) → i < length rest → get_or left i 0 ≡ place_without removed (get_or rest i 0)
  unfolding left
  left_at i inside = get_or-map (place_without removed) rest i 0 0 inside

  length_left : length left ≡ length rest
  unfolding left
  length_left = length-map rest (place_without removed)

  of_left : (i j : ℕ) (e : Pending) → get_or rest i 0 ≡ get_or places j 0 → i < length rest → j < length places → (j ≡ at → ⊥) → (get_or others (get_or left i 0) e).original ≡ (get_or pending (get_or places j 0) e).original
  of_left i j e same inside old differs =
      ap (λ (n : ℕ). (get_or others n e).original) (left_at i inside ∙ ap (place_without removed) same) ∙ ap (λ (p : Pending). p.original) (still_there (get_or places j 0) e (not_removed j old differs))

  less_as : (a b x y : Original) → a ≡ x → b ≡ y → original_cmp x y ≡ Less → original_cmp a b ≡ Less
  less_as a b x y e f less = rw (e, f) less

  ordered_left : (i j : ℕ) (e : Pending) → i < j → j < length rest → (i < at) ⊎ (at ≤ i) → (j < at) ⊎ (at ≤ j) → original_cmp (get_or others (get_or left i 0) e).original (get_or others (get_or left j 0) e).original ≡ Less
  ordered_left i j e upto inside (inl i_before) (inl j_before) = less_as _ _ _ _ (of_left i i e (rest_before i i_before) (omega (arith, inside)) (omega (arith, there)) (λ s. absurd (omega (arith, i_before, s)))) (of_left j j e (rest_before j j_before) inside (omega (arith, there)) (λ s. absurd (omega (arith, j_before, s)))) (index.ordered i j e upto (omega (arith, there)))
  ordered_left i j e upto inside (inl i_before) (inr j_from) = less_as _ _ _ _ (of_left i i e (rest_before i i_before) (omega (arith, inside)) (omega (arith, there)) (λ s. absurd (omega (arith, i_before, s)))) (of_left j (j + 1) e (rest_from j j_from) inside (omega (arith, length_rest)) (λ s. absurd (omega (arith, j_from, s)))) (index.ordered i (j + 1) e (omega arith) (omega (arith, length_rest)))
  ordered_left i j e upto inside (inr i_from) (inl j_before) = absurd (omega arith)
  ordered_left i j e upto inside (inr i_from) (inr j_from) = less_as _ _ _ _ (of_left i (i + 1) e (rest_from i i_from) (omega (arith, inside)) (omega (arith, length_rest)) (λ s. absurd (omega (arith, i_from, s)))) (of_left j (j + 1) e (rest_from j j_from) inside (omega (arith, length_rest)) (λ s. absurd (omega (arith, j_from, s)))) (index.ordered (i + 1) (j + 1) e (omega arith) (omega (arith, length_rest)))

  within_left : (i : ℕ) → i < length rest → (i < at) ⊎ (at ≤ i) → get_or left i 0 < length others
  within_left i inside (inl before) = subst (λ (n : ℕ). n < length others) (sym (left_at i inside ∙ ap (place_without removed) (rest_before i before))) (still_within (get_or places i 0) (not_removed i (omega (arith, there)) (λ s. absurd (omega (arith, before, s)))) (index.within i (omega (arith, there))))
  within_left i inside (inr from) = subst (λ (n : ℕ). n < length others) (sym (left_at i inside ∙ ap (place_without removed) (rest_from i from))) (still_within (get_or places (i + 1) 0) (not_removed (i + 1) (omega (arith, length_rest)) (λ s. absurd (omega (arith, from, s)))) (index.within (i + 1) (omega (arith, length_rest))))

  at_removed : (i : ℕ) → i ≡ at → get_or places i 0 ≡ removed
  unfolding removed
  at_removed i same = ap (λ (n : ℕ). get_or places n 0) same

  any_left : (k place : ℕ) → place_without removed place ≡ k → (place ≡ removed → ⊥) → IsAt places place → list_any (nat_eq k) left ≡ true
  any_left k place is differs old = elim (cases_lt old.index at) [
    | inl before ↦ any_at left k old.index (omega (arith, length_left, length_rest, before, there)) (left_at old.index (omega (arith, length_rest, before, there)) ∙ ap (place_without removed) (rest_before old.index before ∙ old.is) ∙ is)
    | inr from ↦ elim (cases_lt at old.index) [
      | inl after ↦ any_at left k (old.index - 1) (omega (arith, length_left, length_rest, old.within, after)) (left_at (old.index - 1) (omega (arith, length_rest, old.within, after)) ∙ ap (place_without removed) (rest_from (old.index - 1) (omega (arith, after)) ∙ ap (λ (n : ℕ). get_or places n 0) (omega (arith, after)) ∙ old.is) ∙ is)
      | inr same ↦ absurd (differs (sym old.is ∙ at_removed old.index (omega (arith, from, same))))
    ]
  ]

  without_before : (k : ℕ) → k < removed → place_without removed k ≡ k
  without_before k before = grind (arith, nat_tests, before)

  without_after : (k : ℕ) → removed ≤ k → place_without removed (k + 1) ≡ k
  without_after k from = grind (arith, nat_tests, from)

  complete_left : (k : ℕ) → k < length others → list_any (nat_eq k) left ≡ true
  complete_left k inside = elim (cases_lt k removed) [
    | inl before ↦ any_left k k (without_before k before) (λ s. absurd (omega (arith, before, s))) (at_index places k (index.complete k (omega (arith, before, is_there))))
    | inr from ↦ any_left k (k + 1) (without_after k from) (λ s. absurd (omega (arith, from, s))) (at_index places (k + 1) (index.complete (k + 1) (omega (arith, inside, length_others))))
  ]

  open_left : (k : ℕ) (e : Pending) → k < length others → whole_of (get_or others k e) ≡ None
  open_left k e inside = elim (cases_lt k removed) [
    | inl before ↦ ap whole_of (others_before k e before) ∙ index.«open» k e (omega (arith, before, is_there))
    | inr from ↦ ap whole_of (others_from k e from) ∙ index.«open» (k + 1) e (omega (arith, inside, length_others))
  ]

  pub is_left : IsIndex (map (place_without (get_or places at 0)) (remove places at)) (remove pending (get_or places at 0))
  unfolding removed rest left others
  is_left = record {
    within = λ i inside. within_left i (omega (arith, inside, length_left)) (cases_lt i at);
    ordered = λ i j e upto inside. ordered_left i j e upto (omega (arith, inside, length_left)) (cases_lt i at) (cases_lt j at);
    complete = complete_left;
    «open» = open_left;
  }

-- ---- what a search returns

pub at_gap : (places : List ℕ) (pending : List Pending) (at : ℕ) (original : Original) → IsGap at original places pending → at ≤ length places
at_gap places pending at original gap = gap.within

-- a datagram is compared as what it is in a box
pub boxed : (boxes : List (Box Pending Global)) (place : ℕ) (d : Box Pending Global) (e : Pending) → place < length boxes → get_or (map (λ one. one.value) boxes) place e ≡ (get_or boxes place d).value
boxed boxes place d e within = get_or-map (λ one. one.value) boxes place d e within

pub no_box : (boxes : List (Box Pending Global)) (place : ℕ) (original : Original) → length boxes ≤ place → Equal ≡ original_cmp (get_or (map (λ one. one.value) boxes) place (no_fragments_of original)).original original
no_box boxes place original none =
    let e : get_or (map (λ (one : Box Pending Global). one.value) boxes) place (no_fragments_of original) ≡ no_fragments_of original = past (map (λ one. one.value) boxes) place (no_fragments_of original) (omega (arith, none, length-map boxes (λ (one : Box Pending Global). one.value))) in
    rw e (sym (tied_itself laws.total-law original))
  where
    past : (xs : List Pending) (k : ℕ) (d : Pending) → length xs ≤ k → get_or xs k d ≡ d
    past xs k d out = grind (arith, common_steps, out)

pub searched : (places others : List ℕ) (pending : List Pending) (original : Original) (result : Result ℕ ℕ) → IsIndex places pending → others ≡ places → IsSearchInRange result (length others) → IsBinarySearchResult (λ place. original_cmp (get_or pending place (no_fragments_of original)).original original) others result → IsFound result original places pending
searched places others pending original (Ok at) index same range result =
    let within : at < length places = omega (arith, range, ap length same) in
    (within, found places pending index original at (no_fragments_of original) within (rw same at (result 0)))
searched places others pending original (Err at) index same range result =
    let d = no_fragments_of original in
    let point = (rw same at result) (searchable_from_sorted laws.total-law (λ (place : ℕ). (get_or pending place d).original) places original (sorted places pending index d)) in
    not_found places pending index original at (omega (arith, range, ap length same)) (λ i before. point.0 i 0 (omega arith) before) (λ i from inside. point.1 i 0 from inside)

-- ---- boxes

drop-map : {X Y : Type 0} (f : X → Y) (n : ℕ) (xs : List X) → drop n (map f xs) ≡ map f (drop n xs)
drop-map f zero xs = refl
drop-map f (suc n) [] = refl
drop-map f (suc n) (x ∷ xs) = drop-map f n xs

pub map-remove : {X Y : Type 0} (f : X → Y) (xs : List X) (k : ℕ) → map f (remove xs k) ≡ remove (map f xs) k
map-remove f xs k = map-append f (take k xs) (drop (suc k) xs) ∙ rw (take-map f k xs, drop-map f (suc k) xs) refl

pub pushed_index : (places others : List ℕ) (boxes more : List (Box Pending Global)) (at place : ℕ) (box : Box Pending Global) (one : Pending) → IsIndex places (map (λ one. one.value) boxes) → IsGap at one.original places (map (λ one. one.value) boxes) → whole_of one ≡ None → place ≡ length boxes → others ≡ insert places at place → more ≡ boxes ++ box ∷ [] → box.value ≡ one → IsIndex others (map (λ one. one.value) more)
pushed_index places others boxes more at place box one index gap whole is_place is_others is_more is_one =
    let size : place ≡ length (map (λ (one : Box Pending Global). one.value) boxes) = omega (arith, is_place, length-map boxes (λ (one : Box Pending Global). one.value)) in
    let all : map (λ (one : Box Pending Global). one.value) more ≡ map (λ (one : Box Pending Global). one.value) boxes ++ one ∷ [] = ap (λ (b : List (Box Pending Global)). map (λ (one : Box Pending Global). one.value) b) is_more ∙ map-append (λ (one : Box Pending Global). one.value) boxes (box ∷ []) ∙ ap (λ (p : Pending). map (λ (one : Box Pending Global). one.value) boxes ++ p ∷ []) is_one in
    rw (is_others, size, all) (pushed places (map (λ one. one.value) boxes) index at one gap whole)

some_of : (xs : List Pending) (k : ℕ) → k < length xs → Pending
some_of [] k within = absurd (omega (arith, within))
some_of (x ∷ xs) k within = x

pub removed_index : (places others : List ℕ) (pending left : List Pending) (at place : ℕ) → IsIndex places pending → at < length places → place ≡ get_or places at 0 → others ≡ map (place_without place) (remove places at) → left ≡ remove pending place → IsIndex others left
removed_index places others pending left at place index within is_place is_others is_left_of =
    rw (is_others, is_left_of, is_place) (is_left places pending index at within (some_of pending (get_or places at 0) (index.within at within)))

pub whole_again : (n : ℕ) (xs items : List ℕ) → length xs ≡ n → length items ≡ n → take n (xs ++ drop (length xs) items) ≡ xs
whole_again n xs items of_xs of_items = grind (arith, common_steps, of_xs, of_items)

-- ---- a datagram that goes on

apart_or : (k place : ℕ) → (k ≡ place → ⊥) ⊎ (place ≡ k)
apart_or k place = elim (cases_lt k place) [
  | inl before ↦ inl (λ same. omega (arith, before, same))
  | inr from ↦ elim (cases_lt place k) [
    | inl after ↦ inl (λ same. omega (arith, after, same))
    | inr upto ↦ inr (omega (arith, from, upto))
  ]
]

pub set_index : (places : List ℕ) (pending : List Pending) (place : ℕ) (one : Pending) → IsIndex places pending → place < length pending → ((d : Pending) → one.original ≡ (get_or pending place d).original) → whole_of one ≡ None → IsIndex places (set pending place one)
set_index places pending place one index there same whole = record {
  within = λ i inside. omega (arith, index.within i inside, length-set pending place one);
  ordered = λ i j d upto inside. less_as (original_at (get_or places i 0) d (apart_or (get_or places i 0) place)) (original_at (get_or places j 0) d (apart_or (get_or places j 0) place)) (index.ordered i j d upto inside);
  complete = λ k inside. index.complete k (omega (arith, inside, length-set pending place one));
  «open» = λ k d inside. elim (apart_or k place) [
    | inl other ↦ ap whole_of (get_or-set_other pending place k one d other) ∙ index.«open» k d (omega (arith, inside, length-set pending place one))
    | inr e ↦ subst (λ (n : ℕ). whole_of (get_or (set pending place one) n d) ≡ None) e (ap whole_of (get_or-set_same pending place one d there) ∙ whole)
  ];
}
  where
    less_as : {a b x y : Original} → a ≡ x → b ≡ y → original_cmp x y ≡ Less → original_cmp a b ≡ Less
    less_as e f less = rw (e, f) less

    original_at : (k : ℕ) (d : Pending) → (k ≡ place → ⊥) ⊎ (place ≡ k) → (get_or (set pending place one) k d).original ≡ (get_or pending k d).original
    original_at k d (inl differs) = ap (λ (p : Pending). p.original) (get_or-set_other pending place k one d differs)
    original_at k d (inr e) = subst (λ (n : ℕ). (get_or (set pending place one) n d).original ≡ (get_or pending n d).original) e (ap (λ (p : Pending). p.original) (get_or-set_same pending place one d there) ∙ same d)

pub boxes_set : (boxes : List (Box Pending Global)) (place : ℕ) (box : Box Pending Global) → map (λ one. one.value) (set boxes place box) ≡ set (map (λ one. one.value) boxes) place box.value
boxes_set [] place box = refl
boxes_set (first ∷ boxes) zero box = refl
boxes_set (first ∷ boxes) (suc place) box = ap (λ (xs : List Pending). first.value ∷ xs) (boxes_set boxes place box)

pub set_same : (pending : List Pending) (place : ℕ) (one : Pending) → one ≡ get_or pending place one → set pending place one ≡ pending
set_same pending place one same = ap (λ (p : Pending). set pending place p) same ∙ set-get_or pending place one

got : (xs : List Pending) (k : ℕ) (d : Pending) → k < length xs → get_or xs k d ≡ d → slice_get xs k ≡ Some d
got [] k d within is = absurd (omega (arith, within))
got (x ∷ xs) zero d within is = ap Some is
got (x ∷ xs) (suc k) d within is = got xs k d (omega (arith, within)) is

pub finished_none : (pending : List Pending) (given_up place : ℕ) (one : Pending) → place < length pending → whole_of one ≡ None → finished (record { pending = set pending place one; given_up = given_up }, place) ≡ (None, record { pending = set pending place one; given_up = given_up })
finished_none pending given_up place one there whole = rw (got (set pending place one) place one (omega (arith, there, length-set pending place one)) (get_or-set_same pending place one one there), whole) refl

pub finished_some : (pending : List Pending) (given_up place : ℕ) (one : Pending) (whole : Reassembled) → place < length pending → whole_of one ≡ Some whole → finished (record { pending = set pending place one; given_up = given_up }, place) ≡ (Some whole, record { pending = remove pending place; given_up = given_up })
finished_some pending given_up place one whole there is = rw (got (set pending place one) place one (omega (arith, there, length-set pending place one)) (get_or-set_same pending place one one there), is) (ap (λ (xs : List Pending). (Some whole, record { pending = xs; given_up = given_up })) (remove-set pending place one there))
  where
    remove-set : (xs : List Pending) (k : ℕ) (x : Pending) → k < length xs → remove (set xs k x) k ≡ remove xs k
    remove-set xs k x within = grind (arith, common_steps, within)

-- ---- the datagram that began first

first_at : (first : Pending) (later : List Pending) → index_of first.original (first ∷ later) ≡ Some 0
first_at first later = position_is (λ other. same_original other.original first.original) (first ∷ later) 0 first (omega arith) (same_is first.original first.original ∙ ap is_eq (tied_itself laws.total-law first.original)) (λ k before. absurd (omega (arith, before)))

pub first_there : (pending : List Pending) (original : Original) → 0 < length pending → ((d : Pending) → original ≡ (get_or pending 0 d).original) → index_of original pending ≡ Some 0
first_there [] original some same = absurd (omega (arith, some))
first_there (first ∷ later) original some same = subst (λ (o : Original). index_of o (first ∷ later) ≡ Some 0) (sym (same first)) (first_at first later)

pub first_given_up : (pending left : List Pending) (original : Original) (place given_up count : ℕ) (one : Pending) → 0 < length pending → ((d : Pending) → original ≡ (get_or pending 0 d).original) → index_of original pending ≡ Some place → one ≡ get_or pending place one → left ≡ remove pending place → count ≡ plus given_up one.count → (let table : Table = record { pending = left; given_up = count } in table) ≡ without_first pending given_up
first_given_up [] left original place given_up count one some same at is is_left_of counted = absurd (omega (arith, some))
first_given_up (first ∷ later) left original place given_up count one some same at is is_left_of counted =
    let zero_at : place ≡ 0 = cc (first_there (first ∷ later) original some same) in
    let its : one ≡ first = is ∙ ap (λ (n : ℕ). get_or (first ∷ later) n one) zero_at in
    let rest_of : left ≡ later = is_left_of ∙ ap (λ (n : ℕ). remove (first ∷ later) n) zero_at in
    rw (rest_of, counted, its) refl

-- ---- a datagram that begins

last_of : (xs : List Pending) (one : Pending) → slice_get (xs ++ one ∷ []) (length (xs ++ one ∷ []) - 1) ≡ Some one
last_of xs one = got (xs ++ one ∷ []) (length (xs ++ one ∷ []) - 1) one (omega (arith, length_push xs one)) (ap (λ (n : ℕ). get_or (xs ++ one ∷ []) n one) (omega (arith, length_push xs one)) ∙ last_push xs one one)

without_last : (xs : List Pending) (one : Pending) → remove (xs ++ one ∷ []) (length (xs ++ one ∷ []) - 1) ≡ xs
without_last xs one = grind (arith, common_steps)

pub begun_whole : (pending : List Pending) (given_up : ℕ) (one : Pending) (whole : Reassembled) → whole_of one ≡ Some whole → (let table : Table = record { pending = pending; given_up = given_up } in finished (with_datagram table one, length (with_datagram table one).pending - 1)) ≡ (Some whole, fewer_than 1024 (record { pending = pending; given_up = given_up }))
begun_whole [] given_up one whole is = rw is refl
begun_whole (first ∷ later) given_up one whole is = by (nat_lt (length (first ∷ later)) 1024) refl
  where
    by : (b : Bool) → nat_lt (length (first ∷ later)) 1024 ≡ b → (let table : Table = record { pending = first ∷ later; given_up = given_up } in finished (with_datagram table one, length (with_datagram table one).pending - 1)) ≡ (Some whole, fewer_than 1024 (record { pending = first ∷ later; given_up = given_up }))
    by true few =
        let fits : nat_lt 1024 (length (first ∷ later ++ one ∷ [])) ≡ false = grind (arith, nat_tests, few, length_push (first ∷ later) one) in
        rw (few, fits, last_of (first ∷ later) one, is) (ap (λ (xs : List Pending). (Some whole, record { pending = xs; given_up = given_up })) (without_last (first ∷ later) one))
    by false many =
        let over : nat_lt 1024 (length (first ∷ later ++ one ∷ [])) ≡ true = grind (arith, nat_tests, many, length_push (first ∷ later) one) in
        rw (many, over, last_of later one, is) (ap (λ (xs : List Pending). (Some whole, record { pending = xs; given_up = plus given_up first.count })) (without_last later one))

pub begun_kept : (pending : List Pending) (given_up : ℕ) (one : Pending) → whole_of one ≡ None → (let table : Table = record { pending = pending; given_up = given_up } in finished (with_datagram table one, length (with_datagram table one).pending - 1)) ≡ (None, fewer_than 1025 (record { pending = pending ++ one ∷ []; given_up = given_up }))
begun_kept [] given_up one is = rw is refl
begun_kept (first ∷ later) given_up one is = by (nat_lt 1024 (length (first ∷ later ++ one ∷ []))) refl
  where
    by : (b : Bool) → nat_lt 1024 (length (first ∷ later ++ one ∷ [])) ≡ b → (let table : Table = record { pending = first ∷ later; given_up = given_up } in finished (with_datagram table one, length (with_datagram table one).pending - 1)) ≡ (None, fewer_than 1025 (record { pending = first ∷ later ++ one ∷ []; given_up = given_up }))
    by true over =
        let many : nat_lt (length (first ∷ later ++ one ∷ [])) 1025 ≡ false = grind (arith, nat_tests, over) in
        rw (over, many, last_of later one, is) refl
    by false fits =
        let few : nat_lt (length (first ∷ later ++ one ∷ [])) 1025 ≡ true = grind (arith, nat_tests, fits) in
        rw (fits, few, last_of (first ∷ later) one, is) refl

-- ---- a datagram in its box

pub held : (boxes : List (Box Pending Global)) (place : ℕ) (box : Box Pending Global) (one e : Pending) → place < length (map (λ (b : Box Pending Global). b.value) boxes) → box ≡ get_or boxes place box → one ≡ box.value → one ≡ get_or (map (λ b. b.value) boxes) place e
held boxes place box one e within is_box is_one = is_one ∙ ap (λ (b : Box Pending Global). b.value) is_box ∙ sym (boxed boxes place box e (omega (arith, within, length-map boxes (λ (b : Box Pending Global). b.value))))

pub set_in : (boxes : List (Box Pending Global)) (at place : ℕ) (box : Box Pending Global) → at ≡ place → map (λ b. b.value) (set boxes at box) ≡ set (map (λ b. b.value) boxes) place box.value
set_in boxes at place box same = boxes_set boxes at box ∙ ap (λ (n : ℕ). set (map (λ b. b.value) boxes) n box.value) same

pub on_err : {T E : Type 0} (result : Result T E) (P : Type 0) → P → OnErr result P
on_err (Ok value) P is = tt
on_err (Err error) P is = is
