-- The fragments of one datagram among those of others.
use Rattle.std.proofs.Common.{take, append_assoc, ◌≡◌, ℕ, zero, suc, ◌+◌, ◌-◌, ◌<◌, ◌≤◌, ◌⊎◌, inl, inr, Bool, true, false, cond, List, [], ◌∷◌, ◌++◌, length, get_or, set, Option, Some, None, refl, sym, ◌∙◌, ap, ap₂, subst, arith, append-nil, length-append}
use Rattle.std.specs.Prelude.{nat_lt, not, slice_get}
use Rattle.std.specs.List.{AllByRecursion, Contains, filter, position, position_or_len, remove, slice_index_or}
use Rattle.std.specs.Cmp.{IsEquivalence}
use Rattle.std.specs.Option.{option_and_then, option_to_list}
use Rattle.std.specs.Ordering.{eq_by_cmp}
use Rattle.std.proofs.lemmas.Bool.{lt-ltb, true≢false}
use Rattle.std.proofs.lemmas.Bool.Decides.{nat_tests}
use Rattle.std.proofs.lemmas.Cmp.{eq_by_cmp_equiv}
use Rattle.std.proofs.lemmas.List.Elements.{filter-append}
use Rattle.krb_der.specs.Octets.{when}
use Rattle.krb_packet.specs.contracts.contents.OriginalOrd.TheImpl.Laws as laws
use Rattle.krb_packet.specs.declared.contents.Fragment.{Fragment}
use Rattle.krb_packet.specs.declared.contents.Original.{Original}
use Rattle.krb_packet.specs.declared.fragments.Pending.{Pending}
use Rattle.krb_packet.specs.declared.fragments.Progress.{Progress}
use Rattle.krb_packet.specs.declared.fragments.Progress.TheVariants.{Open, Discarded}
use Rattle.krb_packet.specs.declared.fragments.Reassembled.{Reassembled}
use Rattle.krb_packet.specs.FragmentLaws.{AreFewAtOnce, FragmentsAreApart, IsBegun, fragments_of, left_after, wholes}
use Rattle.krb_packet.specs.Fragments.{finished, most_datagrams, no_fragments, no_fragments_of, pending_with, same_original, step, whole, whole_of, with_fragment_at, without_first, without_whole}
use Rattle.krb_packet.specs.Parts.{is_complete, joined}
use Rattle.krb_packet.specs.Table.{Table}
use Rattle.krb_packet.specs.inner.Places.{original_cmp}
use Rattle.krb_packet.proofs.Places.{same_is}

-- ---- what fragments have in common
equivalence : IsEquivalence (eq_by_cmp original_cmp)
equivalence = eq_by_cmp_equiv laws.total-law

same-itself : (one : Original) → same_original one one ≡ true
same-itself one = same_is one one ∙ equivalence.refl one

pub same-back : (one other : Original) → same_original one other ≡ same_original other one
same-back one other = same_is one other ∙ equivalence.symm one other ∙ sym (same_is other one)

pub same-alike : (one other third : Original) → same_original one other ≡ true → same_original one third ≡ same_original other third
same-alike one other third e = same_is one third ∙ equivalence.congr one other third (sym (same_is one other) ∙ e) ∙ sym (same_is other third)

-- ---- a place in a list
module _ {X : Type 0} where
  get-middle : (before : List X) (x : X) (after : List X) (d : X) → get_or (before ++ x ∷ after) (length before) d ≡ x
  get-middle [] x after d = refl
  get-middle (b ∷ before) x after d = get-middle before x after d

  set-middle : (before : List X) (x : X) (after : List X) (y : X) → set (before ++ x ∷ after) (length before) y ≡ before ++ y ∷ after
  set-middle [] x after y = refl
  set-middle (b ∷ before) x after y = ap (λ l. b ∷ l) (set-middle before x after y)

  found-middle : (before : List X) (x : X) (after : List X) → slice_get (before ++ x ∷ after) (length before) ≡ Some x
  found-middle [] x after = refl
  found-middle (b ∷ before) x after = found-middle before x after

  remove-middle : (before : List X) (x : X) (after : List X) → remove (before ++ x ∷ after) (length before) ≡ before ++ after
  remove-middle [] x after = refl
  remove-middle (b ∷ before) x after = ap (λ l. b ∷ l) (remove-middle before x after)

  module _ (p : X → Bool) where
    len-middle : (before : List X) (x : X) (after : List X) → AllByRecursion (λ b. p b ≡ false) before → p x ≡ true → position_or_len p (before ++ x ∷ after) ≡ length before
    len-middle [] x after none is = ap (λ b. cond (not b) (1 + position_or_len p after) 0) is
    len-middle (b ∷ before) x after none is =
        let later = len-middle before x after none.1 is in
        ap (λ c. cond (not c) (1 + position_or_len p (before ++ x ∷ after)) 0) none.0 ∙ omega (arith, later)

    len-none : (xs : List X) → AllByRecursion (λ x. p x ≡ false) xs → position_or_len p xs ≡ length xs
    len-none [] none = refl
    len-none (x ∷ xs) none =
        let later = len-none xs none.1 in
        ap (λ c. cond (not c) (1 + position_or_len p xs) 0) none.0 ∙ omega (arith, later)

    position-middle : (before : List X) (x : X) (after : List X) → AllByRecursion (λ b. p b ≡ false) before → p x ≡ true → position p (before ++ x ∷ after) ≡ Some (length before)
    position-middle before x after none is =
        let size : length (before ++ x ∷ after) ≡ length before + length (x ∷ after) = length-append before (x ∷ after) in
        rw (len-middle before x after none is) (ap (λ b. cond b (Some (length before)) None) (lt-ltb (length before) (length (before ++ x ∷ after)) (omega (arith, size))))

    position-none : (xs : List X) → AllByRecursion (λ x. p x ≡ false) xs → position p xs ≡ None
    position-none xs none = rw (len-none xs none) (grind (arith, nat_tests))

    filter-none : (xs : List X) → AllByRecursion (λ x. p x ≡ false) xs → filter p xs ≡ []
    filter-none [] none = refl
    filter-none (x ∷ xs) none = ap (λ b. cond b (x ∷ filter p xs) (filter p xs)) none.0 ∙ filter-none xs none.1

    filter-yes : (x : X) (xs : List X) → p x ≡ true → filter p (x ∷ xs) ≡ x ∷ filter p xs
    filter-yes x xs e = ap (λ b. cond b (x ∷ filter p xs) (filter p xs)) e

    filter-no : (x : X) (xs : List X) → p x ≡ false → filter p (x ∷ xs) ≡ filter p xs
    filter-no x xs e = ap (λ b. cond b (x ∷ filter p xs) (filter p xs)) e

-- ---- the step for a fragment

-- whether a datagram is that of a fragment
abbrev pub is_of : Original → Pending → Bool
is_of original pending = same_original pending.original original

-- the datagram of a fragment, with it, between others: it is kept, or it is whole
abbrev pub put : Option Reassembled → List Pending → Pending → List Pending → ℕ → Option Reassembled × Table
put None before one after given_up = (None, record { pending = before ++ one ∷ after; given_up = given_up })
put (Some whole) before one after given_up = (Some whole, record { pending = before ++ after; given_up = given_up })

finished-middle : (before : List Pending) (one : Pending) (after : List Pending) (given_up : ℕ) → finished (record { pending = before ++ one ∷ after; given_up = given_up }, length before) ≡ put (whole_of one) before one after given_up
finished-middle before one after given_up = ap (λ (o : Option Pending). without_whole (option_and_then whole_of o) (record { pending = before ++ one ∷ after; given_up = given_up }, length before)) (found-middle before one after) ∙ by (whole_of one)
  where
    by : (o : Option Reassembled) → without_whole o (record { pending = before ++ one ∷ after; given_up = given_up }, length before) ≡ put o before one after given_up
    by None = refl
    by (Some whole) = ap (λ (l : List Pending). (Some whole, record { pending = l; given_up = given_up })) (remove-middle before one after)

pub step-middle : (before : List Pending) (x : Pending) (after : List Pending) (given_up : ℕ) (fragment : Fragment) → AllByRecursion (λ p. is_of fragment.original p ≡ false) before → is_of fragment.original x ≡ true → step (record { pending = before ++ x ∷ after; given_up = given_up }) fragment ≡ put (whole_of (pending_with fragment x)) before (pending_with fragment x) after given_up
unfolding step
step-middle before x after given_up fragment none is =
    ap (λ (o : Option ℕ). finished (with_fragment_at (record { pending = before ++ x ∷ after; given_up = given_up }) fragment o)) (position-middle (is_of fragment.original) before x after none is)
    ∙ ap (λ (p : Pending). finished (record { pending = set (before ++ x ∷ after) (length before) (pending_with fragment p); given_up = given_up }, length before)) (get-middle before x after (no_fragments_of fragment.original))
    ∙ ap (λ (l : List Pending). finished (record { pending = l; given_up = given_up }, length before)) (set-middle before x after (pending_with fragment x))
    ∙ finished-middle before (pending_with fragment x) after given_up

abbrev pub new_one : Fragment → Pending
new_one fragment = pending_with fragment (no_fragments_of fragment.original)

pub step-new : (table : Table) (fragment : Fragment) → AllByRecursion (λ p. is_of fragment.original p ≡ false) table.pending → length table.pending < most_datagrams → step table fragment ≡ put (whole_of (new_one fragment)) table.pending (new_one fragment) [] table.given_up
unfolding step
step-new table fragment none few =
    let size : length (table.pending ++ new_one fragment ∷ []) ≡ length table.pending + 1 = length-append table.pending (new_one fragment ∷ []) in
    let within : nat_lt most_datagrams (length (table.pending ++ new_one fragment ∷ [])) ≡ false = grind (arith, nat_tests, size, few) in
    let all : Table = record { pending = table.pending ++ new_one fragment ∷ []; given_up = table.given_up } in
    ap (λ (o : Option ℕ). finished (with_fragment_at table fragment o)) (position-none (is_of fragment.original) table.pending none)
    ∙ ap (λ (b : Bool). let more = when b (λ _. without_first all.pending all.given_up) (λ _. all) in finished (more, length more.pending - 1)) within
    ∙ ap (λ (n : ℕ). finished (all, n)) (omega (arith, size))
    ∙ finished-middle table.pending (new_one fragment) [] table.given_up

-- ---- the datagrams that are kept: no two are the same, and each is one of these
abbrev pub IsOneOf : Original → List Original → Type 0
IsOneOf original [] = ⊥
IsOneOf original (first ∷ others) = (original ≡ first) ⊎ IsOneOf original others

module _ (different : List Original) where
  abbrev pub AreKept : List Pending → Type 0
  AreKept [] = Unit {0}
  AreKept (one ∷ others) = IsOneOf one.original different × AllByRecursion (λ p. is_of one.original p ≡ false) others × AreKept others

  -- in the place of one is another of the same datagram
  all_replaced : (original : Original) (before : List Pending) (x y : Pending) (after : List Pending) → y.original ≡ x.original → AllByRecursion (λ p. is_of original p ≡ false) (before ++ x ∷ after) → AllByRecursion (λ p. is_of original p ≡ false) (before ++ y ∷ after)
  all_replaced original [] x y after e a = (ap (λ o. same_original o original) e ∙ a.0, a.1)
  all_replaced original (b ∷ before) x y after e a = (a.0, all_replaced original before x y after e a.1)

  replaced : (before : List Pending) (x y : Pending) (after : List Pending) → y.original ≡ x.original → AreKept (before ++ x ∷ after) → AreKept (before ++ y ∷ after)
  replaced [] x y after e k = (subst (λ o. IsOneOf o different) (sym e) k.0, subst (λ o. AllByRecursion (λ p. is_of o p ≡ false) after) (sym e) k.1, k.2)
  replaced (b ∷ before) x y after e k = (k.0, all_replaced b.original before x y after e k.1, replaced before x y after e k.2)

  all_without : (original : Original) (before : List Pending) (x : Pending) (after : List Pending) → AllByRecursion (λ p. is_of original p ≡ false) (before ++ x ∷ after) → AllByRecursion (λ p. is_of original p ≡ false) (before ++ after)
  all_without original [] x after a = a.1
  all_without original (b ∷ before) x after a = (a.0, all_without original before x after a.1)

  without : (before : List Pending) (x : Pending) (after : List Pending) → AreKept (before ++ x ∷ after) → AreKept (before ++ after)
  without [] x after k = k.2
  without (b ∷ before) x after k = (k.0, all_without b.original before x after k.1, without before x after k.2)

  all_pushed : (original : Original) (pending : List Pending) (x : Pending) → AllByRecursion (λ p. is_of original p ≡ false) pending → is_of original x ≡ false → AllByRecursion (λ p. is_of original p ≡ false) (pending ++ x ∷ [])
  all_pushed original [] x a e = (e, a)
  all_pushed original (p ∷ pending) x a e = (a.0, all_pushed original pending x a.1 e)

  pushed : (pending : List Pending) (x : Pending) → AreKept pending → AllByRecursion (λ p. is_of x.original p ≡ false) pending → IsOneOf x.original different → AreKept (pending ++ x ∷ [])
  pushed [] x k none one = (one, tt, tt)
  pushed (p ∷ pending) x k none one = (k.0, all_pushed p.original pending x k.1 (same-back x.original p.original ∙ none.0), pushed pending x k.2 none.1 one)

  -- the others of a datagram are not it
  none_after : (before : List Pending) (x : Pending) (after : List Pending) → AreKept (before ++ x ∷ after) → AllByRecursion (λ p. is_of x.original p ≡ false) after
  none_after [] x after k = k.1
  none_after (b ∷ before) x after k = none_after before x after k.2

-- ---- how many there are
record Others (original : Original) (all : List Original) : Type 0 where
  rest : List Original
  one_less : length all ≡ suc (length rest)
  left : (other : Original) → (other ≡ original → ⊥) → IsOneOf other all → IsOneOf other rest

others_of : (original : Original) (all : List Original) → IsOneOf original all → Others original all
others_of original [] i = absurd i
others_of original (first ∷ all) (inl e) = record { rest = all; one_less = refl; left = λ other n i. left other n i }
  where
    left : (other : Original) → (other ≡ original → ⊥) → (other ≡ first) ⊎ IsOneOf other all → IsOneOf other all
    left other n (inl same) = absurd (n (same ∙ sym e))
    left other n (inr i) = i
others_of original (first ∷ all) (inr i) =
    let others = others_of original all i in
    record { rest = first ∷ others.rest; one_less = ap suc others.one_less; left = λ other n j. left others other n j }
  where
    left : (others : Others original all) → (other : Original) → (other ≡ original → ⊥) → (other ≡ first) ⊎ IsOneOf other all → (other ≡ first) ⊎ IsOneOf other others.rest
    left others other n (inl same) = inl same
    left others other n (inr j) = inr (others.left other n j)

differs : (one other : Original) → same_original other one ≡ false → other ≡ one → ⊥
differs one other n e = true≢false (sym (same-itself one) ∙ ap (λ o. same_original o one) (sym e) ∙ n)

narrowed : (original : Original) (all rest : List Original) → ((other : Original) → (other ≡ original → ⊥) → IsOneOf other all → IsOneOf other rest) → (pending : List Pending) → AllByRecursion (λ p. is_of original p ≡ false) pending → AreKept all pending → AreKept rest pending
narrowed original all rest left [] n k = k
narrowed original all rest left (p ∷ pending) n k = (left p.original (differs original p.original n.0) k.0, k.1, narrowed original all rest left pending n.1 k.2)

few : (pending : List Pending) (all : List Original) → AreKept all pending → length pending ≤ length all
few [] all k = omega arith
few (p ∷ pending) all k =
    let others = others_of p.original all k.0 in
    let fewer = few pending others.rest (narrowed p.original all others.rest others.left pending k.1 k.2) in
    let one_less = others.one_less in
    omega (arith, fewer, one_less)

has_room : (pending : List Pending) (all : List Original) (original : Original) → length all ≤ most_datagrams → AreKept all pending → AllByRecursion (λ p. is_of original p ≡ false) pending → IsOneOf original all → length pending < most_datagrams
has_room pending all original short k none one =
    let others = others_of original all one in
    let fewer = few pending others.rest (narrowed original all others.rest others.left pending none k) in
    let one_less = others.one_less in
    omega (arith, fewer, one_less, short)

-- ---- where a datagram is
data Place (original : Original) (pending : List Pending) : Type 0 where
  At : (before : List Pending) (x : Pending) (after : List Pending) → pending ≡ before ++ x ∷ after → AllByRecursion (λ p. is_of original p ≡ false) before → is_of original x ≡ true → Place original pending
  Nowhere : AllByRecursion (λ p. is_of original p ≡ false) pending → Place original pending

place_of : (original : Original) (pending : List Pending) → Place original pending
place_of original [] = Nowhere tt
place_of original (p ∷ pending) = by (is_of original p) refl (place_of original pending)
  where
    by : (b : Bool) → is_of original p ≡ b → Place original pending → Place original (p ∷ pending)
    by true e place = At [] p pending refl tt e
    by false e (At before x after is none one) = At (p ∷ before) x after (ap (λ l. p ∷ l) is) (e, none) one
    by false e (Nowhere none) = Nowhere (e, none)

-- ---- a step, in all datagrams and in those of one alone
whole-original : (one : Pending) (is : Reassembled) → whole_of one ≡ Some is → is.original ≡ one.original
whole-original one is e = by one.progress e
  where
    by : (progress : Progress) → whole one.original progress ≡ Some is → is.original ≡ one.original
    by (Open parts) e = complete (is_complete parts) e
      where
        complete : (b : Bool) → when b (λ _. Some (record { original = one.original; protocol = parts.protocol; octets = joined parts.pieces })) (λ _. None) ≡ Some is → is.original ≡ one.original
        complete true e = let same : record { original = one.original; protocol = parts.protocol; octets = joined parts.pieces } ≡ is = cc in ap (λ (w : Reassembled). w.original) (sym same)
        complete false e = absurd cc
    by Discarded e = absurd cc

module _ (original : Original) where
  abbrev of_it : List Pending → List Pending
  of_it pending = filter (is_of original) pending

  abbrev wholes_of_it : List Reassembled → List Reassembled
  wholes_of_it found = filter (λ whole. same_original whole.original original) found

  -- what is left between others
  put-other : (o : Option Reassembled) (before : List Pending) (one : Pending) (after : List Pending) (given_up : ℕ) → is_of original one ≡ false → of_it (put o before one after given_up).1.pending ≡ of_it before ++ of_it after
  put-other None before one after given_up n = filter-append (is_of original) before (one ∷ after) ∙ ap (λ l. of_it before ++ l) (filter-no (is_of original) one after n)
  put-other (Some whole) before one after given_up n = filter-append (is_of original) before after

  found-other : (o : Option Reassembled) (before : List Pending) (one : Pending) (after : List Pending) (given_up : ℕ) → whole_of one ≡ o → is_of original one ≡ false → wholes_of_it (option_to_list (put o before one after given_up).0) ≡ []
  found-other None before one after given_up e n = refl
  found-other (Some whole) before one after given_up e n = filter-no (λ whole. same_original whole.original original) whole [] (ap (λ o. same_original o original) (whole-original one whole e) ∙ n)

  put-own : (o : Option Reassembled) (before : List Pending) (one : Pending) (after : List Pending) (given_up other : ℕ) → AllByRecursion (λ p. is_of original p ≡ false) before → AllByRecursion (λ p. is_of original p ≡ false) after → is_of original one ≡ true → of_it (put o before one after given_up).1.pending ≡ (put o [] one [] other).1.pending
  put-own None before one after given_up other none later is =
      filter-append (is_of original) before (one ∷ after)
      ∙ ap₂ (λ (x y : List Pending). x ++ y) (filter-none (is_of original) before none) (filter-yes (is_of original) one after is ∙ ap (λ (l : List Pending). one ∷ l) (filter-none (is_of original) after later))
  put-own (Some whole) before one after given_up other none later is =
      filter-append (is_of original) before after
      ∙ ap₂ (λ (x y : List Pending). x ++ y) (filter-none (is_of original) before none) (filter-none (is_of original) after later)

  found-own : (o : Option Reassembled) (before : List Pending) (one : Pending) (after : List Pending) (given_up other : ℕ) → whole_of one ≡ o → is_of original one ≡ true → wholes_of_it (option_to_list (put o before one after given_up).0) ≡ option_to_list (put o [] one [] other).0
  found-own None before one after given_up other e is = refl
  found-own (Some whole) before one after given_up other e is = filter-yes (λ whole. same_original whole.original original) whole [] (ap (λ o. same_original o original) (whole-original one whole e) ∙ is)

put-kept : (different : List Original) (o : Option Reassembled) (before : List Pending) (one : Pending) (after : List Pending) (given_up : ℕ) → AreKept different (before ++ one ∷ after) → AreKept different (put o before one after given_up).1.pending
put-kept different None before one after given_up k = k
put-kept different (Some whole) before one after given_up k = without different before one after k

alike_in : (original other : Original) → same_original other original ≡ true → (pending : List Pending) → AllByRecursion (λ p. is_of other p ≡ false) pending → AllByRecursion (λ p. is_of original p ≡ false) pending
alike_in original other e [] a = a
alike_in original other e (p ∷ pending) a = (same-back p.original original ∙ same-alike original other p.original (same-back original other ∙ e) ∙ same-back other p.original ∙ a.0, alike_in original other e pending a.1)

module _ (original : Original) (different : List Original) (short : length different ≤ most_datagrams) (table own : Table) (fragment : Fragment) (kept : AreKept different table.pending) (one : IsOneOf fragment.original different) where
  -- the datagram of the fragment, with it, and what is before and after it
  record Goes : Type 0 where
    before : List Pending
    now : Pending
    after : List Pending
    is : step table fragment ≡ put (whole_of now) before now after table.given_up
    of_fragment : same_original now.original fragment.original ≡ true
    kept_then : AreKept different (before ++ now ∷ after)
    others : same_original fragment.original original ≡ false → filter (is_of original) table.pending ≡ filter (is_of original) before ++ filter (is_of original) after
    none : AllByRecursion (λ p. is_of fragment.original p ≡ false) before
    later : AllByRecursion (λ p. is_of fragment.original p ≡ false) after
    alone : same_original fragment.original original ≡ true → filter (is_of original) table.pending ≡ own.pending → step own fragment ≡ put (whole_of now) [] now [] own.given_up

  goes : Place fragment.original table.pending → Goes
  goes (At before x after is none same) =
      let kept_in : AreKept different (before ++ x ∷ after) = subst (AreKept different) is kept in
      let later : AllByRecursion (λ p. is_of fragment.original p ≡ false) after = alike_in fragment.original x.original same after (none_after different before x after kept_in) in
      record {
        before = before;
        now = pending_with fragment x;
        after = after;
        is = ap (λ (l : List Pending). step (record { pending = l; given_up = table.given_up }) fragment) is ∙ step-middle before x after table.given_up fragment none same;
        of_fragment = same;
        kept_then = replaced different before x (pending_with fragment x) after refl kept_in;
        others = λ n. ap (filter (is_of original)) is ∙ filter-append (is_of original) before (x ∷ after) ∙ ap (λ l. filter (is_of original) before ++ l) (filter-no (is_of original) x after (same-alike x.original fragment.original original same ∙ n));
        none = none;
        later = later;
        alone = λ e own_is.
            let only : own.pending ≡ x ∷ [] =
            sym own_is ∙ ap (filter (is_of original)) is ∙ filter-append (is_of original) before (x ∷ after)
            ∙ ap₂ (λ (a b : List Pending). a ++ b) (filter-none (is_of original) before (alike_in original fragment.original e before none)) (filter-yes (is_of original) x after (same-alike x.original fragment.original original same ∙ e) ∙ ap (λ (l : List Pending). x ∷ l) (filter-none (is_of original) after (alike_in original fragment.original e after later))) in
            ap (λ (l : List Pending). step (record { pending = l; given_up = own.given_up }) fragment) only ∙ step-middle [] x [] own.given_up fragment tt same;
      }
  goes (Nowhere none) = record {
    before = table.pending;
    now = new_one fragment;
    after = [];
    is = step-new table fragment none (has_room table.pending different fragment.original short kept none one);
    of_fragment = same-itself fragment.original;
    kept_then = pushed different table.pending (new_one fragment) kept none one;
    others = λ n. sym (append-nil (filter (is_of original) table.pending));
    none = none;
    later = tt;
    alone = λ e own_is.
        let empty : own.pending ≡ [] = sym own_is ∙ filter-none (is_of original) table.pending (alike_in original fragment.original e table.pending none) in
        ap (λ (l : List Pending). step (record { pending = l; given_up = own.given_up }) fragment) empty ∙ step-new (record { pending = []; given_up = own.given_up }) fragment tt (omega arith);
  }

  kept_after : Goes → AreKept different (step table fragment).1.pending
  kept_after g = subst (λ (r : Option Reassembled × Table). AreKept different r.1.pending) (sym g.is) (put-kept different (whole_of g.now) g.before g.now g.after table.given_up g.kept_then)

  -- of another datagram
  other_after : (g : Goes) → same_original fragment.original original ≡ false → (filter (is_of original) (step table fragment).1.pending ≡ filter (is_of original) table.pending) × (wholes_of_it original (option_to_list (step table fragment).0) ≡ [])
  other_after g n =
      let not_it : is_of original g.now ≡ false = same-alike g.now.original fragment.original original g.of_fragment ∙ n in (
        ap (λ (r : Option Reassembled × Table). filter (is_of original) r.1.pending) g.is ∙ put-other original (whole_of g.now) g.before g.now g.after table.given_up not_it ∙ sym (g.others n),
        ap (λ (r : Option Reassembled × Table). wholes_of_it original (option_to_list r.0)) g.is ∙ found-other original (whole_of g.now) g.before g.now g.after table.given_up refl not_it,
      )

  -- of this one
  own_after : (g : Goes) → same_original fragment.original original ≡ true → filter (is_of original) table.pending ≡ own.pending → (filter (is_of original) (step table fragment).1.pending ≡ (step own fragment).1.pending) × (wholes_of_it original (option_to_list (step table fragment).0) ≡ option_to_list (step own fragment).0)
  own_after g e own_is =
      let it : is_of original g.now ≡ true = same-alike g.now.original fragment.original original g.of_fragment ∙ e in
      let alone : step own fragment ≡ put (whole_of g.now) [] g.now [] own.given_up = g.alone e own_is in (
        ap (λ (r : Option Reassembled × Table). filter (is_of original) r.1.pending) g.is
            ∙ put-own original (whole_of g.now) g.before g.now g.after table.given_up own.given_up (alike_in original fragment.original e g.before g.none) (alike_in original fragment.original e g.after g.later) it
            ∙ ap (λ (r : Option Reassembled × Table). r.1.pending) (sym alone),
        ap (λ (r : Option Reassembled × Table). wholes_of_it original (option_to_list r.0)) g.is
            ∙ found-own original (whole_of g.now) g.before g.now g.after table.given_up own.given_up refl it
            ∙ ap (λ (r : Option Reassembled × Table). option_to_list r.0) (sym alone),
      )

-- ---- all fragments
abbrev AreDistinct : List Pending → Type 0
AreDistinct [] = Unit {0}
AreDistinct (one ∷ others) = AllByRecursion (λ p. is_of one.original p ≡ false) others × AreDistinct others

distinct-kept : (different : List Original) (pending : List Pending) → AreKept different pending → AreDistinct pending
distinct-kept different [] k = k
distinct-kept different (p ∷ pending) k = (k.1, distinct-kept different pending k.2)

kept-distinct : (different : List Original) (pending : List Pending) → AreDistinct pending → AllByRecursion (λ p. IsOneOf p.original different) pending → AreKept different pending
kept-distinct different [] d a = a
kept-distinct different (p ∷ pending) d a = (a.0, d.0, kept-distinct different pending d.1 a.1)

-- what is left of a datagram, by its fragments alone
abbrev own_of : Original → List Fragment → Table
own_of original fragments = left_after no_fragments (fragments_of original fragments)

left_after-push : (table : Table) (fragments : List Fragment) (fragment : Fragment) → left_after table (fragments ++ fragment ∷ []) ≡ (step (left_after table fragments) fragment).1
left_after-push table [] fragment = refl
left_after-push table (first ∷ fragments) fragment = left_after-push (step table first).1 fragments fragment

module _ (original : Original) (before : List Fragment) (fragment : Fragment) where
  abbrev is_its : Fragment → Bool
  is_its one = same_original one.original original

  own_of-own : same_original fragment.original original ≡ true → own_of original (before ++ fragment ∷ []) ≡ (step (own_of original before) fragment).1
  own_of-own e =
      ap (λ (l : List Fragment). left_after no_fragments l) (filter-append is_its before (fragment ∷ []) ∙ ap (λ (l : List Fragment). filter is_its before ++ l) (filter-yes is_its fragment [] e))
      ∙ left_after-push no_fragments (fragments_of original before) fragment

  own_of-other : same_original fragment.original original ≡ false → own_of original (before ++ fragment ∷ []) ≡ own_of original before
  own_of-other n = ap (λ (l : List Fragment). left_after no_fragments l) (filter-append is_its before (fragment ∷ []) ∙ ap (λ (l : List Fragment). filter is_its before ++ l) (filter-no is_its fragment [] n) ∙ append-nil (filter is_its before))

take-front : (before after : List Fragment) → take (length before) (before ++ after) ≡ before
take-front [] after = refl
take-front (b ∷ before) after = ap (λ l. b ∷ l) (take-front before after)

-- each datagram that is kept has begun
one_at : (all : List Original) (original : Original) (k : ℕ) → k < length all → slice_index_or all k original ≡ original → IsOneOf original all
one_at [] original k within is = absurd (omega (arith, within))
one_at (first ∷ all) original zero within is = inl (sym is)
one_at (first ∷ all) original (suc k) within is = inr (one_at all original k (omega (arith, within)) is)

not_empty : (before : List Pending) (one : Pending) (after : List Pending) → before ++ one ∷ after ≡ [] → ⊥
not_empty [] one after e = cc
not_empty (b ∷ before) one after e = cc

module _ (came : List Fragment) (pending : List Pending) (as_alone : (original : Original) → filter (is_of original) pending ≡ (own_of original came).pending) (more : Original) (begun : List Original) (all : (original : Original) → IsBegun original came → Contains begun original) where
  begun_each : (before rest : List Pending) → pending ≡ before ++ rest → AllByRecursion (λ p. IsOneOf p.original (more ∷ begun)) rest
  begun_each before [] e = tt
  begun_each before (p ∷ rest) e =
      let at = all p.original has_begun in
      (inr (one_at begun p.original at.0 at.1 at.2), begun_each (before ++ p ∷ []) rest (e ∙ sym (append_assoc before (p ∷ []) rest)))
    where
      has_begun : (own_of p.original came).pending ≡ [] → ⊥
      has_begun none =
          not_empty (filter (is_of p.original) before) p (filter (is_of p.original) rest)
          (sym (ap (filter (is_of p.original)) e ∙ filter-append (is_of p.original) before (p ∷ rest) ∙ ap (λ (l : List Pending). filter (is_of p.original) before ++ l) (filter-yes (is_of p.original) p rest (same-itself p.original)))
          ∙ as_alone p.original ∙ none)

all_apart : (original : Original) (all : List Fragment) → AreFewAtOnce all → (fragments came : List Fragment) (table : Table) → all ≡ came ++ fragments → AreDistinct table.pending → ((o : Original) → filter (is_of o) table.pending ≡ (own_of o came).pending) → wholes_of_it original (wholes table fragments) ≡ wholes (own_of original came) (fragments_of original fragments)
all_apart original all few [] came table is distinct as_alone = refl
all_apart original all few (fragment ∷ fragments) came table is distinct as_alone =
    let at = few (length came) in
    let front : take (length came) all ≡ came = ap (take (length came)) is ∙ take-front came (fragment ∷ fragments) in
    let begun : List Original = at.0 in
    let short : length (fragment.original ∷ begun) ≤ most_datagrams = at.1 in
    let has = subst (λ (l : List Fragment). (o : Original) → IsBegun o l → Contains begun o) front at.2 in
    let kept = kept-distinct (fragment.original ∷ begun) table.pending distinct (begun_each came table.pending as_alone fragment.original begun has [] table.pending refl) in
    let g = λ (o : Original). goes o (fragment.original ∷ begun) short table (own_of o came) fragment kept (inl refl) (place_of fragment.original table.pending) in
    filter-append (λ whole. same_original whole.original original) (option_to_list (step table fragment).0) (wholes (step table fragment).1 fragments)
    ∙ by begun short kept (g original) (same_original fragment.original original) refl
    (all_apart original all few fragments (came ++ fragment ∷ []) (step table fragment).1 (is ∙ sym (append_assoc came (fragment ∷ []) fragments))
    (distinct-kept (fragment.original ∷ begun) (step table fragment).1.pending (kept_after original (fragment.original ∷ begun) short table (own_of original came) fragment kept (inl refl) (g original)))
    (λ o. then_alone begun short kept o (g o) (same_original fragment.original o) refl))
  where
    then_alone : (begun : List Original) (short : length (fragment.original ∷ begun) ≤ most_datagrams) (kept : AreKept (fragment.original ∷ begun) table.pending) (o : Original) → Goes o (fragment.original ∷ begun) short table (own_of o came) fragment kept (inl refl) → (b : Bool) → same_original fragment.original o ≡ b → filter (is_of o) (step table fragment).1.pending ≡ (own_of o (came ++ fragment ∷ [])).pending
    then_alone begun short kept o g true e = (own_after o (fragment.original ∷ begun) short table (own_of o came) fragment kept (inl refl) g e (as_alone o)).0 ∙ ap (λ (t : Table). t.pending) (sym (own_of-own o came fragment e))
    then_alone begun short kept o g false e = (other_after o (fragment.original ∷ begun) short table (own_of o came) fragment kept (inl refl) g e).0 ∙ as_alone o ∙ ap (λ (t : Table). t.pending) (sym (own_of-other o came fragment e))

    by : (begun : List Original) (short : length (fragment.original ∷ begun) ≤ most_datagrams) (kept : AreKept (fragment.original ∷ begun) table.pending) → Goes original (fragment.original ∷ begun) short table (own_of original came) fragment kept (inl refl) → (b : Bool) → same_original fragment.original original ≡ b → wholes_of_it original (wholes (step table fragment).1 fragments) ≡ wholes (own_of original (came ++ fragment ∷ [])) (fragments_of original fragments) → wholes_of_it original (option_to_list (step table fragment).0) ++ wholes_of_it original (wholes (step table fragment).1 fragments) ≡ wholes (own_of original came) (cond b (fragment ∷ fragments_of original fragments) (fragments_of original fragments))
    by begun short kept g true e rest =
        ap₂ (λ (x y : List Reassembled). x ++ y) (own_after original (fragment.original ∷ begun) short table (own_of original came) fragment kept (inl refl) g e (as_alone original)).1
        (rest ∙ ap (λ (t : Table). wholes t (fragments_of original fragments)) (own_of-own original came fragment e))
    by begun short kept g false e rest =
        ap₂ (λ (x y : List Reassembled). x ++ y) (other_after original (fragment.original ∷ begun) short table (own_of original came) fragment kept (inl refl) g e).1
        (rest ∙ ap (λ (t : Table). wholes t (fragments_of original fragments)) (own_of-other original came fragment e))

pub fragments_are_apart : FragmentsAreApart
fragments_are_apart original fragments few = all_apart original fragments few fragments [] no_fragments refl tt (λ o. refl)
