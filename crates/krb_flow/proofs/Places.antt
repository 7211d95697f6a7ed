-- Octets that wait, by their places: those that are kept before all others, and the place after those that are ready.
use Rattle.std.proofs.Common.{◌≡◌, ℕ, zero, suc, ◌+◌, ◌<◌, ◌≤◌, Bool, true, false, is_some, List, [], ◌∷◌, ◌++◌, length, refl, sym, ap, subst, ◌∙◌, arith, add-zero}
use Rattle.std.specs.Prelude.{All}
use Rattle.std.specs.Ordering.{nat_cmp}
use Rattle.std.specs.Map.{lookup, keys_of}
use Rattle.std.specs.BTreeMap.{insert_entry, is_at}
use Rattle.std.proofs.lemmas.Bool.{lt-ltb, le-ltb, eq-eqb, ne_eqb}
use Rattle.krb_der.specs.Octets.{when}
use Rattle.krb_flow.specs.Waiting.{Waiting, keep_one, keep, ready, early}

-- all octets that wait are at a place or after it
unfoldable pub IsFrom : ℕ → Waiting → Type 0
IsFrom place [] = Unit {0}
IsFrom place (entry ∷ entries) = (place ≤ entry.0) × IsFrom place entries

pub from_all : (place : ℕ) (waiting : Waiting) → All (λ other. place ≤ other) (keys_of waiting) → IsFrom place waiting
unfolding IsFrom
from_all place [] all = tt
from_all place (entry ∷ entries) all = (all 0 0 (omega arith), from_all place entries (λ k d below. all (suc k) d (omega arith)))

pub all_from : (place : ℕ) (waiting : Waiting) → IsFrom place waiting → All (λ other. place ≤ other) (keys_of waiting)
unfolding IsFrom
all_from place [] from k d below = absurd (omega arith)
all_from place (entry ∷ entries) from zero d below = from.0
all_from place (entry ∷ entries) from (suc k) d below = all_from place entries from.1 k d (omega arith)

pub from_fewer : (place more : ℕ) (waiting : Waiting) → place ≤ more → IsFrom more waiting → IsFrom place waiting
unfolding IsFrom
from_fewer place more [] le from = tt
from_fewer place more (entry ∷ entries) le from = (omega arith, from_fewer place more entries le from.1)

unoccupied : (place : ℕ) (waiting : Waiting) → IsFrom (suc place) waiting → is_some (lookup (is_at (nat_cmp place)) waiting) ≡ false
unfolding IsFrom
unoccupied place [] from = refl
unoccupied place (entry ∷ entries) from = rw (lt-ltb place entry.0 from.0) (unoccupied place entries from.1)

inserted_first : (place octet : ℕ) (waiting : Waiting) → IsFrom (suc place) waiting → insert_entry nat_cmp waiting place octet ≡ (place, octet) ∷ waiting
unfolding IsFrom
inserted_first place octet [] from = refl
inserted_first place octet (entry ∷ entries) from = rw (lt-ltb place entry.0 from.0) refl

kept_first : (place octet : ℕ) (waiting : Waiting) → IsFrom (suc place) waiting → keep_one place octet waiting ≡ (place, octet) ∷ waiting
kept_first place octet waiting from = rw (unoccupied place waiting from) (inserted_first place octet waiting from)

pub kept_one_after : (first octet place other : ℕ) (waiting : Waiting) → first < place → keep_one place other ((first, octet) ∷ waiting) ≡ (first, octet) ∷ keep_one place other waiting
kept_one_after first octet place other waiting after =
    rw (le-ltb place first (omega arith), ne_eqb place first (λ same. omega arith))
    (elim (is_some (lookup (is_at (nat_cmp place)) waiting)) as (λ (occupied : Bool). when occupied (λ _. (first, octet) ∷ waiting) (λ _. (first, octet) ∷ insert_entry nat_cmp waiting place other) ≡ (first, octet) ∷ when occupied (λ _. waiting) (λ _. insert_entry nat_cmp waiting place other)) [ true ↦ refl | false ↦ refl ])

pub kept_after : (first octet place : ℕ) (octets : List ℕ) (waiting : Waiting) → first < place → keep place octets ((first, octet) ∷ waiting) ≡ (first, octet) ∷ keep place octets waiting
kept_after first octet place [] waiting after = refl
kept_after first octet place (other ∷ octets) waiting after =
    ap (keep (place + 1) octets) (kept_one_after first octet place other waiting after)
    ∙ kept_after first octet (place + 1) octets (keep_one place other waiting) (omega arith)

pub kept_at : (place octet : ℕ) (octets : List ℕ) (waiting : Waiting) → IsFrom (suc place) waiting → keep place (octet ∷ octets) waiting ≡ (place, octet) ∷ keep (place + 1) octets waiting
kept_at place octet octets waiting from =
    ap (keep (place + 1) octets) (kept_first place octet waiting from)
    ∙ kept_after place octet (place + 1) octets waiting (omega arith)

pub ready_at : (place octet : ℕ) (waiting : Waiting) → ready place ((place, octet) ∷ waiting) ≡ octet ∷ ready (place + 1) waiting
ready_at place octet waiting = rw (eq-eqb place place refl) refl

pub early_at : (place octet : ℕ) (waiting : Waiting) → early place ((place, octet) ∷ waiting) ≡ early (place + 1) waiting
early_at place octet waiting = rw (eq-eqb place place refl) refl

pub next_place : (place count : ℕ) → place + 1 + count ≡ place + suc count
next_place place count = omega arith

-- of octets from the place expected on, those before all that wait are ready at once
pub prefix_is_ready : (place : ℕ) (prefix rest : List ℕ) (waiting : Waiting) → IsFrom (place + length prefix) waiting → ready place (keep place (prefix ++ rest) waiting) ≡ prefix ++ ready (place + length prefix) (keep (place + length prefix) rest waiting)
prefix_is_ready place [] rest waiting from = rw (add-zero place) refl
prefix_is_ready place (octet ∷ prefix) rest waiting from =
    ap (ready place) (kept_at place octet (prefix ++ rest) waiting (from_fewer (suc place) (place + length (octet ∷ prefix)) waiting (omega arith) from))
    ∙ ready_at place octet (keep (place + 1) (prefix ++ rest) waiting)
    ∙ ap (λ (octets : List ℕ). octet ∷ octets) (prefix_is_ready (place + 1) prefix rest waiting (subst (λ (n : ℕ). IsFrom n waiting) (sym (next_place place (length prefix))) from))
    ∙ ap (λ (n : ℕ). octet ∷ prefix ++ ready n (keep n rest waiting)) (next_place place (length prefix))

pub prefix_leaves : (place : ℕ) (prefix rest : List ℕ) (waiting : Waiting) → IsFrom (place + length prefix) waiting → early place (keep place (prefix ++ rest) waiting) ≡ early (place + length prefix) (keep (place + length prefix) rest waiting)
prefix_leaves place [] rest waiting from = rw (add-zero place) refl
prefix_leaves place (octet ∷ prefix) rest waiting from =
    ap (early place) (kept_at place octet (prefix ++ rest) waiting (from_fewer (suc place) (place + length (octet ∷ prefix)) waiting (omega arith) from))
    ∙ early_at place octet (keep (place + 1) (prefix ++ rest) waiting)
    ∙ prefix_leaves (place + 1) prefix rest waiting (subst (λ (n : ℕ). IsFrom n waiting) (sym (next_place place (length prefix))) from)
    ∙ ap (λ (n : ℕ). early n (keep n rest waiting)) (next_place place (length prefix))

-- The octets that are delivered at once begin at the place expected, or there are none.
pub record GoesFirst (expected ahead : ℕ) (prefix : List ℕ) (waiting : Waiting) : Type 0 where
  pub here : 0 < length prefix → ahead ≡ 0
  pub before : 0 < length prefix → All (λ place. expected + length prefix ≤ place) (keys_of waiting)

pub first_are_ready : (expected ahead : ℕ) (prefix rest : List ℕ) (waiting : Waiting) → GoesFirst expected ahead prefix waiting → ready expected (keep (expected + ahead) (prefix ++ rest) waiting) ≡ prefix ++ ready (expected + length prefix) (keep (expected + length prefix + ahead) rest waiting)
first_are_ready expected ahead [] rest waiting goes = rw (add-zero expected) refl
first_are_ready expected ahead (octet ∷ prefix) rest waiting goes =
    let some : 0 < length (octet ∷ prefix) = omega arith in
    subst (λ (n : ℕ). ready expected (keep (expected + n) ((octet ∷ prefix) ++ rest) waiting) ≡ (octet ∷ prefix) ++ ready (expected + length (octet ∷ prefix)) (keep (expected + length (octet ∷ prefix) + n) rest waiting)) (sym (goes.here some))
    (rw (add-zero expected, add-zero (expected + length (octet ∷ prefix)))
    (prefix_is_ready expected (octet ∷ prefix) rest waiting (from_all (expected + length (octet ∷ prefix)) waiting (goes.before some))))

pub first_leave : (expected ahead : ℕ) (prefix rest : List ℕ) (waiting : Waiting) → GoesFirst expected ahead prefix waiting → early expected (keep (expected + ahead) (prefix ++ rest) waiting) ≡ early (expected + length prefix) (keep (expected + length prefix + ahead) rest waiting)
first_leave expected ahead [] rest waiting goes = rw (add-zero expected) refl
first_leave expected ahead (octet ∷ prefix) rest waiting goes =
    let some : 0 < length (octet ∷ prefix) = omega arith in
    subst (λ (n : ℕ). early expected (keep (expected + n) ((octet ∷ prefix) ++ rest) waiting) ≡ early (expected + length (octet ∷ prefix)) (keep (expected + length (octet ∷ prefix) + n) rest waiting)) (sym (goes.here some))
    (rw (add-zero expected, add-zero (expected + length (octet ∷ prefix)))
    (prefix_leaves expected (octet ∷ prefix) rest waiting (from_all (expected + length (octet ∷ prefix)) waiting (goes.before some))))
