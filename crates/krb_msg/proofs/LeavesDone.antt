-- What follows for the contents of numbers, octets, bit strings, strings and times from their being done or open.
use Rattle.std.proofs.Common.{◌≡◌, ℕ, zero, suc, ◌+◌, ◌-◌, ◌*◌, ◌%◌, ◌^◌, ◌<◌, ◌≤◌, ◌⊎◌, inl, inr, Bool, true, false, ◌&&◌, ◌||◌, ltb, leb, ℤ, List, [], ◌∷◌, length, refl, sym, ◌∙◌, ap, arith, lt-ltb, le-ltb, eqb-true, leb-true, eq-eqb, le-leb}
use Rattle.std.proofs.lemmas.Bool.{cases_lt, cases_Bool, and_parts}
use Rattle.std.proofs.lemmas.Bool.Decides.{nat_tests}
use Rattle.std.specs.List.{AllByRecursion}
use Rattle.krb_der.specs.Octets.{integer_value, last_or_zero, AreBits}
use Rattle.krb_der.specs.declared.why.Why.{Why}
use Rattle.krb_der.specs.declared.why.Why.TheVariants as why
use Rattle.krb_msg.specs.Term.{IsTimeFrom}
use Rattle.krb_msg.specs.Judgement.{Outcome, Open, Bad, Done, after, then_after, is_padded, int_le, integer_contents, each_contents, text_octet, time_octet, bits_contents, any_contents}
use Rattle.krb_msg.proofs.Leaves.{each-next, each-bad, each-open, each-done}

-- ---- parts after others
pub done_from_after : (before : ℕ) (outcome : Outcome) (total : ℕ) → after before outcome ≡ Done total → (count : ℕ) × (outcome ≡ Done count) × (total ≡ before + count)
done_from_after before (Done count) total e = (count, refl, cc)
done_from_after before other total e = absurd cc

pub done_from_then_after : (before : ℕ) (outcome : Outcome) (next : ℕ → Outcome) (total : ℕ) → then_after before outcome next ≡ Done total → (count : ℕ) × (outcome ≡ Done count) × (next count ≡ Done total)
done_from_then_after before (Done count) next total e = (count, refl, e)
done_from_then_after before other next total e = absurd cc

pub open_from_after : (before : ℕ) (outcome : Outcome) → after before outcome ≡ Open → outcome ≡ Open
open_from_after before Open e = refl
open_from_after before other e = absurd cc

pub open_from_then_after : (before : ℕ) (outcome : Outcome) (next : ℕ → Outcome) → then_after before outcome next ≡ Open → (outcome ≡ Open) ⊎ ((count : ℕ) × (outcome ≡ Done count) × (next count ≡ Open))
open_from_then_after before Open next e = inl refl
open_from_then_after before (Bad offset reason) next e = absurd cc
open_from_then_after before (Done count) next e = inr (count, refl, e)

-- ---- octets
pub any_done : (room : ℕ) (octets : List ℕ) (count : ℕ) → any_contents room octets ≡ Done count → (count ≡ room) × (room ≤ length octets)
any_done room octets count e = grind (arith, nat_tests)

pub any_open : (room : ℕ) (octets : List ℕ) → any_contents room octets ≡ Open → length octets < room
any_open room octets e = grind (arith, nat_tests)

-- ---- numbers
abbrev pub in_range : ℤ → ℤ → ℤ → Bool
in_range low high z = int_le low z && int_le z high

module _ (low high : ℤ) (room : ℕ) (octets : List ℕ) where
  pub integer_unpadded : (count : ℕ) → integer_contents low high room octets ≡ Done count → is_padded octets ≡ false
  integer_unpadded count e = grind (arith, nat_tests)

  pub integer_done : (count : ℕ) → integer_contents low high room octets ≡ Done count → (count ≡ room) × (room ≤ length octets)
  integer_done count e = grind (arith, nat_tests)

  pub integer_between : (count : ℕ) → integer_contents low high room octets ≡ Done count → (int_le low (integer_value octets) ≡ true) × (int_le (integer_value octets) high ≡ true)
  integer_between count e = grind (arith, nat_tests)

  pub integer_open : integer_contents low high room octets ≡ Open → length octets < room
  integer_open e = grind (arith, nat_tests)

  pub integer_contents-done : is_padded octets ≡ false → room ≤ length octets → in_range low high (integer_value octets) ≡ true → integer_contents low high room octets ≡ Done room
  integer_contents-done t h r = rw (t, le-ltb (length octets) room h, r)

-- ---- bit strings
module _ (least room unused : ℕ) (octets : List ℕ) where
  pub bits_done : (count : ℕ) → bits_contents least room (unused ∷ octets) ≡ Done count → (count ≡ room) × (room ≤ length (unused ∷ octets))
  bits_done count e = grind (arith, nat_tests)

  pub bits_open : bits_contents least room (unused ∷ octets) ≡ Open → length (unused ∷ octets) < room
  bits_open e = grind (arith, nat_tests)

  pub bits_enough : (count : ℕ) → room ≡ length (unused ∷ octets) → bits_contents least room (unused ∷ octets) ≡ Done count → least + unused ≤ 8 * length octets
  bits_enough count l e = grind (arith, nat_tests)

  pub AreBits-done : (count : ℕ) → room ≡ length (unused ∷ octets) → bits_contents least room (unused ∷ octets) ≡ Done count → AreBits unused octets
  AreBits-done count l e = record {
    few = grind (arith, nat_tests);
    none_unused = λ n. let m : length octets ≡ 0 = ap length n in omega (arith, bits_enough count l e);
    clear = grind (arith, nat_tests);
  }

  pub bits_contents-done : room ≡ length (unused ∷ octets) → AreBits unused octets → least + unused ≤ 8 * length octets → bits_contents least room (unused ∷ octets) ≡ Done room
  bits_contents-done l a h =
      rw (bits_wrong-false, le-ltb (length (unused ∷ octets)) room (omega arith), eq-eqb (last_or_zero octets % 2 ^ unused) 0 a.clear)
    where
      bits_wrong-false : (ltb 7 unused || ltb (8 * (room - 1)) (least + unused)) ≡ false
      bits_wrong-false = let z : unused < 8 = a.few in grind (arith, nat_tests)

-- ---- octets that each pass a test
module _ (passes : ℕ → ℕ → Bool) (reason : Why) (size : ℕ) where
  pub each-count : (place : ℕ) (octets : List ℕ) (count : ℕ) → each_contents passes reason size place octets ≡ Done count → count ≡ size
  each-count place [] count e =
      elim (cases_lt place size) [
        | inl h ↦ let f : Open ≡ Done count = sym (each-open passes reason size place h) ∙ e in absurd cc
        | inr h ↦ let f : Done size ≡ Done count = sym (each-done passes reason size place h) ∙ e in cc
      ]
  each-count place (octet ∷ octets) count e =
      elim (cases_Bool (passes place octet)) [
        | inl t ↦ each-count (place + 1) octets count (sym (each-next passes reason size place octet octets t) ∙ e)
        | inr t ↦ let f : Bad place reason ≡ Done count = sym (each-bad passes reason size place octet octets t) ∙ e in absurd cc
      ]

  pub each-is_open : (place : ℕ) (octets : List ℕ) → each_contents passes reason size place octets ≡ Open → place + length octets < size
  each-is_open place [] e =
      elim (cases_lt place size) [
        | inl h ↦ omega arith
        | inr h ↦ let f : Done size ≡ Open = sym (each-done passes reason size place h) ∙ e in absurd cc
      ]
  each-is_open place (octet ∷ octets) e =
      elim (cases_Bool (passes place octet)) [
        | inl t ↦ omega (arith, each-is_open (place + 1) octets (sym (each-next passes reason size place octet octets t) ∙ e))
        | inr t ↦ let f : Bad place reason ≡ Open = sym (each-bad passes reason size place octet octets t) ∙ e in absurd cc
      ]

  -- the first octet passes, and the octets after it are done
  pub each-passed : (place octet : ℕ) (octets : List ℕ) (count : ℕ) → each_contents passes reason size place (octet ∷ octets) ≡ Done count → (passes place octet ≡ true) × (each_contents passes reason size (place + 1) octets ≡ Done count)
  each-passed place octet octets count e =
      elim (cases_Bool (passes place octet)) [
        | inl t ↦ (t, sym (each-next passes reason size place octet octets t) ∙ e)
        | inr t ↦ let f : Bad place reason ≡ Done count = sym (each-bad passes reason size place octet octets t) ∙ e in absurd cc
      ]

-- ---- strings
pub text_done : (greatest size place : ℕ) (octets : List ℕ) (count : ℕ) → each_contents (text_octet greatest) why.Charset size place octets ≡ Done count → AllByRecursion (λ octet. octet ≤ greatest) octets
text_done greatest size place [] count e = tt
text_done greatest size place (octet ∷ octets) count e =
    let p : (leb octet greatest ≡ true) × (each_contents (text_octet greatest) why.Charset size (place + 1) octets ≡ Done count) = each-passed (text_octet greatest) why.Charset size place octet octets count e in
    (leb-true octet greatest p.0, text_done greatest size (place + 1) octets count p.1)

pub text_accepts : (greatest size place : ℕ) (octets : List ℕ) → place + length octets ≡ size → AllByRecursion (λ octet. octet ≤ greatest) octets → each_contents (text_octet greatest) why.Charset size place octets ≡ Done size
text_accepts greatest size place [] l a = each-done (text_octet greatest) why.Charset size place (omega arith)
text_accepts greatest size place (octet ∷ octets) l a =
    each-next (text_octet greatest) why.Charset size place octet octets (le-leb octet greatest a.0) ∙ text_accepts greatest size (place + 1) octets (omega arith) a.1

-- ---- times
abbrev pub time_contents : ℕ → List ℕ → Outcome
time_contents = each_contents time_octet why.Time 15

pub time_done : (digits place : ℕ) (octets : List ℕ) (count : ℕ) → place + digits ≡ 14 → place + length octets ≤ 15 → time_contents place octets ≡ Done count → IsTimeFrom digits octets
time_done zero place (octet ∷ next ∷ octets) count p l e = absurd (omega arith)
time_done zero place (octet ∷ []) count p l e =
    let t : time_octet place octet ≡ true = (each-passed time_octet why.Time 15 place octet [] count e).0 in
    eqb-true octet 90 (rw (le-ltb place 14 (omega arith)) at t)
time_done (suc digits) place (octet ∷ octets) count p l e =
    let t : (time_octet place octet ≡ true) × (time_contents (place + 1) octets ≡ Done count) = each-passed time_octet why.Time 15 place octet octets count e in
    let d : (leb 48 octet ≡ true) × (leb octet 57 ≡ true) = and_parts (leb 48 octet) (leb octet 57) (rw (lt-ltb place 14 (omega arith)) at t.0) in
    (leb-true 48 octet d.0, leb-true octet 57 d.1, time_done digits (place + 1) octets count (omega arith) (omega arith) t.1)
time_done other place [] count p l e = let f : Open ≡ Done count = sym (each-open time_octet why.Time 15 place (omega arith)) ∙ e in absurd cc

pub time_accepts : (digits place : ℕ) (octets : List ℕ) → place + digits ≡ 14 → IsTimeFrom digits octets → (time_contents place octets ≡ Done 15) × (length octets ≡ suc digits)
time_accepts zero place [] p t = absurd t
time_accepts zero place (octet ∷ next ∷ octets) p t = absurd t
time_accepts (suc digits) place [] p t = absurd t
time_accepts zero place (octet ∷ []) p t =
    (each-next time_octet why.Time 15 place octet [] (rw (le-ltb place 14 (omega arith)) (eq-eqb octet 90 t)) ∙ each-done time_octet why.Time 15 (place + 1) (omega arith), refl)
time_accepts (suc digits) place (octet ∷ octets) p t =
    let r : (time_contents (place + 1) octets ≡ Done 15) × (length octets ≡ suc digits) = time_accepts digits (place + 1) octets (omega arith) t.2 in
    (each-next time_octet why.Time 15 place octet octets (rw (lt-ltb place 14 (omega arith), le-leb 48 octet t.0, le-leb octet 57 t.1)) ∙ r.0, omega (arith, r.1))
