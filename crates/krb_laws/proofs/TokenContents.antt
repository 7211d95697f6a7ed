-- The contents octets of simple types as they are judged, and as X.690 has them.
use Rattle.std.proofs.Common.{◌≡◌, ℕ, zero, suc, ◌+◌, ◌*◌, ◌<◌, ◌≤◌, ◌⊎◌, inl, inr, ◌==◌, Bool, true, false, ◌&&◌, ltb, pos, List, [], ◌∷◌, ◌++◌, length, Option, Some, None, refl, sym, ◌∙◌, ap, subst, arith}
use Rattle.std.specs.List.{concat, AllByRecursion}
use Rattle.std.proofs.lemmas.Bool.{cases_Bool, cases_lt, and_right, eqb-false, ltb-true, ltb-false, lt-ltb, le-ltb, lt-leb, le-leb, ne_eqb}
use Rattle.std.proofs.lemmas.Bool.Decides.{nat_tests}
use Rattle.krb_der.specs.Octets.{AreBits}
use Rattle.krb_der.specs.inner.Items.{same_from_cons}
use Rattle.krb_der.specs.declared.verdict.Refusal.{Refusal}
use Rattle.krb_der.specs.declared.why.Why.TheVariants as why
use Rattle.krb_msg.proofs.LeavesDone.{bits_open, AreBits-done, bits_contents-done}
use Rattle.krb_msg.specs.Judgement.{Outcome, Open, Bad, Done, bits_contents, integer_contents}
use Rattle.krb_token.specs.Items.{identifier_contents, refusal_in, simple_contents, simple_has_size}
use Rattle.krb_laws.specs.Opened.{DoNotBegin, IsNumber, IsIdentifier, IsContents}
use Rattle.krb_token.specs.declared.simple.Simple.{Simple}
use Rattle.krb_token.specs.declared.simple.Simple.TheVariants as simple

-- contents of the type, none of whose octets is at fault
pub record AreJudged (type : Simple) (octets : List ℕ) : Type 0 where
  pub has_size : simple_has_size type (length octets) ≡ true
  pub unrefused : refusal_in (simple_contents type octets) ≡ None

-- ---- identifiers
abbrev IsPassed : (begins : Bool) → ℕ → List ℕ → Type 0
IsPassed begins place octets = refusal_in (identifier_contents begins place octets) ≡ None

passed_step : (begins : Bool) (place octet : ℕ) (octets : List ℕ) → (begins && (octet == 0x80)) ≡ false → IsPassed (ltb octet 0x80) (place + 1) octets → IsPassed begins place (octet ∷ octets)
passed_step begins place octet octets t h = rw t h

number_form : (begins : Bool) (place : ℕ) (high : List ℕ) (last : ℕ) (rest : List ℕ) → AllByRecursion (λ octet. 0x80 ≤ octet) high → last < 0x80 → (begins ≡ true → DoNotBegin (high ++ (last ∷ [])) (0x80 ∷ [])) → ((place : ℕ) → IsPassed true place rest) → IsPassed begins place ((high ++ (last ∷ [])) ++ rest)
number_form begins place [] last rest more end fewest after =
    passed_step begins place last rest (and_right begins (last == 0x80) (ne_eqb last 0x80 (λ e. omega arith))) (rw (lt-ltb last 0x80 end) (after (place + 1)))
number_form begins place (octet ∷ high) last rest more end fewest after =
    passed_step begins place octet ((high ++ (last ∷ [])) ++ rest) (first begins fewest)
    (rw (le-ltb octet 0x80 more.0) (number_form false (place + 1) high last rest more.1 end (λ t. absurd cc) after))
  where
    first : (begins : Bool) → (begins ≡ true → DoNotBegin (octet ∷ (high ++ (last ∷ []))) (0x80 ∷ [])) → (begins && (octet == 0x80)) ≡ false
    first true fewest = ne_eqb octet 0x80 (λ e. fewest refl (high ++ (last ∷ [])) (ap (λ o. o ∷ (high ++ (last ∷ []))) e))
    first false fewest = refl

numbers_form : (numbers : List (List ℕ)) (place : ℕ) → AllByRecursion IsNumber numbers → IsPassed true place (concat numbers)
numbers_form [] place are = refl
numbers_form (number ∷ numbers) place are =
    let form : (are.0.high ++ (are.0.last ∷ [])) ++ concat numbers ≡ number ++ concat numbers = ap (λ o. o ++ concat numbers) (sym are.0.form) in
    subst (IsPassed true place) form (number_form true place are.0.high are.0.last (concat numbers) are.0.more are.0.end (λ t. subst (λ o. DoNotBegin o (0x80 ∷ [])) are.0.form are.0.fewest) (λ place. numbers_form numbers place are.1))

-- octets that are left of a number, and the numbers after it
record AreLeft (octets : List ℕ) : Type 0 where
  high : List ℕ
  last : ℕ
  numbers : List (List ℕ)
  form : octets ≡ (high ++ (last ∷ [])) ++ concat numbers
  more : AllByRecursion (λ octet. 0x80 ≤ octet) high
  end : last < 0x80
  are_numbers : AllByRecursion IsNumber numbers

abbrev AreFrom : (begins : Bool) → List ℕ → Type 0
AreFrom true octets = (numbers : List (List ℕ)) × (octets ≡ concat numbers) × AllByRecursion IsNumber numbers
AreFrom false octets = AreLeft octets

ending : (begins : Bool) (octet : ℕ) (octets : List ℕ) → octet < 0x80 → AreFrom true octets → AreFrom begins (octet ∷ octets)
ending true octet octets low are = (
  (octet ∷ []) ∷ are.0,
  ap (λ o. octet ∷ o) are.1,
  (record { high = []; last = octet; form = refl; more = tt; end = low; fewest = λ rest e. let s : octet ≡ 0x80 = (same_from_cons octet 0x80 [] rest e).0 in omega arith }, are.2),
)
ending false octet octets low are = record { high = []; last = octet; numbers = are.0; form = ap (λ o. octet ∷ o) are.1; more = tt; end = low; are_numbers = are.2 }

going_on : (begins : Bool) (octet : ℕ) (octets : List ℕ) → 0x80 ≤ octet → (begins && (octet == 0x80)) ≡ false → AreLeft octets → AreFrom begins (octet ∷ octets)
going_on true octet octets high t left = (
  (octet ∷ (left.high ++ (left.last ∷ []))) ∷ left.numbers,
  ap (λ o. octet ∷ o) left.form,
  (record { high = octet ∷ left.high; last = left.last; form = refl; more = (high, left.more); end = left.end; fewest = λ rest e. eqb-false octet 0x80 t (same_from_cons octet 0x80 (left.high ++ (left.last ∷ [])) rest e).0 }, left.are_numbers),
)
going_on false octet octets high t left = record { high = octet ∷ left.high; last = left.last; numbers = left.numbers; form = ap (λ o. octet ∷ o) left.form; more = (high, left.more); end = left.end; are_numbers = left.are_numbers }

joined : (begins : Bool) (octet : ℕ) (octets : List ℕ) → (begins && (octet == 0x80)) ≡ false → AreFrom (ltb octet 0x80) octets → AreFrom begins (octet ∷ octets)
joined begins octet octets t are = go (ltb octet 0x80) refl are
  where
    go : (low : Bool) → ltb octet 0x80 ≡ low → AreFrom low octets → AreFrom begins (octet ∷ octets)
    go true e are = ending begins octet octets (ltb-true octet 0x80 e) are
    go false e are = going_on begins octet octets (ltb-false octet 0x80 e) t are

passed_back : (begins : Bool) (place octet : ℕ) (octets : List ℕ) → IsPassed begins place (octet ∷ octets) → ((begins && (octet == 0x80)) ≡ false) × IsPassed (ltb octet 0x80) (place + 1) octets
passed_back begins place octet octets passed = go (cases_Bool (begins && (octet == 0x80)))
  where
    go : ((begins && (octet == 0x80)) ≡ true) ⊎ ((begins && (octet == 0x80)) ≡ false) → ((begins && (octet == 0x80)) ≡ false) × IsPassed (ltb octet 0x80) (place + 1) octets
    go (inl t) = let f : ◌≡◌ {A = Option Refusal} (Some (record { place = place; why = why.IntegerNotMinimal })) None = rw t at passed in absurd cc
    go (inr t) = (t, rw t at passed)

numbers_back : (begins : Bool) (place : ℕ) (octets : List ℕ) → IsPassed begins place octets → AreFrom begins octets
numbers_back true place [] passed = ([], refl, tt)
numbers_back false place [] passed = absurd cc
numbers_back begins place (octet ∷ octets) passed =
    let p = passed_back begins place octet octets passed in
    joined begins octet octets p.0 (numbers_back (ltb octet 0x80) (place + 1) octets p.1)

identifier_form : (octets : List ℕ) → IsIdentifier octets → AreJudged simple.Identifier octets
identifier_form octets is = record { has_size = lt-ltb 0 (length octets) is.some; unrefused = subst (IsPassed true 0) (sym is.form) (numbers_form is.numbers 0 is.are_numbers) }

identifier_back : (octets : List ℕ) → AreJudged simple.Identifier octets → IsIdentifier octets
identifier_back octets are =
    let n : AreFrom true octets = numbers_back true 0 octets are.unrefused in
    record { numbers = n.0; form = n.1; are_numbers = n.2; some = ltb-true 0 (length octets) are.has_size }

-- ---- bit strings
flags_form : (unused : ℕ) (bits : List ℕ) → AreBits unused bits → AreJudged simple.Flags (unused ∷ bits)
flags_form unused bits are = record {
  has_size = grind (arith, nat_tests);
  unrefused = ap refusal_in (bits_contents-done 0 (length (unused ∷ bits)) unused bits refl are (enough bits are));
}
  where
    enough : (bits : List ℕ) → AreBits unused bits → 0 + unused ≤ 8 * length bits
    enough [] are = omega (arith, are.none_unused refl)
    enough (octet ∷ bits) are = omega (arith, are.few)

flags_back : (octets : List ℕ) → AreJudged simple.Flags octets → IsContents simple.Flags octets
flags_back [] are = absurd (grind (arith, nat_tests, are.has_size))
flags_back (unused ∷ bits) are = go (bits_contents 0 (length (unused ∷ bits)) (unused ∷ bits)) refl are.unrefused
  where
    go : (outcome : Outcome) → bits_contents 0 (length (unused ∷ bits)) (unused ∷ bits) ≡ outcome → refusal_in outcome ≡ None → IsContents simple.Flags (unused ∷ bits)
    go Open e n = absurd (omega (arith, bits_open 0 (length (unused ∷ bits)) unused bits e))
    go (Bad offset reason) e n = absurd cc
    go (Done count) e n = (unused, (bits, (refl, AreBits-done 0 (length (unused ∷ bits)) unused bits count refl e)))

-- ---- a number from 0 to 3
state_form : (state : ℕ) → state < 4 → AreJudged simple.State (state ∷ [])
state_form zero h = record { has_size = refl; unrefused = refl }
state_form (suc zero) h = record { has_size = refl; unrefused = refl }
state_form (suc (suc zero)) h = record { has_size = refl; unrefused = refl }
state_form (suc (suc (suc zero))) h = record { has_size = refl; unrefused = refl }
state_form (suc (suc (suc (suc state)))) h = absurd (omega arith)

state_refused : (state : ℕ) → 4 ≤ state → integer_contents (pos 0) (pos 3) 1 (state ∷ []) ≡ Bad 0 why.Range
state_refused state h =
    elim (cases_lt state 128) [
      | inl low ↦ rw (lt-ltb state 128 low, lt-leb (0 * 256 + state) 3 (omega arith), le-leb 0 (0 * 256 + state) (omega arith)) refl
      | inr high ↦ rw (le-ltb state 128 high) refl
    ]

state_low : (state : ℕ) → AreJudged simple.State (state ∷ []) → (state < 4) ⊎ (4 ≤ state) → state < 4
state_low state are (inl h) = h
state_low state are (inr h) = let f : ◌≡◌ {A = Option Refusal} (Some (record { place = 0; why = why.Range })) None = ap refusal_in (sym (state_refused state h)) ∙ are.unrefused in absurd cc

state_back : (octets : List ℕ) → AreJudged simple.State octets → IsContents simple.State octets
state_back [] are = absurd (grind (arith, nat_tests, are.has_size))
state_back (state ∷ []) are = (state, (refl, state_low state are (cases_lt state 4)))
state_back (state ∷ octet ∷ octets) are = absurd (grind (arith, nat_tests, are.has_size))

-- ---- any
pub contents_form : (type : Simple) (octets : List ℕ) → IsContents type octets → AreJudged type octets
contents_form simple.Identifier octets is = identifier_form octets is
contents_form simple.Flags octets is = subst (AreJudged simple.Flags) (sym is.1.1.0) (flags_form is.0 is.1.0 is.1.1.1)
contents_form simple.State octets is = subst (AreJudged simple.State) (sym is.1.0) (state_form is.0 is.1.1)
contents_form other octets is = record { has_size = refl; unrefused = rw (le-ltb (length octets) (length octets) (omega arith)) refl }

pub contents_back : (type : Simple) (octets : List ℕ) → AreJudged type octets → IsContents type octets
contents_back simple.Identifier octets are = identifier_back octets are
contents_back simple.Flags octets are = flags_back octets are
contents_back simple.State octets are = state_back octets are
contents_back other octets are = tt
