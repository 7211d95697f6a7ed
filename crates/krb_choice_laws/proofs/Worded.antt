-- Values of messages whose words are words.
use Rattle.std.proofs.Common.{◌≡◌, ℕ, zero, suc, ◌≤◌, true, false, Option, Some, None, IfSome, List, [], ◌∷◌, ◌++◌, refl, arith}
use Rattle.std.proofs.lemmas.Bool.{and_from}
use Rattle.std.proofs.lemmas.Bool.Decides.{nat_tests}
use Rattle.std.specs.List.{AllByRecursion, list_all}
use Rattle.krb_der.specs.Scalars.{IsTimeFrom}
use Rattle.krb_msg.specs.Term.{IfPresent}
use Rattle.krb_record.specs.Values.{Called, Field, Reason, Value, Word, if_there}
use Rattle.krb_text_laws.proofs.EachForm.{AreShown, IsShown}
use Rattle.krb_choice_laws.specs.Cells.{IsWord, Speaks}
use Rattle.krb_choice_laws.proofs.Texts.{Begins, begun-word, is_mark, is_plain}

abbrev pub IsWorded : Value → Type 0
IsWorded (Reason n name) = IsWord name
IsWorded (Word text) = IsWord text
IsWorded (Called n name) = IfSome name IsWord
IsWorded value = Unit {0}

abbrev pub AreWorded : List Field → Type 0
AreWorded fields = AllByRecursion (λ (field : Field). IsWorded field.value) fields

abbrev pub AreSpeaking : List Field → Type 0
AreSpeaking fields = AllByRecursion (λ (field : Field). Speaks field.value) fields

speaks : (value : Value) → IsShown value → IsWorded value → Speaks value
speaks (Reason n name) h k = k
speaks (Word text) h k = k
speaks (Called n name) h k = k
speaks value h k = h

pub speaking : (fields : List Field) → AreShown fields → AreWorded fields → AreSpeaking fields
speaking [] h k = tt
speaking (field ∷ others) h k = (speaks field.value h.0 k.0, speaking others h.1 k.1)

pub all-speaking : (xs ys : List Field) → AreSpeaking xs → AreSpeaking ys → AreSpeaking (xs ++ ys)
all-speaking [] ys h k = k
all-speaking (x ∷ xs) ys h k = (h.0, all-speaking xs ys h.1 k)

-- ---- what may be left out
pub optional : {A : Type 0} (value : A → Value) → ((a : A) → IsWorded (value a)) → (o : Option A) → IsWorded (if_there value o)
optional value w None = tt
optional value w (Some a) = w a

-- ---- times: digits and a Z
digit-plain : (c : ℕ) → 48 ≤ c → c ≤ 57 → is_plain c ≡ true
digit-plain c h k = grind (arith, nat_tests)

digit-mark : (c : ℕ) → 48 ≤ c → c ≤ 57 → is_mark c ≡ false
digit-mark c h k = grind (arith, nat_tests)

zed-plain : (c : ℕ) → c ≡ 90 → is_plain c ≡ true
zed-plain c h = grind (arith, nat_tests)

all-plain : (n : ℕ) (text : List ℕ) → IsTimeFrom n text → list_all is_plain text ≡ true
all-plain zero [] h = absurd h
all-plain zero (last ∷ []) h = and_from (is_plain last) true (zed-plain last h) refl
all-plain zero (last ∷ next ∷ others) h = absurd h
all-plain (suc n) [] h = absurd h
all-plain (suc n) (digit ∷ others) h = and_from (is_plain digit) (list_all is_plain others) (digit-plain digit h.0 h.1) (all-plain n others h.2)

time-begins : (text : List ℕ) → IsTimeFrom 14 text → Begins text
time-begins [] h = absurd h
time-begins (digit ∷ others) h = (tt, digit-mark digit h.0 h.1)

pub time : (text : List ℕ) → IsTimeFrom 14 text → IsWord text
time text h = begun-word text (all-plain 14 text h) (time-begins text h)

pub time-if : (o : Option (List ℕ)) → IfPresent (IsTimeFrom 14) o → IsWorded (if_there Word o)
time-if None h = tt
time-if (Some text) h = time text h
