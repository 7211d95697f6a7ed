-- Texts of values are printable.
use Rattle.std.proofs.Common.{ℕ, zero, suc, ℤ, pos, negsuc, ◌/◌, ◌%◌, ◌==◌, ◌≤◌, Bool, true, false, Option, Some, None, List, [], ◌∷◌, ◌++◌, refl, arith, codes, if◌then◌else◌}
use Rattle.std.specs.List.{AllByRecursion, flat_map}
use Rattle.std.specs.Fmt.{decimal, signed_decimal, digit_glyph, digits, digits_onto}
use Rattle.krb_der.specs.Octets.{AreOctets}
use Rattle.krb_der.specs.Scalars.{IsTimeFrom}
use Rattle.krb_msg.specs.Term.{IfPresent}
use Rattle.krb_record.specs.Text.{IsPrintable, AllAreOctets, hex, escape, joined, principal_text, or_dash, list_text}
use Rattle.krb_record.proofs.Printable.{Prints, join, word}
use Rattle.krb_text_laws.proofs.Escapes.{IsGraphic, IsGraphic-escape, glyph-range}

pub either : {xs ys : List ℕ} (b : Bool) → Prints xs → Prints ys → Prints (if b then xs else ys)
either true h k = h
either false h k = k

-- ---- numbers, octets and times
numeral : (k n : ℕ) (after : List ℕ) → IsPrintable after → IsPrintable (digits_onto k 10 false n after)
numeral zero n after h = h
numeral (suc k) n after h =
    (either (n / 10 == 0) (record { all = more }) (record { all = numeral k (n / 10) (digit_glyph false (n % 10) ∷ after) more })).all
  where
    digit : (32 ≤ digit_glyph false (n % 10)) × (digit_glyph false (n % 10) ≤ 126)
    digit = let h = glyph-range (n % 10) (omega arith) in (omega (arith, h.0), h.1)

    more : IsPrintable (digit_glyph false (n % 10) ∷ after)
    more = (digit, h)

pub number : (n : ℕ) → Prints (decimal n)
unfolding digits
number n = record { all = numeral 64 n [] tt }

pub signed : (n : ℤ) → Prints (signed_decimal n)
signed (pos n) = number n
signed (negsuc n) = join (word (codes "-") refl) (number (suc n))

graphic : (text : List ℕ) → IsGraphic text → IsPrintable text
graphic [] h = tt
graphic (c ∷ cs) h = ((omega (arith, h.0.0), h.0.1), graphic cs h.1)

pub escaped : (octets : List ℕ) → AreOctets octets → Prints (escape octets)
escaped octets h = record { all = graphic (escape octets) (IsGraphic-escape octets h) }

all-hex : (octets : List ℕ) → AreOctets octets → IsGraphic (hex octets)
all-hex [] h = tt
all-hex (o ∷ octets) h = (glyph-range (o / 16) (omega (arith, h.0)), (glyph-range (o % 16) (omega arith), all-hex octets h.1))

pub in_hex : (octets : List ℕ) → AreOctets octets → Prints (hex octets)
in_hex octets h = record { all = graphic (hex octets) (all-hex octets h) }

all-time : (k : ℕ) (octets : List ℕ) → IsTimeFrom k octets → IsPrintable octets
all-time zero [] h = absurd h
all-time zero (last ∷ []) h = ((omega (arith, h), omega (arith, h)), tt)
all-time zero (first ∷ next ∷ octets) h = absurd h
all-time (suc k) [] h = absurd h
all-time (suc k) (digit ∷ octets) h = ((omega (arith, h.0), omega (arith, h.1)), all-time k octets h.2)

pub time : (octets : List ℕ) → IsTimeFrom 14 octets → Prints octets
time octets h = record { all = all-time 14 octets h }

-- ---- what may be left out, and lists
pub optional : {A : Type 0} (text : A → List ℕ) (P : A → Type 0) → ((v : A) → P v → Prints (text v)) → (v : Option A) → IfPresent P v → Prints (or_dash text v)
optional text P shown None h = word (codes "-") refl
optional text P shown (Some v) h = shown v h

pub always : {A : Type 0} (text : A → List ℕ) → ((v : A) → Prints (text v)) → (v : Option A) → Prints (or_dash text v)
always text shown None = word (codes "-") refl
always text shown (Some v) = shown v

-- the texts of values, one after another
pub flat : {A : Type 0} (text : A → List ℕ) (P : A → Type 0) → ((v : A) → P v → Prints (text v)) → (vs : List A) → AllByRecursion P vs → Prints (flat_map text vs)
flat text P shown [] h = word [] refl
flat text P shown (v ∷ vs) h = join (shown v h.0) (flat text P shown vs h.1)

pub all_joined : {A : Type 0} (none separator : List ℕ) (text : A → List ℕ) (P : A → Type 0) → Prints none → Prints separator → ((v : A) → P v → Prints (text v)) → (vs : List A) → AllByRecursion P vs → Prints (joined none separator text vs)
all_joined none separator text P empty between shown [] h = empty
all_joined none separator text P empty between shown (v ∷ vs) h = join (shown v h.0) (flat (λ v. separator ++ text v) P (λ v h. join between (shown v h)) vs h.1)

pub every : {A : Type 0} (vs : List A) → AllByRecursion (λ (v : A). Unit {0}) vs
every [] = tt
every (v ∷ vs) = (tt, every vs)

pub listed : {A : Type 0} (text : A → List ℕ) (P : A → Type 0) → ((v : A) → P v → Prints (text v)) → (vs : List A) → AllByRecursion P vs → Prints (list_text text vs)
listed text P shown vs h =
    join (join (word (codes "[") refl) (all_joined [] (codes ",") text P (word [] refl) (word (codes ",") refl) shown vs h)) (word (codes "]") refl)

pub list : {A : Type 0} (text : A → List ℕ) → ((v : A) → Prints (text v)) → (vs : List A) → Prints (list_text text vs)
list text shown vs = listed text (λ v. Unit {0}) (λ v h. shown v) vs (every vs)

-- ---- principals
pub principal : (components : List (List ℕ)) (realm : List ℕ) → AllAreOctets components → AreOctets realm → Prints (principal_text components realm)
unfolding principal_text
principal components realm h k =
    join (join (all_joined (codes "\\-") (codes "/") escape AreOctets (word (codes "\\-") refl) (word (codes "/") refl) escaped components h) (word (codes "@") refl)) (escaped realm k)
