-- Octets that are judged by themselves.
use Rattle.std.proofs.Common.{◌≡◌, ℕ, ◌^◌, ◌<◌, ◌&&◌, nat_lt, Bool, true, false, List, [], ◌∷◌, length, Option, Some, None, refl, sym, ◌∙◌, ap, ap₂, subst, arith}
use Rattle.std.proofs.lemmas.Bool.{and_parts, lt-ltb, ltb-true}
use Rattle.std.specs.List.{list_all}
use Rattle.std.specs.Option.{MatchOption}
use Rattle.krb_der.specs.Octets.{AreOctets}
use Rattle.krb_der.specs.declared.verdict.Verdict.{Verdict}
use Rattle.krb_der.specs.declared.verdict.Verdict.TheVariants as verdict
use Rattle.krb_msg.specs.Der.{IsDer}
use Rattle.krb_msg.specs.Judgement.{term_judgement}
use Rattle.krb_msg.specs.Shape.{has_octet_tags, is_unambiguous}
use Rattle.krb_msg.specs.Term.{Term, Value, Fits, der}
use Rattle.krb_msg.specs.ValueOfDer.{value_of_der}
use Rattle.krb_msg.specs.Viewed.{IsNotWhole, IsViewOf}
use Rattle.krb_msg.proofs.Encoded.{AreOctets-der}
use Rattle.krb_msg.proofs.Grammars.{value_is_whole, whole_is_value}
use Rattle.krb_msg.proofs.ValueOfDer.{value_of_der_is_value}
use Rattle.krb_text.specs.Judged.{are_octets, if_whole, judged, judged_if}

-- ---- the test
each_octet : (octets : List ℕ) → list_all (λ octet. nat_lt octet 256) octets ≡ true → AreOctets octets
each_octet [] e = tt
each_octet (octet ∷ octets) e =
    let h = and_parts (nat_lt octet 256) (list_all (λ o. nat_lt o 256) octets) e in
    (ltb-true octet 256 h.0, each_octet octets h.1)

all_octets : (octets : List ℕ) → AreOctets octets → list_all (λ octet. nat_lt octet 256) octets ≡ true
all_octets [] a = refl
all_octets (octet ∷ octets) a = ap₂ (λ (x y : Bool). x && y) (lt-ltb octet 256 a.0) (all_octets octets a.1)

tested : (octets : List ℕ) → AreOctets octets → length octets < 2 ^ 31 → are_octets octets ≡ true
tested octets a short = ap₂ (λ (x y : Bool). x && y) (lt-ltb (length octets) 2147483648 (omega (arith, short))) (all_octets octets a)

-- ---- what is judged
abbrev or_else : {A : Type 0} → A → Option A → A
or_else other None = other
or_else other (Some a) = a

-- octets of which the value is this one
pub record IsJudged (term : Term) (octets : List ℕ) (value : Value term) : Type 0 where
  pub all : AreOctets octets
  pub short : length octets < 2 ^ 31
  pub fits : Fits term value
  pub form : der term value ≡ octets

of_der : (term : Term) (octets : List ℕ) (value : Value term) → is_unambiguous term ≡ true → AreOctets octets → length octets < 2 ^ 31 → value_of_der term octets ≡ value → IsDer term octets → IsJudged term octets value
of_der term octets value u a short read is =
    let same : value_of_der term octets ≡ is.value = ap (value_of_der term) is.form ∙ value_of_der_is_value term is.value u (omega (arith, short, ap length is.form)) in
    let its : is.value ≡ value = sym same ∙ read in
    record { all = a; short = short; fits = subst (Fits term) its is.fits; form = sym (is.form ∙ ap (der term) its) }

pub is_judged : (term : Term) (octets : List ℕ) (value : Value term) → is_unambiguous term ≡ true → judged term octets ≡ Some value → IsJudged term octets value
unfolding judged
is_judged term octets value u e = by (are_octets octets) (term_judgement term (length octets) octets) refl refl e
  where
    by : (are : Bool) (v : Verdict) → are_octets octets ≡ are → term_judgement term (length octets) octets ≡ v → judged_if (are_octets octets) term octets ≡ Some value → IsJudged term octets value
    by false v t w found =
        let none : None ≡ Some value = sym (ap (λ are. judged_if are term octets) t) ∙ found in
        absurd cc
    by true verdict.Whole t w found =
        let some : Some (value_of_der term octets) ≡ Some value = sym (ap (λ are. judged_if are term octets) t ∙ ap (λ v. if_whole v term octets) w) ∙ found in
        let h = and_parts (nat_lt (length octets) 2147483648) (list_all (λ o. nat_lt o 256) octets) t in
        let a : AreOctets octets = each_octet octets h.1 in
        of_der term octets value u a (omega (arith, ltb-true (length octets) 2147483648 h.0)) (ap (or_else value) some) (whole_is_value term octets a w)
    by true other t w found =
        let none : None ≡ Some value = sym (ap (λ are. judged_if are term octets) t ∙ ap (λ v. if_whole v term octets) w) ∙ found in
        absurd cc

-- octets that are not whole
none_if : (are : Bool) (v : Verdict) (term : Term) (octets : List ℕ) → (v ≡ verdict.Whole → ⊥) → term_judgement term (length octets) octets ≡ v → judged_if are term octets ≡ None
none_if false v term octets not_whole e = refl
none_if true verdict.Whole term octets not_whole e = absurd (not_whole refl)
none_if true other term octets not_whole e = ap (λ v. if_whole v term octets) e

pub not_judged : (term : Term) (octets : List ℕ) → IsNotWhole term octets → judged term octets ≡ None
unfolding judged
not_judged term octets none = none_if (are_octets octets) (term_judgement term (length octets) octets) term octets none refl

-- octets that are whole
pub judged_whole : (term : Term) (octets : List ℕ) (value : Value term) → AreOctets octets → length octets < 2 ^ 31 → term_judgement term (length octets) octets ≡ verdict.Whole → value_of_der term octets ≡ value → judged term octets ≡ Some value
unfolding judged
judged_whole term octets value a short whole read =
    ap (λ are. judged_if are term octets) (tested octets a short) ∙ ap (λ v. if_whole v term octets) whole ∙ ap Some read

pub judged_view : (term : Term) (octets : List ℕ) (value : Value term) → has_octet_tags term ≡ true → length octets < 2 ^ 31 → IsViewOf term octets value → judged term octets ≡ Some value
judged_view term octets value tags short seen =
    judged_whole term octets value (subst AreOctets seen.form (AreOctets-der term tags value seen.fits (omega (arith, short, ap length seen.form)))) short seen.whole (sym seen.read)

-- the DER of a value
pub judged_der : (term : Term) (value : Value term) → is_unambiguous term ≡ true → has_octet_tags term ≡ true → Fits term value → length (der term value) < 2 ^ 31 → judged term (der term value) ≡ Some value
judged_der term value u tags fits short =
    judged_whole term (der term value) value (AreOctets-der term tags value fits (omega (arith, short))) short (value_is_whole term value u fits short) (value_of_der_is_value term value u (omega (arith, short)))

-- what holds of an option, and what follows of it
pub match_as : {A : Type 0} (found : Option A) {none other_none : Type 0} {some other_some : A → Type 0} → (none → other_none) → ((a : A) → some a → other_some a) → MatchOption found none some → MatchOption found other_none other_some
match_as None n s m = n m
match_as (Some a) n s m = s a m
