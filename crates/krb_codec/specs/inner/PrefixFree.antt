-- For a type whose values are those of a term: no value's DER begins another's, and different values have different DER.
use Rattle.std.proofs.Common.{◌≡◌, ℕ, true, List, [], ◌∷◌, ◌++◌, map, refl, sym, ◌∙◌, ap}
use Rattle.std.specs.List.{flat_map}
use Rattle.krb_der.specs.Octets.{item}
use Rattle.krb_der.specs.inner.PrefixFree.{same_many}
use Rattle.krb_msg.specs.Term.{Term, Value, SequenceOf, der}
use Rattle.krb_msg.specs.Shape.{is_unambiguous}
use Rattle.krb_msg.specs.inner.Values.{der_begins, same_from_der}

-- of a type whose values come back
pub type_is_prefix_free : {A : Type 0} (term : Term) → is_unambiguous term ≡ true → (value_of : A → Value term) (of_value : Value term → A) → ((a : A) → of_value (value_of a) ≡ a) → (a b : A) (rest more : List ℕ) → der term (value_of a) ++ rest ≡ der term (value_of b) ++ more → (a ≡ b) × (rest ≡ more)
type_is_prefix_free term unambiguous value_of of_value back a b rest more e =
    let p : (value_of a ≡ value_of b) × (rest ≡ more) = same_from_der term unambiguous (value_of a) (value_of b) rest more e in
    (sym (back a) ∙ ap of_value p.0 ∙ back b, p.1)

-- ---- values one after another
pub flat_map-values : {A : Type 0} (term : Term) (value_of : A → Value term) (xs : List A) → flat_map (λ a. der term (value_of a)) xs ≡ flat_map (der term) (map value_of xs)
flat_map-values term value_of [] = refl
flat_map-values term value_of (x ∷ xs) = ap (λ l. der term (value_of x) ++ l) (flat_map-values term value_of xs)

pub many_form : {A : Type 0} (term : Term) (value_of : A → Value term) (xs : List A) → item 0x30 (flat_map (λ a. der term (value_of a)) xs) ≡ der (SequenceOf true term) (map value_of xs)
many_form term value_of xs = ap (item 0x30) (flat_map-values term value_of xs)

pub many_is_prefix_free : {A : Type 0} (term : Term) (value_of : A → Value term) → ((a b : A) (rest more : List ℕ) → der term (value_of a) ++ rest ≡ der term (value_of b) ++ more → (a ≡ b) × (rest ≡ more)) → (xs ys : List A) (rest more : List ℕ) → der (SequenceOf true term) (map value_of xs) ++ rest ≡ der (SequenceOf true term) (map value_of ys) ++ more → (xs ≡ ys) × (rest ≡ more)
many_is_prefix_free term value_of prefix_free xs ys rest more e =
    same_many (λ a. der term (value_of a)) (λ a. der_begins term (value_of a)) prefix_free xs ys rest more
    (ap (λ l. l ++ rest) (many_form term value_of xs) ∙ e ∙ sym (ap (λ l. l ++ more) (many_form term value_of ys)))
