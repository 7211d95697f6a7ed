-- Views of fields, of items and of scalars.
use Rattle.std.proofs.Common.{◌≡◌, ℕ, get_or, ◌+◌, ◌<◌, ◌≤◌, ℤ, pos, negsuc, Bool, true, false, not, List, [], ◌∷◌, ◌++◌, length, Option, Some, None, MatchOption, IfSome, refl, sym, ap, ◌∙◌, subst, arith, eq-eqb, eqb-true, w64, FitsSigned, to_z, of_z}
use Rattle.std.specs.Prelude.{◌≤ℤ◌}
use Rattle.std.proofs.lemmas.Bool.{not-true, true≢false}
use Rattle.std.proofs.lemmas.Int.{ints, to_z-of_z}
use Rattle.krb_der.specs.Octets.{item, number, integer_octets, integer_value, AreOctets, begins_with}
use Rattle.krb_der.specs.inner.Items.{same_from_item}
use Rattle.krb_der.specs.inner.Numbers.{IsShortestInteger, IsShortestInteger-integer_octets, integer_octets-integer_value, integer_value-integer_octets, length-integer_octets-le, spelled-number}
use Rattle.krb_msg.specs.Term.{Term, Fields, Integer, Sequence, Tagged, Required, Optional, tag_of, Value, Values, der, der_of_fields, Fits}
use Rattle.krb_msg.specs.Judgement.{is_padded}
use Rattle.krb_msg.specs.Shape.{may_begin}
use Rattle.krb_msg.specs.inner.Values.{contents, der_is, may_begin_from_der}
use Rattle.krb_msg.proofs.Integers.{is_padded-shortest, shortest_some, IsShortestInteger-from_unpadded}
use Rattle.krb_msg.specs.inner.Fields.{HasNoField}
use Rattle.krb_msg.specs.Viewed.{IfElse, IsNoItem, AreContents, AreNoContents, AreFields, AreNoFields, BeginsWithValue, BeginsWithNoValue, MayBeginWithValue, IsMalformedField, IsNumberIn, IsNoNumberIn}

-- a fact of a result, from what is known of it
pub match_map : {A : Type 0} (o : Option A) (P P' : Type 0) (Q Q' : A → Type 0) → (P → P') → ((a : A) → Q a → Q' a) → MatchOption o P Q → MatchOption o P' Q'
match_map None P P' Q Q' f g m = f m
match_map (Some a) P P' Q Q' f g m = g a m

-- two facts of it
pub match_both : {A : Type 0} (o : Option A) (P P' : Type 0) (Q Q' R : A → Type 0) → (P → P') → ((a : A) → Q a → Q' a) → ((a : A) → Q a → R a) → MatchOption o P Q → MatchOption o P' (λ a. Q' a × R a)
match_both None P P' Q Q' R f g h m = f m
match_both (Some a) P P' Q Q' R f g h m = (g a m, h a m)

-- the same of a view that was made, from what is known of the one that it is made of
pub else_both : (made : Bool) (P P' Q Q' R R' : Type 0) → (P → P') → (Q → Q') → (R → R') → IfElse made (Q × R) P → IfElse made (Q' × R') P'
else_both true P P' Q Q' R R' f g h m = (g m.0, h m.1)
else_both false P P' Q Q' R R' f g h m = f m

pub not_made : (made : Bool) (P Q : Type 0) → made ≡ false → IfElse made Q P → P
not_made true P Q e m = absurd (true≢false e)
not_made false P Q e m = m

-- of a result that is there alone
pub match_some : {A : Type 0} (o : Option A) (P : Type 0) (Q Q' : A → Type 0) → ((a : A) → Q a → Q' a) → MatchOption o P Q → IfSome o Q'
match_some None P Q Q' f m = tt
match_some (Some a) P Q Q' f m = f a m

pub match_some_more : {A : Type 0} (o : Option A) (Q Q' : A → Type 0) → ((a : A) → Q a → Q' a) → IfSome o Q → IfSome o Q'
match_some_more None Q Q' f m = tt
match_some_more (Some a) Q Q' f m = f a m

pub match_none : {A : Type 0} (o : Option A) (P : Type 0) (Q : A → Type 0) → o ≡ None → P → MatchOption o P Q
match_none o P Q e p = subst (λ r. MatchOption r P Q) (sym e) p

pub same_contents : (tag : ℕ) (a b : List ℕ) → item tag a ≡ item tag b → a ≡ b
same_contents tag a b e = (same_from_item tag tag a b [] [] (ap (λ l. l ++ []) e)).1

-- ---- the first field
pub field_none : (index tag : ℕ) (term : Term) (octets : List ℕ) → tag ≡ tag_of term → HasNoField (0xA0 + index) tag octets → BeginsWithNoValue (Tagged index term) octets
field_none index tag term octets t none value rest s =
    none (contents term value) rest (s.form ∙ ap (λ l. item (0xA0 + index) l ++ rest) (der_is term value ∙ ap (λ n. item n (contents term value)) (sym t)))

pub contents_none : (index tag : ℕ) (term : Term) (octets inner own rest : List ℕ) → tag ≡ tag_of term → octets ≡ item (0xA0 + index) inner ++ rest → inner ≡ item tag own → AreNoContents term own → BeginsWithNoValue (Tagged index term) octets
contents_none index tag term octets inner own rest t e i none value more s =
    let p = same_from_item (0xA0 + index) (0xA0 + index) inner (der term value) rest more (sym e ∙ s.form) in
    none value (record { fits = s.fits; form = ap (λ n. item n own) (sym t) ∙ sym i ∙ p.1 })

-- ---- a required field
pub required_rest_none : (index : ℕ) (term : Term) (fields : Fields) (octets rest : List ℕ) (value : Value term) → BeginsWithValue (Tagged index term) octets value rest → AreNoFields fields rest → AreNoFields (Required (Tagged index term) fields) octets
required_rest_none index term fields octets rest value s none values f =
    let p = same_from_item (0xA0 + index) (0xA0 + index) (der term value) (der term values.0) rest (der_of_fields fields values.1) (sym s.form ∙ f.form) in
    none values.1 (record { fit = f.fit.1; form = p.2 })

pub required_some : (term : Term) (fields : Fields) (octets rest : List ℕ) (value : Value term) (values : Values fields) → BeginsWithValue term octets value rest → AreFields fields rest values → AreFields (Required term fields) octets (value, values)
required_some term fields octets rest value values s a = record { fit = (s.fits, a.fit); form = s.form ∙ ap (λ l. der term value ++ l) a.form }

-- ---- a field that may be left out
begins : (index : ℕ) (term : Term) (octets rest : List ℕ) (value : Value term) → octets ≡ der (Tagged index term) value ++ rest → begins_with (0xA0 + index) octets ≡ true
begins index term octets rest value e = ap (begins_with (0xA0 + index)) e ∙ eq-eqb (0xA0 + index) (0xA0 + index) refl

apart : (tag : ℕ) (fields : Fields) (octets : List ℕ) → not (may_begin tag fields) ≡ true → begins_with tag octets ≡ true → (values : Values fields) → octets ≡ der_of_fields fields values → ⊥
apart tag fields [] a b values e = absurd cc
apart tag fields (octet ∷ rest) a b values e =
    let o : octet ≡ tag = eqb-true octet tag b in
    true≢false (sym (may_begin_from_der fields values tag rest (sym e ∙ ap (λ o. o ∷ rest) o)) ∙ not-true (may_begin tag fields) a)

spoiled_at : (index : ℕ) (term : Term) (fields : Fields) (octets : List ℕ) → not (may_begin (0xA0 + index) fields) ≡ true → IsMalformedField (Tagged index term) octets → (value : Option (Value term)) (values : Values fields) → AreFields (Optional (Tagged index term) fields) octets (value, values) → ⊥
spoiled_at index term fields octets a s None values f = apart (0xA0 + index) fields octets a s.tag values f.form
spoiled_at index term fields octets a s (Some value) values f = s.none value (der_of_fields fields values) (record { fits = f.fit.0; form = f.form })

pub optional_spoiled : (index : ℕ) (term : Term) (fields : Fields) (octets : List ℕ) → not (may_begin (0xA0 + index) fields) ≡ true → IsMalformedField (Tagged index term) octets → AreNoFields (Optional (Tagged index term) fields) octets
optional_spoiled index term fields octets a s values f = spoiled_at index term fields octets a s values.0 values.1 f

rest_none_at : (index : ℕ) (term : Term) (fields : Fields) (octets rest : List ℕ) → not (may_begin (0xA0 + index) fields) ≡ true → (value : Option (Value term)) → MayBeginWithValue (Tagged index term) octets value rest → AreNoFields fields rest → (other : Option (Value term)) (values : Values fields) → AreFields (Optional (Tagged index term) fields) octets (other, values) → ⊥
rest_none_at index term fields octets rest a None m none None values f = none values (record { fit = f.fit.1; form = m.0 ∙ f.form })
rest_none_at index term fields octets rest a None m none (Some other) values f =
    true≢false (sym (begins index term octets (der_of_fields fields values) other f.form) ∙ m.1)
rest_none_at index term fields octets rest a (Some value) m none None values f = apart (0xA0 + index) fields octets a (begins index term octets rest value m.form) values f.form
rest_none_at index term fields octets rest a (Some value) m none (Some other) values f =
    required_rest_none index term fields octets rest value m none (other, values) (record { fit = f.fit; form = f.form })

pub optional_rest_none : (index : ℕ) (term : Term) (fields : Fields) (octets rest : List ℕ) → not (may_begin (0xA0 + index) fields) ≡ true → (value : Option (Value term)) → MayBeginWithValue (Tagged index term) octets value rest → AreNoFields fields rest → AreNoFields (Optional (Tagged index term) fields) octets
optional_rest_none index term fields octets rest a value m none values f = rest_none_at index term fields octets rest a value m none values.0 values.1 f

-- ---- no fields
-- ---- a SEQUENCE
pub sequence_none : (fields : Fields) (octets : List ℕ) → AreNoFields fields octets → AreNoContents (Sequence fields) octets
sequence_none fields octets none value a = none value (record { fit = a.fits; form = same_contents 0x30 octets (der_of_fields fields value) a.form })

pub sequence_some : (fields : Fields) (octets : List ℕ) (values : Values fields) → AreFields fields octets values → AreContents (Sequence fields) octets values
sequence_some fields octets values a = record { fits = a.fit; form = ap (item 0x30) a.form }

-- ---- an item in a tag of its own, from its octets: the contents of [index] and of [APPLICATION number]
pub inside_no_item : (outer tag : ℕ) (term : Term) (octets : List ℕ) → tag ≡ tag_of term → IsNoItem tag octets → (value : Value term) → item outer octets ≡ item outer (der term value) → ⊥
inside_no_item outer tag term octets t none value e =
    none (contents term value) (same_contents outer octets (der term value) e ∙ der_is term value ∙ ap (λ n. item n (contents term value)) (sym t))

pub inside_none : (outer tag : ℕ) (term : Term) (octets inner : List ℕ) → tag ≡ tag_of term → octets ≡ item tag inner → AreNoContents term inner → (value : Value term) → Fits term value → item outer octets ≡ item outer (der term value) → ⊥
inside_none outer tag term octets inner t e none value fits form =
    none value (record { fits = fits; form = ap (λ n. item n inner) (sym t) ∙ sym e ∙ same_contents outer octets (der term value) form })

pub inside_some : (outer tag : ℕ) (term : Term) (octets inner : List ℕ) (value : Value term) → tag ≡ tag_of term → octets ≡ item tag inner → AreContents term inner value → item outer octets ≡ item outer (der term value)
inside_some outer tag term octets inner value t e a = ap (item outer) (e ∙ ap (λ n. item n inner) t ∙ a.form)

-- ---- numbers
pub record IsNumberShaped (octets : List ℕ) (number : ℤ) : Type 0 where
  pub some : 0 < length octets
  pub few : length octets ≤ 5
  pub unpadded : is_padded octets ≡ false
  pub value : integer_value octets ≡ number

pub number_shape : (low high : ℤ) (octets : List ℕ) (number : ℤ) → negsuc 2147483647 ≤ℤ low → high ≤ℤ pos 4294967295 → AreOctets octets → IsNumberIn low high octets number → IsNumberShaped octets number
number_shape low high octets number l h a n =
    let s : IsShortestInteger octets = subst IsShortestInteger (sym n.form) (IsShortestInteger-integer_octets number) in
    record {
      some = shortest_some octets s;
      few = omega (arith, ap length n.form, length-integer_octets-le number (omega (arith, ints, l, n.low_le)) (omega (arith, ints, h, n.le_high)));
      unpadded = is_padded-shortest octets a s;
      value = ap integer_value n.form ∙ integer_value-integer_octets number;
    }

pub number_some : (low high : ℤ) (octets : List ℕ) (number : ℤ) → AreOctets octets → 0 < length octets → is_padded octets ≡ false → number ≡ integer_value octets → low ≤ℤ number → number ≤ℤ high → IsNumberIn low high octets number
number_some low high octets number a p t e l h = record {
  low_le = l;
  le_high = h;
  form = sym (integer_octets-integer_value octets a (IsShortestInteger-from_unpadded octets a p t)) ∙ ap integer_octets (sym e);
}

-- an INTEGER of one octet
pub one_octet_number : (octets : List ℕ) (that : ℤ) → AreOctets octets → 1 ≤ length octets → length octets < 2 → get_or octets 0 0 < 128 → that ≡ pos (get_or octets 0 0) → octets ≡ integer_octets that
one_octet_number [] that a some one small e = absurd (omega (arith, some))
one_octet_number (octet ∷ []) that a some one small e =
    let n : number (octet ∷ []) ≡ octet = omega arith in
    sym (ap integer_octets (e ∙ ap pos (sym n)) ∙ spelled-number 128 (octet ∷ []) (omega arith) a small)
one_octet_number (first ∷ second ∷ octets) that a some one small e = absurd (omega (arith, one))

pub integer_none : (low high : ℤ) (octets : List ℕ) → IsNoNumberIn low high octets → AreNoContents (Integer low high) octets
integer_none low high octets none value a = none value (record { low_le = a.fits.0; le_high = a.fits.1; form = same_contents 0x02 octets (integer_octets value) a.form })

pub integer_form : (low high : ℤ) (octets : List ℕ) (number : ℤ) → AreContents (Integer low high) octets number → octets ≡ integer_octets number
integer_form low high octets number a = same_contents 0x02 octets (integer_octets number) a.form

pub integer_some : (low high : ℤ) (octets : List ℕ) (number : ℤ) → IsNumberIn low high octets number → AreContents (Integer low high) octets number
integer_some low high octets number n = record { fits = (n.low_le, n.le_high); form = ap (item 0x02) n.form }

-- the same as a number of 64 bits
pub integer_kept : (low high : ℤ) (octets : List ℕ) (number : ℤ) → FitsSigned w64 number → IsNumberIn low high octets number → AreContents (Integer low high) octets (to_z w64 (of_z w64 number))
integer_kept low high octets number fits n = subst (AreContents (Integer low high) octets) (sym (to_z-of_z w64 number fits)) (integer_some low high octets number n)

-- ---- strings
