-- Items one after another, as they are viewed.
use Rattle.std.proofs.Common.{◌≡◌, ℕ, ◌^◌, ◌<◌, ◌≤◌, ◌==◌, true, false, List, [], ◌∷◌, ◌++◌, length, refl, sym, ap, ap₂, ◌∙◌, subst, arith, length-append, ne_eqb}
use Rattle.std.specs.List.{flat_map, AllByRecursion}
use Rattle.krb_der.specs.Octets.{item}
use Rattle.krb_der.specs.inner.Items.{same_from_item, length-item}
use Rattle.krb_msg.specs.Term.{Term, Fields, Required, Sequence, SequenceOf, tag_of, Value, Values, der, der_of_fields, Fits}
use Rattle.krb_msg.specs.Shape.{is_unambiguous}
use Rattle.krb_msg.specs.inner.Values.{contents, der_is, same_from_der}
use Rattle.krb_msg.proofs.ValueOfDer.{contents-read}
use Rattle.krb_msg.specs.Viewed.{HasNoItem, AreContents, AreNoContents, BeginsWithNoValue, BeginsWithValue, AreItems, AreViewed, IsFirstItem, items_of}
use Rattle.krb_msg.specs.Notes.{EmptyList, list_has}
use Rattle.krb_msg.proofs.FieldViews.{same_contents}

-- ---- the first of some items
pub record FirstOf (term : Term) (octets : List ℕ) : Type 0 where
  pub value : Value term
  pub fits : Fits term value
  pub more : List (Value term)
  pub fit : AllByRecursion (Fits term) more
  pub parts : octets ≡ item (tag_of term) (contents term value) ++ flat_map (der term) more

first_at : (term : Term) (octets : List ℕ) → 0 < length octets → (values : List (Value term)) → AllByRecursion (Fits term) values → octets ≡ flat_map (der term) values → FirstOf term octets
first_at term octets some [] f e = absurd (omega (arith, some, ap length e))
first_at term octets some (value ∷ more) f e = record { value = value; fits = f.0; more = more; fit = f.1; parts = e ∙ ap (λ l. l ++ flat_map (der term) more) (der_is term value) }

first_of : (term : Term) (octets : List ℕ) → 0 < length octets → AreItems term octets → FirstOf term octets
first_of term octets some a = first_at term octets some a.values a.fit a.form

pub no_items : (term : Term) (tag : ℕ) (octets : List ℕ) → tag ≡ tag_of term → 0 < length octets → HasNoItem tag octets → AreItems term octets → ⊥
no_items term tag octets t some none a =
    let f = first_of term octets some a in
    none (contents term f.value) (flat_map (der term) f.more) (f.parts ∙ ap (λ n. item n (contents term f.value) ++ flat_map (der term) f.more) (sym t))

same_first : (term : Term) (tag : ℕ) (octets own rest : List ℕ) → tag ≡ tag_of term → octets ≡ item tag own ++ rest → (f : FirstOf term octets) → (own ≡ contents term f.value) × (rest ≡ flat_map (der term) f.more)
same_first term tag octets own rest t e f =
    let p = same_from_item tag (tag_of term) own (contents term f.value) rest (flat_map (der term) f.more) (sym e ∙ f.parts) in
    (p.1, p.2)

some_item : (tag : ℕ) (octets own rest : List ℕ) → octets ≡ item tag own ++ rest → length rest < length octets
some_item tag octets own rest e = omega (arith, ap length e, length-append (item tag own) rest, length-item tag own)

pub no_first : (term : Term) (tag : ℕ) (octets own rest : List ℕ) → tag ≡ tag_of term → octets ≡ item tag own ++ rest → AreNoContents term own → AreItems term octets → ⊥
no_first term tag octets own rest t e none a =
    let f = first_of term octets (omega (arith, some_item tag octets own rest e)) a in
    let p = same_first term tag octets own rest t e f in
    none f.value (record { fits = f.fits; form = ap (item (tag_of term)) p.0 ∙ sym (der_is term f.value) })

-- ---- as far as they are passed
pub record Passed (term : Term) (octets rest : List ℕ) : Type 0 where
  pub to : AreItems term rest → AreItems term octets
  pub from : AreItems term octets → AreItems term rest
  pub within : length rest ≤ length octets

pub none_passed : (term : Term) (octets : List ℕ) → Passed term octets octets
none_passed term octets = record { to = λ a. a; from = λ a. a; within = omega arith }

pub passed_smaller : (tag : ℕ) (octets own rest : List ℕ) → octets ≡ item tag own ++ rest → length rest < length octets
passed_smaller = some_item

pub passed_more : (term : Term) (tag : ℕ) (octets rest own left : List ℕ) (value : Value term) → tag ≡ tag_of term → Passed term octets rest → rest ≡ item tag own ++ left → AreContents term own value → Passed term octets left
passed_more term tag octets rest own left value t p e c = record {
  to = λ a. p.to (record { values = value ∷ a.values; fit = (c.fits, a.fit); form = e ∙ ap₂ (λ l m. l ++ m) (ap (λ n. item n own) t ∙ c.form) a.form });
  from = λ a.
      let f = first_of term rest (omega (arith, some_item tag rest own left e)) (p.from a) in
      record { values = f.more; fit = f.fit; form = (same_first term tag rest own left t e f).1 };
  within = omega (arith, p.within, some_item tag rest own left e);
}

pub all_passed : (term : Term) (octets rest : List ℕ) → Passed term octets rest → rest ≡ [] → AreItems term octets
all_passed term octets rest p e = p.to (record { values = []; fit = tt; form = e })

-- ---- a SEQUENCE OF
pub many_none : (term : Term) (octets : List ℕ) → (AreItems term octets → ⊥) → AreNoContents (SequenceOf true term) octets
many_none term octets none value a = none (record { values = value; fit = a.fits.1; form = same_contents 0x30 octets (flat_map (der term) value) a.form })

items_are : (term : Term) (octets : List ℕ) → is_unambiguous term ≡ true → length octets < 2 ^ 31 → (a : AreItems term octets) → items_of term octets ≡ a.values
items_are term octets u small a = ap (items_of term) a.form ∙ contents-read (SequenceOf true term) u a.values (omega (arith, small, ap length a.form))

pub many_some : (term : Term) (octets : List ℕ) → is_unambiguous term ≡ true → length octets < 2 ^ 31 → AreItems term octets → AreViewed term octets
many_some term octets u small a = record {
  items = subst (AreContents (SequenceOf true term) octets) (sym (items_are term octets u small a)) (record { fits = (refl, a.fit); form = ap (item 0x30) a.form });
  short = small;
}

-- ---- items that were viewed
pub are_items : (term : Term) (octets : List ℕ) → AreViewed term octets → AreItems term octets
are_items term octets v = record { values = items_of term octets; fit = v.items.fits.1; form = same_contents 0x30 octets (flat_map (der term) (items_of term octets)) v.items.form }

pub no_more : (term : Term) (octets : List ℕ) → length octets ≡ 0 → items_of term octets ≡ []
no_more term [] e = refl
no_more term (octet ∷ octets) e = absurd (omega (arith, e))

pub is_first : (term : Term) (tag : ℕ) (octets own rest : List ℕ) (value : Value term) → is_unambiguous term ≡ true → tag ≡ tag_of term → AreViewed term octets → octets ≡ item tag own ++ rest → AreContents term own value → IsFirstItem term octets value rest
is_first term tag octets own rest value u t v e c =
    let small = v.short in
    let shorter = some_item tag octets own rest e in
    let f = first_of term octets (omega (arith, shorter)) (are_items term octets v) in
    let left : AreItems term rest = record { values = f.more; fit = f.fit; form = (same_first term tag octets own rest t e f).1 } in
    let all : AreItems term octets = record { values = value ∷ f.more; fit = (c.fits, f.fit); form = e ∙ ap₂ (λ l m. l ++ m) (ap (λ n. item n own) t ∙ c.form) left.form } in
    record {
      items = items_are term octets u small all ∙ ap (λ l. value ∷ l) (sym (items_are term rest u (omega (arith, small, shorter)) left));
      viewed = many_some term rest u (omega (arith, small, shorter)) left;
      shorter = shorter;
    }

-- ---- the first field of the first of some items
first_fields : (term : Term) (fields : Fields) (octets own rest : List ℕ) → AreViewed (Sequence (Required term fields)) octets → octets ≡ item 0x30 own ++ rest → (f : FirstOf (Sequence (Required term fields)) octets) × (own ≡ der term f.value.0 ++ der_of_fields fields f.value.1)
first_fields term fields octets own rest v e =
    let f = first_of (Sequence (Required term fields)) octets (omega (arith, some_item 0x30 octets own rest e)) (are_items (Sequence (Required term fields)) octets v) in
    (f, (same_first (Sequence (Required term fields)) 0x30 octets own rest refl e f).0)

pub first_field_none : (term : Term) (fields : Fields) (octets own rest : List ℕ) → AreViewed (Sequence (Required term fields)) octets → octets ≡ item 0x30 own ++ rest → BeginsWithNoValue term own → ⊥
first_field_none term fields octets own rest v e none =
    let s = first_fields term fields octets own rest v e in
    none s.0.value.0 (der_of_fields fields s.0.value.1) (record { fits = s.0.fits.0; form = s.1 })

pub first_field_some : (term : Term) (fields : Fields) (octets own rest other : List ℕ) (first : Value term) → is_unambiguous (Sequence (Required term fields)) ≡ true → is_unambiguous term ≡ true → AreViewed (Sequence (Required term fields)) octets → octets ≡ item 0x30 own ++ rest → BeginsWithValue term own first other → (value : Values (Required term fields)) × IsFirstItem (Sequence (Required term fields)) octets value rest × (first ≡ value.0)
first_field_some term fields octets own rest other first u t v e b =
    let s = first_fields term fields octets own rest v e in
    let c : AreContents (Sequence (Required term fields)) own s.0.value = record { fits = s.0.fits; form = ap (item 0x30) s.1 } in
    (s.0.value, is_first (Sequence (Required term fields)) 0x30 octets own rest s.0.value u refl v e c, (same_from_der term t first s.0.value.0 other (der_of_fields fields s.0.value.1) (sym b.form ∙ s.1)).0)

some_items : (term : Term) (octet : ℕ) (octets : List ℕ) (values : List (Value term)) → octet ∷ octets ≡ flat_map (der term) values → false ≡ list_has EmptyList values
some_items term octet octets [] e = absurd (omega (arith, ap length e))
some_items term octet octets (value ∷ values) e = refl

pub empty_items : (term : Term) (octets : List ℕ) → AreViewed term octets → (length octets == 0) ≡ list_has EmptyList (items_of term octets)
empty_items term [] v = refl
empty_items term (octet ∷ octets) v = ne_eqb (length (octet ∷ octets)) 0 (omega arith) ∙ some_items term octet octets (items_of term (octet ∷ octets)) (same_contents 0x30 (octet ∷ octets) (flat_map (der term) (items_of term (octet ∷ octets))) v.items.form)
