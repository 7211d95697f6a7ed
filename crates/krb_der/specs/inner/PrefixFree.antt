-- No value's octets begin another's, and different values have different octets.
use Rattle.std.proofs.Common.{◌≡◌, ℕ, ◌<◌, ℤ, pos, List, [], ◌∷◌, ◌++◌, length, refl, sym, ◌∙◌, ap, ap₂, arith}
use Rattle.std.specs.List.{flat_map}
use Rattle.krb_der.specs.Octets.{item, integer_octets, integer_value}
use Rattle.krb_der.specs.inner.Numbers.{integer_value-integer_octets}
use Rattle.krb_der.specs.inner.Items.{same_from_cons, same_from_item}

pub item_begins : (tag : ℕ) (contents : List ℕ) → 0 < length (item tag contents)
item_begins tag contents = omega arith

pub same_octets : (tag : ℕ) (octets other rest more : List ℕ) → item tag octets ++ rest ≡ item tag other ++ more → (octets ≡ other) × (rest ≡ more)
same_octets tag octets other rest more e =
    let p : (tag ≡ tag) × (octets ≡ other) × (rest ≡ more) = same_from_item tag tag octets other rest more e in
    (p.1, p.2)

pub same_integer : (number other : ℤ) (rest more : List ℕ) → item 0x02 (integer_octets number) ++ rest ≡ item 0x02 (integer_octets other) ++ more → (number ≡ other) × (rest ≡ more)
same_integer number other rest more e =
    let p : (integer_octets number ≡ integer_octets other) × (rest ≡ more) = same_octets 0x02 (integer_octets number) (integer_octets other) rest more e in
    (sym (integer_value-integer_octets number) ∙ ap integer_value p.0 ∙ integer_value-integer_octets other, p.1)

same_pos : (number other : ℕ) → pos number ≡ pos other → number ≡ other
same_pos number other e = cc

pub same_natural : (number other : ℕ) (rest more : List ℕ) → item 0x02 (integer_octets (pos number)) ++ rest ≡ item 0x02 (integer_octets (pos other)) ++ more → (number ≡ other) × (rest ≡ more)
same_natural number other rest more e =
    let p : (pos number ≡ pos other) × (rest ≡ more) = same_integer (pos number) (pos other) rest more e in
    (same_pos number other p.0, p.1)

pub same_pair : {A B : Type 0} (v w : A × B) → v.0 ≡ w.0 → v.1 ≡ w.1 → v ≡ w
same_pair v w p q = λ i. (p i, q i)

pub same_bits : (bits other : ℕ × List ℕ) (rest more : List ℕ) → item 0x03 (bits.0 ∷ bits.1) ++ rest ≡ item 0x03 (other.0 ∷ other.1) ++ more → (bits ≡ other) × (rest ≡ more)
same_bits bits other rest more e =
    let p : (bits.0 ∷ bits.1 ≡ other.0 ∷ other.1) × (rest ≡ more) = same_octets 0x03 (bits.0 ∷ bits.1) (other.0 ∷ other.1) rest more e in
    let q : (bits.0 ≡ other.0) × (bits.1 ≡ other.1) = same_from_cons _ _ _ _ p.0 in
    (same_pair bits other q.0 q.1, p.1)

-- ---- values one after another
not_nil : (octets more : List ℕ) → 0 < length octets → octets ++ more ≡ [] → ⊥
not_nil [] more h e = absurd (omega arith)
not_nil (octet ∷ octets) more h e = absurd cc

module _ {A : Type 0} (f : A → List ℕ) (begins : (value : A) → 0 < length (f value)) (prefix_free : (value other : A) (rest more : List ℕ) → f value ++ rest ≡ f other ++ more → (value ≡ other) × (rest ≡ more)) where
  pub same_from_flat_map : (values others : List A) → flat_map f values ≡ flat_map f others → values ≡ others
  same_from_flat_map [] [] e = refl
  same_from_flat_map [] (other ∷ others) e = absurd (not_nil (f other) (flat_map f others) (begins other) (sym e))
  same_from_flat_map (value ∷ values) [] e = absurd (not_nil (f value) (flat_map f values) (begins value) e)
  same_from_flat_map (value ∷ values) (other ∷ others) e =
      let p : (value ≡ other) × (flat_map f values ≡ flat_map f others) = prefix_free value other (flat_map f values) (flat_map f others) e in
      let q : values ≡ others = same_from_flat_map values others p.1 in
      ap₂ ◌∷◌ p.0 q

  pub same_many : (values others : List A) (rest more : List ℕ) → item 0x30 (flat_map f values) ++ rest ≡ item 0x30 (flat_map f others) ++ more → (values ≡ others) × (rest ≡ more)
  same_many values others rest more e =
      let p : (flat_map f values ≡ flat_map f others) × (rest ≡ more) = same_octets 0x30 (flat_map f values) (flat_map f others) rest more e in
      (same_from_flat_map values others p.0, p.1)
