-- What is found in octets is the path of what is not encrypted in their value.
use Rattle.std.proofs.Common.{◌≡◌, ℕ, ℤ, pos, negsuc, zero, suc, ◌+◌, ◌-◌, ◌≤◌, true, false, ◌&&◌, ◌==◌, not, Bool, if◌then◌else◌, List, [], ◌∷◌, ◌++◌, length, take, drop, get_or, append_assoc, append-nil, Option, Some, None, Result, Ok, Err, codes, decimal, refl, sym, ◌∙◌, ap, subst, arith}
use Rattle.std.specs.Prelude.{IfOk}
use Rattle.std.proofs.lemmas.Bool.{true≢false, not-true, eqb-true, ne_eqb}
use Rattle.std.specs.Borrow.{Bor}
use Rattle.std.specs.List.{AllByRecursion, flat_map}
use Rattle.krb_der.specs.Octets.{item, integer_octets, integer_value}
use Rattle.krb_der.specs.inner.Numbers.{integer_value-integer_octets}
use Rattle.krb_msg.specs.Shape.{are_unambiguous, may_begin}
use Rattle.krb_msg.specs.Nodes.{nodes, term_at}
use Rattle.krb_msg.specs.Table.{IsFormOf, fields_from, with_slot}
use Rattle.krb_msg.specs.declared.grammar.Form.TheVariants as form
use Rattle.krb_msg.specs.declared.grammar.Slot.{Slot}
use Rattle.krb_msg.specs.declared.grammar.Slot.TheVariants as slot
use Rattle.krb_msg.specs.Term.{Term, Integer, Text, Octets, Time, Bits, Sequence, SequenceOf, Tagged, Application, Required, Optional, Value, Values, Fits, AllFit, tag_of, der, der_of_fields}
use Rattle.krb_msg.specs.Viewed.{AreFields, HasNoItem}
use Rattle.krb_judge.specs.FieldNames.{Named, field_at, names_of_kind}
use Rattle.krb_judge.specs.Paths.{field_path, element_path}
use Rattle.krb_judge.specs.declared.locating.names.Names.{Names}
use Rattle.krb_json.specs.Unencrypted.{unencrypted, unencrypted_fields, unencrypted_items, unencrypted_in, is_zero_number, begin_with_zero, is_encrypted_data, first_of}
use Rattle.krb_json.specs.inner.Writing.{slot_node}
use Rattle.krb_json.specs.inner.Searching.{after_path, Finds, FindsInFields, FindsInItems, FindsInMessage, IsZero, BeginWithZero, AreUnencrypted, is_single_zero}
use Rattle.krb_msg.specs.inner.Values.{may_begin_from_der}
use Rattle.krb_msg.specs.Views.{kind_of, kind_name, kind_term, message_value, message_der}
use Rattle.krb_msg.specs.declared.message.Kind.{Kind}
use Rattle.krb_json.proofs.Walks.{own-contents, own-item, none-begins, inside, slots-split, apart-of}

-- ---- the number 0
single-zero : (contents : List ℕ) → is_single_zero contents ≡ true → contents ≡ 0 ∷ []
single-zero [] e = cc e
single-zero (x ∷ []) e = ap (λ y. y ∷ []) (eqb-true x 0 e)
single-zero (x ∷ y ∷ more) e =
    let long : (length (x ∷ y ∷ more) == 1) ≡ false = ne_eqb (length (x ∷ y ∷ more)) 1 (λ same. omega (arith, same)) in
    cc (sym (ap (λ b. if b then x == 0 else false) long) ∙ e)

integer-zero : (contents : List ℕ) (value : ℤ) → contents ≡ integer_octets value → contents ≡ 0 ∷ [] → is_zero_number value ≡ true
integer-zero contents value is single = ap is_zero_number (sym (integer_value-integer_octets value) ∙ ap integer_value (sym is ∙ single))

integer-other : (contents : List ℕ) (value : ℤ) → contents ≡ integer_octets value → (contents ≡ 0 ∷ [] → ⊥) → is_zero_number value ≡ false
integer-other contents (pos zero) is other = absurd (other is)
integer-other contents (pos (suc n)) is other = ne_eqb (suc n) 0 (λ same. omega (arith, same))
integer-other contents (negsuc n) is other = refl

module _ (octets : List ℕ) (nought : Bool) where
  pub zero-integer : (low high : ℤ) (widest : ℕ) (term : Term) → IsFormOf nodes (form.Integer low high widest) term → nought ≡ is_single_zero octets → IsZero term octets nought
  zero-integer low high widest (Integer from to) f tested value a = by (is_single_zero octets) refl ∙ sym tested
    where
      by : (b : Bool) → is_single_zero octets ≡ b → is_zero_number value ≡ is_single_zero octets
      by true e = integer-zero octets value (own-contents (Integer from to) octets value a) (single-zero octets e) ∙ sym e
      by false e = integer-other octets value (own-contents (Integer from to) octets value a) (λ is. true≢false (sym (ap is_single_zero is) ∙ e)) ∙ sym e
  zero-integer low high widest term f tested value a = absurd f

  pub zero-no_item : (node : ℕ) (term : Term) → IsFormOf nodes (form.Item node) term → HasNoItem (tag_of (term_at node)) octets → IsZero term octets nought
  zero-no_item node (Tagged index inner) f none value a =
      absurd (none-begins inner octets [] value (subst (λ t. HasNoItem (tag_of t) octets) f.1 none) (own-contents (Tagged index inner) octets value a ∙ sym (append-nil (der inner value))))
  zero-no_item node (Application tag inner) f none value a =
      absurd (none-begins inner octets [] value (subst (λ t. HasNoItem (tag_of t) octets) f.1 none) (own-contents (Application tag inner) octets value a ∙ sym (append-nil (der inner value))))
  zero-no_item node term f none value a = absurd f

  pub zero-tagged : (names : Names) (node : ℕ) (term : Term) (own rest : List ℕ) → IsFormOf nodes (form.Item node) term → octets ≡ item (tag_of (term_at node)) own ++ rest → IsZero (term_at node) own nought → IsZero term octets nought
  zero-tagged names node (Tagged index inner) own rest f e put value a =
      subst (λ t. IsZero t own nought) f.1 put value (inside names octets [] [] inner own rest value (e ∙ ap (λ t. item (tag_of t) own ++ rest) f.1) a.fits (own-contents (Tagged index inner) octets value a))
  zero-tagged names node (Application tag inner) own rest f e put value a =
      subst (λ t. IsZero t own nought) f.1 put value (inside names octets [] [] inner own rest value (e ∙ ap (λ t. item (tag_of t) own ++ rest) f.1) a.fits (own-contents (Application tag inner) octets value a))
  zero-tagged names node term own rest f e put value a = absurd f

  -- the first of slots, which has to be there
  pub zero-first : (slots : List Slot) (node : ℕ) (own rest : List ℕ) → 1 ≤ length slots → get_or slots 0 (slot.Required 0) ≡ slot.Required node → octets ≡ item (tag_of (term_at node)) own ++ rest → IsZero (term_at node) own nought → BeginWithZero (fields_from nodes slots) octets nought
  zero-first slots node own rest some is e put = subst (λ s. BeginWithZero (fields_from nodes s) octets nought) (sym (slots-split slots (slot.Required 0) some ∙ ap (λ f. f ∷ take (length slots - 1) (drop 1 slots)) is)) of
    where
      of : BeginWithZero (fields_from nodes (slot.Required node ∷ take (length slots - 1) (drop 1 slots))) octets nought
      of values a = put values.0 (own-item (term_at node) octets own rest _ values.0 e a.fit.0 a.form).0

  pub zero-none_first : (slots : List Slot) (node : ℕ) → 1 ≤ length slots → get_or slots 0 (slot.Required 0) ≡ slot.Required node → HasNoItem (tag_of (term_at node)) octets → BeginWithZero (fields_from nodes slots) octets nought
  zero-none_first slots node some is none = subst (λ s. BeginWithZero (fields_from nodes s) octets nought) (sym (slots-split slots (slot.Required 0) some ∙ ap (λ f. f ∷ take (length slots - 1) (drop 1 slots)) is)) of
    where
      of : BeginWithZero (fields_from nodes (slot.Required node ∷ take (length slots - 1) (drop 1 slots))) octets nought
      of values a = absurd (none-begins (term_at node) octets _ values.0 none a.form)

-- the first of slots, which may be left out
pub optional-first : (slots : List Slot) (octets : List ℕ) (node : ℕ) → 1 ≤ length slots → get_or slots 0 (slot.Required 0) ≡ slot.Optional node → BeginWithZero (fields_from nodes slots) octets false
optional-first slots octets node some is = subst (λ s. BeginWithZero (fields_from nodes s) octets false) (sym (slots-split slots (slot.Required 0) some ∙ ap (λ f. f ∷ take (length slots - 1) (drop 1 slots)) is)) of
  where
    of : BeginWithZero (fields_from nodes (slot.Optional node ∷ take (length slots - 1) (drop 1 slots))) octets false
    of values a = refl

pub if-ok : {T E : Type 0} {P Q : T → Type 0} (r : Result T E) → ((x : T) → P x → Q x) → IfOk r P → IfOk r Q
if-ok (Ok x) f p = f x p
if-ok (Err e) f p = tt

-- ---- paths
named-path : (path name more : List ℕ) → field_path path name ++ more ≡ path ++ (codes "." ++ name ++ more)
named-path path name more =
    append_assoc (path ++ codes ".") name more ∙ append_assoc path (codes ".") (name ++ more) ∙ ap (λ l. path ++ l) (sym (append_assoc (codes ".") name more))

indexed-path : (path : List ℕ) (index : ℕ) (more : List ℕ) → element_path path index ++ more ≡ path ++ (codes "[" ++ decimal index ++ codes "]" ++ more)
indexed-path path index more =
    append_assoc (path ++ codes "[" ++ decimal index) (codes "]") more
    ∙ append_assoc (path ++ codes "[") (decimal index) (codes "]" ++ more)
    ∙ append_assoc path (codes "[") (decimal index ++ (codes "]" ++ more))
    ∙ ap (λ l. path ++ l) (sym (append_assoc (codes "[") (decimal index) (codes "]" ++ more)) ∙ sym (append_assoc (codes "[" ++ decimal index) (codes "]") more))

-- ---- fields
module _ (node : ℕ) (slots : List Slot) (names : Names) (index : ℕ) (octets own rest : List ℕ) (parts : octets ≡ item (tag_of (term_at node)) own ++ rest) where
  -- one in this field
  there : (m : List ℕ) → Finds (term_at node) (field_at names index).inside own (Some m) → (value : Value (term_at node)) (values : Values (fields_from nodes slots)) → Fits (term_at node) value → octets ≡ der (term_at node) value ++ der_of_fields (fields_from nodes slots) values → (path : List ℕ) → (others : Option (List ℕ)) → first_of (unencrypted (term_at node) (field_at names index).inside (field_path path (field_at names index).name) value) others ≡ Some (path ++ (codes "." ++ (field_at names index).name ++ m))
  there m found value values fits is path others =
      let p = own-item (term_at node) octets own rest (der_of_fields (fields_from nodes slots) values) value parts fits is in
      ap (λ o. first_of o others) (found value p.0 (field_path path (field_at names index).name)) ∙ ap Some (named-path path (field_at names index).name m)

  -- none in it
  others-there : (more : Option (List ℕ)) → Finds (term_at node) (field_at names index).inside own None → FindsInFields (fields_from nodes slots) names (index + 1) rest more → (value : Value (term_at node)) (values : Values (fields_from nodes slots)) → Fits (term_at node) value → AllFit (fields_from nodes slots) values → octets ≡ der (term_at node) value ++ der_of_fields (fields_from nodes slots) values → (path : List ℕ) → first_of (unencrypted (term_at node) (field_at names index).inside (field_path path (field_at names index).name) value) (unencrypted_fields (fields_from nodes slots) names path (index + 1) values) ≡ after_path path more
  others-there more none found value values fits fit is path =
      let p = own-item (term_at node) octets own rest (der_of_fields (fields_from nodes slots) values) value parts fits is in
      ap (λ o. first_of o (unencrypted_fields (fields_from nodes slots) names path (index + 1) values)) (none value p.0 (field_path path (field_at names index).name))
      ∙ found values record { fit = fit; form = p.1 } path

  absent-not : (values : Values (fields_from nodes slots)) → not (may_begin (tag_of (term_at node)) (fields_from nodes slots)) ≡ true → octets ≡ der_of_fields (fields_from nodes slots) values → ⊥
  absent-not values apart is = true≢false (sym (may_begin_from_der (fields_from nodes slots) values (tag_of (term_at node)) _ (sym is ∙ parts)) ∙ not-true (may_begin (tag_of (term_at node)) (fields_from nodes slots)) apart)

  pub one-required : (m : List ℕ) → Finds (term_at node) (field_at names index).inside own (Some m) → FindsInFields (Required (term_at node) (fields_from nodes slots)) names index octets (Some (codes "." ++ (field_at names index).name ++ m))
  one-required m found values a path = there m found values.0 values.1 a.fit.0 a.form path (unencrypted_fields (fields_from nodes slots) names path (index + 1) values.1)

  pub one-optional : not (may_begin (tag_of (term_at node)) (fields_from nodes slots)) ≡ true → (m : List ℕ) → Finds (term_at node) (field_at names index).inside own (Some m) → FindsInFields (Optional (term_at node) (fields_from nodes slots)) names index octets (Some (codes "." ++ (field_at names index).name ++ m))
  one-optional apart m found values a path = by values.0 values.1 a
    where
      by : (value : Option (Value (term_at node))) (values : Values (fields_from nodes slots)) → AreFields (Optional (term_at node) (fields_from nodes slots)) octets (value, values) → unencrypted_fields (Optional (term_at node) (fields_from nodes slots)) names path index (value, values) ≡ Some (path ++ (codes "." ++ (field_at names index).name ++ m))
      by None values a = absurd (absent-not values apart a.form)
      by (Some value) values a = there m found value values a.fit.0 a.form path (unencrypted_fields (fields_from nodes slots) names path (index + 1) values)

  pub no-required : (more : Option (List ℕ)) → Finds (term_at node) (field_at names index).inside own None → FindsInFields (fields_from nodes slots) names (index + 1) rest more → FindsInFields (Required (term_at node) (fields_from nodes slots)) names index octets more
  no-required more none found values a path = others-there more none found values.0 values.1 a.fit.0 a.fit.1 a.form path

  pub no-optional : not (may_begin (tag_of (term_at node)) (fields_from nodes slots)) ≡ true → (more : Option (List ℕ)) → Finds (term_at node) (field_at names index).inside own None → FindsInFields (fields_from nodes slots) names (index + 1) rest more → FindsInFields (Optional (term_at node) (fields_from nodes slots)) names index octets more
  no-optional apart more none found values a path = by values.0 values.1 a
    where
      by : (value : Option (Value (term_at node))) (values : Values (fields_from nodes slots)) → AreFields (Optional (term_at node) (fields_from nodes slots)) octets (value, values) → unencrypted_fields (Optional (term_at node) (fields_from nodes slots)) names path index (value, values) ≡ after_path path more
      by None values a = absurd (absent-not values apart a.form)
      by (Some value) values a = others-there more none found value values a.fit.0 a.fit.1 a.form path

pub found-in-slot : (field : Slot) (slots : List Slot) (names : Names) (index : ℕ) (octets own rest m : List ℕ) → octets ≡ item (tag_of (term_at (slot_node field))) own ++ rest → are_unambiguous (with_slot nodes field (fields_from nodes slots)) ≡ true → Finds (term_at (slot_node field)) (field_at names index).inside own (Some m) → FindsInFields (with_slot nodes field (fields_from nodes slots)) names index octets (Some (codes "." ++ (field_at names index).name ++ m))
found-in-slot (slot.Required node) slots names index octets own rest m parts u found = one-required node slots names index octets own rest parts m found
found-in-slot (slot.Optional node) slots names index octets own rest m parts u found = one-optional node slots names index octets own rest parts (apart-of node (fields_from nodes slots) u) m found

pub none-in-slot : (field : Slot) (slots : List Slot) (names : Names) (index : ℕ) (octets own rest : List ℕ) (more : Option (List ℕ)) → octets ≡ item (tag_of (term_at (slot_node field))) own ++ rest → are_unambiguous (with_slot nodes field (fields_from nodes slots)) ≡ true → Finds (term_at (slot_node field)) (field_at names index).inside own None → FindsInFields (fields_from nodes slots) names (index + 1) rest more → FindsInFields (with_slot nodes field (fields_from nodes slots)) names index octets more
none-in-slot (slot.Required node) slots names index octets own rest more parts u none found = no-required node slots names index octets own rest parts more none found
none-in-slot (slot.Optional node) slots names index octets own rest more parts u none found = no-optional node slots names index octets own rest parts (apart-of node (fields_from nodes slots) u) more none found

pub no-slot : (field : Slot) (slots : List Slot) (names : Names) (index : ℕ) (octets : List ℕ) (more : Option (List ℕ)) → HasNoItem (tag_of (term_at (slot_node field))) octets → FindsInFields (fields_from nodes slots) names (index + 1) octets more → FindsInFields (with_slot nodes field (fields_from nodes slots)) names index octets more
no-slot (slot.Required node) slots names index octets more none found values a path = absurd (none-begins (term_at node) octets (der_of_fields (fields_from nodes slots) values.1) values.0 none a.form)
no-slot (slot.Optional node) slots names index octets more none found values a path = by values.0 values.1 a
  where
    by : (value : Option (Value (term_at node))) (values : Values (fields_from nodes slots)) → AreFields (Optional (term_at node) (fields_from nodes slots)) octets (value, values) → unencrypted_fields (Optional (term_at node) (fields_from nodes slots)) names path index (value, values) ≡ after_path path more
    by None values a = found values record { fit = a.fit.1; form = a.form } path
    by (Some value) values a = absurd (none-begins (term_at node) octets (der_of_fields (fields_from nodes slots) values) value none a.form)

-- the first of slots
module _ (slots : List Slot) (names : Names) (index : ℕ) (octets : List ℕ) (node tag : ℕ) (some : 1 ≤ length slots) (slotted : node ≡ slot_node (get_or slots 0 (slot.Required 0))) (tagged : tag ≡ tag_of (term_at node)) where
  split : slots ≡ get_or slots 0 (slot.Required 0) ∷ take (length slots - 1) (drop 1 slots)
  split = slots-split slots (slot.Required 0) some

  pub found-first : (own rest m : List ℕ) (named : Named) → named ≡ field_at names index → are_unambiguous (fields_from nodes slots) ≡ true → octets ≡ item tag own ++ rest → Finds (term_at node) named.inside own (Some m) → FindsInFields (fields_from nodes slots) names index octets (Some (codes "." ++ named.name ++ m))
  found-first own rest m named same u parts found =
      subst (λ s. FindsInFields (fields_from nodes s) names index octets (Some (codes "." ++ named.name ++ m))) (sym split)
      (subst (λ n. FindsInFields (fields_from nodes (get_or slots 0 (slot.Required 0) ∷ take (length slots - 1) (drop 1 slots))) names index octets (Some (codes "." ++ n.name ++ m))) (sym same)
      (found-in-slot (get_or slots 0 (slot.Required 0)) (take (length slots - 1) (drop 1 slots)) names index octets own rest m
      (parts ∙ ap (λ n. item n own ++ rest) (tagged ∙ ap (λ n. tag_of (term_at n)) slotted)) (subst (λ s. are_unambiguous (fields_from nodes s) ≡ true) split u)
      (subst (λ f. Finds (term_at (slot_node (get_or slots 0 (slot.Required 0)))) f.inside own (Some m)) same (subst (λ n. Finds (term_at n) named.inside own (Some m)) slotted found))))

  pub none-first : (own rest : List ℕ) (more : Option (List ℕ)) (named : Named) → named ≡ field_at names index → are_unambiguous (fields_from nodes slots) ≡ true → octets ≡ item tag own ++ rest → Finds (term_at node) named.inside own None → FindsInFields (fields_from nodes (take (length slots - 1) (drop 1 slots))) names (index + 1) rest more → FindsInFields (fields_from nodes slots) names index octets more
  none-first own rest more named same u parts none found =
      subst (λ s. FindsInFields (fields_from nodes s) names index octets more) (sym split)
      (none-in-slot (get_or slots 0 (slot.Required 0)) (take (length slots - 1) (drop 1 slots)) names index octets own rest more
      (parts ∙ ap (λ n. item n own ++ rest) (tagged ∙ ap (λ n. tag_of (term_at n)) slotted)) (subst (λ s. are_unambiguous (fields_from nodes s) ≡ true) split u)
      (subst (λ f. Finds (term_at (slot_node (get_or slots 0 (slot.Required 0)))) f.inside own None) same (subst (λ n. Finds (term_at n) named.inside own None) slotted none)) found)

  pub no-first : (more : Option (List ℕ)) → HasNoItem tag octets → FindsInFields (fields_from nodes (take (length slots - 1) (drop 1 slots))) names (index + 1) octets more → FindsInFields (fields_from nodes slots) names index octets more
  no-first more none found =
      subst (λ s. FindsInFields (fields_from nodes s) names index octets more) (sym split)
      (no-slot (get_or slots 0 (slot.Required 0)) (take (length slots - 1) (drop 1 slots)) names index octets more (subst (λ n. HasNoItem n octets) (tagged ∙ ap (λ n. tag_of (term_at n)) slotted) none) found)

-- ---- contents
module _ (names : Names) (octets : List ℕ) where
  pub finds-nothing-integer : (low high : ℤ) (widest : ℕ) (term : Term) → IsFormOf nodes (form.Integer low high widest) term → Finds term names octets None
  finds-nothing-integer low high widest (Integer from to) f value a path = refl
  finds-nothing-integer low high widest term f value a path = absurd f

  pub finds-nothing-text : (most : ℕ) (term : Term) → IsFormOf nodes (form.Text most) term → Finds term names octets None
  finds-nothing-text most (Text greatest) f value a path = refl
  finds-nothing-text most term f value a path = absurd f

  pub finds-nothing-octets : (term : Term) → IsFormOf nodes form.Octets term → Finds term names octets None
  finds-nothing-octets Octets f value a path = refl
  finds-nothing-octets term f value a path = absurd f

  pub finds-nothing-time : (term : Term) → IsFormOf nodes form.Time term → Finds term names octets None
  finds-nothing-time Time f value a path = refl
  finds-nothing-time term f value a path = absurd f

  pub finds-nothing-bits : (fewest : ℕ) (term : Term) → IsFormOf nodes (form.Bits fewest) term → Finds term names octets None
  finds-nothing-bits fewest (Bits least) f value a path = refl
  finds-nothing-bits fewest term f value a path = absurd f

  pub finds-tagged : (node : ℕ) (term : Term) (own rest : List ℕ) (more : Option (List ℕ)) → IsFormOf nodes (form.Item node) term → octets ≡ item (tag_of (term_at node)) own ++ rest → Finds (term_at node) names own more → Finds term names octets more
  finds-tagged node (Tagged index inner) own rest more f e found value a =
      subst (λ t. Finds t names own more) f.1 found value (inside names octets [] [] inner own rest value (e ∙ ap (λ t. item (tag_of t) own ++ rest) f.1) a.fits (own-contents (Tagged index inner) octets value a))
  finds-tagged node (Application tag inner) own rest more f e found value a =
      subst (λ t. Finds t names own more) f.1 found value (inside names octets [] [] inner own rest value (e ∙ ap (λ t. item (tag_of t) own ++ rest) f.1) a.fits (own-contents (Application tag inner) octets value a))
  finds-tagged node term own rest more f e found value a = absurd f

  pub finds-no_item : (node : ℕ) (term : Term) (more : Option (List ℕ)) → IsFormOf nodes (form.Item node) term → HasNoItem (tag_of (term_at node)) octets → Finds term names octets more
  finds-no_item node (Tagged index inner) more f none value a =
      absurd (none-begins inner octets [] value (subst (λ t. HasNoItem (tag_of t) octets) f.1 none) (own-contents (Tagged index inner) octets value a ∙ sym (append-nil (der inner value))))
  finds-no_item node (Application tag inner) more f none value a =
      absurd (none-begins inner octets [] value (subst (λ t. HasNoItem (tag_of t) octets) f.1 none) (own-contents (Application tag inner) octets value a ∙ sym (append-nil (der inner value))))
  finds-no_item node term more f none value a = absurd f

  pub finds-list : (node : ℕ) (none : Bool) (term : Term) (more : Option (List ℕ)) → IsFormOf nodes (form.Items node none) term → FindsInItems (term_at node) names octets more → Finds term names octets more
  finds-list node none (SequenceOf empty term) more f found value a = subst (λ t. FindsInItems t names octets more) f.2 found value a.fits.1 (own-contents (SequenceOf empty term) octets value a)
  finds-list node none term more f found value a = absurd f

  -- an EncryptedData that begins with the number 0
  pub finds-here : (slots : Bor (List Slot)) (term : Term) (both : Bool) → IsFormOf nodes (form.Fields slots) term → AreUnencrypted (fields_from nodes slots.now) names octets both → both ≡ true → Finds term names octets (Some [])
  finds-here slots (Sequence fields) both f are is values a path =
      let z : (is_encrypted_data names && begin_with_zero fields values) ≡ both = subst (λ fs. AreUnencrypted fs names octets both) f.1 are values record { fit = a.fits; form = own-contents (Sequence fields) octets values a } in
      ap (λ b. if b then Some path else unencrypted_fields fields names path 0 values) (z ∙ is) ∙ ap Some (sym (append-nil path))
  finds-here slots term both f are is values a path = absurd f

  -- and any other SEQUENCE
  pub finds-inside : (slots : Bor (List Slot)) (term : Term) (both : Bool) (more : Option (List ℕ)) → IsFormOf nodes (form.Fields slots) term → AreUnencrypted (fields_from nodes slots.now) names octets both → both ≡ false → FindsInFields (fields_from nodes slots.now) names 0 octets more → Finds term names octets more
  finds-inside slots (Sequence fields) both more f are not_both found values a path =
      let fields_of : AreFields fields octets values = record { fit = a.fits; form = own-contents (Sequence fields) octets values a } in
      let z : (is_encrypted_data names && begin_with_zero fields values) ≡ both = subst (λ fs. AreUnencrypted fs names octets both) f.1 are values fields_of in
      ap (λ b. if b then Some path else unencrypted_fields fields names path 0 values) (z ∙ not_both)
      ∙ subst (λ fs. FindsInFields fs names 0 octets more) f.1 found values fields_of path
  finds-inside slots term both more f are not_both found values a path = absurd f

-- ---- items
-- those that are left have what there is
pub record IsSearched (term : Term) (names : Names) (values : List (Value term)) (rest : List ℕ) (index : ℕ) : Type 0 where
  pub left : List (Value term)
  pub fit : AllByRecursion (Fits term) left
  pub form : rest ≡ flat_map (der term) left
  pub same : (path : List ℕ) → unencrypted_items (unencrypted term names) path 0 values ≡ unencrypted_items (unencrypted term names) path index left

abbrev pub AreSearched : Term → Names → (octets rest : List ℕ) → ℕ → Type 0
AreSearched term names octets rest index = (values : List (Value term)) → AllByRecursion (Fits term) values → octets ≡ flat_map (der term) values → IsSearched term names values rest index

module _ (term : Term) (names : Names) (octets rest own after : List ℕ) (index : ℕ) (parts : rest ≡ item (tag_of term) own ++ after) (searched : AreSearched term names octets rest index) where
  pub one-searched : Finds term names own None → AreSearched term names octets after (index + 1)
  one-searched none values fit form = by (searched values fit form)
    where
      of : (left : List (Value term)) → AllByRecursion (Fits term) left → rest ≡ flat_map (der term) left → ((path : List ℕ) → unencrypted_items (unencrypted term names) path 0 values ≡ unencrypted_items (unencrypted term names) path index left) → IsSearched term names values after (index + 1)
      of [] fit form same = absurd (omega (arith, ap length (sym parts ∙ form)))
      of (v ∷ left) fit form same =
          let p = own-item term rest own after (flat_map (der term) left) v parts fit.0 form in
          record {
            left = left;
            fit = fit.1;
            form = p.1;
            same = λ path. same path ∙ ap (λ o. first_of o (unencrypted_items (unencrypted term names) path (index + 1) left)) (none v p.0 (element_path path index));
          }

      by : IsSearched term names values rest index → IsSearched term names values after (index + 1)
      by s = of s.left s.fit s.form s.same

  pub one-found : (m : List ℕ) → Finds term names own (Some m) → FindsInItems term names octets (Some (codes "[" ++ decimal index ++ codes "]" ++ m))
  one-found m found values fit form path = by (searched values fit form)
    where
      of : (left : List (Value term)) → AllByRecursion (Fits term) left → rest ≡ flat_map (der term) left → unencrypted_items (unencrypted term names) path index left ≡ Some (path ++ (codes "[" ++ decimal index ++ codes "]" ++ m))
      of [] fit form = absurd (omega (arith, ap length (sym parts ∙ form)))
      of (v ∷ left) fit form =
          let p = own-item term rest own after (flat_map (der term) left) v parts fit.0 form in
          ap (λ o. first_of o (unencrypted_items (unencrypted term names) path (index + 1) left)) (found v p.0 (element_path path index)) ∙ ap Some (indexed-path path index m)

      by : IsSearched term names values rest index → unencrypted_items (unencrypted term names) path 0 values ≡ Some (path ++ (codes "[" ++ decimal index ++ codes "]" ++ m))
      by s = s.same path ∙ of s.left s.fit s.form

pub none-left : (term : Term) (names : Names) (octets rest : List ℕ) (index : ℕ) → HasNoItem (tag_of term) rest → AreSearched term names octets rest index → FindsInItems term names octets None
none-left term names octets rest index none searched values fit form path = by (searched values fit form)
  where
    of : (left : List (Value term)) → rest ≡ flat_map (der term) left → unencrypted_items (unencrypted term names) path index left ≡ None
    of [] form = refl
    of (v ∷ left) form = absurd (none-begins term rest (flat_map (der term) left) v none form)

    by : IsSearched term names values rest index → unencrypted_items (unencrypted term names) path 0 values ≡ None
    by s = s.same path ∙ of s.left s.form

-- ---- a message
pub finds-message : (kind : Kind) (node tag : ℕ) (octets own rest : List ℕ) (more : Option (List ℕ)) → term_at node ≡ kind_term kind → tag ≡ tag_of (term_at node) → octets ≡ item tag own ++ rest → Finds (term_at node) (names_of_kind kind) own more → FindsInMessage kind octets (after_path (kind_name kind) more)
finds-message kind node tag octets own rest more termed tagged parts found m i same form =
    of (termed ∙ ap kind_term (sym same)) (subst (λ k. Finds (term_at node) (names_of_kind k) own more) (sym same) found) ∙ ap (λ k. after_path (kind_name k) more) same
  where
    of : term_at node ≡ kind_term (kind_of m) → Finds (term_at node) (names_of_kind (kind_of m)) own more → unencrypted_in m ≡ after_path (kind_name (kind_of m)) more
    of termed found =
        let p = own-item (kind_term (kind_of m)) octets own rest [] (message_value m) (parts ∙ ap (λ n. item n own ++ rest) (tagged ∙ ap tag_of termed)) i.fits (sym form ∙ sym (append-nil (message_der m))) in
        subst (λ t. Finds t (names_of_kind (kind_of m)) own more) termed found (message_value m) p.0 (kind_name (kind_of m))

pub finds-no_message : (kind : Kind) (node tag : ℕ) (octets : List ℕ) (more : Option (List ℕ)) → term_at node ≡ kind_term kind → tag ≡ tag_of (term_at node) → HasNoItem tag octets → FindsInMessage kind octets more
finds-no_message kind node tag octets more termed tagged none m i same form =
    absurd (none-begins (kind_term (kind_of m)) octets [] (message_value m) (subst (λ n. HasNoItem n octets) (tagged ∙ ap tag_of (termed ∙ ap kind_term (sym same))) none) (sym form ∙ sym (append-nil (message_der m))))
