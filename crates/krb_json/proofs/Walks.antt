-- What is appended for octets is the JSON of their value.
use Rattle.std.proofs.Common.{◌≡◌, ℕ, ℤ, ◌+◌, ◌≤◌, max, true, not, Bool, List, [], ◌∷◌, ◌++◌, length, take, drop, get_or, ◌-◌, append_assoc, append-nil, map, Option, Some, None, Result, Ok, Err, sym, ◌∙◌, ap, subst, arith}
use Rattle.std.specs.Prelude.{OnOk}
use Rattle.std.specs.Borrow.{Bor}
use Rattle.std.proofs.lemmas.Bool.{and_parts, leb-true, true≢false, not-true}
use Rattle.std.specs.List.{AllByRecursion, flat_map}
use Rattle.std.specs.Fmt.{signed_decimal}
use Rattle.std.specs.Str.{IsAscii}
use Rattle.hex.specs.Hex.{encode_lower}
use Rattle.json.specs.Token.{Token}
use Rattle.json.specs.Token as token
use Rattle.json.specs.Json.{member}
use Rattle.json.specs.Tree.{json_tokens, items_tokens, members_tokens}
use Rattle.json.specs.Value.{items_of}
use Rattle.krb_der.specs.Octets.{item, integer_octets, integer_value}
use Rattle.krb_der.specs.inner.Items.{same_from_item}
use Rattle.krb_der.specs.inner.Numbers.{integer_value-integer_octets}
use Rattle.krb_der.proofs.Shapes.{ascii-from_time}
use Rattle.krb_msg.specs.Shape.{are_unambiguous, may_begin}
use Rattle.krb_msg.specs.Nodes.{nodes, term_at}
use Rattle.krb_msg.specs.Table.{IsFormOf, fields_from, with_slot}
use Rattle.krb_msg.specs.declared.grammar.Form.TheVariants as form
use Rattle.krb_msg.specs.declared.grammar.Slot.{Slot}
use Rattle.krb_msg.specs.declared.grammar.Slot.TheVariants as slot
use Rattle.krb_msg.specs.Term.{Term, Fields, Integer, Text, Octets, Time, Bits, Sequence, SequenceOf, Tagged, Application, Required, Optional, Value, Values, Fits, AllFit, tag_of, der, der_of_fields}
use Rattle.krb_msg.specs.Viewed.{AreContents, AreFields, HasNoItem}
use Rattle.krb_msg.specs.inner.Values.{contents, der_is, may_begin_from_der}
use Rattle.krb_msg.proofs.FieldViews.{same_contents}
use Rattle.krb_msg.proofs.Integers.{size_integer-between}
use Rattle.std.proofs.lemmas.List.{take_all}
use Rattle.krb_msg.specs.Views.{kind_of, kind_name, kind_term, message_value, message_der}
use Rattle.krb_msg.specs.declared.message.Kind.{Kind}
use Rattle.krb_judge.specs.FieldNames.{Named, field_at, names_of_kind}
use Rattle.krb_judge.specs.declared.locating.names.Names.{Names}
use Rattle.krb_json.specs.Spelling.{shown}
use Rattle.krb_json.specs.Objects.{json, members_of, message_json}
use Rattle.krb_json.specs.inner.Writing.{Puts, PutsItems, PutsFields, PutsBits, PutsMessage, slot_node}

-- ---- results
pub on-ok : {E P Q : Type 0} (r : Result (Unit {0}) E) → (P → Q) → OnOk r P → OnOk r Q
on-ok (Ok done) f p = f p
on-ok (Err error) f p = tt

pub on-ok-if : {E A P Q : Type 0} (r : Result (Unit {0}) E) → ((A → P) → Q) → (A → OnOk r P) → OnOk r Q
on-ok-if (Ok done) f p = f p
on-ok-if (Err error) f p = tt

-- ---- scalars
pub own-contents : (term : Term) (octets : List ℕ) (value : Value term) → AreContents term octets value → octets ≡ contents term value
own-contents term octets value a = same_contents (tag_of term) octets (contents term value) (a.form ∙ der_is term value)

module _ (names : Names) (octets : List ℕ) (old new : List Token) where
  pub puts-integer : (low high : ℤ) (widest : ℕ) (term : Term) → IsFormOf nodes (form.Integer low high widest) term → (length octets ≤ 5 → new ≡ old ++ token.number (signed_decimal (integer_value octets)) ∷ []) → Puts term names octets old new
  puts-integer low high widest (Integer from to) f put value a =
      let e : octets ≡ integer_octets value = own-contents (Integer from to) octets value a in
      let size = and_parts _ _ (size_integer-between from value to a.fits.0 a.fits.1) in
      let few : length octets ≤ 5 = omega (arith, ap length e, leb-true (length (integer_octets value)) (max (length (integer_octets from)) (length (integer_octets to))) size.1, f.2, f.3) in
      put few ∙ ap (λ z. old ++ token.number (signed_decimal z) ∷ []) (ap integer_value e ∙ integer_value-integer_octets value)
  puts-integer low high widest term f put value a = absurd f

  pub puts-text : (most : ℕ) (term : Term) → IsFormOf nodes (form.Text most) term → new ≡ old ++ token.string (shown octets) ∷ [] → Puts term names octets old new
  puts-text most (Text greatest) f put value a = put ∙ ap (λ l. old ++ token.string (shown l) ∷ []) (own-contents (Text greatest) octets value a)
  puts-text most term f put value a = absurd f

  pub puts-octets : (term : Term) → IsFormOf nodes form.Octets term → new ≡ old ++ token.string (encode_lower octets) ∷ [] → Puts term names octets old new
  puts-octets Octets f put value a = put ∙ ap (λ l. old ++ token.string (encode_lower l) ∷ []) (own-contents Octets octets value a)
  puts-octets term f put value a = absurd f

  pub puts-time : (term : Term) → IsFormOf nodes form.Time term → (IsAscii octets → new ≡ old ++ token.string octets ∷ []) → Puts term names octets old new
  puts-time Time f put value a =
      let e : octets ≡ value = own-contents Time octets value a in
      put (subst IsAscii (sym e) (ascii-from_time 14 value a.fits)) ∙ ap (λ l. old ++ token.string l ∷ []) e
  puts-time term f put value a = absurd f

  pub puts-bits : (fewest : ℕ) (term : Term) → IsFormOf nodes (form.Bits fewest) term → PutsBits octets old new → Puts term names octets old new
  puts-bits fewest (Bits least) f put value a = put value.0 value.1 (own-contents (Bits least) octets value a)
  puts-bits fewest term f put value a = absurd f

  -- ---- what has others in it
  -- a list, after the beginning of its array
  pub puts-list : (node : ℕ) (none : Bool) (term : Term) (begun : List Token) → IsFormOf nodes (form.Items node none) term → begun ≡ old ++ token.begin_array ∷ [] → PutsItems (term_at node) names octets begun new → Puts term names octets old new
  puts-list node none (SequenceOf empty term) begun f begins put value a =
      subst (λ t. PutsItems t names octets begun new) f.2 put value a.fits.1 (own-contents (SequenceOf empty term) octets value a)
      ∙ ap (λ l. l ++ items_tokens (items_of (map (json term names) value))) begins
      ∙ append_assoc old (token.begin_array ∷ []) (items_tokens (items_of (map (json term names) value)))
  puts-list node none term begun f begins put value a = absurd f

  -- the fields of a SEQUENCE, after the beginning of their object
  pub puts-sequence : (slots : Bor (List Slot)) (term : Term) (begun : List Token) → IsFormOf nodes (form.Fields slots) term → begun ≡ old ++ token.begin_object ∷ [] → PutsFields (fields_from nodes slots.now) names 0 octets begun new → Puts term names octets old new
  puts-sequence slots (Sequence fields) begun f begins put values a =
      subst (λ fs. PutsFields fs names 0 octets begun new) f.1 put values record { fit = a.fits; form = own-contents (Sequence fields) octets values a }
      ∙ ap (λ l. l ++ members_tokens (members_of fields names 0 values)) begins
      ∙ append_assoc old (token.begin_object ∷ []) (members_tokens (members_of fields names 0 values))
  puts-sequence slots term begun f begins put values a = absurd f

  -- the item in a tag
  pub inside : (inner : Term) (own rest : List ℕ) (value : Value inner) → octets ≡ item (tag_of inner) own ++ rest → Fits inner value → octets ≡ der inner value → AreContents inner own value
  inside inner own rest value e fits is =
      let p = same_from_item (tag_of inner) (tag_of inner) own (contents inner value) rest [] (sym e ∙ is ∙ der_is inner value ∙ sym (append-nil (item (tag_of inner) (contents inner value)))) in
      record { fits = fits; form = ap (item (tag_of inner)) p.1 ∙ sym (der_is inner value) }

  pub puts-tagged : (node : ℕ) (term : Term) (own rest : List ℕ) → IsFormOf nodes (form.Item node) term → octets ≡ item (tag_of (term_at node)) own ++ rest → Puts (term_at node) names own old new → Puts term names octets old new
  puts-tagged node (Tagged index inner) own rest f e put value a =
      subst (λ t. Puts t names own old new) f.1 put value
      (inside inner own rest value (e ∙ ap (λ t. item (tag_of t) own ++ rest) f.1) a.fits (own-contents (Tagged index inner) octets value a))
  puts-tagged node (Application number inner) own rest f e put value a =
      subst (λ t. Puts t names own old new) f.1 put value
      (inside inner own rest value (e ∙ ap (λ t. item (tag_of t) own ++ rest) f.1) a.fits (own-contents (Application number inner) octets value a))
  puts-tagged node term own rest f e put value a = absurd f

  none-in : (inner : Term) (value : Value inner) → HasNoItem (tag_of inner) octets → octets ≡ der inner value → ⊥
  none-in inner value none is = none (contents inner value) [] (is ∙ der_is inner value ∙ sym (append-nil (item (tag_of inner) (contents inner value))))

  -- and no item
  pub puts-no_item : (node : ℕ) (term : Term) → IsFormOf nodes (form.Item node) term → HasNoItem (tag_of (term_at node)) octets → Puts term names octets old new
  puts-no_item node (Tagged index inner) f none value a =
      absurd (none-in inner value (subst (λ t. HasNoItem (tag_of t) octets) f.1 none) (own-contents (Tagged index inner) octets value a))
  puts-no_item node (Application number inner) f none value a =
      absurd (none-in inner value (subst (λ t. HasNoItem (tag_of t) octets) f.1 none) (own-contents (Application number inner) octets value a))
  puts-no_item node term f none value a = absurd f

-- ---- fields
-- an item with which octets begin, as the DER of a value
pub own-item : (term : Term) (octets own rest more : List ℕ) (value : Value term) → octets ≡ item (tag_of term) own ++ rest → Fits term value → octets ≡ der term value ++ more → AreContents term own value × (rest ≡ more)
own-item term octets own rest more value e fits is =
    let p = same_from_item (tag_of term) (tag_of term) own (contents term value) rest more (sym e ∙ is ∙ ap (λ l. l ++ more) (der_is term value)) in
    (record { fits = fits; form = ap (item (tag_of term)) p.1 ∙ sym (der_is term value) }, p.2)

pub none-begins : (term : Term) (octets more : List ℕ) (value : Value term) → HasNoItem (tag_of term) octets → octets ≡ der term value ++ more → ⊥
none-begins term octets more value none is = none (contents term value) more (is ∙ ap (λ l. l ++ more) (der_is term value))

-- a key, a value and what follows
chained : (t0 t1 t2 t3 : List Token) (k : List ℕ) (own others : List Token) → t1 ≡ t0 ++ token.key k ∷ [] → t2 ≡ t1 ++ own → t3 ≡ t2 ++ others → t3 ≡ t0 ++ (token.key k ∷ (own ++ others))
chained t0 t1 t2 t3 k own others a b c =
    c ∙ ap (λ l. l ++ others) (b ∙ ap (λ l. l ++ own) a)
    ∙ append_assoc (t0 ++ token.key k ∷ []) own others
    ∙ append_assoc t0 (token.key k ∷ []) (own ++ others)

module _ (node : ℕ) (slots : List Slot) (names : Names) (index : ℕ) (octets : List ℕ) where
  -- what is known of a field that is there
  pub record Member (own rest : List ℕ) (t0 t1 t2 t3 : List Token) : Type 0 where
    pub parts : octets ≡ item (tag_of (term_at node)) own ++ rest
    pub key : t1 ≡ t0 ++ token.key (field_at names index).name ∷ []
    pub put : Puts (term_at node) (field_at names index).inside own t1 t2
    pub others : PutsFields (fields_from nodes slots) names (index + 1) rest t2 t3

  member-there : (own rest : List ℕ) (t0 t1 t2 t3 : List Token) → Member own rest t0 t1 t2 t3 → (value : Value (term_at node)) (values : Values (fields_from nodes slots)) → Fits (term_at node) value → AllFit (fields_from nodes slots) values → octets ≡ der (term_at node) value ++ der_of_fields (fields_from nodes slots) values
      → t3 ≡ t0 ++ members_tokens (member (field_at names index).name (json (term_at node) (field_at names index).inside value) (members_of (fields_from nodes slots) names (index + 1) values))
  member-there own rest t0 t1 t2 t3 m value values fits fit is =
      let p = own-item (term_at node) octets own rest (der_of_fields (fields_from nodes slots) values) value m.parts fits is in
      chained t0 t1 t2 t3 (field_at names index).name (json_tokens (json (term_at node) (field_at names index).inside value)) (members_tokens (members_of (fields_from nodes slots) names (index + 1) values))
      m.key (m.put value p.0) (m.others values record { fit = fit; form = p.1 })

  pub puts-required : (own rest : List ℕ) (t0 t1 t2 t3 : List Token) → Member own rest t0 t1 t2 t3 → PutsFields (Required (term_at node) (fields_from nodes slots)) names index octets t0 t3
  puts-required own rest t0 t1 t2 t3 m values a = member-there own rest t0 t1 t2 t3 m values.0 values.1 a.fit.0 a.fit.1 a.form

  pub puts-optional : (own rest : List ℕ) (t0 t1 t2 t3 : List Token) → not (may_begin (tag_of (term_at node)) (fields_from nodes slots)) ≡ true → Member own rest t0 t1 t2 t3 → PutsFields (Optional (term_at node) (fields_from nodes slots)) names index octets t0 t3
  puts-optional own rest t0 t1 t2 t3 apart m values a = by values.0 values.1 a
    where
      by : (value : Option (Value (term_at node))) (values : Values (fields_from nodes slots)) → AreFields (Optional (term_at node) (fields_from nodes slots)) octets (value, values) → t3 ≡ t0 ++ members_tokens (members_of (Optional (term_at node) (fields_from nodes slots)) names index (value, values))
      by None values a =
          absurd (true≢false (sym (may_begin_from_der (fields_from nodes slots) values (tag_of (term_at node)) _ (sym a.form ∙ m.parts)) ∙ not-true (may_begin (tag_of (term_at node)) (fields_from nodes slots)) apart))
      by (Some value) values a = member-there own rest t0 t1 t2 t3 m value values a.fit.0 a.fit.1 a.form

  -- a field that is not there
  pub missing-required : (t0 t3 : List Token) → HasNoItem (tag_of (term_at node)) octets → PutsFields (Required (term_at node) (fields_from nodes slots)) names index octets t0 t3
  missing-required t0 t3 none values a = absurd (none-begins (term_at node) octets (der_of_fields (fields_from nodes slots) values.1) values.0 none a.form)

  pub missing-optional : (t0 t3 : List Token) → HasNoItem (tag_of (term_at node)) octets → PutsFields (fields_from nodes slots) names (index + 1) octets t0 t3 → PutsFields (Optional (term_at node) (fields_from nodes slots)) names index octets t0 t3
  missing-optional t0 t3 none put values a = by values.0 values.1 a
    where
      by : (value : Option (Value (term_at node))) (values : Values (fields_from nodes slots)) → AreFields (Optional (term_at node) (fields_from nodes slots)) octets (value, values) → t3 ≡ t0 ++ members_tokens (members_of (Optional (term_at node) (fields_from nodes slots)) names index (value, values))
      by None values a = put values record { fit = a.fit.1; form = a.form }
      by (Some value) values a = absurd (none-begins (term_at node) octets (der_of_fields (fields_from nodes slots) values) value none a.form)

-- by either slot
pub apart-of : (node : ℕ) (fields : Fields) → are_unambiguous (Optional (term_at node) fields) ≡ true → not (may_begin (tag_of (term_at node)) fields) ≡ true
apart-of node fields unambiguous = (and_parts (not (may_begin (tag_of (term_at node)) fields)) _ unambiguous).0

pub puts-member : (field : Slot) (slots : List Slot) (names : Names) (index : ℕ) (octets own rest : List ℕ) (t0 t1 t2 t3 : List Token) → are_unambiguous (with_slot nodes field (fields_from nodes slots)) ≡ true → Member (slot_node field) slots names index octets own rest t0 t1 t2 t3 → PutsFields (with_slot nodes field (fields_from nodes slots)) names index octets t0 t3
puts-member (slot.Required node) slots names index octets own rest t0 t1 t2 t3 unambiguous m = puts-required node slots names index octets own rest t0 t1 t2 t3 m
puts-member (slot.Optional node) slots names index octets own rest t0 t1 t2 t3 unambiguous m = puts-optional node slots names index octets own rest t0 t1 t2 t3 (apart-of node (fields_from nodes slots) unambiguous) m

pub puts-no_member : (field : Slot) (slots : List Slot) (names : Names) (index : ℕ) (octets : List ℕ) (t0 t3 : List Token) → HasNoItem (tag_of (term_at (slot_node field))) octets → PutsFields (fields_from nodes slots) names (index + 1) octets t0 t3 → PutsFields (with_slot nodes field (fields_from nodes slots)) names index octets t0 t3
puts-no_member (slot.Required node) slots names index octets t0 t3 none put = missing-required node slots names index octets t0 t3 none
puts-no_member (slot.Optional node) slots names index octets t0 t3 none put = missing-optional node slots names index octets t0 t3 none put

-- ---- items one after another
-- the tokens so far, and those of the values that are left, are those of all
pub record IsPassed (term : Term) (names : Names) (values : List (Value term)) (rest : List ℕ) (old now : List Token) : Type 0 where
  pub left : List (Value term)
  pub fit : AllByRecursion (Fits term) left
  pub form : rest ≡ flat_map (der term) left
  pub tokens : now ++ items_tokens (items_of (map (json term names) left)) ≡ old ++ items_tokens (items_of (map (json term names) values))

abbrev pub ArePassed : Term → Names → (octets rest : List ℕ) → (old now : List Token) → Type 0
ArePassed term names octets rest old now = (values : List (Value term)) → AllByRecursion (Fits term) values → octets ≡ flat_map (der term) values → IsPassed term names values rest old now

pub one-passed : (term : Term) (names : Names) (octets rest own after : List ℕ) (old now next : List Token) → rest ≡ item (tag_of term) own ++ after → Puts term names own now next → ArePassed term names octets rest old now → ArePassed term names octets after old next
one-passed term names octets rest own after old now next e put passed values fit form = by (passed values fit form)
  where
    of : (left : List (Value term)) → AllByRecursion (Fits term) left → rest ≡ flat_map (der term) left → now ++ items_tokens (items_of (map (json term names) left)) ≡ old ++ items_tokens (items_of (map (json term names) values)) → IsPassed term names values after old next
    of [] fit form tokens = absurd (omega (arith, ap length (sym e ∙ form)))
    of (v ∷ left) fit form tokens =
        let p = own-item term rest own after (flat_map (der term) left) v e fit.0 form in
        record {
          left = left;
          fit = fit.1;
          form = p.1;
          tokens = ap (λ l. l ++ items_tokens (items_of (map (json term names) left))) (put v p.0) ∙ append_assoc now (json_tokens (json term names v)) (items_tokens (items_of (map (json term names) left))) ∙ tokens;
        }

    by : IsPassed term names values rest old now → IsPassed term names values after old next
    by p = of p.left p.fit p.form p.tokens

pub all-passed : (term : Term) (names : Names) (octets rest : List ℕ) (old now end : List Token) → HasNoItem (tag_of term) rest → ArePassed term names octets rest old now → end ≡ now ++ token.end_array ∷ [] → PutsItems term names octets old end
all-passed term names octets rest old now end none passed ends values fit form = ends ∙ by (passed values fit form)
  where
    of : (left : List (Value term)) → rest ≡ flat_map (der term) left → now ++ items_tokens (items_of (map (json term names) left)) ≡ old ++ items_tokens (items_of (map (json term names) values)) → now ++ token.end_array ∷ [] ≡ old ++ items_tokens (items_of (map (json term names) values))
    of [] form tokens = tokens
    of (v ∷ left) form tokens = absurd (none-begins term rest (flat_map (der term) left) v none form)

    by : IsPassed term names values rest old now → now ++ token.end_array ∷ [] ≡ old ++ items_tokens (items_of (map (json term names) values))
    by p = of p.left p.form p.tokens

-- ---- tokens one after another
pub six-put : (t0 t1 t2 t3 t4 t5 t6 : List Token) (a b c d e f : Token) → t1 ≡ t0 ++ a ∷ [] → t2 ≡ t1 ++ b ∷ [] → t3 ≡ t2 ++ c ∷ [] → t4 ≡ t3 ++ d ∷ [] → t5 ≡ t4 ++ e ∷ [] → t6 ≡ t5 ++ f ∷ [] → t6 ≡ t0 ++ a ∷ b ∷ c ∷ d ∷ e ∷ f ∷ []
six-put t0 t1 t2 t3 t4 t5 t6 a b c d e f p q r s t u =
    u ∙ ap (λ l. l ++ f ∷ []) (t ∙ ap (λ l. l ++ e ∷ []) (s ∙ ap (λ l. l ++ d ∷ []) (r ∙ ap (λ l. l ++ c ∷ []) (q ∙ ap (λ l. l ++ b ∷ []) p))))
    ∙ more (((t0 ++ a ∷ []) ++ b ∷ []) ++ c ∷ []) d e f
    ∙ ap (λ l. l ++ d ∷ e ∷ f ∷ []) (more t0 a b c)
    ∙ append_assoc t0 (a ∷ b ∷ c ∷ []) (d ∷ e ∷ f ∷ [])
  where
    more : (l : List Token) (x y z : Token) → ((l ++ x ∷ []) ++ y ∷ []) ++ z ∷ [] ≡ l ++ x ∷ y ∷ z ∷ []
    more l x y z = append_assoc (l ++ x ∷ []) (y ∷ []) (z ∷ []) ∙ append_assoc l (x ∷ []) (y ∷ z ∷ [])

-- ---- a field of slots
pub slots-split : (slots : List Slot) (none : Slot) → 1 ≤ length slots → slots ≡ get_or slots 0 none ∷ take (length slots - 1) (drop 1 slots)
slots-split [] none some = absurd (omega arith)
slots-split (first ∷ others) none some = ap (λ l. first ∷ l) (sym (take_all (length (first ∷ others) - 1) others (omega arith)))

pub some-member : (slots : List Slot) (names : Names) (index : ℕ) (octets own rest : List ℕ) (t0 t1 t2 t3 : List Token) (node tag : ℕ) (named : Named) → 1 ≤ length slots → node ≡ slot_node (get_or slots 0 (slot.Required 0)) → tag ≡ tag_of (term_at node) → named ≡ field_at names index → are_unambiguous (fields_from nodes slots) ≡ true → octets ≡ item tag own ++ rest
    → t1 ≡ t0 ++ token.key named.name ∷ [] → Puts (term_at node) named.inside own t1 t2 → PutsFields (fields_from nodes (take (length slots - 1) (drop 1 slots))) names (index + 1) rest t2 t3 → PutsFields (fields_from nodes slots) names index octets t0 t3
some-member slots names index octets own rest t0 t1 t2 t3 node tag named some slotted tagged same unambiguous parts key put others =
    let first : Slot = get_or slots 0 (slot.Required 0) in
    let more : List Slot = take (length slots - 1) (drop 1 slots) in
    let split : slots ≡ first ∷ more = slots-split slots (slot.Required 0) some in
    let m : Member node more names index octets own rest t0 t1 t2 t3 = record {
      parts = parts ∙ ap (λ n. item n own ++ rest) tagged;
      key = key ∙ ap (λ f. t0 ++ token.key f.name ∷ []) same;
      put = subst (λ f. Puts (term_at node) f.inside own t1 t2) same put;
      others = others;
    } in
    subst (λ s. PutsFields (fields_from nodes s) names index octets t0 t3) (sym split)
    (puts-member first more names index octets own rest t0 t1 t2 t3 (subst (λ s. are_unambiguous (fields_from nodes s) ≡ true) split unambiguous)
    (subst (λ n. Member n more names index octets own rest t0 t1 t2 t3) slotted m))

pub none-member : (slots : List Slot) (names : Names) (index : ℕ) (octets : List ℕ) (t0 t3 : List Token) (node tag : ℕ) → 1 ≤ length slots → node ≡ slot_node (get_or slots 0 (slot.Required 0)) → tag ≡ tag_of (term_at node) → HasNoItem tag octets
    → PutsFields (fields_from nodes (take (length slots - 1) (drop 1 slots))) names (index + 1) octets t0 t3 → PutsFields (fields_from nodes slots) names index octets t0 t3
none-member slots names index octets t0 t3 node tag some slotted tagged none others =
    let first : Slot = get_or slots 0 (slot.Required 0) in
    let more : List Slot = take (length slots - 1) (drop 1 slots) in
    subst (λ s. PutsFields (fields_from nodes s) names index octets t0 t3) (sym (slots-split slots (slot.Required 0) some))
    (puts-no_member first more names index octets t0 t3 (subst (λ n. HasNoItem n octets) (tagged ∙ ap (λ n. tag_of (term_at n)) slotted) none) others)

-- ---- a message
pub puts-message : (kind : Kind) (node tag : ℕ) (octets own rest : List ℕ) (t0 t1 t2 t3 t4 : List Token) → term_at node ≡ kind_term kind → tag ≡ tag_of (term_at node) → octets ≡ item tag own ++ rest → t1 ≡ t0 ++ token.begin_object ∷ [] → t2 ≡ t1 ++ token.key (kind_name kind) ∷ [] → Puts (term_at node) (names_of_kind kind) own t2 t3 → t4 ≡ t3 ++ token.end_object ∷ [] → PutsMessage kind octets t0 t4
puts-message kind node tag octets own rest t0 t1 t2 t3 t4 termed tagged parts begins key put ends m i same form =
    of (termed ∙ ap kind_term (sym same)) (key ∙ ap (λ k. t1 ++ token.key (kind_name k) ∷ []) (sym same)) (subst (λ k. Puts (term_at node) (names_of_kind k) own t2 t3) (sym same) put)
  where
    term : Term
    term = kind_term (kind_of m)

    of : term_at node ≡ kind_term (kind_of m) → t2 ≡ t1 ++ token.key (kind_name (kind_of m)) ∷ [] → Puts (term_at node) (names_of_kind (kind_of m)) own t2 t3 → t4 ≡ t0 ++ json_tokens (message_json m)
    of termed key put =
        let j : List Token = json_tokens (json (kind_term (kind_of m)) (names_of_kind (kind_of m)) (message_value m)) in
        let p = own-item (kind_term (kind_of m)) octets own rest [] (message_value m) (parts ∙ ap (λ n. item n own ++ rest) (tagged ∙ ap tag_of termed)) i.fits (sym form ∙ sym (append-nil (message_der m))) in
        chained t1 t2 t3 t4 (kind_name (kind_of m)) j (token.end_object ∷ []) key (subst (λ t. Puts t (names_of_kind (kind_of m)) own t2 t3) termed put (message_value m) p.0) ends
        ∙ ap (λ l. l ++ (token.key (kind_name (kind_of m)) ∷ (j ++ token.end_object ∷ []))) begins
        ∙ append_assoc t0 (token.begin_object ∷ []) (token.key (kind_name (kind_of m)) ∷ (j ++ token.end_object ∷ []))

pub puts-no_message : (kind : Kind) (node tag : ℕ) (octets : List ℕ) (t0 t4 : List Token) → term_at node ≡ kind_term kind → tag ≡ tag_of (term_at node) → HasNoItem tag octets → PutsMessage kind octets t0 t4
puts-no_message kind node tag octets t0 t4 termed tagged none m i same form =
    absurd (none-begins (kind_term (kind_of m)) octets [] (message_value m) (subst (λ n. HasNoItem n octets) (tagged ∙ ap tag_of (termed ∙ ap kind_term (sym same))) none) (sym form ∙ sym (append-nil (message_der m))))
