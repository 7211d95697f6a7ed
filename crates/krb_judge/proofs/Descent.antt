-- The field at fault: lemmas of the functions that find it.
use Rattle.std.proofs.Common.{◌≡◌, ℕ, zero, suc, ◌+◌, ◌-◌, ◌<◌, ◌≤◌, Bool, true, false, List, [], ◌∷◌, length, drop, get_or, add-one, refl, sym, ap, ◌∙◌, arith}
use Rattle.std.proofs.Math.Seq.{drop-cons}
use Rattle.krb_der.specs.Octets.{when, begins_with}
use Rattle.krb_msg.specs.Nodes.{nodes, term_at}
use Rattle.krb_msg.specs.Shape.{depth_of_fields}
use Rattle.krb_msg.specs.Table.{IsFormOf, with_slot, fields_from}
use Rattle.krb_msg.specs.Term.{Term, Fields, Required, SequenceOf, tag_of}
use Rattle.krb_msg.specs.declared.grammar.Form.TheVariants as form
use Rattle.krb_msg.specs.declared.grammar.Slot.{Slot}
use Rattle.krb_msg.specs.declared.grammar.Slot.TheVariants as slot
use Rattle.krb_judge.specs.FieldNames.{field_at}
use Rattle.krb_judge.specs.Paths.{within, first_item, contents_path, fields_path, field_path, elements_path, element_path}
use Rattle.krb_judge.specs.inner.Descent.{presence_path}
use Rattle.krb_judge.specs.declared.locating.Presence.{Presence}
use Rattle.krb_judge.specs.declared.locating.Presence.TheVariants as presence
use Rattle.krb_judge.specs.declared.locating.Rest.{Rest}
use Rattle.krb_judge.specs.declared.locating.names.Names.{Names}

-- ---- fields
slot_next : (slots : List Slot) (k : ℕ) (none : Slot) → k < length slots → fields_from nodes (drop k slots) ≡ with_slot nodes (get_or slots k none) (fields_from nodes (drop (k + 1) slots))
slot_next slots k none h = ap (fields_from nodes) (drop-cons slots k none h ∙ ap (λ j. get_or slots k none ∷ drop j slots) (sym (add-one k)))

slot_shallow : (it : Slot) (fields : Fields) → depth_of_fields fields ≤ depth_of_fields (with_slot nodes it fields)
slot_shallow (slot.Required node) fields = omega arith
slot_shallow (slot.Optional node) fields = omega arith

required_some : (term : Term) (room : ℕ) (octets : List ℕ) (fields : Fields) (names : Names) (path : List ℕ) (index : ℕ) → (room ≡ 0 → ⊥)
    → fields_path (Required term fields) names path index room octets
    ≡ when (begins_with (tag_of term) octets)
    (λ _. first_item term (field_path path (field_at names index).name) room octets (contents_path term (field_at names index).inside (field_path path (field_at names index).name)) (fields_path fields names path (index + 1)))
    (λ _. path)
required_some term zero octets fields names path index some = absurd (some refl)
required_some term (suc room) octets fields names path index some = refl

-- a field in a room that is not full, by whether its item begins there
module _ (node : ℕ) (rest : Rest) (fields : Fields) (names : Names) (path : List ℕ) (index : ℕ) where
  pub required_begins : (rest.room ≡ 0 → ⊥) → begins_with (tag_of (term_at node)) rest.octets.now ≡ true → fields_path (with_slot nodes (slot.Required node) fields) names path index rest.room rest.octets.now ≡ presence_path (presence.Item node) rest fields names path index
  required_begins some e = required_some (term_at node) rest.room rest.octets.now fields names path index some ∙ rw e refl

  pub required_else : (rest.room ≡ 0 → ⊥) → begins_with (tag_of (term_at node)) rest.octets.now ≡ false → fields_path (with_slot nodes (slot.Required node) fields) names path index rest.room rest.octets.now ≡ path
  required_else some e = required_some (term_at node) rest.room rest.octets.now fields names path index some ∙ rw e refl

  pub optional_begins : begins_with (tag_of (term_at node)) rest.octets.now ≡ true → fields_path (with_slot nodes (slot.Optional node) fields) names path index rest.room rest.octets.now ≡ presence_path (presence.Item node) rest fields names path index
  optional_begins e = rw e refl

  pub optional_else : begins_with (tag_of (term_at node)) rest.octets.now ≡ false → fields_path (with_slot nodes (slot.Optional node) fields) names path index rest.room rest.octets.now ≡ presence_path presence.Absent rest fields names path index
  optional_else e = rw e refl

-- whether the field at an index is present
pub field_presence :
    (slots : List Slot) (index : ℕ) (none : Slot) (rest : Rest) (presence : Presence) (names : Names) (path : List ℕ)
    → index < length slots
    → ((fields : Fields) (names : Names) (path : List ℕ) (k : ℕ) → fields_path (with_slot nodes (get_or slots index none) fields) names path k rest.room rest.octets.now ≡ presence_path presence rest fields names path k)
    → fields_path (fields_from nodes (drop index slots)) names path index rest.room rest.octets.now ≡ presence_path presence rest (fields_from nodes (drop (index + 1) slots)) names path index
field_presence slots index none rest presence names path h d =
    ap (λ fields. fields_path fields names path index rest.room rest.octets.now) (slot_next slots index none h) ∙ d (fields_from nodes (drop (index + 1) slots)) names path index

-- after a field whose item is done
pub field_done :
    (slots : List Slot) (index : ℕ) (none : Slot) (rest next : Rest) (node : ℕ) (names : Names) (path : List ℕ)
    → index < length slots
    → ((fields : Fields) (names : Names) (path : List ℕ) (k : ℕ) → fields_path (with_slot nodes (get_or slots index none) fields) names path k rest.room rest.octets.now ≡ presence_path (presence.Item node) rest fields names path k)
    → ((path : List ℕ) (inside after : ℕ → List ℕ → List ℕ) → first_item (term_at node) path rest.room rest.octets.now inside after ≡ after next.room next.octets.now)
    → fields_path (fields_from nodes (drop index slots)) names path index rest.room rest.octets.now ≡ fields_path (fields_from nodes (drop (index + 1) slots)) names path (index + 1) next.room next.octets.now
field_done slots index none rest next node names path h d first =
    let fields : Fields = fields_from nodes (drop (index + 1) slots) in
    let here : List ℕ = field_path path (field_at names index).name in
    field_presence slots index none rest (presence.Item node) names path h d
    ∙ first here (contents_path (term_at node) (field_at names index).inside here) (fields_path fields names path (index + 1))

pub rest_shallow : (slots : List Slot) (index : ℕ) → index < length slots → depth_of_fields (fields_from nodes (drop (index + 1) slots)) ≤ depth_of_fields (fields_from nodes (drop index slots))
rest_shallow slots index h =
    let none : Slot = slot.Required 0 in
    rw (slot_next slots index none h) (slot_shallow (get_or slots index none) (fields_from nodes (drop (index + 1) slots)))

-- ---- the items of a SEQUENCE OF
pub begins_some : (tag : ℕ) (octets : List ℕ) → begins_with tag octets ≡ true → 0 < length octets
begins_some tag [] e = absurd cc
begins_some tag (octet ∷ octets) e = omega arith

abbrev Inside : Type 0
Inside = ℕ → List ℕ → List ℕ

elements_first : (inside : List ℕ → Inside) (term : Term) (path : List ℕ) (bound index : ℕ) (rest : Rest) → begins_with (tag_of term) rest.octets.now ≡ true → elements_path inside term path (suc bound) index rest.room rest.octets.now ≡ first_item term (element_path path index) rest.room rest.octets.now (inside (element_path path index)) (elements_path inside term path bound (index + 1))
elements_first inside term path bound index rest e = rw e refl

elements_some : (inside : List ℕ → Inside) (term : Term) (path : List ℕ) (size index : ℕ) (rest : Rest) → begins_with (tag_of term) rest.octets.now ≡ true → index + length rest.octets.now ≤ size → elements_path inside term path (size - index) index rest.room rest.octets.now ≡ first_item term (element_path path index) rest.room rest.octets.now (inside (element_path path index)) (elements_path inside term path (size - (index + 1)) (index + 1))
elements_some inside term path size index rest e h =
    let more : size - index ≡ suc (size - (index + 1)) = omega (arith, h, begins_some (tag_of term) rest.octets.now e) in
    ap (λ bound. elements_path inside term path bound index rest.room rest.octets.now) more ∙ elements_first inside term path (size - (index + 1)) index rest e

-- an item that is done, one that is not, and none
pub element_next :
    (inside : List ℕ → Inside) (term : Term) (path : List ℕ) (size index : ℕ) (rest next : Rest)
    → begins_with (tag_of term) rest.octets.now ≡ true
    → index + length rest.octets.now ≤ size
    → ((path : List ℕ) (inside after : Inside) → first_item term path rest.room rest.octets.now inside after ≡ after next.room next.octets.now)
    → elements_path inside term path (size - index) index rest.room rest.octets.now ≡ elements_path inside term path (size - (index + 1)) (index + 1) next.room next.octets.now
element_next inside term path size index rest next e h first =
    elements_some inside term path size index rest e h ∙ first (element_path path index) (inside (element_path path index)) (elements_path inside term path (size - (index + 1)) (index + 1))

pub element_here :
    (inside : List ℕ → Inside) (term : Term) (path : List ℕ) (size index : ℕ) (rest : Rest)
    → begins_with (tag_of term) rest.octets.now ≡ true
    → index + length rest.octets.now ≤ size
    → ((path : List ℕ) (inside after : Inside) → first_item term path rest.room rest.octets.now inside after ≡ within term path rest.room false rest.octets.now inside)
    → elements_path inside term path (size - index) index rest.room rest.octets.now ≡ within term (element_path path index) rest.room false rest.octets.now (inside (element_path path index))
element_here inside term path size index rest e h first =
    elements_some inside term path size index rest e h ∙ first (element_path path index) (inside (element_path path index)) (elements_path inside term path (size - (index + 1)) (index + 1))

pub no_element : (inside : List ℕ → Inside) (term : Term) (path : List ℕ) (bound index room : ℕ) (octets : List ℕ) → begins_with (tag_of term) octets ≡ false → elements_path inside term path bound index room octets ≡ path
no_element inside term path zero index room octets e = refl
no_element inside term path (suc bound) index room octets e = rw e refl

pub elements_of : (node : ℕ) (none : Bool) (term : Term) → IsFormOf nodes (form.Items node none) term → (names : Names) (path : List ℕ) (room : ℕ) (octets : List ℕ) → contents_path term names path room octets ≡ elements_path (contents_path (term_at node) names) (term_at node) path (length octets) 0 room octets
elements_of node none (SequenceOf empty term) h names path room octets = rw h.2 refl
elements_of node none term h names path room octets = absurd h
