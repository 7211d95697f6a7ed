-- What the walks over terms ask of a part of a term: that it is a node of the table, is unambiguous, and is smaller.
use Rattle.std.proofs.Common.{◌≡◌, ◌<◌, ◌≤◌, ℕ, Bool, true, not, ◌+◌, ◌-◌, ◌++◌, ◌∷◌, List, length, get_or, take, drop, sym, ap, subst, arith, length-append}
use Rattle.std.specs.List.{AllByRecursion}
use Rattle.std.specs.Borrow.{Bor}
use Rattle.std.proofs.lemmas.Bool.{and_parts}
use Rattle.krb_der.specs.Octets.{item}
use Rattle.krb_der.specs.inner.Items.{length-item}
use Rattle.krb_msg.specs.Nodes.{nodes, term_at}
use Rattle.krb_msg.specs.Shape.{is_unambiguous, are_unambiguous, may_begin}
use Rattle.krb_msg.specs.Table.{IsFormOf, IsNode, IsSlot, fields_from, with_slot}
use Rattle.krb_msg.specs.Term.{Term, Fields, Sequence, SequenceOf, Tagged, Application, tag_of}
use Rattle.krb_msg.specs.declared.grammar.Form.TheVariants as form
use Rattle.krb_msg.specs.declared.grammar.Slot.{Slot}
use Rattle.krb_msg.specs.declared.grammar.Slot.TheVariants as slot
use Rattle.krb_json.specs.inner.Sizes.{size, size_of_fields}
use Rattle.krb_json.specs.inner.Writing.{slot_node}
use Rattle.krb_json.proofs.Walks.{slots-split}

-- ---- the item in an item
pub inner-node : (node : ℕ) (term : Term) → IsFormOf nodes (form.Item node) term → IsNode node
inner-node node (Tagged index term) f = f.0
inner-node node (Application number term) f = f.0
inner-node node term f = absurd f

pub inner-size : (node : ℕ) (term : Term) → IsFormOf nodes (form.Item node) term → size term ≡ 1 + size (term_at node)
inner-size node (Tagged index term) f = ap (λ t. 1 + size t) (sym f.1)
inner-size node (Application number term) f = ap (λ t. 1 + size t) (sym f.1)
inner-size node term f = absurd f

pub inner-unambiguous : (node : ℕ) (term : Term) → IsFormOf nodes (form.Item node) term → is_unambiguous term ≡ true → is_unambiguous (term_at node) ≡ true
inner-unambiguous node (Tagged index term) f u = subst (λ t. is_unambiguous t ≡ true) (sym f.1) u
inner-unambiguous node (Application number term) f u = subst (λ t. is_unambiguous t ≡ true) (sym f.1) u
inner-unambiguous node term f u = absurd f

-- ---- the items of a SEQUENCE OF
pub items-node : (node : ℕ) (none : Bool) (term : Term) → IsFormOf nodes (form.Items node none) term → IsNode node
items-node node none (SequenceOf empty term) f = f.0
items-node node none term f = absurd f

pub items-size : (node : ℕ) (none : Bool) (term : Term) → IsFormOf nodes (form.Items node none) term → size term ≡ 1 + size (term_at node)
items-size node none (SequenceOf empty term) f = ap (λ t. 1 + size t) (sym f.2)
items-size node none term f = absurd f

pub items-unambiguous : (node : ℕ) (none : Bool) (term : Term) → IsFormOf nodes (form.Items node none) term → is_unambiguous term ≡ true → is_unambiguous (term_at node) ≡ true
items-unambiguous node none (SequenceOf empty term) f u = subst (λ t. is_unambiguous t ≡ true) (sym f.2) u
items-unambiguous node none term f u = absurd f

-- ---- the fields of a SEQUENCE
pub fields-known : (slots : Bor (List Slot)) (term : Term) → IsFormOf nodes (form.Fields slots) term → AllByRecursion IsSlot slots.now
fields-known slots (Sequence fields) f = f.0
fields-known slots term f = absurd f

pub fields-size : (slots : Bor (List Slot)) (term : Term) → IsFormOf nodes (form.Fields slots) term → size term ≡ 1 + size_of_fields (fields_from nodes slots.now)
fields-size slots (Sequence fields) f = ap (λ l. 1 + size_of_fields l) (sym f.1)
fields-size slots term f = absurd f

pub fields-unambiguous : (slots : Bor (List Slot)) (term : Term) → IsFormOf nodes (form.Fields slots) term → is_unambiguous term ≡ true → are_unambiguous (fields_from nodes slots.now) ≡ true
fields-unambiguous slots (Sequence fields) f u = subst (λ l. are_unambiguous l ≡ true) (sym f.1) u
fields-unambiguous slots term f u = absurd f

-- ---- the first of slots, and the others
pub first-known : (slots : List Slot) → 1 ≤ length slots → AllByRecursion IsSlot slots → IsSlot (get_or slots 0 (slot.Required 0))
first-known slots some known = of (take (length slots - 1) (drop 1 slots)) (subst (AllByRecursion IsSlot) (slots-split slots (slot.Required 0) some) known)
  where
    of : (more : List Slot) → AllByRecursion IsSlot (get_or slots 0 (slot.Required 0) ∷ more) → IsSlot (get_or slots 0 (slot.Required 0))
    of more known = known.0

module _ (slots : List Slot) (some : 1 ≤ length slots) (u : are_unambiguous (fields_from nodes slots) ≡ true) where
  parts : (field : Slot) (fields : Fields) → are_unambiguous (with_slot nodes field fields) ≡ true → (is_unambiguous (term_at (slot_node field)) ≡ true) × (are_unambiguous fields ≡ true)
  parts (slot.Required node) fields both = and_parts (is_unambiguous (term_at node)) (are_unambiguous fields) both
  parts (slot.Optional node) fields both = and_parts (is_unambiguous (term_at node)) (are_unambiguous fields) (and_parts (not (may_begin (tag_of (term_at node)) fields)) _ both).1

  pub both-unambiguous : (is_unambiguous (term_at (slot_node (get_or slots 0 (slot.Required 0)))) ≡ true) × (are_unambiguous (fields_from nodes (take (length slots - 1) (drop 1 slots))) ≡ true)
  both-unambiguous = parts (get_or slots 0 (slot.Required 0)) (fields_from nodes (take (length slots - 1) (drop 1 slots))) (subst (λ s. are_unambiguous (fields_from nodes s) ≡ true) (slots-split slots (slot.Required 0) some) u)

-- ---- the contents of an item
pub own-shorter : (tag : ℕ) (octets own rest : List ℕ) → octets ≡ item tag own ++ rest → length own < length octets
own-shorter tag octets own rest e = omega (arith, ap length e, length-append (item tag own) rest, length-item tag own)
