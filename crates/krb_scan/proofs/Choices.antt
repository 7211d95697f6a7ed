-- The fields and the nodes that are left, and the item that begins.
use Rattle.std.proofs.Common.{◌≡◌, ℕ, zero, suc, ◌+◌, ◌<◌, ◌≤◌, List, [], ◌∷◌, ◌==◌, true, Some, None, length, drop, get_or, map, max, refl, sym, ap, ◌∙◌, eq-eqb, ne_eqb, arith}
use Rattle.std.proofs.Math.Dec.{leb}
use Rattle.std.proofs.lemmas.Bool.{leb-true}
use Rattle.std.specs.List.{AllByRecursion}
use Rattle.krb_der.specs.Octets.{when}
use Rattle.krb_msg.specs.Term.{Term, Fields, End, Required, Optional, tag_of}
use Rattle.krb_msg.specs.Basic.{int32}
use Rattle.krb_msg.specs.Nodes.{nodes, term_in, term_at}
use Rattle.krb_msg.specs.Table.{IsNode, IsSlot, fields_from, with_slot}
use Rattle.krb_msg.specs.declared.grammar.Slot.{Slot}
use Rattle.krb_msg.specs.declared.grammar.Slot.TheVariants as slot
use Rattle.krb_scan.specs.Scan.{Listed, OneOf}
use Rattle.krb_scan.specs.Expectations.{fields_in, fields_after}
use Rattle.krb_scan.specs.inner.Machine.{pick, pick_field, pick_one_of, requires_field}

-- ---- the fields of a SEQUENCE
-- the fields after some slots are those of the slots after them
fields_of_slots : (slots : List Slot) (passed : ℕ) → fields_after passed (fields_from nodes slots) ≡ fields_from nodes (drop passed slots)
fields_of_slots slots zero = refl
fields_of_slots [] (suc passed) = refl
fields_of_slots (slot.Required node ∷ slots) (suc passed) = fields_of_slots slots passed
fields_of_slots (slot.Optional node ∷ slots) (suc passed) = fields_of_slots slots passed

pub fields_left : (slots : List Slot) (sequence passed : ℕ) → fields_from nodes slots ≡ fields_in (term_at sequence) → fields_after passed (fields_in (term_at sequence)) ≡ fields_from nodes (drop passed slots)
fields_left slots sequence passed same = ap (fields_after passed) (sym same) ∙ fields_of_slots slots passed

-- how many fields there are
abbrev count : Fields → ℕ
count End = 0
count (Required term fields) = suc (count fields)
count (Optional term fields) = suc (count fields)

count_slots : (slots : List Slot) → count (fields_from nodes slots) ≡ length slots
count_slots [] = refl
count_slots (slot.Required node ∷ slots) = ap suc (count_slots slots)
count_slots (slot.Optional node ∷ slots) = ap suc (count_slots slots)

-- the most fields that a term of some has
abbrev most : List Term → ℕ
most [] = 0
most (term ∷ terms) = max (count (fields_in term)) (most terms)

at_most : (terms : List Term) (node : ℕ) (absent : Term) → count (fields_in absent) ≡ 0 → count (fields_in (get_or terms node absent)) ≤ most terms
at_most [] node absent none = omega (arith, none)
at_most (term ∷ terms) zero absent none = omega arith
at_most (term ∷ terms) (suc node) absent none = omega (arith, at_most terms node absent none)

most_fields : leb (most nodes) 255 ≡ true
unfolding nodes
most_fields = refl

few_fields : (node : ℕ) → count (fields_in (term_at node)) ≤ 255
unfolding term_in
few_fields node = omega (arith, at_most nodes node int32 refl, leb-true (most nodes) 255 most_fields)

-- there are few slots
pub few_slots : (slots : List Slot) (node : ℕ) → fields_from nodes slots ≡ fields_in (term_at node) → length slots < 256
few_slots slots node same = omega (arith, few_fields node, ap count same, count_slots slots)

pub slots_at : (slots : List Slot) (at : ℕ) (none : Slot) → at < length slots → fields_from nodes (drop at slots) ≡ with_slot nodes (get_or slots at none) (fields_from nodes (drop (suc at) slots))
slots_at [] at none h = absurd (omega (arith, h))
slots_at (first ∷ slots) zero none h = refl
slots_at (first ∷ slots) (suc at) none h = slots_at slots at none (omega (arith, h))

pub slots_end : (slots : List Slot) (at : ℕ) → length slots ≤ at → fields_from nodes (drop at slots) ≡ End
slots_end [] zero h = refl
slots_end [] (suc at) h = refl
slots_end (first ∷ slots) zero h = absurd (omega (arith, h))
slots_end (first ∷ slots) (suc at) h = slots_end slots at (omega (arith, h))

pub slot_known : (slots : List Slot) (at : ℕ) (none : Slot) → AllByRecursion IsSlot slots → at < length slots → IsSlot (get_or slots at none)
slot_known [] at none k h = absurd (omega (arith, h))
slot_known (first ∷ slots) zero none k h = k.0
slot_known (first ∷ slots) (suc at) none k h = slot_known slots at none k.1 (omega (arith, h))

pub nodes_at : (chosen : List ℕ) (at none : ℕ) → at < length chosen → map term_at (drop at chosen) ≡ term_at (get_or chosen at none) ∷ map term_at (drop (suc at) chosen)
nodes_at [] at none h = absurd (omega (arith, h))
nodes_at (node ∷ chosen) zero none h = refl
nodes_at (node ∷ chosen) (suc at) none h = nodes_at chosen at none (omega (arith, h))

pub node_known : (chosen : List ℕ) (at none : ℕ) → AllByRecursion IsNode chosen → at < length chosen → IsNode (get_or chosen at none)
node_known [] at none k h = absurd (omega (arith, h))
node_known (node ∷ chosen) zero none k h = k.0
node_known (node ∷ chosen) (suc at) none k h = node_known chosen at none k.1 (omega (arith, h))

next_slots : (slots : List Slot) (at : ℕ) → fields_from nodes (drop (suc at) slots) ≡ fields_from nodes (drop (at + 1) slots)
next_slots slots at = let next : suc at ≡ at + 1 = omega arith in ap (λ k. fields_from nodes (drop k slots)) next

pub required_here : (slots : List Slot) (at : ℕ) (none : Slot) (node : ℕ) → at < length slots → get_or slots at none ≡ slot.Required node → requires_field (fields_from nodes (drop at slots)) ≡ true
required_here slots at none node h e = ap requires_field (slots_at slots at none h ∙ ap (λ s. with_slot nodes s (fields_from nodes (drop (suc at) slots))) e)

pub optional_here : (slots : List Slot) (at : ℕ) (none : Slot) (node : ℕ) → at < length slots → get_or slots at none ≡ slot.Optional node → requires_field (fields_from nodes (drop at slots)) ≡ requires_field (fields_from nodes (drop (at + 1) slots))
optional_here slots at none node h e = ap requires_field (slots_at slots at none h ∙ ap (λ s. with_slot nodes s (fields_from nodes (drop (suc at) slots))) e) ∙ ap requires_field (next_slots slots at)

pub picks_required : (octet : ℕ) (slots : List Slot) (left : Fields) (at : ℕ) (none : Slot) (node : ℕ) → at < length slots → get_or slots at none ≡ slot.Required node → left ≡ fields_from nodes (drop (at + 1) slots) →
    pick octet (Listed (fields_from nodes (drop at slots))) ≡ when (octet == tag_of (term_at node)) (λ _. Some (term_at node, Listed left)) (λ _. None)
picks_required octet slots left at none node h e r =
    ap (pick_field octet) (slots_at slots at none h ∙ ap (λ s. with_slot nodes s (fields_from nodes (drop (suc at) slots))) e)
    ∙ ap (λ fields. when (octet == tag_of (term_at node)) (λ _. Some (term_at node, Listed fields)) (λ _. None)) (next_slots slots at ∙ sym r)

pub picks_optional : (octet : ℕ) (slots : List Slot) (left : Fields) (at : ℕ) (none : Slot) (node : ℕ) → at < length slots → get_or slots at none ≡ slot.Optional node → left ≡ fields_from nodes (drop (at + 1) slots) → tag_of (term_at node) ≡ octet →
    pick octet (Listed (fields_from nodes (drop at slots))) ≡ Some (term_at node, Listed left)
picks_optional octet slots left at none node h e r t =
    ap (pick_field octet) (slots_at slots at none h ∙ ap (λ s. with_slot nodes s (fields_from nodes (drop (suc at) slots))) e)
    ∙ ap (λ b. when b (λ _. Some (term_at node, Listed (fields_from nodes (drop (suc at) slots)))) (λ _. pick_field octet (fields_from nodes (drop (suc at) slots)))) (eq-eqb octet (tag_of (term_at node)) (sym t))
    ∙ ap (λ fields. Some (term_at node, Listed fields)) (next_slots slots at ∙ sym r)

pub passes_optional : (octet : ℕ) (slots : List Slot) (at : ℕ) (none : Slot) (node : ℕ) → at < length slots → get_or slots at none ≡ slot.Optional node → (tag_of (term_at node) ≡ octet → ⊥) →
    pick octet (Listed (fields_from nodes (drop at slots))) ≡ pick octet (Listed (fields_from nodes (drop (at + 1) slots)))
passes_optional octet slots at none node h e t =
    ap (pick_field octet) (slots_at slots at none h ∙ ap (λ s. with_slot nodes s (fields_from nodes (drop (suc at) slots))) e)
    ∙ ap (λ b. when b (λ _. Some (term_at node, Listed (fields_from nodes (drop (suc at) slots)))) (λ _. pick_field octet (fields_from nodes (drop (suc at) slots)))) (ne_eqb octet (tag_of (term_at node)) (λ same. t (sym same)))
    ∙ ap (pick_field octet) (next_slots slots at)

pub picks_node : (octet : ℕ) (chosen : List ℕ) (at none : ℕ) → at < length chosen → tag_of (term_at (get_or chosen at none)) ≡ octet → pick_one_of octet (map term_at (drop at chosen)) ≡ Some (term_at (get_or chosen at none), OneOf [])
picks_node octet chosen at none h t =
    ap (pick_one_of octet) (nodes_at chosen at none h)
    ∙ ap (λ b. when b (λ _. Some (term_at (get_or chosen at none), OneOf [])) (λ _. pick_one_of octet (map term_at (drop (suc at) chosen)))) (eq-eqb octet (tag_of (term_at (get_or chosen at none))) (sym t))

pub passes_node : (octet : ℕ) (chosen : List ℕ) (at none : ℕ) → at < length chosen → (tag_of (term_at (get_or chosen at none)) ≡ octet → ⊥) → pick_one_of octet (map term_at (drop at chosen)) ≡ pick_one_of octet (map term_at (drop (at + 1) chosen))
passes_node octet chosen at none h t =
    let next : suc at ≡ at + 1 = omega arith in
    ap (pick_one_of octet) (nodes_at chosen at none h)
    ∙ ap (λ b. when b (λ _. Some (term_at (get_or chosen at none), OneOf [])) (λ _. pick_one_of octet (map term_at (drop (suc at) chosen)))) (ne_eqb octet (tag_of (term_at (get_or chosen at none))) (λ same. t (sym same)))
    ∙ ap (λ k. pick_one_of octet (map term_at (drop k chosen))) next

pub nodes_end : (chosen : List ℕ) (at : ℕ) → length chosen ≤ at → map term_at (drop at chosen) ≡ []
nodes_end [] zero h = refl
nodes_end [] (suc at) h = refl
nodes_end (node ∷ chosen) zero h = absurd (omega (arith, h))
nodes_end (node ∷ chosen) (suc at) h = nodes_end chosen at (omega (arith, h))
