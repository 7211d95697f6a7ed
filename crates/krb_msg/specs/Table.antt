-- The rows of the table of the grammar, each as that of a term. The terms of a table are a list, in the order of its rows.
use Rattle.std.specs.Prelude.{ℕ, ◌≡◌, ◌<◌, ◌≤◌, List, [], ◌∷◌, length, max}
use Rattle.std.specs.List.{AllByRecursion}
use Rattle.krb_der.specs.Octets.{integer_octets}
use Rattle.krb_msg.specs.Term.{Term, Fields, Integer, Text, Octets, Time, Bits, Sequence, SequenceOf, Tagged, Application, End, Required, Optional, tag_of}
use Rattle.krb_msg.specs.Nodes.{term_in}
use Rattle.krb_msg.specs.declared.grammar.Node.{Node}
use Rattle.krb_msg.specs.declared.grammar.Form.{Form}
use Rattle.krb_msg.specs.declared.grammar.Form.TheVariants as form
use Rattle.krb_msg.specs.declared.grammar.Slot.{Slot}
use Rattle.krb_msg.specs.declared.grammar.Slot.TheVariants as slot
use Rattle.krb_msg.specs.declared.grammar.table.TheConstants.{NODES}

-- the number of a row
abbrev pub IsNode : ℕ → Type 0
IsNode node = node < NODES

-- a field and those after it
abbrev pub with_slot : List Term → Slot → Fields → Fields
with_slot terms (slot.Required node) fields = Required (term_in terms node) fields
with_slot terms (slot.Optional node) fields = Optional (term_in terms node) fields

abbrev pub fields_from : List Term → List Slot → Fields
fields_from terms [] = End
fields_from terms (slot ∷ slots) = with_slot terms slot (fields_from terms slots)

abbrev pub IsSlot : Slot → Type 0
IsSlot (slot.Required node) = IsNode node
IsSlot (slot.Optional node) = IsNode node

-- a form is that of the contents of a term
abbrev pub IsFormOf : List Term → Form → Term → Type 0
IsFormOf terms (form.Integer low high widest) (Integer from to) = (low ≡ from) × (high ≡ to) × (widest ≡ max (length (integer_octets from)) (length (integer_octets to))) × (widest ≤ 5)
IsFormOf terms (form.Text most) (Text greatest) = most ≡ greatest
IsFormOf terms form.Octets Octets = Unit {0}
IsFormOf terms form.Time Time = Unit {0}
IsFormOf terms (form.Bits fewest) (Bits least) = fewest ≡ least
IsFormOf terms (form.Items node none) (SequenceOf empty term) = IsNode node × (none ≡ empty) × (term_in terms node ≡ term)
IsFormOf terms (form.Item node) (Tagged index term) = IsNode node × (term_in terms node ≡ term)
IsFormOf terms (form.Item node) (Application number term) = IsNode node × (term_in terms node ≡ term)
IsFormOf terms (form.Fields slots) (Sequence fields) = AllByRecursion IsSlot slots.now × (fields_from terms slots.now ≡ fields)
IsFormOf terms other term = ⊥

-- a row of the table is that of a term
pub record IsRowOf (terms : List Term) (row : Node) (term : Term) : Type 0 where
  pub same_tag : row.tag ≡ tag_of term
  pub same_form : IsFormOf terms row.form term

-- the rows of a table are those of terms, from an index on of the list in which the rows name terms
abbrev pub RowsAre : List Term → List Node → List Term → Type 0
RowsAre terms [] [] = Unit {0}
RowsAre terms (row ∷ rows) (term ∷ others) = IsRowOf terms row term × RowsAre terms rows others
RowsAre terms rows others = ⊥
