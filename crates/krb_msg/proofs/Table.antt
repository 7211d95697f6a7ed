-- Look-ups in the table of the grammar.
use Rattle.std.proofs.Common.{◌≡◌, ℕ, zero, suc, ◌<◌, ◌≤◌, List, [], ◌∷◌, length, map, get_or, refl, arith}
use Rattle.krb_der.specs.declared.profile.Profile.TheVariants as profile
use Rattle.krb_msg.specs.Grammar.{messages}
use Rattle.krb_msg.specs.Term.{Term}
use Rattle.krb_msg.specs.Nodes.{nodes, term_in, term_at}
use Rattle.krb_msg.specs.Table.{IsNode, IsRowOf, RowsAre}
use Rattle.krb_msg.specs.declared.grammar.Node.{Node}
use Rattle.krb_msg.specs.declared.grammar.table.TheConstants.{LENIENT, STRICT, NODES}

row_from : (terms : List Term) (rows : List Node) (others : List Term) (k : ℕ) (none : Node) (absent : Term) → RowsAre terms rows others → k < length rows → IsRowOf terms (get_or rows k none) (get_or others k absent)
row_from terms [] others k none absent h le = absurd (omega arith)
row_from terms (row ∷ rows) [] k none absent h le = absurd h
row_from terms (row ∷ rows) (term ∷ others) zero none absent h le = h.0
row_from terms (row ∷ rows) (term ∷ others) (suc k) none absent h le = row_from terms rows others k none absent h.1 (omega arith)

-- the row of a node, if the rows are those of the terms
pub row_of : (rows : List Node) (node : ℕ) (none : Node) → RowsAre nodes rows nodes → node < length rows → IsRowOf nodes (get_or rows node none) (term_at node)
unfolding term_in
row_of rows node none h le = row_from nodes rows nodes node none _ h le

all_there : (terms : List Term) (rows : List Node) (others : List Term) → RowsAre terms rows others → length others ≤ length rows
all_there terms [] [] h = omega arith
all_there terms (row ∷ rows) (term ∷ others) h = omega (arith, all_there terms rows others h.1)
all_there terms other another h = absurd h

-- facts of twenty rows, and then those of the rows after them
pub twenty : {A1 A2 A3 A4 A5 A6 A7 A8 A9 A10 A11 A12 A13 A14 A15 A16 A17 A18 A19 A20 B : Type 0} → A1 × (A2 × (A3 × (A4 × (A5 × (A6 × (A7 × (A8 × (A9 × (A10 × (A11 × (A12 × (A13 × (A14 × (A15 × (A16 × (A17 × (A18 × (A19 × (A20))))))))))))))))))) → B → A1 × (A2 × (A3 × (A4 × (A5 × (A6 × (A7 × (A8 × (A9 × (A10 × (A11 × (A12 × (A13 × (A14 × (A15 × (A16 × (A17 × (A18 × (A19 × (A20 × (B))))))))))))))))))))
twenty facts rest = (facts.0, (facts.1.0, (facts.1.1.0, (facts.1.1.1.0, (facts.1.1.1.1.0, (facts.1.1.1.1.1.0, (facts.1.1.1.1.1.1.0, (facts.1.1.1.1.1.1.1.0, (facts.1.1.1.1.1.1.1.1.0, (facts.1.1.1.1.1.1.1.1.1.0, (facts.1.1.1.1.1.1.1.1.1.1.0, (facts.1.1.1.1.1.1.1.1.1.1.1.0, (facts.1.1.1.1.1.1.1.1.1.1.1.1.0, (facts.1.1.1.1.1.1.1.1.1.1.1.1.1.0, (facts.1.1.1.1.1.1.1.1.1.1.1.1.1.1.0, (facts.1.1.1.1.1.1.1.1.1.1.1.1.1.1.1.0, (facts.1.1.1.1.1.1.1.1.1.1.1.1.1.1.1.1.0, (facts.1.1.1.1.1.1.1.1.1.1.1.1.1.1.1.1.1.0, (facts.1.1.1.1.1.1.1.1.1.1.1.1.1.1.1.1.1.1.0, (facts.1.1.1.1.1.1.1.1.1.1.1.1.1.1.1.1.1.1.1, rest))))))))))))))))))))

nodes_long : length nodes ≡ NODES
unfolding nodes
nodes_long = refl

pub row_there : (rows : List Node) (node : ℕ) → RowsAre nodes rows nodes → IsNode node → node < length rows
row_there rows node h k = omega (arith, all_there nodes rows nodes h, nodes_long, k)

pub lenient_terms : map term_at LENIENT ≡ messages profile.Lenient
unfolding term_in nodes
lenient_terms = refl

pub strict_terms : map term_at STRICT ≡ messages profile.Strict
unfolding term_in nodes
strict_terms = refl
