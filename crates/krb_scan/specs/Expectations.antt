-- What the code keeps of what is expected in a container.
use Rattle.std.specs.Prelude.{ℕ, zero, suc, [], ◌∷◌}
use Rattle.krb_msg.specs.Term.{Term, Fields, Sequence, End, Required, Optional}
use Rattle.krb_msg.specs.Grammar.{messages}
use Rattle.krb_msg.specs.Nodes.{term_at}
use Rattle.krb_msg.specs.Table.{IsNode}
use Rattle.krb_scan.specs.Scan as scan
use Rattle.krb_scan.specs.declared.expected.Expected.{Expected}
use Rattle.krb_scan.specs.declared.expected.Expected.TheVariants as expected

-- the fields of a SEQUENCE; another term has none
abbrev pub fields_in : Term → Fields
fields_in (Sequence fields) = fields
fields_in other = End

-- those after the first of them, of this number
abbrev pub fields_after : ℕ → Fields → Fields
fields_after zero fields = fields
fields_after (suc passed) End = End
fields_after (suc passed) (Required term fields) = fields_after passed fields
fields_after (suc passed) (Optional term fields) = fields_after passed fields

-- what is expected in an explicit tag
abbrev pub only : Term → scan.Expected
only term = scan.OneOf (term ∷ [])

abbrev pub expected_of : Expected → scan.Expected
expected_of (expected.Fields from sequence) = scan.Listed (fields_after from (fields_in (term_at sequence)))
expected_of (expected.Each node) = scan.Each (term_at node)
expected_of (expected.Only node) = only (term_at node)
expected_of (expected.Message profile) = scan.OneOf (messages profile)
expected_of expected.Nothing = scan.OneOf []

-- it names rows of the table
abbrev pub IsKnown : Expected → Type 0
IsKnown (expected.Fields from sequence) = IsNode sequence
IsKnown (expected.Each node) = IsNode node
IsKnown (expected.Only node) = IsNode node
IsKnown other = Unit {0}
