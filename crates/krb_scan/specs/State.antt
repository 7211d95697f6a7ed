-- The fields of a scanner, as a state of the scan.
use Rattle.std.specs.Prelude.{ℕ, ℤ, pos, ◌+◌, ◌-◌, ◌≡◌, List, [], ◌∷◌, length, map, reverse}
use Rattle.std.specs.List.{AllByRecursion}
use Rattle.krb_der.specs.Octets.{number, integer_value}
use Rattle.krb_msg.specs.ValueOfDer.{first_or_zero}
use Rattle.krb_msg.specs.Term.{Term, Integer, Bits}
use Rattle.krb_msg.specs.Nodes.{term_at}
use Rattle.krb_msg.specs.Table.{IsNode}
use Rattle.krb_msg.specs.ValueOfDer.{first_or_zero}
use Rattle.krb_scan.specs.Scan as scan
use Rattle.krb_scan.specs.Expectations.{IsKnown, expected_of}
use Rattle.krb_scan.specs.declared.mark.Mark.{Mark}
use Rattle.krb_scan.specs.declared.open.Open.{Open}
use Rattle.krb_scan.specs.declared.path.Path.{Path}
use Rattle.krb_scan.specs.declared.tip.Tip.{Tip}
use Rattle.krb_scan.specs.declared.tip.Tip.TheVariants as tip

-- a mark names its term by the term's row in krb_msg's table
abbrev pub mark_value : Mark → scan.Mark
mark_value mark = record { term = term_at mark.node; start = mark.start; count = mark.len; value = mark.value }

pub record AreMarks (marks : List Mark) (given : List scan.Mark) : Type 0 where
  pub nodes : AllByRecursion (λ mark. IsNode mark.node) marks
  pub values : map mark_value marks ≡ given

pub record IsContainer (inner : Open) (container : scan.Container) : Type 0 where
  pub end : inner.end ≡ container.end
  pub known : IsKnown inner.expected
  pub expected : expected_of inner.expected ≡ container.expected

-- from the inner to the outer
abbrev pub AreContainers : List Open → List scan.Container → Type 0
AreContainers [] [] = Unit {0}
AreContainers (inner ∷ outer) (container ∷ containers) = IsContainer inner container × AreContainers outer containers
AreContainers [] (container ∷ containers) = ⊥
AreContainers (inner ∷ outer) [] = ⊥

-- the containers that are not complete: the innermost, and those round it, of which the outermost is first
pub record AreOpen (inner : Open) (outer : List Open) (stack : List scan.Container) : Type 0 where
  pub containers : AreContainers (inner ∷ reverse outer) stack

-- the number of an INTEGER so far, and the number of unused bits of a BIT STRING if it is read
abbrev pub KeepsOf : Term → ℤ → ℕ → List ℕ → Type 0
KeepsOf (Integer low high) value unused octets = (value ≡ integer_value octets) × (unused ≡ 0)
KeepsOf (Bits least) value unused octets = (value ≡ pos 0) × (unused ≡ first_or_zero octets)
KeepsOf term value unused octets = (value ≡ pos 0) × (unused ≡ 0)

-- a tip of the code is that of a state, after a number of octets in all
abbrev pub TipIs : ℕ → Tip → scan.Tip → Type 0
TipIs scanned tip.Between (scan.Between place) = scanned ≡ place
TipIs scanned (tip.Tagged node) (scan.InHead term from (tag ∷ [])) = IsNode node × (term_at node ≡ term) × (scanned ≡ from + 1)
TipIs scanned (tip.Long node digits seen value) (scan.InHead term from (tag ∷ first ∷ octets)) =
    IsNode node × (term_at node ≡ term) × (digits ≡ first - 0x80) × (seen ≡ length octets) × (value ≡ number octets) × (scanned ≡ from + 2 + seen)
TipIs scanned (tip.Leaf node start end value unused) (scan.InLeaf term begin count octets) =
    IsNode node × (term_at node ≡ term) × (start ≡ begin) × (end ≡ begin + count) × KeepsOf term value unused octets × (scanned ≡ begin + length octets)
TipIs scanned other there = ⊥

abbrev pub lengths_at : Tip → ℕ → ℕ
lengths_at (tip.Leaf node start end value unused) containers = containers + 1
lengths_at other containers = containers

-- the lengths that are whole whose contents are not complete; the message has no length
abbrev pub open_lengths_of : Path → ℕ
open_lengths_of path = lengths_at path.tip (length path.outer.items)
