-- The values of the code as those of the scan.
use Rattle.std.specs.Prelude.{ℕ, ℤ, ◌+◌, ◌-◌, ◌≡◌, ◌<◌, ◌≤◌, ◌^◌, true, false, List, take, length}
use Rattle.krb_der.specs.Octets.{AreOctets}
use Rattle.krb_der.specs.declared.why.Why.TheVariants as why
use Rattle.krb_msg.specs.Term.{Term, Integer, Text, Octets, Time, Bits, Sequence, SequenceOf, Tagged, Application}
use Rattle.krb_msg.specs.Judgement.{has_size}
use Rattle.krb_msg.specs.Judgement as judged
use Rattle.krb_scan.specs.Scan as scan
use Rattle.krb_scan.specs.Expectations.{IsKnown, expected_of, only}
use Rattle.krb_scan.specs.State.{AreOpen, KeepsOf}
use Rattle.krb_scan.specs.declared.closing.Closed.{Closed}
use Rattle.krb_scan.specs.declared.closing.Closed.TheVariants as closed
use Rattle.krb_scan.specs.declared.head.Head.{Head}
use Rattle.krb_scan.specs.declared.head.Head.TheVariants as head
use Rattle.krb_scan.specs.declared.leaf.Leaf.{Leaf}
use Rattle.krb_scan.specs.declared.leaf.Leaf.TheVariants as leaf
use Rattle.krb_scan.specs.declared.open.Open.{Open}
use Rattle.krb_scan.specs.declared.path.Sized.{Sized}
use Rattle.krb_scan.specs.declared.path.Sized.TheVariants as sized

abbrev pub HeadIs : Head → judged.Head → Type 0
HeadIs head.Partial judged.Partial = Unit {0}
HeadIs (head.Refused why) (judged.Refused offset reason) = why ≡ reason
HeadIs (head.Got size) (judged.Got header contents) = size ≡ contents
HeadIs other got = ⊥

abbrev pub LeafIs : Leaf → judged.Outcome → Type 0
LeafIs leaf.Open judged.Open = Unit {0}
LeafIs (leaf.Bad why) (judged.Bad offset reason) = why ≡ reason
LeafIs leaf.Done (judged.Done count) = Unit {0}
LeafIs other outcome = ⊥

-- they are some containers
abbrev pub HasContainers : Open → List Open → Type 0
HasContainers inner outer = ∥ ((stack : List scan.Container) × AreOpen inner outer stack) ∥₁

-- the containers that are not complete at a place, of some
pub record StaysOpen (outer : List Open) (marks : List scan.Mark) (place : ℕ) (inner : Open) (left : ℕ) (given : scan.Answer) : Type 0 where
  pub within : left ≤ length outer
  pub stack : List scan.Container
  pub containers : AreOpen inner (take left outer) stack
  pub is : given ≡ scan.Ongoing (scan.state_of marks stack (scan.Between place))

abbrev pub ClosedIs : List Open → List scan.Mark → ℕ → Closed → scan.Answer → Type 0
ClosedIs outer marks place (closed.Stays inner left) given = StaysOpen outer marks place inner left given
ClosedIs outer marks place closed.Missing given = given ≡ scan.Refusing (place - 1) why.Missing
ClosedIs outer marks place closed.Whole given = given ≡ scan.Whole marks

-- if the length octets of an item are whole, they end with the octets scanned, and its contents end within the room
abbrev pub HeadEnds : ℕ → ℕ → ℕ → judged.Head → Type 0
HeadEnds from scanned limit (judged.Got header contents) = (from + header ≡ scanned) × (scanned + contents ≤ limit)
HeadEnds from scanned limit other = Unit {0}

-- a length with which places stay below 2147483648
abbrev pub IsShort : ℕ → Head → Type 0
IsShort scanned (head.Got size) = scanned + size < 2 ^ 31
IsShort scanned other = Unit {0}

-- if an octet completes a leaf, it ends with the octets scanned
abbrev pub LeafEnds : ℕ → ℕ → ℕ → judged.Outcome → Type 0
LeafEnds start count scanned (judged.Done done) = start + count ≡ scanned
LeafEnds start count scanned other = Unit {0}

-- a term without items
abbrev pub IsLeaf : Term → Type 0
IsLeaf (Integer low high) = Unit {0}
IsLeaf (Text greatest) = Unit {0}
IsLeaf Octets = Unit {0}
IsLeaf Time = Unit {0}
IsLeaf (Bits least) = Unit {0}
IsLeaf other = ⊥

-- a term with items, and what is expected in it first
abbrev pub BeginsWith : Term → scan.Expected → Type 0
BeginsWith (Sequence fields) expected = expected ≡ scan.Listed fields
BeginsWith (SequenceOf empty term) expected = expected ≡ scan.Each term
BeginsWith (Tagged index term) expected = expected ≡ only term
BeginsWith (Application number term) expected = expected ≡ only term
BeginsWith other expected = ⊥

-- how an item of a term goes on after a length
abbrev pub IsSized : Term → ℕ → Sized → Type 0
IsSized term count sized.Wrong = has_size term count ≡ false
IsSized term count sized.Leaf = (has_size term count ≡ true) × IsLeaf term
IsSized term count (sized.Items first) = (has_size term count ≡ true) × IsKnown first × BeginsWith term (expected_of first)

-- the contents octets present of a leaf: they are octets, more are expected, and this is kept of them
pub record LeafReads (term : Term) (count : ℕ) (value : ℤ) (unused : ℕ) (octets : List ℕ) : Type 0 where
  pub are_octets : AreOctets octets
  pub open_still : scan.leaf_outcome term count octets ≡ judged.Open
  pub keeps : KeepsOf term value unused octets
