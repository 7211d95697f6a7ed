-- The steps of a path by an octet.
use Rattle.std.specs.Prelude.{ℕ, ℤ, pos, ◌+◌, ◌≡◌, ◌<◌, ◌≤◌, ◌^◌, List, [], ◌∷◌, ◌++◌, length}
use Rattle.krb_der.specs.Octets.{AreOctets}
use Rattle.krb_msg.specs.Shape.{greatest_depth}
use Rattle.krb_der.specs.declared.verdict.Verdict.{Verdict}
use Rattle.krb_der.specs.declared.verdict.Verdict.TheVariants as verdict
use Rattle.krb_scan.specs.Scan as scan
use Rattle.krb_msg.specs.Term.{Term, Integer}
use Rattle.krb_msg.specs.Table.{IsNode}
use Rattle.krb_scan.specs.State.{AreOpen, TipIs, mark_value}
use Rattle.krb_scan.specs.inner.Numbers.{extended}
use Rattle.krb_scan.specs.declared.event.Event.{Event}
use Rattle.krb_scan.specs.declared.event.Event.TheVariants as event
use Rattle.krb_scan.specs.declared.mark.Mark.{Mark}
use Rattle.krb_scan.specs.declared.path.Path.{Path}
use Rattle.krb_scan.specs.declared.tip.Tip.TheVariants as tip

-- the marks with a number for the last one
abbrev pub with_value : List Mark → ℤ → List Mark
with_value [] value = []
with_value (mark ∷ []) value = record mark { value = value } ∷ []
with_value (mark ∷ next ∷ marks) value = mark ∷ with_value (next ∷ marks) value

-- a path has a state, after a number of octets
pub record HasState (path : Path) (scanned : ℕ) (state : scan.State) : Type 0 where
  pub tip : TipIs scanned path.tip state.tip
  pub containers : AreOpen path.inner path.outer.items state.stack

-- nothing is open
pub record IsWhole (path : Path) : Type 0 where
  pub tip : path.tip ≡ tip.Between
  pub outer : path.outer.items ≡ []

-- all is as it was
pub record IsUnchanged (old new : Path) : Type 0 where
  pub tip : new.tip ≡ old.tip
  pub inner : new.inner ≡ old.inner
  pub outer : new.outer.items ≡ old.outer.items

abbrev pub Becomes : Path → Path → Verdict → scan.Answer → Type 0
Becomes old new verdict.Open (scan.Ongoing state) = HasState new (old.looked + 1) state
Becomes old new (verdict.Refused refusal) (scan.Refusing place reason) = (refusal.place ≡ old.looked) × (refusal.why ≡ reason) × IsUnchanged old new
Becomes old new verdict.Whole (scan.Whole marks) = IsWhole new
Becomes old new other answer = ⊥

-- an octet leads from a path to what an answer says
pub record IsStep (old new : Path) (decided : Verdict) (answer : scan.Answer) : Type 0 where
  pub steps : Becomes old new decided answer

-- a path that has scanned octets of an item of one of these terms, of which more are expected
pub record IsPathOf (terms : List Term) (path : Path) (octets : List ℕ) : Type 0 where
  pub shallow : greatest_depth terms ≤ 13
  pub are_octets : AreOctets octets
  pub some : 0 < path.size
  pub short : path.size < 2 ^ 31
  pub looked : path.looked ≡ length octets
  pub state : scan.State
  pub reads : scan.scan terms path.size octets ≡ scan.Ongoing state
  pub holds : HasState path path.looked state

-- a path that has scanned some octets
abbrev pub IsReached : Path → Type 0
IsReached path = ∥ ((octets : List ℕ) × (terms : List Term) × IsPathOf terms path octets) ∥₁

-- ---- marks
-- the number of an INTEGER with an octet more, after others; other items have none
abbrev pub number_with : Term → ℕ → ℤ → ℕ → ℤ
number_with (Integer low high) seen value octet = extended seen value octet
number_with term seen value octet = pos 0

-- a length of an item of a term is whole
pub record IsLengthMark (mark : Mark) (term : Term) (start count : ℕ) : Type 0 where
  pub known : IsNode mark.node
  pub is : mark_value mark ≡ scan.mark_of term start count (pos 0)

abbrev pub IsLengthOf : Event → Term → ℕ → ℕ → Type 0
IsLengthOf (event.Length mark) term start count = IsLengthMark mark term start count
IsLengthOf other term start count = ⊥

-- the last mark, which had no number, has one
pub record IsNumbered (before after : List scan.Mark) (value : ℤ) : Type 0 where
  pub marks : List scan.Mark
  pub term : Term
  pub start : ℕ
  pub count : ℕ
  pub old : before ≡ scan.with_mark marks term start count
  pub new : after ≡ marks ++ scan.mark_of term start count value ∷ []

-- what an event does to marks
abbrev pub Changes : Event → List scan.Mark → List scan.Mark → Type 0
Changes event.None before after = after ≡ before
Changes (event.Length mark) before after = IsNode mark.node × (after ≡ before ++ mark_value mark ∷ [])
Changes (event.Number value) before after = IsNumbered before after value

-- what it does to them by an octet that is not refused
abbrev pub ChangesTo : Event → List scan.Mark → scan.Answer → Type 0
ChangesTo event before (scan.Ongoing state) = Changes event before (scan.marks_of state)
ChangesTo event before (scan.Whole marks) = Changes event before marks
ChangesTo event before (scan.Refusing place reason) = Unit {0}

abbrev pub IsLength : Event → Type 0
IsLength (event.Length mark) = Unit {0}
IsLength other = ⊥
