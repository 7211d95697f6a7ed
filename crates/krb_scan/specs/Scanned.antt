-- A scanner that has scanned octets of a message.
use Rattle.std.specs.Prelude.{ℕ, ◌≡◌, ◌<◌, ◌≤◌, ◌^◌, List, [], length, take}
use Rattle.krb_der.specs.Octets.{AreOctets}
use Rattle.krb_der.specs.declared.profile.Profile.{Profile}
use Rattle.krb_der.specs.declared.verdict.Verdict.{Verdict}
use Rattle.krb_der.specs.declared.verdict.Verdict.TheVariants as verdict
use Rattle.krb_msg.specs.Grammar.{messages}
use Rattle.krb_msg.specs.Term.{Term}
use Rattle.krb_msg.specs.Shape.{greatest_depth}
use Rattle.krb_msg.specs.Judgement.{judgement, judgement_by}
use Rattle.krb_scan.specs.Scan.{Mark, Answer, Ongoing, Refusing, Whole, scan, marks_of, open_lengths}
use Rattle.krb_scan.specs.State.{AreMarks, AreOpen, TipIs, open_lengths_of}
use Rattle.krb_scan.specs.declared.mark.Mark.{Mark as Kept}
use Rattle.krb_scan.specs.declared.path.Path.{Path}

-- If an octet is refused, the marks and the open lengths are those of the octets before it.
abbrev pub marks_before : Answer → List Mark
marks_before (Ongoing state) = marks_of state
marks_before other = []

abbrev pub marks_from : Answer → (ℕ → Answer) → List Mark
marks_from (Ongoing state) before = marks_of state
marks_from (Whole marks) before = marks
marks_from (Refusing place reason) before = marks_before (before place)

-- a mark for each length of the octets that is whole, in the order of the lengths, by what they may be
abbrev pub marks_by : List Term → ℕ → List ℕ → List Mark
marks_by terms n octets = marks_from (scan terms n octets) (λ place. scan terms n (take place octets))

-- and by a profile
abbrev pub Marks : Profile → ℕ → List ℕ → List Mark
Marks profile = marks_by (messages profile)

abbrev pub lengths_before : Answer → ℕ
lengths_before (Ongoing state) = open_lengths state
lengths_before other = 0

abbrev pub lengths_from : Answer → (ℕ → Answer) → ℕ
lengths_from (Ongoing state) before = open_lengths state
lengths_from (Whole marks) before = 0
lengths_from (Refusing place reason) before = lengths_before (before place)

-- how many lengths of the octets are whole whose contents are not complete, by what they may be
abbrev pub open_count_by : List Term → ℕ → List ℕ → ℕ
open_count_by terms n octets = lengths_from (scan terms n octets) (λ place. scan terms n (take place octets))

-- and by a profile
abbrev pub open_count : Profile → ℕ → List ℕ → ℕ
open_count profile = open_count_by (messages profile)

-- while more octets are expected, a path keeps the containers that are not complete and what is partly read
abbrev pub Keeps : Path → Answer → Type 0
Keeps path (Ongoing state) = AreOpen path.inner path.outer.items state.stack × TipIs path.looked path.tip state.tip
Keeps path other = Unit {0}

-- a path and a verdict are those after octets of an item of one of these terms, which has n octets
pub record IsScanOf (terms : List Term) (path : Path) (decided : Verdict) (n : ℕ) (octets : List ℕ) : Type 0 where
  pub shallow : greatest_depth terms ≤ 13
  pub are_octets : AreOctets octets
  pub some : 0 < n
  pub short : n < 2 ^ 31
  pub fits : length octets ≤ n
  pub size : path.size ≡ n
  pub decides : decided ≡ judgement_by terms n octets
  pub looked : path.looked ≡ length octets
  pub lengths : open_lengths_of path ≡ open_count_by terms n octets
  pub keeps : Keeps path (scan terms n octets)

-- marks are those of octets that are a whole message of some profile
pub record AreWhole (marks : List Kept) (octets : List ℕ) : Type 0 where
  pub profile : Profile
  pub whole : judgement profile (length octets) octets ≡ verdict.Whole
  pub are_marks : AreMarks marks (Marks profile (length octets) octets)
