-- What a path names: an octet lies in the item that it names.
use Rattle.std.specs.Prelude.{ℕ, zero, suc, ◌+◌, ◌-◌, ◌<◌, ◌≤◌, ◌≡◌, ◌⊎◌, true, false, List, [], ◌∷◌, ◌++◌, take, drop, Some}
use Rattle.krb_der.specs.Octets.{begins_with}
use Rattle.krb_der.specs.declared.profile.Profile.{Profile}
use Rattle.krb_msg.specs.Judgement.{Done, Head, Partial, Refused, Got, head, item_outcome}
use Rattle.krb_msg.specs.Term.{Term, Fields, Sequence, SequenceOf, Tagged, Application, End, Required, Optional, tag_of}
use Rattle.krb_msg.specs.Views.{kind_with_tag, kind_name, kind_term_in}
use Rattle.krb_msg.specs.declared.message.Kind.{Kind}
use Rattle.krb_judge.specs.FieldNames.{field_at, names_of_kind}
use Rattle.krb_judge.specs.Paths.{field_path, element_path}
use Rattle.krb_judge.specs.declared.locating.names.Names.{Names}

-- An octet, by its offset from the first octet of an item, is one of the item, whose head is not all there, is refused at this octet or at a later one, or says how many octets the item has.
abbrev pub IsOf : Head → (offset : ℕ) → Type 0
IsOf Partial offset = Unit {0}
IsOf (Refused place reason) offset = offset ≤ place
IsOf (Got header contents) offset = offset < header + contents

-- The octets begin with `count` items of a term, which have `size` octets.
abbrev pub BeginWithItems : (term : Term) (count size room : ℕ) (octets : List ℕ) → Type 0
BeginWithItems term zero size room octets = size ≡ 0
BeginWithItems term (suc count) size room octets = (first others : ℕ) × (size ≡ first + others) × (item_outcome term room false octets ≡ Done first) × BeginWithItems term count others (room - first) (drop first octets)

-- An octet is one of an item that begins with these octets and has a path, and lies in the item that `found` names: this one, or one in its contents, of which the relation says so, by their number, those that are present, and the number of octets before them.
abbrev pub LiesBy : (Inside : (room : ℕ) → (octets : List ℕ) → (before : ℕ) → Type 0) → (path : List ℕ) → (room : ℕ) → (octets : List ℕ) → (offset : ℕ) → (found : List ℕ) → Type 0
LiesBy Inside path room octets offset found =
    IsOf (head room octets) offset
    × ((found ≡ path) ⊎ ((header contents : ℕ) × (head room octets ≡ Got header contents) × Inside contents (take contents (drop header octets)) header))

abbrev mutual
  -- An octet of the contents of an item of a term lies in the item that `found` names. Where `Absent` holds, that may also be a field that is to be there and is not.
  pub LiesInside : (Absent : Type 0) → Term → Names → (path : List ℕ) → (offset : ℕ) → (found : List ℕ) → (room : ℕ) → (octets : List ℕ) → (before : ℕ) → Type 0
  LiesInside Absent (Sequence fields) names path offset found room octets before = LiesInField Absent fields names path 0 offset found room octets before
  LiesInside Absent (SequenceOf empty term) names path offset found room octets before =
      (index size : ℕ) × BeginWithItems term index size room octets × (before + size ≤ offset) × (begins_with (tag_of term) (drop size octets) ≡ true)
      × LiesBy (LiesInside Absent term names (element_path path index) (offset - (before + size)) found) (element_path path index) (room - size) (drop size octets) (offset - (before + size)) found
  LiesInside Absent (Tagged index term) names path offset found room octets before = (before ≤ offset) × LiesBy (LiesInside Absent term names path (offset - before) found) path room octets (offset - before) found
  LiesInside Absent (Application number term) names path offset found room octets before = (before ≤ offset) × LiesBy (LiesInside Absent term names path (offset - before) found) path room octets (offset - before) found
  LiesInside Absent term names path offset found room octets before = ⊥

  -- The same of fields of a SEQUENCE, from the one at an index on. An absent field has no octets: the octet is the last one before it.
  pub LiesInField : (Absent : Type 0) → Fields → Names → (path : List ℕ) → (index : ℕ) → (offset : ℕ) → (found : List ℕ) → (room : ℕ) → (octets : List ℕ) → (before : ℕ) → Type 0
  LiesInField Absent End names path index offset found room octets before = ⊥
  LiesInField Absent (Required term fields) names path index offset found room octets before =
      (Absent × (room ≡ 0) × (suc offset ≡ before) × (found ≡ field_path path (field_at names index).name))
      ⊎ ((before ≤ offset) × (begins_with (tag_of term) octets ≡ true)
      × LiesBy (LiesInside Absent term (field_at names index).inside (field_path path (field_at names index).name) (offset - before) found) (field_path path (field_at names index).name) room octets (offset - before) found)
      ⊎ ((count : ℕ) × (item_outcome term room false octets ≡ Done count) × LiesInField Absent fields names path (index + 1) offset found (room - count) (drop count octets) (before + count))
  LiesInField Absent (Optional term fields) names path index offset found room octets before =
      ((before ≤ offset) × (begins_with (tag_of term) octets ≡ true)
      × LiesBy (LiesInside Absent term (field_at names index).inside (field_path path (field_at names index).name) (offset - before) found) (field_path path (field_at names index).name) room octets (offset - before) found)
      ⊎ ((count : ℕ) × (item_outcome term room false octets ≡ Done count) × LiesInField Absent fields names path (index + 1) offset found (room - count) (drop count octets) (before + count))
      ⊎ ((begins_with (tag_of term) octets ≡ false) × LiesInField Absent fields names path (index + 1) offset found room octets before)

-- an octet of an item of a term
abbrev pub LiesIn : (Absent : Type 0) → Term → Names → (path : List ℕ) → (room : ℕ) → (octets : List ℕ) → (offset : ℕ) → (found : List ℕ) → Type 0
LiesIn Absent term names path room octets offset found = LiesBy (LiesInside Absent term names path offset found) path room octets offset found

-- An octet of a message of n octets, by a profile, which begins with these octets.
abbrev pub LiesInMessage : (Absent : Type 0) → Profile → (n : ℕ) → (octets : List ℕ) → (place : ℕ) → (path : List ℕ) → Type 0
LiesInMessage Absent profile n [] place path = ⊥
LiesInMessage Absent profile n (tag ∷ octets) place path = (kind : Kind) × (kind_with_tag tag ≡ Some kind) × LiesIn Absent (kind_term_in profile kind) (names_of_kind kind) (kind_name kind) n (tag ∷ octets) place path

-- A path begins another, which goes on from it or is the same.
abbrev pub BeginsPath : (path other : List ℕ) → Type 0
BeginsPath path other = (rest : List ℕ) × (other ≡ path ++ rest)
