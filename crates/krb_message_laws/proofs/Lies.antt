-- The path of a refusal names an item that has the refused octet, and that of octets that decide nothing one that the next octet would lie in.
use Rattle.std.proofs.Common.{◌≡◌, ℕ, zero, suc, ◌+◌, ◌-◌, ◌<◌, ◌≤◌, ◌⊎◌, inl, inr, Bool, true, false, ◌&&◌, ◌==◌, nat_lt, if◌then◌else◌, List, [], ◌∷◌, length, take, drop, refl, sym, ◌∙◌, ap, subst, arith, length-take, length-drop, length-append}
use Rattle.std.proofs.lemmas.Bool.Decides.{nat_tests}
use Rattle.std.proofs.lemmas.List.{nil_from_length, drop-drop}
use Rattle.krb_der.specs.Octets.{when, begins_with}
use Rattle.krb_der.specs.declared.why.Why.{Why}
use Rattle.krb_der.specs.declared.why.Why.TheVariants as why
use Rattle.krb_msg.specs.Judgement.{Outcome, Open, Bad, Done, after, then_after, Head, Partial, Refused, Got, head, has_size, items_contents, only_contents, of_head, item_with, contents_outcome, fields_outcome, item_outcome}
use Rattle.krb_msg.specs.Term.{Term, Fields, Sequence, SequenceOf, Tagged, Application, End, Required, Optional, tag_of}
use Rattle.krb_msg.proofs.Heads.{head-positive, HeadShown-head}
use Rattle.krb_msg.proofs.Laws.{done_within}
use Rattle.krb_msg.proofs.TermsStable.{IsStable-contents, fields_outcome-empty}
use Rattle.krb_msg.proofs.TermsDecided.{item-count, contents-count, contents-decided}
use Rattle.krb_judge.specs.FieldNames.{field_at}
use Rattle.krb_judge.specs.Paths.{field_path, element_path, after_done, within_head, elements_path, contents_path, fields_path, item_path}
use Rattle.krb_judge.specs.Located.{IsOf, BeginWithItems, LiesIn, LiesInside, LiesInField}
use Rattle.krb_judge.specs.declared.locating.names.Names.{Names}

-- ---- outcomes
pub bad_is : (a b : ℕ) (r s : Why) → Bad a r ≡ Bad b s → a ≡ b
bad_is a b r s e = cc

pub why_is : (a b : ℕ) (r s : Why) → Bad a r ≡ Bad b s → r ≡ s
why_is a b r s e = cc

-- a field is missing
abbrev pub gone : Why → Type 0
gone reason = reason ≡ why.Missing

pub after-bad : (before offset : ℕ) (reason : Why) (o : Outcome) → after before o ≡ Bad offset reason → (k : ℕ) × (o ≡ Bad k reason) × (offset ≡ before + k)
after-bad before offset reason (Bad k r) e = (k, ap (λ (x : Why). Bad k x) cc, sym (bad_is (before + k) offset r reason e))
after-bad before offset reason other e = absurd cc

-- a refusal of contents is at one of their octets, or right before them
pub record Within (before offset : ℕ) (octets : List ℕ) : Type 0 where
  pub from : before ≤ suc offset
  pub upto : suc offset ≤ before + length octets

pub contents-within : (term : Term) (before room : ℕ) (octets : List ℕ) (offset : ℕ) (reason : Why) → 0 < before → has_size term room ≡ true → length octets ≤ room → contents_outcome term before room octets ≡ Bad offset reason → Within before offset octets
contents-within term before room octets offset reason some size fits e =
    let s = IsStable-contents term before room some size octets (Bad offset reason) fits e tt in
    record { from = omega (arith, s.reached); upto = omega (arith, s.reached, ap length s.parts, length-append s.prefix s.suffix) }

-- ---- where the judgement stops: at the octet that is refused, or after the last one of octets that decide nothing
-- octets that end at a number of octets from the first one of the item are refused at their last octet, or more are needed
abbrev pub Stops : Outcome → (end offset : ℕ) → Type 0
Stops Open end offset = end ≡ offset
Stops (Bad k reason) end offset = (k ≡ offset) × (end ≡ suc offset)
Stops (Done count) end offset = ⊥

-- the refusal is that something is missing
abbrev pub Missed : Outcome → Type 0
Missed Open = ⊥
Missed (Bad k reason) = gone reason
Missed (Done count) = ⊥

stops-at : (o : Outcome) (m n offset : ℕ) → m ≡ n → Stops o m offset → Stops o n offset
stops-at o m n offset e = subst (λ (k : ℕ). Stops o k offset) e

-- of contents
record StopsWithin (before room : ℕ) (octets : List ℕ) (offset : ℕ) : Type 0 where
  from : before ≤ suc offset
  upto : offset < before + room

contents-stop : (term : Term) (before room : ℕ) (octets : List ℕ) (offset : ℕ) (o : Outcome) → 0 < before → has_size term room ≡ true → length octets ≤ room → contents_outcome term before room octets ≡ o → Stops o (before + length octets) offset → StopsWithin before room octets offset
contents-stop term before room octets offset Open some size fits is stop =
    let less : length octets < room = go (length octets == room) refl in
    record { from = omega (arith, stop); upto = omega (arith, stop, less) }
  where
    go : (all : Bool) → (length octets == room) ≡ all → length octets < room
    go true e = absurd (contents-decided term before room octets size (grind (arith, nat_tests, e)) is)
    go false e = grind (arith, nat_tests, e, fits)
contents-stop term before room octets offset (Bad k r) some size fits is stop =
    let w = contents-within term before room octets k r some size fits is in
    record { from = omega (arith, w.from, stop.0); upto = omega (arith, w.upto, stop.0, fits) }
contents-stop term before room octets offset (Done count) some size fits is stop = absurd stop

-- ---- an item, by what is known of its contents
-- the contents have no path of their own, or the octet lies in what has
abbrev LiesOrIs : (Absent : Type 0) → Term → Names → List ℕ → ℕ → List ℕ → (before offset : ℕ) → List ℕ → Type 0
LiesOrIs Absent term names path room octets before offset found = (found ≡ path) ⊎ LiesInside Absent term names path offset found room octets before

-- what is shown of the contents of each item
pub record ContentsLie (term : Term) : Type 0 where
  pub lie : (names : Names) (path : List ℕ) (room : ℕ) (octets : List ℕ) (before offset : ℕ) → 0 < before → has_size term room ≡ true → length octets ≤ room → Stops (contents_outcome term before room octets) (before + length octets) offset
      → LiesOrIs (Missed (contents_outcome term before room octets)) term names path room octets before offset (contents_path term names path room octets)

-- contents of no size that is possible, of which none is present
no-contents : (term : Term) (names : Names) (path : List ℕ) (room : ℕ) → has_size term room ≡ false → contents_path term names path room [] ≡ path
no-contents (Sequence fields) names path room e = absurd cc
no-contents (Tagged index term) names path room e = absurd cc
no-contents (Application number term) names path room e = absurd cc
no-contents other names path room e = refl

-- the path in an item whose head is known
abbrev head_lies : (Absent : Type 0) → Head → Term → Names → List ℕ → ℕ → List ℕ → ℕ → List ℕ → Type 0
head_lies Absent h term names path room octets offset found =
    IsOf h offset
    × ((found ≡ path) ⊎ ((header contents : ℕ) × (h ≡ Got header contents) × LiesInside Absent term names path offset found contents (take contents (drop header octets)) header))

none-left : (octets : List ℕ) (k n : ℕ) → length octets ≤ k → take n (drop k octets) ≡ []
none-left octets k n le = nil_from_length (take n (drop k octets)) (omega (arith, length-take n (drop k octets), length-drop k octets))

-- the outcome of an item whose head is known
abbrev got_outcome : Term → (header contents : ℕ) → List ℕ → (loose sized : Bool) → Outcome
got_outcome term header contents octets loose sized =
    if loose then Bad (header - 1) why.Loose else if sized then contents_outcome term header contents (take contents (drop header octets)) else Bad (header - 1) why.Size

got-lies : (term : Term) → ContentsLie term → (names : Names) (path : List ℕ) (header contents room : ℕ) (octets : List ℕ) (offset : ℕ) (loose sized : Bool) → 0 < header → header ≤ length octets → has_size term contents ≡ sized → Stops (got_outcome term header contents octets loose sized) (length octets) offset
    → head_lies (Missed (got_outcome term header contents octets loose sized)) (Got header contents) term names path room octets offset (when loose (λ _. path) (λ _. contents_path term names path contents (take contents (drop header octets))))
got-lies term lies names path header contents room octets offset true sized some there s stop = (omega (arith, some, stop.0), inl refl)
got-lies term lies names path header contents room octets offset false false some there s stop =
    let none = none-left octets header contents (omega (arith, stop.0, stop.1, some)) in
    (omega (arith, some, stop.0), inl (ap (contents_path term names path contents) none ∙ no-contents term names path contents s))
got-lies term lies names path header contents room octets offset false true some there s stop =
    let taken = take contents (drop header octets) in
    let fits : length taken ≤ contents = omega (arith, length-take contents (drop header octets)) in
    let all : length octets ≡ header + length taken = taken_all (contents_outcome term header contents taken) refl stop in
    let here = stops-at (contents_outcome term header contents taken) (length octets) (header + length taken) offset all stop in
    let w = contents-stop term header contents taken offset (contents_outcome term header contents taken) some s fits refl here in
    by_contents (lies.lie names path contents taken header offset some s fits here) w.upto
  where
    -- no octet is after the contents
    taken_all : (o : Outcome) → contents_outcome term header contents (take contents (drop header octets)) ≡ o → Stops o (length octets) offset → length octets ≡ header + length (take contents (drop header octets))
    taken_all Open is stop =
        let w = contents-stop term header contents (take contents (drop header octets)) (header + length (take contents (drop header octets))) Open some s (omega (arith, length-take contents (drop header octets))) is refl in
        omega (arith, w.upto, length-take contents (drop header octets), length-drop header octets, there)
    taken_all (Bad k r) is stop =
        let w = contents-within term header contents (take contents (drop header octets)) k r some s (omega (arith, length-take contents (drop header octets))) is in
        omega (arith, w.upto, stop.0, stop.1, length-take contents (drop header octets), length-drop header octets, there)
    taken_all (Done count) is stop = absurd stop

    by_contents : LiesOrIs (Missed (contents_outcome term header contents (take contents (drop header octets)))) term names path contents (take contents (drop header octets)) header offset (contents_path term names path contents (take contents (drop header octets))) → offset < header + contents
        → head_lies (Missed (contents_outcome term header contents (take contents (drop header octets)))) (Got header contents) term names path room octets offset (contents_path term names path contents (take contents (drop header octets)))
    by_contents (inl is) lt = (lt, inl is)
    by_contents (inr inside) lt = (lt, inr (header, contents, refl, inside))

of_head-lies : (term : Term) → ContentsLie term → (names : Names) (path : List ℕ) (room : ℕ) (sole : Bool) (octets : List ℕ) (offset : ℕ) (h : Head) → head room octets ≡ h → Stops (of_head term h room sole octets (contents_outcome term)) (length octets) offset
    → head_lies (Missed (of_head term h room sole octets (contents_outcome term))) h term names path room octets offset (within_head h path room sole octets (contents_path term names path))
of_head-lies term lies names path room sole octets offset Partial is stop = (tt, inl refl)
of_head-lies term lies names path room sole octets offset (Refused k r) is stop = (omega (arith, stop.0), inl refl)
of_head-lies term lies names path room sole octets offset (Got header contents) is stop =
    let s = HeadShown-head room octets (Got header contents) is (λ e. cc) in
    got-lies term lies names path header contents room octets offset (sole && nat_lt (header + contents) room) (has_size term contents) (head-positive room octets header contents is) (omega (arith, s.reached, ap length s.parts, length-append s.prefix s.suffix)) refl stop

-- the first octet is of the item, if it is there
first-is : (room : ℕ) (octets : List ℕ) (h : Head) → head room octets ≡ h → IsOf h 0
first-is room octets Partial is = tt
first-is room octets (Refused k r) is = omega arith
first-is room octets (Got header contents) is = omega (arith, head-positive room octets header contents is)

item-lies : (term : Term) → ContentsLie term → (names : Names) (path : List ℕ) (room : ℕ) (sole : Bool) (octets : List ℕ) (offset : ℕ) → length octets ≤ room → Stops (item_outcome term room sole octets) (length octets) offset
    → LiesIn (Missed (item_outcome term room sole octets)) term names path room octets offset (item_path term names path room sole octets)
item-lies term lies names path room sole [] offset fits stop = (tt, inl refl)
item-lies term lies names path room sole (octet ∷ octets) offset fits stop = by_tag (octet == tag_of term) (room == 1) refl stop
  where
    at_first : (k : ℕ) → 0 ≡ k → IsOf (head room (octet ∷ octets)) k
    at_first k is = subst (λ (n : ℕ). IsOf (head room (octet ∷ octets)) n) is (first-is room (octet ∷ octets) (head room (octet ∷ octets)) refl)

    alone : (others : List ℕ) → others ≡ [] → within_head (head room (octet ∷ others)) path room sole (octet ∷ others) (contents_path term names path) ≡ path
    alone others is = subst (λ (o : List ℕ). within_head (head room (octet ∷ o)) path room sole (octet ∷ o) (contents_path term names path) ≡ path) (sym is) refl

    by_tag : (tag one : Bool) → (room == 1) ≡ one → Stops (when tag (λ _. if one then Bad 0 why.Overrun else of_head term (head room (octet ∷ octets)) room sole (octet ∷ octets) (contents_outcome term)) (λ _. Bad 0 why.Tag)) (length (octet ∷ octets)) offset
        → LiesIn (Missed (when tag (λ _. if one then Bad 0 why.Overrun else of_head term (head room (octet ∷ octets)) room sole (octet ∷ octets) (contents_outcome term)) (λ _. Bad 0 why.Tag))) term names path room (octet ∷ octets) offset
        (when tag (λ _. within_head (head room (octet ∷ octets)) path room sole (octet ∷ octets) (contents_path term names path)) (λ _. path))
    by_tag false one o stop = (at_first offset stop.0, inl refl)
    by_tag true true o stop = (at_first offset stop.0, inl (alone octets (nil_from_length octets (grind (arith, nat_tests, o, fits)))))
    by_tag true false o stop = of_head-lies term lies names path room sole (octet ∷ octets) offset (head room (octet ∷ octets)) refl stop

-- an item that begins after other octets
record StopsInside (before n offset : ℕ) (o : Outcome) : Type 0 where
  from : before ≤ offset
  inner : Stops o n (offset - before)

stops-inside : (before n offset : ℕ) (o : Outcome) → Stops (after before o) (before + n) offset → StopsInside before n offset o
stops-inside before n offset Open stop = record { from = omega (arith, stop); inner = omega (arith, stop) }
stops-inside before n offset (Bad k r) stop = record { from = omega (arith, stop.0); inner = (omega (arith, stop.0), omega (arith, stop.0, stop.1)) }
stops-inside before n offset (Done count) stop = absurd stop

-- an octet that lies in an item whose outcome is known
pub known-lies : (term : Term) → ContentsLie term → (names : Names) (path : List ℕ) (room : ℕ) (sole : Bool) (octets : List ℕ) (offset : ℕ) (o : Outcome) → item_outcome term room sole octets ≡ o → length octets ≤ room → Stops o (length octets) offset → LiesIn (Missed o) term names path room octets offset (item_path term names path room sole octets)
known-lies term lies names path room sole octets offset o is fits stop =
    subst (λ (x : Outcome). LiesIn (Missed x) term names path room octets offset (item_path term names path room sole octets)) is (item-lies term lies names path room sole octets offset fits (subst (λ (x : Outcome). Stops x (length octets) offset) (sym is) stop))

-- ---- fields, by what is shown of those after them
-- the first field is at fault, or a later one, or none that has a path
abbrev FieldLies : (Absent : Type 0) → Term → Fields → Names → (path : List ℕ) → (index offset : ℕ) → (found : List ℕ) → (room : ℕ) → (octets : List ℕ) → (before : ℕ) → Type 0
FieldLies Absent term fields names path index offset found room octets before =
    (found ≡ path)
    ⊎ ((before ≤ offset) × (begins_with (tag_of term) octets ≡ true) × LiesIn Absent term (field_at names index).inside (field_path path (field_at names index).name) room octets (offset - before) found)
    ⊎ ((count : ℕ) × (item_outcome term room false octets ≡ Done count) × LiesInField Absent fields names path (index + 1) offset found (room - count) (drop count octets) (before + count))

-- what is shown of the fields after one that is done
abbrev LaterLies : (Absent : Type 0) → Fields → Names → (path : List ℕ) → (index offset room : ℕ) → (octets : List ℕ) → (before : ℕ) → Type 0
LaterLies Absent fields names path index offset room octets before =
    (fields_path fields names path index room octets ≡ path) ⊎ LiesInField Absent fields names path index offset (fields_path fields names path index room octets) room octets before

pub moved : (Absent : Type 0) (term : Term) (names : Names) (path found : List ℕ) (room : ℕ) (octets : List ℕ) (k l : ℕ) → k ≡ l → LiesIn Absent term names path room octets k found → LiesIn Absent term names path room octets l found
moved Absent term names path found room octets k l e = subst (λ (n : ℕ). LiesIn Absent term names path room octets n found) e

-- a field that is not done
here-lies : (term : Term) → ContentsLie term → (fields : Fields) (names : Names) (path : List ℕ) (index room : ℕ) (octets : List ℕ) (before offset : ℕ) (o : Outcome) → item_outcome term room false octets ≡ o → length octets ≤ room → Stops (after before o) (before + length octets) offset → begins_with (tag_of term) octets ≡ true
    → FieldLies (Missed o) term fields names path index offset (item_path term (field_at names index).inside (field_path path (field_at names index).name) room false octets) room octets before
here-lies term lies fields names path index room octets before offset o is fits stop b =
    let s = stops-inside before (length octets) offset o stop in
    inr (inl (s.from, b, known-lies term lies (field_at names index).inside (field_path path (field_at names index).name) room false octets (offset - before) o is fits s.inner))

field-lies : (term : Term) → ContentsLie term → (fields : Fields) (names : Names) (path : List ℕ) (index room : ℕ) (octets : List ℕ) (before offset : ℕ) → length octets ≤ room
    → (o : Outcome) → item_outcome term room false octets ≡ o → Stops (then_after before o (λ count. fields_outcome fields (before + count) (room - count) (drop count octets))) (before + length octets) offset
    → ((count : ℕ) → item_outcome term room false octets ≡ Done count → Stops (fields_outcome fields (before + count) (room - count) (drop count octets)) ((before + count) + length (drop count octets)) offset
    → LaterLies (Missed (fields_outcome fields (before + count) (room - count) (drop count octets))) fields names path (index + 1) offset (room - count) (drop count octets) (before + count))
    → (begins : Bool) → begins_with (tag_of term) octets ≡ begins
    → FieldLies (Missed (then_after before o (λ count. fields_outcome fields (before + count) (room - count) (drop count octets)))) term fields names path index offset
    (when begins (λ _. after_done o (λ count. fields_path fields names path (index + 1) (room - count) (drop count octets)) (λ _. item_path term (field_at names index).inside (field_path path (field_at names index).name) room false octets)) (λ _. path))
    room octets before
field-lies term lies fields names path index room octets before offset fits o is stop later false b = inl refl
field-lies term lies fields names path index room octets before offset fits (Done count) is stop later true b =
    let there = done_within term room false octets count fits is in
    by_later (later count is (stops-at (fields_outcome fields (before + count) (room - count) (drop count octets)) (before + length octets) ((before + count) + length (drop count octets)) offset (omega (arith, length-drop count octets, there)) stop))
  where
    by_later : LaterLies (Missed (fields_outcome fields (before + count) (room - count) (drop count octets))) fields names path (index + 1) offset (room - count) (drop count octets) (before + count)
        → FieldLies (Missed (fields_outcome fields (before + count) (room - count) (drop count octets))) term fields names path index offset (fields_path fields names path (index + 1) (room - count) (drop count octets)) room octets before
    by_later (inl same) = inl same
    by_later (inr lie) = inr (inr (count, is, lie))
field-lies term lies fields names path index room octets before offset fits other is stop later true b = here-lies term lies fields names path index room octets before offset other is fits stop b

-- ---- items of a SEQUENCE OF
abbrev ElementLies : (Absent : Type 0) → Term → Names → (path : List ℕ) → (index offset : ℕ) → (found : List ℕ) → (room : ℕ) → (octets : List ℕ) → (before : ℕ) → Type 0
ElementLies Absent term names path index offset found room octets before =
    (found ≡ path)
    ⊎ ((k size : ℕ) × BeginWithItems term k size room octets × (before + size ≤ offset) × (begins_with (tag_of term) (drop size octets) ≡ true) × LiesIn Absent term names (element_path path (index + k)) (room - size) (drop size octets) (offset - (before + size)) found)

-- the same item, by other sums of the same numbers
pub same-item : (Absent : Type 0) (term : Term) (names : Names) (path found : List ℕ) (i j r s k l : ℕ) (x y : List ℕ) → i ≡ j → r ≡ s → x ≡ y → k ≡ l → LiesIn Absent term names (element_path path i) r x k found → LiesIn Absent term names (element_path path j) s y l found
same-item Absent term names path found i j r s k l x y ei er ex ek lie =
    subst (λ (n : ℕ). LiesIn Absent term names (element_path path j) s y n found) ek
    (subst (λ (o : List ℕ). LiesIn Absent term names (element_path path j) s o k found) ex
    (subst (λ (n : ℕ). LiesIn Absent term names (element_path path j) n x k found) er
    (subst (λ (n : ℕ). LiesIn Absent term names (element_path path n) r x k found) ei lie)))

elements-done : (Absent : Type 0) (term : Term) (names : Names) (path : List ℕ) (index offset count room : ℕ) (found octets : List ℕ) (before : ℕ) → item_outcome term room false octets ≡ Done count → ElementLies Absent term names path (index + 1) offset found (room - count) (drop count octets) (before + count) → ElementLies Absent term names path index offset found room octets before
elements-done Absent term names path index offset count room found octets before is (inl same) = inl same
elements-done Absent term names path index offset count room found octets before is (inr (k, size, items, le, b, lie)) =
    inr (
      suc k,
      count + size,
      (count, size, refl, is, items),
      omega (arith, le),
      subst (λ (o : List ℕ). begins_with (tag_of term) o ≡ true) (drop-drop size count octets ∙ ap (λ (n : ℕ). drop n octets) (omega arith)) b,
      same-item Absent term names path found ((index + 1) + k) (index + suc k) ((room - count) - size) (room - (count + size)) (offset - ((before + count) + size)) (offset - (before + (count + size))) (drop size (drop count octets)) (drop (count + size) octets)
          (omega arith) (omega arith) (drop-drop size count octets ∙ ap (λ (n : ℕ). drop n octets) (omega arith)) (omega arith) lie,
    )

-- an item that is not done
this-lies : (term : Term) → ContentsLie term → (names : Names) (path : List ℕ) (index room : ℕ) (octets : List ℕ) (before offset : ℕ) (o : Outcome) → item_outcome term room false octets ≡ o → length octets ≤ room → Stops (after before o) (before + length octets) offset → begins_with (tag_of term) octets ≡ true
    → ElementLies (Missed o) term names path index offset (item_path term names (element_path path index) room false octets) room octets before
this-lies term lies names path index room octets before offset o is fits stop b =
    let s = stops-inside before (length octets) offset o stop in
    let found : List ℕ = item_path term names (element_path path index) room false octets in
    inr (
      0,
      0,
      refl,
      omega (arith, s.from),
      b,
      same-item (Missed o) term names path found index (index + 0) room (room - 0) (offset - before) (offset - (before + 0)) octets (drop 0 octets) (omega arith) (omega arith) refl (omega arith)
          (known-lies term lies names (element_path path index) room false octets (offset - before) o is fits s.inner),
    )

element-lies : (term : Term) → ContentsLie term → (names : Names) (path : List ℕ) (more index room : ℕ) (octets : List ℕ) (before offset : ℕ) (next : ℕ → Outcome) → length octets ≤ room
    → (o : Outcome) → item_outcome term room false octets ≡ o → Stops (then_after before o next) (before + length octets) offset
    → ((count : ℕ) → item_outcome term room false octets ≡ Done count → Stops (next count) ((before + count) + length (drop count octets)) offset
    → ElementLies (Missed (next count)) term names path (index + 1) offset (elements_path (contents_path term names) term path more (index + 1) (room - count) (drop count octets)) (room - count) (drop count octets) (before + count))
    → (begins : Bool) → begins_with (tag_of term) octets ≡ begins
    → ElementLies (Missed (then_after before o next)) term names path index offset
    (when begins (λ _. after_done o (λ count. elements_path (contents_path term names) term path more (index + 1) (room - count) (drop count octets)) (λ _. item_path term names (element_path path index) room false octets)) (λ _. path))
    room octets before
element-lies term lies names path more index room octets before offset next fits o is stop later false b = inl refl
element-lies term lies names path more index room octets before offset next fits (Done count) is stop later true b =
    let there = done_within term room false octets count fits is in
    elements-done (Missed (next count)) term names path index offset count room (elements_path (contents_path term names) term path more (index + 1) (room - count) (drop count octets)) octets before is
    (later count is (stops-at (next count) (before + length octets) ((before + count) + length (drop count octets)) offset (omega (arith, length-drop count octets, there)) stop))
element-lies term lies names path more index room octets before offset next fits other is stop later true b = this-lies term lies names path index room octets before offset other is fits stop b

elements-lie : (term : Term) → ContentsLie term → (names : Names) (path : List ℕ) (bound more index room : ℕ) (octets : List ℕ) (before offset : ℕ) → length octets ≤ room → room ≤ bound → length octets ≤ more
    → Stops (items_contents (λ left. item_with (contents_outcome term) term left false) bound before room octets) (before + length octets) offset
    → ElementLies (Missed (items_contents (λ left. item_with (contents_outcome term) term left false) bound before room octets)) term names path index offset (elements_path (contents_path term names) term path more index room octets) room octets before
elements-lie term lies names path bound more index zero octets before offset fits enough le stop = absurd stop
elements-lie term lies names path zero more index (suc room) octets before offset fits enough le stop = absurd (omega (arith, enough))
elements-lie term lies names path (suc bound) zero index (suc room) octets before offset fits enough le stop = inl refl
elements-lie term lies names path (suc bound) (suc more) index (suc room) octets before offset fits enough le stop =
    element-lies term lies names path more index (suc room) octets before offset (λ count. items_contents (λ left. item_with (contents_outcome term) term left false) bound (before + count) (suc room - count) (drop count octets)) fits (item_outcome term (suc room) false octets) refl stop
    (λ count is next.
    let some = (item-count term (contents-count term) (suc room) false octets count is).0 in
    let there = done_within term (suc room) false octets count fits is in
    elements-lie term lies names path bound more (index + 1) (suc room - count) (drop count octets) (before + count) offset (omega (arith, length-drop count octets, fits, there)) (omega (arith, enough, some)) (omega (arith, length-drop count octets, le, some)) next)
    (begins_with (tag_of term) octets) refl

-- ---- all terms
none-begins : (octets : List ℕ) → length octets ≤ 0 → octets ≡ []
none-begins octets le = nil_from_length octets (omega (arith, le))

only-lies : (term : Term) → ContentsLie term → (names : Names) (path : List ℕ) (room : ℕ) (octets : List ℕ) (before offset : ℕ) → length octets ≤ room → Stops (only_contents before room (item_outcome term room true octets)) (before + length octets) offset
    → (item_path term names path room true octets ≡ path) ⊎ ((before ≤ offset) × LiesIn (Missed (only_contents before room (item_outcome term room true octets))) term names path room octets (offset - before) (item_path term names path room true octets))
only-lies term lies names path zero octets before offset fits stop = inl (subst (λ (o : List ℕ). item_path term names path 0 true o ≡ path) (sym (none-begins octets fits)) refl)
only-lies term lies names path (suc room) octets before offset fits stop = by_outcome (item_outcome term (suc room) true octets) refl stop
  where
    by_outcome : (o : Outcome) → item_outcome term (suc room) true octets ≡ o → Stops (after before o) (before + length octets) offset
        → (item_path term names path (suc room) true octets ≡ path) ⊎ ((before ≤ offset) × LiesIn (Missed (after before o)) term names path (suc room) octets (offset - before) (item_path term names path (suc room) true octets))
    by_outcome (Done count) is stop = absurd stop
    by_outcome other is stop = let s = stops-inside before (length octets) offset other stop in inr (s.from, known-lies term lies names path (suc room) true octets (offset - before) other is fits s.inner)

elements-of : (term : Term) → ContentsLie term → (empty : Bool) (names : Names) (path : List ℕ) (room : ℕ) (octets : List ℕ) (before offset : ℕ) → length octets ≤ room → Stops (items_contents (λ left. item_with (contents_outcome term) term left false) room before room octets) (before + length octets) offset
    → LiesOrIs (Missed (items_contents (λ left. item_with (contents_outcome term) term left false) room before room octets)) (SequenceOf empty term) names path room octets before offset (elements_path (contents_path term names) term path (length octets) 0 room octets)
elements-of term lies empty names path room octets before offset fits stop =
    by_element (Missed (items_contents (λ left. item_with (contents_outcome term) term left false) room before room octets)) (elements-lie term lies names path room (length octets) 0 room octets before offset fits (omega arith) (omega arith) stop)
  where
    by_element : (Absent : Type 0) → ElementLies Absent term names path 0 offset (elements_path (contents_path term names) term path (length octets) 0 room octets) room octets before → LiesOrIs Absent (SequenceOf empty term) names path room octets before offset (elements_path (contents_path term names) term path (length octets) 0 room octets)
    by_element Absent (inl same) = inl same
    by_element Absent (inr (k, size, items, le, b, lie)) =
        inr (k, size, items, le, b, same-item Absent term names path (elements_path (contents_path term names) term path (length octets) 0 room octets) (0 + k) k (room - size) (room - size) (offset - (before + size)) (offset - (before + size)) (drop size octets) (drop size octets) (omega arith) refl refl refl lie)

-- a field that is required, and one that may be absent
required : (Absent : Type 0) (term : Term) (fields : Fields) (names : Names) (path : List ℕ) (index offset : ℕ) (found : List ℕ) (room : ℕ) (octets : List ℕ) (before : ℕ) → FieldLies Absent term fields names path index offset found room octets before → (found ≡ path) ⊎ LiesInField Absent (Required term fields) names path index offset found room octets before
required Absent term fields names path index offset found room octets before (inl same) = inl same
required Absent term fields names path index offset found room octets before (inr lies) = inr (inr lies)

optional : (Absent : Type 0) (term : Term) (fields : Fields) (names : Names) (path : List ℕ) (index offset : ℕ) (found : List ℕ) (room : ℕ) (octets : List ℕ) (before : ℕ) → FieldLies Absent term fields names path index offset found room octets before → (found ≡ path) ⊎ LiesInField Absent (Optional term fields) names path index offset found room octets before
optional Absent term fields names path index offset found room octets before (inl same) = inl same
optional Absent term fields names path index offset found room octets before (inr (inl lie)) = inr (inl lie)
optional Absent term fields names path index offset found room octets before (inr (inr lie)) = inr (inr (inl lie))

absent : (Absent : Type 0) (term : Term) (fields : Fields) (names : Names) (path : List ℕ) (index offset : ℕ) (found : List ℕ) (room : ℕ) (octets : List ℕ) (before : ℕ) → begins_with (tag_of term) octets ≡ false → (found ≡ path) ⊎ LiesInField Absent fields names path (index + 1) offset found room octets before → (found ≡ path) ⊎ LiesInField Absent (Optional term fields) names path index offset found room octets before
absent Absent term fields names path index offset found room octets before b (inl same) = inl same
absent Absent term fields names path index offset found room octets before b (inr lie) = inr (inr (inr (b, lie)))

-- the outcome of the first of some fields and those after it, and the path
abbrev first_outcome : Term → Fields → (before room : ℕ) → List ℕ → Outcome
first_outcome term fields before room octets = then_after before (item_outcome term room false octets) (λ count. fields_outcome fields (before + count) (room - count) (drop count octets))

abbrev first_path : Term → Fields → Names → (path : List ℕ) → (index room : ℕ) → List ℕ → List ℕ
first_path term fields names path index room octets =
    after_done (item_outcome term room false octets) (λ count. fields_path fields names path (index + 1) (room - count) (drop count octets)) (λ _. item_path term (field_at names index).inside (field_path path (field_at names index).name) room false octets)

-- a field that may be absent, by the tag of what is there
optional-lies : (term : Term) (fields : Fields) (names : Names) (path : List ℕ) (index room octet : ℕ) (octets : List ℕ) (before offset : ℕ) (tag : Bool) → (octet == tag_of term) ≡ tag
    → Stops (when tag (λ _. first_outcome term fields before (suc room) (octet ∷ octets)) (λ _. fields_outcome fields before (suc room) (octet ∷ octets))) (before + length (octet ∷ octets)) offset
    → (Stops (first_outcome term fields before (suc room) (octet ∷ octets)) (before + length (octet ∷ octets)) offset → (begins : Bool) → (octet == tag_of term) ≡ begins
    → FieldLies (Missed (first_outcome term fields before (suc room) (octet ∷ octets))) term fields names path index offset (when begins (λ _. first_path term fields names path index (suc room) (octet ∷ octets)) (λ _. path)) (suc room) (octet ∷ octets) before)
    → (Stops (fields_outcome fields before (suc room) (octet ∷ octets)) (before + length (octet ∷ octets)) offset → LaterLies (Missed (fields_outcome fields before (suc room) (octet ∷ octets))) fields names path (index + 1) offset (suc room) (octet ∷ octets) before)
    → (when tag (λ _. first_path term fields names path index (suc room) (octet ∷ octets)) (λ _. fields_path fields names path (index + 1) (suc room) (octet ∷ octets)) ≡ path)
    ⊎ LiesInField (Missed (when tag (λ _. first_outcome term fields before (suc room) (octet ∷ octets)) (λ _. fields_outcome fields before (suc room) (octet ∷ octets)))) (Optional term fields) names path index offset
    (when tag (λ _. first_path term fields names path index (suc room) (octet ∷ octets)) (λ _. fields_path fields names path (index + 1) (suc room) (octet ∷ octets))) (suc room) (octet ∷ octets) before
optional-lies term fields names path index room octet octets before offset true t stop here later =
    optional (Missed (first_outcome term fields before (suc room) (octet ∷ octets))) term fields names path index offset (first_path term fields names path index (suc room) (octet ∷ octets)) (suc room) (octet ∷ octets) before (here stop true t)
optional-lies term fields names path index room octet octets before offset false t stop here later =
    absent (Missed (fields_outcome fields before (suc room) (octet ∷ octets))) term fields names path index offset (fields_path fields names path (index + 1) (suc room) (octet ∷ octets)) (suc room) (octet ∷ octets) before t (later stop)

mutual
  pub contents-lie : (term : Term) → ContentsLie term
  contents-lie (Sequence fields) = record { lie = λ names path room octets before offset some size fits stop. fields-lie fields names path 0 room octets before offset some fits stop }
  contents-lie (SequenceOf empty term) = record { lie = λ names path room octets before offset some size fits stop. elements-of term (contents-lie term) empty names path room octets before offset fits stop }
  contents-lie (Tagged index term) = record { lie = λ names path room octets before offset some size fits stop. only-lies term (contents-lie term) names path room octets before offset fits stop }
  contents-lie (Application number term) = record { lie = λ names path room octets before offset some size fits stop. only-lies term (contents-lie term) names path room octets before offset fits stop }
  contents-lie other = record { lie = λ names path room octets before offset some size fits stop. inl refl }

  fields-lie : (fields : Fields) (names : Names) (path : List ℕ) (index room : ℕ) (octets : List ℕ) (before offset : ℕ) → 0 < before → length octets ≤ room → Stops (fields_outcome fields before room octets) (before + length octets) offset → LaterLies (Missed (fields_outcome fields before room octets)) fields names path index offset room octets before
  fields-lie End names path index room octets before offset some fits stop = inl refl
  fields-lie (Required term fields) names path index zero octets before offset some fits stop = inr (inl (refl, refl, omega (arith, some, stop.0), refl))
  fields-lie (Required term fields) names path index (suc room) octets before offset some fits stop =
      required (Missed (first_outcome term fields before (suc room) octets)) term fields names path index offset (fields_path (Required term fields) names path index (suc room) octets) (suc room) octets before
      (field-lies term (contents-lie term) fields names path index (suc room) octets before offset fits (item_outcome term (suc room) false octets) refl stop
      (λ count is next.
      let there = done_within term (suc room) false octets count fits is in
      fields-lie fields names path (index + 1) (suc room - count) (drop count octets) (before + count) offset (omega (arith, some)) (omega (arith, length-drop count octets, fits, there)) next)
      (begins_with (tag_of term) octets) refl)
  fields-lie (Optional term fields) names path index zero [] before offset some fits stop =
      absent (Missed (fields_outcome fields before 0 [])) term fields names path index offset (fields_path fields names path (index + 1) 0 []) 0 [] before refl (fields-lie fields names path (index + 1) 0 [] before offset some fits stop)
  fields-lie (Optional term fields) names path index zero (octet ∷ octets) before offset some fits stop = absurd (omega (arith, fits))
  fields-lie (Optional term fields) names path index (suc room) [] before offset some fits stop =
      let empty = fields_outcome-empty fields before room in
      let later = fields-lie fields names path (index + 1) (suc room) [] before offset some fits (subst (λ (o : Outcome). Stops o (before + 0) offset) (sym empty) stop) in
      absent ⊥ term fields names path index offset (fields_path fields names path (index + 1) (suc room) []) (suc room) [] before refl
      (subst (λ (o : Outcome). LaterLies (Missed o) fields names path (index + 1) offset (suc room) [] before) empty later)
  fields-lie (Optional term fields) names path index (suc room) (octet ∷ octets) before offset some fits stop =
      optional-lies term fields names path index room octet octets before offset (octet == tag_of term) refl stop
      (λ s. field-lies term (contents-lie term) fields names path index (suc room) (octet ∷ octets) before offset fits (item_outcome term (suc room) false (octet ∷ octets)) refl s
      (λ count is next.
      let there = done_within term (suc room) false (octet ∷ octets) count fits is in
      fields-lie fields names path (index + 1) (suc room - count) (drop count (octet ∷ octets)) (before + count) offset (omega (arith, some)) (omega (arith, length-drop count (octet ∷ octets), fits, there)) next))
      (λ s. fields-lie fields names path (index + 1) (suc room) (octet ∷ octets) before offset some fits s)
