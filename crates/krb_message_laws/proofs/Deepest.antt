-- The path of a refusal goes on to the last item that has the refused octet: any other path to this octet is a part of it.
use Rattle.std.proofs.Common.{◌≡◌, ℕ, zero, suc, ◌+◌, ◌-◌, ◌<◌, ◌≤◌, ◌⊎◌, inl, inr, Bool, true, false, ◌&&◌, ◌==◌, nat_lt, if◌then◌else◌, List, [], ◌∷◌, ◌++◌, length, take, drop, codes, refl, sym, ◌∙◌, ap, subst, arith, append_assoc, length-take, length-drop}
use Rattle.std.proofs.lemmas.List.{append-nil, drop-drop}
use Rattle.std.proofs.lemmas.Bool.Decides.{nat_tests}
use Rattle.std.specs.Fmt.{decimal}
use Rattle.krb_der.specs.Octets.{when, begins_with}
use Rattle.krb_der.specs.declared.why.Why.{Why}
use Rattle.krb_der.specs.declared.why.Why.TheVariants as why
use Rattle.krb_msg.specs.Judgement.{Outcome, Open, Bad, Done, after, then_after, Head, Got, head, has_size, items_contents, only_contents, of_head, item_with, contents_outcome, fields_outcome, item_outcome}
use Rattle.krb_msg.specs.Term.{Term, Fields, Sequence, SequenceOf, Tagged, Application, End, Required, Optional, tag_of}
use Rattle.krb_msg.proofs.Heads.{head-positive}
use Rattle.krb_msg.proofs.Items.{item_done}
use Rattle.krb_msg.proofs.Laws.{done_within}
use Rattle.krb_msg.proofs.TermsDecided.{item-count, contents-count}
use Rattle.krb_judge.specs.FieldNames.{field_at}
use Rattle.krb_judge.specs.Paths.{field_path, element_path, after_done, within_head, first_item, elements_path, contents_path, fields_path, item_path}
use Rattle.krb_judge.specs.Located.{IsOf, BeginWithItems, LiesIn, LiesInside, LiesInField, BeginsPath}
use Rattle.krb_judge.specs.declared.locating.names.Names.{Names}
use Rattle.krb_message_laws.proofs.Lies.{gone, bad_is, why_is, after-bad, contents-within, moved, same-item}

-- ---- a path in an item begins with the path of the item
begins-same : (path : List ℕ) → BeginsPath path path
begins-same path = ([], sym (append-nil path))

begins-then : (path inner found : List ℕ) → BeginsPath path inner → BeginsPath inner found → BeginsPath path found
begins-then path inner found p q = (p.0 ++ q.0, q.1 ∙ ap (λ (x : List ℕ). x ++ q.0) p.1 ∙ append_assoc path p.0 q.0)

field-begins : (path name : List ℕ) → BeginsPath path (field_path path name)
field-begins path name = (codes "." ++ name, append_assoc path (codes ".") name)

element-begins : (path : List ℕ) (index : ℕ) → BeginsPath path (element_path path index)
element-begins path index = (codes "[" ++ decimal index ++ codes "]", simp append_assoc)

-- of the contents of an item
pub record ContentsBegin (term : Term) : Type 0 where
  pub begin : (names : Names) (path : List ℕ) (room : ℕ) (octets : List ℕ) → BeginsPath path (contents_path term names path room octets)

when-begins : (test : Bool) (path one other : List ℕ) → BeginsPath path one → BeginsPath path other → BeginsPath path (when test (λ _. one) (λ _. other))
when-begins true path one other p q = p
when-begins false path one other p q = q

head-begins : (term : Term) → ContentsBegin term → (h : Head) (names : Names) (path : List ℕ) (room : ℕ) (sole : Bool) (octets : List ℕ) → BeginsPath path (within_head h path room sole octets (contents_path term names path))
head-begins term begin (Got header contents) names path room sole octets =
    when-begins (sole && nat_lt (header + contents) room) path path (contents_path term names path contents (take contents (drop header octets))) (begins-same path) (begin.begin names path contents (take contents (drop header octets)))
head-begins term begin other names path room sole octets = begins-same path

item-begins : (term : Term) → ContentsBegin term → (names : Names) (path : List ℕ) (room : ℕ) (sole : Bool) (octets : List ℕ) → BeginsPath path (item_path term names path room sole octets)
item-begins term begin names path room sole octets =
    when-begins (begins_with (tag_of term) octets) path (within_head (head room octets) path room sole octets (contents_path term names path)) path (head-begins term begin (head room octets) names path room sole octets) (begins-same path)

done-begins : (o : Outcome) (path found : List ℕ) (next : ℕ → List ℕ) → ((count : ℕ) → BeginsPath path (next count)) → BeginsPath path found → BeginsPath path (after_done o next (λ _. found))
done-begins (Done count) path found next later here = later count
done-begins other path found next later here = here

elements-begin : (term : Term) → ContentsBegin term → (names : Names) (path : List ℕ) (bound index room : ℕ) (octets : List ℕ) → BeginsPath path (elements_path (contents_path term names) term path bound index room octets)
elements-begin term begin names path zero index room octets = begins-same path
elements-begin term begin names path (suc bound) index room octets =
    when-begins (begins_with (tag_of term) octets) path (first_item term (element_path path index) room octets (contents_path term names (element_path path index)) (elements_path (contents_path term names) term path bound (index + 1))) path
    (done-begins (item_outcome term room false octets) path (item_path term names (element_path path index) room false octets) (λ count. elements_path (contents_path term names) term path bound (index + 1) (room - count) (drop count octets))
    (λ count. elements-begin term begin names path bound (index + 1) (room - count) (drop count octets))
    (begins-then path (element_path path index) (item_path term names (element_path path index) room false octets) (element-begins path index) (item-begins term begin names (element_path path index) room false octets)))
    (begins-same path)

-- the first field and those after it
first-begins : (term : Term) → ContentsBegin term → (fields : Fields) (names : Names) (path : List ℕ) (index room : ℕ) (octets : List ℕ) → ((room : ℕ) (octets : List ℕ) → BeginsPath path (fields_path fields names path (index + 1) room octets))
    → BeginsPath path (first_item term (field_path path (field_at names index).name) room octets (contents_path term (field_at names index).inside (field_path path (field_at names index).name)) (fields_path fields names path (index + 1)))
first-begins term begin fields names path index room octets later =
    let here : List ℕ = field_path path (field_at names index).name in
    done-begins (item_outcome term room false octets) path (item_path term (field_at names index).inside here room false octets) (λ count. fields_path fields names path (index + 1) (room - count) (drop count octets)) (λ count. later (room - count) (drop count octets))
    (begins-then path here (item_path term (field_at names index).inside here room false octets) (field-begins path (field_at names index).name) (item-begins term begin (field_at names index).inside here room false octets))

mutual
  pub contents-begin : (term : Term) → ContentsBegin term
  contents-begin (Sequence fields) = record { begin = λ names path room octets. fields-begin fields names path 0 room octets }
  contents-begin (SequenceOf empty term) = record { begin = λ names path room octets. elements-begin term (contents-begin term) names path (length octets) 0 room octets }
  contents-begin (Tagged index term) = record { begin = λ names path room octets. item-begins term (contents-begin term) names path room true octets }
  contents-begin (Application number term) = record { begin = λ names path room octets. item-begins term (contents-begin term) names path room true octets }
  contents-begin other = record { begin = λ names path room octets. begins-same path }

  fields-begin : (fields : Fields) (names : Names) (path : List ℕ) (index room : ℕ) (octets : List ℕ) → BeginsPath path (fields_path fields names path index room octets)
  fields-begin End names path index room octets = begins-same path
  fields-begin (Required term fields) names path index zero octets = field-begins path (field_at names index).name
  fields-begin (Required term fields) names path index (suc room) octets =
      when-begins (begins_with (tag_of term) octets) path _ path (first-begins term (contents-begin term) fields names path index (suc room) octets (λ r o. fields-begin fields names path (index + 1) r o)) (begins-same path)
  fields-begin (Optional term fields) names path index room octets =
      when-begins (begins_with (tag_of term) octets) path _ (fields_path fields names path (index + 1) room octets) (first-begins term (contents-begin term) fields names path index room octets (λ r o. fields-begin fields names path (index + 1) r o)) (fields-begin fields names path (index + 1) room octets)

-- ---- items that are done
begins-done : (term : Term) (room : ℕ) (octets : List ℕ) (count : ℕ) → item_outcome term room false octets ≡ Done count → begins_with (tag_of term) octets ≡ true
begins-done term room octets count e =
    let d = item_done (contents_outcome term) term room false octets count e in
    let same : (tag_of term == tag_of term) ≡ true = eqb-same (tag_of term) in
    ap (begins_with (tag_of term)) d.parts ∙ same
  where
    eqb-same : (n : ℕ) → (n == n) ≡ true
    eqb-same n = grind (arith, nat_tests)

-- an octet of one that is done is one of those that were counted
of-done : (term : Term) (room : ℕ) (octets : List ℕ) (count k : ℕ) → item_outcome term room false octets ≡ Done count → IsOf (head room octets) k → k < count
of-done term room octets count k e isof =
    let d = item_done (contents_outcome term) term room false octets count e in
    let n : count ≡ d.header + d.contents = contents-count term d.header d.contents (take d.contents (drop d.header octets)) count d.sized d.inner in
    let lt : k < d.header + d.contents = subst (λ (h : Head). IsOf h k) d.found isof in
    omega (arith, n, lt)

done_is : (a b : ℕ) → Done a ≡ Done b → a ≡ b
done_is a b e = cc

-- ---- where a refusal is, if nothing is missing
then-from : (before offset : ℕ) (reason : Why) (o : Outcome) (next : ℕ → Outcome) → then_after before o next ≡ Bad offset reason → ((count : ℕ) → next count ≡ Bad offset reason → before + count ≤ offset) → before ≤ offset
then-from before offset reason Open next e later = absurd cc
then-from before offset reason (Bad k r) next e later = omega (arith, bad_is (before + k) offset r reason e)
then-from before offset reason (Done count) next e later = omega (arith, later count e)

fields-from : (fields : Fields) (before room : ℕ) (octets : List ℕ) (offset : ℕ) (reason : Why) → (gone reason → ⊥) → fields_outcome fields before room octets ≡ Bad offset reason → before ≤ offset
fields-from End before (suc room) (octet ∷ octets) offset reason some e = omega (arith, bad_is before offset why.Tag reason e)
fields-from (Required term fields) before zero octets offset reason some e = absurd (some (sym (why_is (before - 1) offset why.Missing reason e)))
fields-from (Required term fields) before (suc room) octets offset reason some e =
    then-from before offset reason (item_outcome term (suc room) false octets) _ e (λ count f. fields-from fields (before + count) (suc room - count) (drop count octets) offset reason some f)
fields-from (Optional term fields) before zero octets offset reason some e = fields-from fields before zero octets offset reason some e
fields-from (Optional term fields) before (suc room) (octet ∷ octets) offset reason some e =
    by_tag (octet == tag_of term) e (λ f. then-from before offset reason (item_outcome term (suc room) false (octet ∷ octets)) _ f (λ count g. fields-from fields (before + count) (suc room - count) (drop count (octet ∷ octets)) offset reason some g))
    (λ f. fields-from fields before (suc room) (octet ∷ octets) offset reason some f)
  where
    by_tag : (tag : Bool) → when tag (λ _. then_after before (item_outcome term (suc room) false (octet ∷ octets)) (λ count. fields_outcome fields (before + count) (suc room - count) (drop count (octet ∷ octets)))) (λ _. fields_outcome fields before (suc room) (octet ∷ octets)) ≡ Bad offset reason
        → (then_after before (item_outcome term (suc room) false (octet ∷ octets)) (λ count. fields_outcome fields (before + count) (suc room - count) (drop count (octet ∷ octets))) ≡ Bad offset reason → before ≤ offset)
        → (fields_outcome fields before (suc room) (octet ∷ octets) ≡ Bad offset reason → before ≤ offset) → before ≤ offset
    by_tag true f here later = here f
    by_tag false f here later = later f
fields-from other before another third offset reason some e = absurd cc

items-from : (one : ℕ → List ℕ → Outcome) (bound before room : ℕ) (octets : List ℕ) (offset : ℕ) (reason : Why) → items_contents one bound before room octets ≡ Bad offset reason → before ≤ offset
items-from one bound before zero octets offset reason e = absurd cc
items-from one zero before (suc room) octets offset reason e = absurd cc
items-from one (suc bound) before (suc room) octets offset reason e = then-from before offset reason (one (suc room) octets) _ e (λ count f. items-from one bound (before + count) (suc room - count) (drop count octets) offset reason f)

-- what lies in the contents comes after the octets before them
field-lies-from : (fields : Fields) (names : Names) (path : List ℕ) (index offset : ℕ) (found : List ℕ) (room : ℕ) (octets : List ℕ) (before : ℕ) → LiesInField ⊥ fields names path index offset found room octets before → before ≤ offset
field-lies-from End names path index offset found room octets before lie = absurd lie
field-lies-from (Required term fields) names path index offset found room octets before (inl none) = absurd none.0
field-lies-from (Required term fields) names path index offset found room octets before (inr (inl here)) = here.0
field-lies-from (Required term fields) names path index offset found room octets before (inr (inr later)) = omega (arith, field-lies-from fields names path (index + 1) offset found (room - later.0) (drop later.0 octets) (before + later.0) later.2)
field-lies-from (Optional term fields) names path index offset found room octets before (inl here) = here.0
field-lies-from (Optional term fields) names path index offset found room octets before (inr (inl later)) = omega (arith, field-lies-from fields names path (index + 1) offset found (room - later.0) (drop later.0 octets) (before + later.0) later.2)
field-lies-from (Optional term fields) names path index offset found room octets before (inr (inr absent)) = field-lies-from fields names path (index + 1) offset found room octets before absent.1

lies-from : (term : Term) (names : Names) (path : List ℕ) (offset : ℕ) (found : List ℕ) (room : ℕ) (octets : List ℕ) (before : ℕ) → LiesInside ⊥ term names path offset found room octets before → before ≤ offset
lies-from (Sequence fields) names path offset found room octets before lie = field-lies-from fields names path 0 offset found room octets before lie
lies-from (SequenceOf empty term) names path offset found room octets before lie = omega (arith, lie.3)
lies-from (Tagged index term) names path offset found room octets before lie = lie.0
lies-from (Application number term) names path offset found room octets before lie = lie.0
lies-from other names path offset found room octets before lie = absurd lie

-- ---- an item, by what is known of its contents
pub record ContentsDeep (term : Term) : Type 0 where
  pub deep : (names : Names) (path : List ℕ) (room : ℕ) (octets : List ℕ) (before offset : ℕ) (reason : Why) → (gone reason → ⊥) → 0 < before → has_size term room ≡ true → length octets ≤ room → before + length octets ≡ suc offset
      → contents_outcome term before room octets ≡ Bad offset reason → (other : List ℕ) → LiesInside ⊥ term names path offset other room octets before → BeginsPath other (contents_path term names path room octets)

got_is : (a b c d : ℕ) → Got a b ≡ Got c d → (a ≡ c) × (b ≡ d)
got_is a b c d e = (cc, cc)

got-deep : (term : Term) → ContentsDeep term → (names : Names) (path : List ℕ) (header contents room : ℕ) (sole : Bool) (octets : List ℕ) (offset : ℕ) (reason : Why) (loose sized : Bool) → (gone reason → ⊥) → 0 < header → (sole && nat_lt (header + contents) room) ≡ loose → has_size term contents ≡ sized → length octets ≡ suc offset
    → (if loose then Bad (header - 1) why.Loose else if sized then contents_outcome term header contents (take contents (drop header octets)) else Bad (header - 1) why.Size) ≡ Bad offset reason
    → (other : List ℕ) → LiesInside ⊥ term names path offset other contents (take contents (drop header octets)) header → BeginsPath other (when loose (λ _. path) (λ _. contents_path term names path contents (take contents (drop header octets))))
got-deep term deep names path header contents room sole octets offset reason true sized present some l s len e other lie =
    absurd (omega (arith, some, bad_is (header - 1) offset why.Loose reason e, lies-from term names path offset other contents (take contents (drop header octets)) header lie))
got-deep term deep names path header contents room sole octets offset reason false false present some l s len e other lie =
    absurd (omega (arith, some, bad_is (header - 1) offset why.Size reason e, lies-from term names path offset other contents (take contents (drop header octets)) header lie))
got-deep term deep names path header contents room sole octets offset reason false true present some l s len e other lie =
    let taken = take contents (drop header octets) in
    let fits : length taken ≤ contents = omega (arith, length-take contents (drop header octets)) in
    let w = contents-within term header contents taken offset reason some s fits e in
    let all : header + length taken ≡ suc offset = omega (arith, length-take contents (drop header octets), length-drop header octets, len, w.from, w.upto, fits) in
    deep.deep names path contents taken header offset reason present some s fits all e other lie

of_head-deep : (term : Term) → ContentsDeep term → (names : Names) (path : List ℕ) (room : ℕ) (sole : Bool) (octets : List ℕ) (offset : ℕ) (reason : Why) (h : Head) → (gone reason → ⊥) → head room octets ≡ h → length octets ≡ suc offset → of_head term h room sole octets (contents_outcome term) ≡ Bad offset reason
    → (header contents : ℕ) → h ≡ Got header contents → (other : List ℕ) → LiesInside ⊥ term names path offset other contents (take contents (drop header octets)) header → BeginsPath other (within_head h path room sole octets (contents_path term names path))
of_head-deep term deep names path room sole octets offset reason (Got h c) present is len e header contents got other lie =
    let same = got_is h c header contents got in
    let here : LiesInside ⊥ term names path offset other c (take c (drop h octets)) h =
    subst (λ (n : ℕ). LiesInside ⊥ term names path offset other c (take c (drop n octets)) n) (sym same.0) (subst (λ (n : ℕ). LiesInside ⊥ term names path offset other n (take n (drop header octets)) header) (sym same.1) lie) in
    got-deep term deep names path h c room sole octets offset reason (sole && nat_lt (h + c) room) (has_size term c) present (head-positive room octets h c is) refl refl len e other here
of_head-deep term deep names path room sole octets offset reason another present is len e header contents got other lie = absurd cc

pub item-deep : (term : Term) → ContentsBegin term → ContentsDeep term → (names : Names) (path : List ℕ) (room : ℕ) (sole : Bool) (octets : List ℕ) (offset : ℕ) (reason : Why) → (gone reason → ⊥) → length octets ≤ room → length octets ≡ suc offset → item_outcome term room sole octets ≡ Bad offset reason
    → (other : List ℕ) → LiesIn ⊥ term names path room octets offset other → BeginsPath other (item_path term names path room sole octets)
item-deep term begin deep names path room sole octets offset reason present fits len e other (isof, inl same) =
    subst (λ (p : List ℕ). BeginsPath p (item_path term names path room sole octets)) (sym same) (item-begins term begin names path room sole octets)
item-deep term begin deep names path room sole [] offset reason present fits len e other (isof, inr inside) = absurd (omega arith)
item-deep term begin deep names path room sole (octet ∷ octets) offset reason present fits len e other (isof, inr (header, contents, got, lie)) = by_tag (octet == tag_of term) (room == 1) e
  where
    after_head : (0 < header) × (header ≤ offset)
    after_head = (head-positive room (octet ∷ octets) header contents got, lies-from term names path offset other contents (take contents (drop header (octet ∷ octets))) header lie)

    by_tag : (tag one : Bool)
        → when tag (λ _. if one then Bad 0 why.Overrun else of_head term (head room (octet ∷ octets)) room sole (octet ∷ octets) (contents_outcome term)) (λ _. Bad 0 why.Tag) ≡ Bad offset reason
        → BeginsPath other (when tag (λ _. within_head (head room (octet ∷ octets)) path room sole (octet ∷ octets) (contents_path term names path)) (λ _. path))
    by_tag false one f = absurd (omega (arith, after_head.0, after_head.1, bad_is 0 offset why.Tag reason f))
    by_tag true true f = absurd (omega (arith, after_head.0, after_head.1, bad_is 0 offset why.Overrun reason f))
    by_tag true false f = of_head-deep term deep names path room sole (octet ∷ octets) offset reason (head room (octet ∷ octets)) present refl len f header contents got other lie

-- ---- the only item in a tag
only-deep : (term : Term) → ContentsBegin term → ContentsDeep term → (names : Names) (path : List ℕ) (room : ℕ) (octets : List ℕ) (before offset : ℕ) (reason : Why) → (gone reason → ⊥) → length octets ≤ room → before + length octets ≡ suc offset → only_contents before room (item_outcome term room true octets) ≡ Bad offset reason
    → (other : List ℕ) → (before ≤ offset) × LiesIn ⊥ term names path room octets (offset - before) other → BeginsPath other (item_path term names path room true octets)
only-deep term begin deep names path zero octets before offset reason present fits len e other lie = absurd (present (sym (why_is (before - 1) offset why.Missing reason e)))
only-deep term begin deep names path (suc room) octets before offset reason present fits len e other lie =
    let a = after-bad before offset reason (item_outcome term (suc room) true octets) e in
    item-deep term begin deep names path (suc room) true octets a.0 reason present fits (omega (arith, a.2, len)) a.1 other (moved ⊥ term names path other (suc room) octets (offset - before) a.0 (omega (arith, a.2)) lie.1)

-- ---- fields
-- the octet lies in the first field, or in a later one
abbrev FirstOrLater : Term → Fields → Names → (path : List ℕ) → (index offset : ℕ) → (other : List ℕ) → (room : ℕ) → (octets : List ℕ) → (before : ℕ) → Type 0
FirstOrLater term fields names path index offset other room octets before =
    ((before ≤ offset) × (begins_with (tag_of term) octets ≡ true) × LiesIn ⊥ term (field_at names index).inside (field_path path (field_at names index).name) room octets (offset - before) other)
    ⊎ ((count : ℕ) × (item_outcome term room false octets ≡ Done count) × LiesInField ⊥ fields names path (index + 1) offset other (room - count) (drop count octets) (before + count))

first-deep : (term : Term) → ContentsBegin term → ContentsDeep term → (fields : Fields) (names : Names) (path : List ℕ) (index room : ℕ) (octets : List ℕ) (before offset : ℕ) (reason : Why) → (gone reason → ⊥) → length octets ≤ room → before + length octets ≡ suc offset
    → (o : Outcome) → item_outcome term room false octets ≡ o → then_after before o (λ count. fields_outcome fields (before + count) (room - count) (drop count octets)) ≡ Bad offset reason → (other : List ℕ)
    → ((count : ℕ) → item_outcome term room false octets ≡ Done count → fields_outcome fields (before + count) (room - count) (drop count octets) ≡ Bad offset reason
    → LiesInField ⊥ fields names path (index + 1) offset other (room - count) (drop count octets) (before + count) → BeginsPath other (fields_path fields names path (index + 1) (room - count) (drop count octets)))
    → (begins : Bool) → begins_with (tag_of term) octets ≡ begins → FirstOrLater term fields names path index offset other room octets before
    → BeginsPath other (when begins (λ _. after_done o (λ count. fields_path fields names path (index + 1) (room - count) (drop count octets)) (λ _. item_path term (field_at names index).inside (field_path path (field_at names index).name) room false octets)) (λ _. path))
first-deep term begin deep fields names path index room octets before offset reason present fits len o is e other later false b (inl here) = absurd (let t : true ≡ false = sym here.1 ∙ b in cc)
first-deep term begin deep fields names path index room octets before offset reason present fits len o is e other later false b (inr after) = absurd (let t : true ≡ false = sym (begins-done term room octets after.0 after.1) ∙ b in cc)
first-deep term begin deep fields names path index room octets before offset reason present fits len Open is e other later true b lie = absurd cc
first-deep term begin deep fields names path index room octets before offset reason present fits len (Bad k r) is e other later true b (inl here) =
    let place : before + k ≡ offset = bad_is (before + k) offset r reason e in
    let inside = (field_at names index).inside in
    let field : List ℕ = field_path path (field_at names index).name in
    item-deep term begin deep inside field room false octets k reason present fits (omega (arith, place, len)) (is ∙ ap (λ (w : Why). Bad k w) (why_is (before + k) offset r reason e)) other
    (moved ⊥ term inside field other room octets (offset - before) k (omega (arith, place)) here.2)
first-deep term begin deep fields names path index room octets before offset reason present fits len (Bad k r) is e other later true b (inr after) = absurd (let t : Bad k r ≡ Done after.0 = sym is ∙ after.1 in cc)
first-deep term begin deep fields names path index room octets before offset reason present fits len (Done count) is e other later true b (inl here) =
    absurd (omega (arith, here.0, of-done term room octets count (offset - before) is here.2.0, fields-from fields (before + count) (room - count) (drop count octets) offset reason present e))
first-deep term begin deep fields names path index room octets before offset reason present fits len (Done count) is e other later true b (inr after) =
    let same : after.0 ≡ count = done_is after.0 count (sym after.1 ∙ is) in
    later count is e (subst (λ (n : ℕ). LiesInField ⊥ fields names path (index + 1) offset other (room - n) (drop n octets) (before + n)) same after.2)

-- ---- items of a SEQUENCE OF
abbrev AnElement : Term → Names → (path : List ℕ) → (index offset : ℕ) → (other : List ℕ) → (room : ℕ) → (octets : List ℕ) → (before : ℕ) → (k size : ℕ) → Type 0
AnElement term names path index offset other room octets before k size =
    BeginWithItems term k size room octets × (before + size ≤ offset) × (begins_with (tag_of term) (drop size octets) ≡ true)
    × LiesIn ⊥ term names (element_path path (index + k)) (room - size) (drop size octets) (offset - (before + size)) other

element-deep : (term : Term) → ContentsBegin term → ContentsDeep term → (names : Names) (path : List ℕ) (more index room : ℕ) (octets : List ℕ) (before offset : ℕ) (reason : Why) (next : ℕ → Outcome) → (gone reason → ⊥) → length octets ≤ room → before + length octets ≡ suc offset
    → (o : Outcome) → item_outcome term room false octets ≡ o → then_after before o next ≡ Bad offset reason → ((count : ℕ) → next count ≡ Bad offset reason → before + count ≤ offset) → (other : List ℕ)
    → ((count k size : ℕ) → item_outcome term room false octets ≡ Done count → next count ≡ Bad offset reason → AnElement term names path (index + 1) offset other (room - count) (drop count octets) (before + count) k size
    → BeginsPath other (elements_path (contents_path term names) term path more (index + 1) (room - count) (drop count octets)))
    → (begins : Bool) → begins_with (tag_of term) octets ≡ begins → (k size : ℕ) → AnElement term names path index offset other room octets before k size
    → BeginsPath other (when begins (λ _. after_done o (λ count. elements_path (contents_path term names) term path more (index + 1) (room - count) (drop count octets)) (λ _. item_path term names (element_path path index) room false octets)) (λ _. path))
element-deep term begin deep names path more index room octets before offset reason next present fits len o is e from other later false b zero size (none, le, t, lie) =
    let here : begins_with (tag_of term) octets ≡ true = subst (λ (n : ℕ). begins_with (tag_of term) (drop n octets) ≡ true) none t in
    absurd (let f : true ≡ false = sym here ∙ b in cc)
element-deep term begin deep names path more index room octets before offset reason next present fits len o is e from other later false b (suc k) size (items, le, t, lie) =
    absurd (let f : true ≡ false = sym (begins-done term room octets items.0 items.3) ∙ b in cc)
element-deep term begin deep names path more index room octets before offset reason next present fits len Open is e from other later true b k size it = absurd cc
element-deep term begin deep names path more index room octets before offset reason next present fits len (Bad n r) is e from other later true b zero size (none, le, t, lie) =
    let place : before + n ≡ offset = bad_is (before + n) offset r reason e in
    item-deep term begin deep names (element_path path index) room false octets n reason present fits (omega (arith, place, len)) (is ∙ ap (λ (w : Why). Bad n w) (why_is (before + n) offset r reason e)) other
    (same-item ⊥ term names path other (index + 0) index (room - size) room (offset - (before + size)) n (drop size octets) octets (omega arith) (omega (arith, none)) (ap (λ (m : ℕ). drop m octets) none) (omega (arith, none, place)) lie)
element-deep term begin deep names path more index room octets before offset reason next present fits len (Bad n r) is e from other later true b (suc k) size (items, le, t, lie) = absurd (let f : Bad n r ≡ Done items.0 = sym is ∙ items.3 in cc)
element-deep term begin deep names path more index room octets before offset reason next present fits len (Done count) is e from other later true b zero size (none, le, t, lie) =
    let here = same-item ⊥ term names path other (index + 0) index (room - size) room (offset - (before + size)) (offset - before) (drop size octets) octets (omega arith) (omega (arith, none)) (ap (λ (m : ℕ). drop m octets) none) (omega (arith, none)) lie in
    absurd (omega (arith, from count e, of-done term room octets count (offset - before) is here.0))
element-deep term begin deep names path more index room octets before offset reason next present fits len (Done count) is e from other later true b (suc k) size (items, le, t, lie) =
    let same : items.0 ≡ count = done_is items.0 count (sym items.3 ∙ is) in
    let others = items.1 in
    let total : size ≡ count + others = omega (arith, items.2, same) in
    let left : drop size octets ≡ drop others (drop count octets) = ap (λ (m : ℕ). drop m octets) (omega (arith, total)) ∙ sym (drop-drop others count octets) in
    later count k others is e (
      subst (λ (n : ℕ). BeginWithItems term k others (room - n) (drop n octets)) same items.4,
      omega (arith, le, total),
      subst (λ (o : List ℕ). begins_with (tag_of term) o ≡ true) left t,
      same-item ⊥ term names path other (index + suc k) ((index + 1) + k) (room - size) ((room - count) - others) (offset - (before + size)) (offset - ((before + count) + others)) (drop size octets) (drop others (drop count octets)) (omega arith) (omega (arith, total)) left (omega (arith, total)) lie,
    )

elements-deep : (term : Term) → ContentsBegin term → ContentsDeep term → (names : Names) (path : List ℕ) (bound more index room : ℕ) (octets : List ℕ) (before offset : ℕ) (reason : Why) → (gone reason → ⊥) → length octets ≤ room → length octets ≤ more → before + length octets ≡ suc offset
    → items_contents (λ left. item_with (contents_outcome term) term left false) bound before room octets ≡ Bad offset reason → (other : List ℕ) (k size : ℕ) → AnElement term names path index offset other room octets before k size → BeginsPath other (elements_path (contents_path term names) term path more index room octets)
elements-deep term begin deep names path bound more index zero octets before offset reason present fits le len e other k size it = absurd cc
elements-deep term begin deep names path zero more index (suc room) octets before offset reason present fits le len e other k size it = absurd cc
elements-deep term begin deep names path (suc bound) zero index (suc room) octets before offset reason present fits le len e other k size it =
    absurd (omega (arith, items-from (λ left. item_with (contents_outcome term) term left false) (suc bound) before (suc room) octets offset reason e, le, len))
elements-deep term begin deep names path (suc bound) (suc more) index (suc room) octets before offset reason present fits le len e other k size it =
    element-deep term begin deep names path more index (suc room) octets before offset reason (λ count. items_contents (λ left. item_with (contents_outcome term) term left false) bound (before + count) (suc room - count) (drop count octets)) present fits len (item_outcome term (suc room) false octets) refl e
    (λ count f. items-from (λ left. item_with (contents_outcome term) term left false) bound (before + count) (suc room - count) (drop count octets) offset reason f) other
    (λ count i n is next there.
    let some = (item-count term (contents-count term) (suc room) false octets count is).0 in
    let within = done_within term (suc room) false octets count fits is in
    elements-deep term begin deep names path bound more (index + 1) (suc room - count) (drop count octets) (before + count) offset reason present (omega (arith, length-drop count octets, fits, within)) (omega (arith, length-drop count octets, le, some)) (omega (arith, length-drop count octets, len, within)) next other i n there)
    (begins_with (tag_of term) octets) refl k size it

-- ---- a field that may be absent, by the tag of what is there
optional-deep : (term : Term) (fields : Fields) (names : Names) (path : List ℕ) (index room octet : ℕ) (octets : List ℕ) (before offset : ℕ) (reason : Why) (other : List ℕ) (tag : Bool) → (octet == tag_of term) ≡ tag
    → when tag (λ _. then_after before (item_outcome term (suc room) false (octet ∷ octets)) (λ count. fields_outcome fields (before + count) (suc room - count) (drop count (octet ∷ octets)))) (λ _. fields_outcome fields before (suc room) (octet ∷ octets)) ≡ Bad offset reason
    → ((octet == tag_of term) ≡ true → then_after before (item_outcome term (suc room) false (octet ∷ octets)) (λ count. fields_outcome fields (before + count) (suc room - count) (drop count (octet ∷ octets))) ≡ Bad offset reason → FirstOrLater term fields names path index offset other (suc room) (octet ∷ octets) before
    → BeginsPath other (after_done (item_outcome term (suc room) false (octet ∷ octets)) (λ count. fields_path fields names path (index + 1) (suc room - count) (drop count (octet ∷ octets))) (λ _. item_path term (field_at names index).inside (field_path path (field_at names index).name) (suc room) false (octet ∷ octets))))
    → (fields_outcome fields before (suc room) (octet ∷ octets) ≡ Bad offset reason → LiesInField ⊥ fields names path (index + 1) offset other (suc room) (octet ∷ octets) before → BeginsPath other (fields_path fields names path (index + 1) (suc room) (octet ∷ octets)))
    → LiesInField ⊥ (Optional term fields) names path index offset other (suc room) (octet ∷ octets) before
    → BeginsPath other (when tag (λ _. after_done (item_outcome term (suc room) false (octet ∷ octets)) (λ count. fields_path fields names path (index + 1) (suc room - count) (drop count (octet ∷ octets))) (λ _. item_path term (field_at names index).inside (field_path path (field_at names index).name) (suc room) false (octet ∷ octets))) (λ _. fields_path fields names path (index + 1) (suc room) (octet ∷ octets)))
optional-deep term fields names path index room octet octets before offset reason other true t e here later (inl lie) = here t e (inl lie)
optional-deep term fields names path index room octet octets before offset reason other true t e here later (inr (inl lie)) = here t e (inr lie)
optional-deep term fields names path index room octet octets before offset reason other true t e here later (inr (inr lie)) = absurd (let f : true ≡ false = sym t ∙ lie.0 in cc)
optional-deep term fields names path index room octet octets before offset reason other false t e here later (inl lie) = absurd (let f : true ≡ false = sym lie.1 ∙ t in cc)
optional-deep term fields names path index room octet octets before offset reason other false t e here later (inr (inl lie)) = absurd (let f : true ≡ false = sym (begins-done term (suc room) (octet ∷ octets) lie.0 lie.1) ∙ t in cc)
optional-deep term fields names path index room octet octets before offset reason other false t e here later (inr (inr lie)) = later e lie.1

-- ---- all terms
mutual
  pub contents-deep : (term : Term) → ContentsDeep term
  contents-deep (Sequence fields) = record { deep = λ names path room octets before offset reason present some size fits len e other lie. fields-deep fields names path 0 room octets before offset reason present fits len e other lie }
  contents-deep (SequenceOf empty term) = record {
    deep = λ names path room octets before offset reason present some size fits len e other lie.
        elements-deep term (contents-begin term) (contents-deep term) names path room (length octets) 0 room octets before offset reason present fits (omega arith) len e other lie.0 lie.1
        (lie.2, lie.3, lie.4, same-item ⊥ term names path other lie.0 (0 + lie.0) (room - lie.1) (room - lie.1) (offset - (before + lie.1)) (offset - (before + lie.1)) (drop lie.1 octets) (drop lie.1 octets) (omega arith) refl refl refl lie.5);
  }
  contents-deep (Tagged index term) = record { deep = λ names path room octets before offset reason present some size fits len e other lie. only-deep term (contents-begin term) (contents-deep term) names path room octets before offset reason present fits len e other lie }
  contents-deep (Application number term) = record { deep = λ names path room octets before offset reason present some size fits len e other lie. only-deep term (contents-begin term) (contents-deep term) names path room octets before offset reason present fits len e other lie }
  contents-deep another = record { deep = λ names path room octets before offset reason present some size fits len e other lie. absurd lie }

  fields-deep : (fields : Fields) (names : Names) (path : List ℕ) (index room : ℕ) (octets : List ℕ) (before offset : ℕ) (reason : Why) → (gone reason → ⊥) → length octets ≤ room → before + length octets ≡ suc offset → fields_outcome fields before room octets ≡ Bad offset reason
      → (other : List ℕ) → LiesInField ⊥ fields names path index offset other room octets before → BeginsPath other (fields_path fields names path index room octets)
  fields-deep End names path index room octets before offset reason present fits len e other lie = absurd lie
  fields-deep (Required term fields) names path index zero octets before offset reason present fits len e other lie = absurd (present (sym (why_is (before - 1) offset why.Missing reason e)))
  fields-deep (Required term fields) names path index (suc room) octets before offset reason present fits len e other (inl none) = absurd none.0
  fields-deep (Required term fields) names path index (suc room) octets before offset reason present fits len e other (inr lie) =
      first-deep term (contents-begin term) (contents-deep term) fields names path index (suc room) octets before offset reason present fits len (item_outcome term (suc room) false octets) refl e other
      (λ count is next there.
      let within = done_within term (suc room) false octets count fits is in
      fields-deep fields names path (index + 1) (suc room - count) (drop count octets) (before + count) offset reason present (omega (arith, length-drop count octets, fits, within)) (omega (arith, length-drop count octets, len, within)) next other there)
      (begins_with (tag_of term) octets) refl lie
  fields-deep (Optional term fields) names path index zero (octet ∷ octets) before offset reason present fits len e other lie = absurd (omega (arith, fits))
  fields-deep (Optional term fields) names path index zero [] before offset reason present fits len e other (inl here) = absurd (let f : false ≡ true = here.1 in cc)
  fields-deep (Optional term fields) names path index zero [] before offset reason present fits len e other (inr (inl after)) = absurd (let f : false ≡ true = begins-done term 0 [] after.0 after.1 in cc)
  fields-deep (Optional term fields) names path index zero [] before offset reason present fits len e other (inr (inr absent)) = fields-deep fields names path (index + 1) 0 [] before offset reason present fits len e other absent.1
  fields-deep (Optional term fields) names path index (suc room) [] before offset reason present fits len e other lie = absurd cc
  fields-deep (Optional term fields) names path index (suc room) (octet ∷ octets) before offset reason present fits len e other lie =
      optional-deep term fields names path index room octet octets before offset reason other (octet == tag_of term) refl e
      (λ t f it. first-deep term (contents-begin term) (contents-deep term) fields names path index (suc room) (octet ∷ octets) before offset reason present fits len (item_outcome term (suc room) false (octet ∷ octets)) refl f other
      (λ count is next there.
      let within = done_within term (suc room) false (octet ∷ octets) count fits is in
      fields-deep fields names path (index + 1) (suc room - count) (drop count (octet ∷ octets)) (before + count) offset reason present (omega (arith, length-drop count (octet ∷ octets), fits, within)) (omega (arith, length-drop count (octet ∷ octets), len, within)) next other there)
      true t it)
      (λ f there. fields-deep fields names path (index + 1) (suc room) (octet ∷ octets) before offset reason present fits len f other there) lie
