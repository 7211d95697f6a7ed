-- The scan of the DER of a value is whole, and its marks are those of the value.
use Rattle.std.proofs.Common.{◌≡◌, ℕ, zero, suc, ℤ, pos, ◌+◌, ◌-◌, ◌^◌, ◌<◌, ◌≤◌, inl, inr, Bool, true, false, not, ◌&&◌, eqb, nat_lt, List, [], ◌∷◌, ◌++◌, length, take, drop, Option, Some, None, refl, sym, ◌∙◌, ap, arith, append-nil, append_assoc, length-append, eq-eqb, ne_eqb, le-ltb, drop_at, one-add, subst}
use Rattle.std.proofs.lemmas.Bool.{and_parts, not-true, true≢false, false_from_ne_true, eqb-true}
use Rattle.std.proofs.lemmas.List.{take_at}
use Rattle.std.specs.List.{flat_map, AllByRecursion}
use Rattle.krb_der.specs.Octets.{when, integer_octets, length_octets}
use Rattle.krb_der.specs.declared.why.Why.TheVariants as why
use Rattle.krb_der.specs.inner.Numbers.{integer_value-integer_octets}
use Rattle.krb_der.specs.inner.Items.{item-append, length-length_octets}
use Rattle.krb_msg.specs.Term.{Term, Fields, Integer, Bits, Sequence, SequenceOf, Tagged, Application, End, Required, Optional, tag_of, Value, Values, der, der_of_fields, octets_of_option, Fits, AllFit, IfPresent}
use Rattle.krb_msg.specs.Judgement.{Done, Got, head, has_size, contents_outcome}
use Rattle.krb_msg.specs.Shape.{may_begin, is_unambiguous, are_unambiguous}
use Rattle.krb_msg.specs.inner.Values.{contents, der_is, der-append, der_begins, may_begin_from_der}
use Rattle.krb_msg.proofs.Accepts.{length-der, contents-accepts, item-accepted}
use Rattle.krb_msg.proofs.Heads.{head-length_octets}
use Rattle.krb_msg.proofs.Items.{ItemDone, item_done}
use Rattle.krb_msg.proofs.LeavesDone.{done_from_after}
use Rattle.krb_msg.proofs.Grammars.{unambiguous_message}
use Rattle.krb_msg.proofs.Judged.{messages_are_grammar, message_der_in}
use Rattle.krb_msg.proofs.KindLaws.{kind_is_one_of}
use Rattle.krb_msg.proofs.Messages.{IsChosen, chosen_one_of}
use Rattle.krb_msg.specs.Grammar.{messages}
use Rattle.krb_msg.specs.Views.{kind_of, kind_term_in, message_value_in, message_der}
use Rattle.krb_scan.specs.Scan.{Mark, Expected, Listed, Each, OneOf, Container, PartScan, Fault, Past, Whole, scan_then, limit, sole_in, container_of, mark_of, with_mark, leaf_outcome, leaf_value, of_leaf, scan_leaf, scan_after_head, scan_head, begun, scan_required, scan_optional, scan_end, scan_only, scan_each, scan_contents, scan_fields, scan_one_of, scan_message, answer, scan}
use Rattle.krb_scan.specs.ValueMarks.{start_of, list_marks, option_marks, value_marks, fields_marks, message_marks}
use Rattle.krb_scan.specs.Scanned as at
use Rattle.krb_scan.specs.Laws.{WholeHasMarksOfValue, WholeHasMarksOfMessage}
use Rattle.krb_scan.proofs.Progress.{Next}

-- ---- an item's own mark, and those of the items in it
abbrev pub number_in : (term : Term) → Value term → ℤ
number_in (Integer low high) value = value
number_in other value = pos 0

abbrev pub inner_marks : (term : Term) → ℕ → Value term → List Mark
inner_marks (Sequence fields) start values = fields_marks fields start values
inner_marks (SequenceOf empty term) start values = list_marks (der term) (value_marks term) start values
inner_marks (Tagged index term) start value = value_marks term start value
inner_marks (Application number term) start value = value_marks term start value
inner_marks other start another = []

-- of an item whose contents begin at a place
abbrev pub marks_from : (term : Term) → ℕ → Value term → List Mark
marks_from term start value = mark_of term start (length (contents term value)) (number_in term value) ∷ inner_marks term start value

pub value_marks_is : (term : Term) (place : ℕ) (value : Value term) → value_marks term place value ≡ marks_from term (start_of place (length (contents term value))) value
value_marks_is (Integer low high) place value = refl
value_marks_is other place another = refl

-- ---- contents, and items
abbrev pub ReadsContents : Term → Type 0
ReadsContents term =
    (value : Value term) → Fits term value → length (contents term value) < 2 ^ 32 → (start : ℕ) (stack : List Container) (marks : List Mark) (rest : List ℕ) →
    scan_contents term start (length (contents term value)) stack marks (contents term value ++ rest) ≡ Past (marks ++ marks_from term start value) (start + length (contents term value)) rest

leaf_past : (term : Term) (octets : List ℕ) (count : ℕ) → leaf_outcome term (length octets) octets ≡ Done count → (start : ℕ) (stack : List Container) (marks : List Mark) (rest : List ℕ) →
    scan_leaf term start (length octets) stack marks (octets ++ rest) ≡ Past (marks ++ mark_of term start (length octets) (leaf_value term octets) ∷ []) (start + length octets) rest
leaf_past term octets count done start stack marks rest =
    ap (λ part. of_leaf (leaf_outcome term (length octets) part) term start (length octets) stack marks (octets ++ rest)) prefix
    ∙ ap (λ outcome. of_leaf outcome term start (length octets) stack marks (octets ++ rest)) done
    ∙ ap (λ part. Past (marks ++ mark_of term start (length octets) (leaf_value term part) ∷ []) (start + length octets) (drop (length octets) (octets ++ rest))) prefix
    ∙ ap (Past (marks ++ mark_of term start (length octets) (leaf_value term octets) ∷ []) (start + length octets)) (drop_at octets rest (length octets) refl)
  where
    prefix : take (length octets) (octets ++ rest) ≡ octets
    prefix = take_at octets rest (length octets) refl

-- an item in the room that is left
abbrev pub ReadsItem : Term → Type 0
ReadsItem term =
    (value : Value term) → Fits term value → length (der term value) < 2 ^ 32 → (stack : List Container) (marks : List Mark) (place : ℕ) (rest : List ℕ) →
    length (der term value) ≤ limit stack - place → (sole_in stack ≡ true → length (der term value) ≡ limit stack - place) →
    begun (scan_contents term) term stack marks place (der term value ++ rest) ≡ Past (marks ++ value_marks term place value) (place + length (der term value)) rest

tight : (sole : Bool) (count room : ℕ) → (sole ≡ true → count ≡ room) → (sole && nat_lt count room) ≡ false
tight false count room f = refl
tight true count room f = le-ltb count room (omega (arith, f refl))

headed : (term : Term) (inner : List ℕ) (stack : List Container) (marks : List Mark) (place : ℕ) (rest : List ℕ) → length inner < 2 ^ 32 → 1 + length (length_octets (length inner)) + length inner ≤ limit stack - place →
    (sole_in stack ≡ true → 1 + length (length_octets (length inner)) + length inner ≡ limit stack - place) → has_size term (length inner) ≡ true →
    begun (scan_contents term) term stack marks place (tag_of term ∷ (length_octets (length inner) ++ (inner ++ rest))) ≡ scan_contents term (start_of place (length inner)) (length inner) stack marks (inner ++ rest)
headed term inner stack marks place rest small fits fills sized =
    ap (λ c. when c (λ _. Fault place why.Overrun) (λ _. scan_head (scan_contents term) term stack marks place octets)) (ne_eqb room 1 (λ e. omega (arith, fits, length-length_octets n small)))
    ∙ ap (λ got. scan_after_head got (scan_contents term) term stack marks place octets) (head-length_octets room (tag_of term) n (inner ++ rest) small fits)
    ∙ ap (λ c. when c (λ _. Fault (place + header - 1) why.Loose) (λ _. when (has_size term n) (λ _. scan_contents term (place + header) n stack marks (drop header octets)) (λ _. Fault (place + header - 1) why.Size))) (tight (sole_in stack) (header + n) room fills)
    ∙ ap (λ c. when c (λ _. scan_contents term (place + header) n stack marks (drop header octets)) (λ _. Fault (place + header - 1) why.Size)) sized
    ∙ ap (scan_contents term (place + header) n stack marks) dropped
  where
    n : ℕ
    n = length inner

    header : ℕ
    header = 1 + length (length_octets n)

    room : ℕ
    room = limit stack - place

    octets : List ℕ
    octets = tag_of term ∷ (length_octets n ++ (inner ++ rest))

    dropped : drop header octets ≡ inner ++ rest
    dropped = rw (one-add (length (length_octets n))) (drop_at (length_octets n) (inner ++ rest) (length (length_octets n)) refl)

-- contents that fit have a length that the term has
sized_contents : (term : Term) → is_unambiguous term ≡ true → (value : Value term) → Fits term value → length (der term value) < 2 ^ 32 → has_size term (length (contents term value)) ≡ true
sized_contents term u value f small =
    let done : ItemDone (contents_outcome term) term room true (der term value ++ []) room = item_done (contents_outcome term) term room true (der term value ++ []) room (item-accepted term u value f small room true [] (omega arith) (λ s. refl)) in
    let same : Got done.header done.contents ≡ Got (1 + length (length_octets n)) n = sym done.found ∙ found in
    let sizes : done.contents ≡ n = cc in
    ap (has_size term) (sym sizes) ∙ done.sized
  where
    n : ℕ
    n = length (contents term value)

    room : ℕ
    room = length (der term value)

    found : head room (der term value ++ []) ≡ Got (1 + length (length_octets n)) n
    found =
        ap (head room) (ap (λ octets. octets ++ []) (der_is term value) ∙ item-append (tag_of term) (contents term value) [])
        ∙ head-length_octets room (tag_of term) n (contents term value ++ []) (omega (arith, length-der term value)) (omega (arith, length-der term value))

reads_item : (term : Term) → is_unambiguous term ≡ true → ReadsContents term → ReadsItem term
reads_item term u reads value f small stack marks place rest fits fills =
    ap (begun (scan_contents term) term stack marks place) (ap (λ octets. octets ++ rest) (der_is term value) ∙ item-append (tag_of term) inner rest)
    ∙ headed term inner stack marks place rest (omega (arith, l)) (omega (arith, l, fits)) (λ s. sym l ∙ fills s) (sized_contents term u value f small)
    ∙ reads value f (omega (arith, l)) (start_of place (length inner)) stack marks rest
    ∙ ap (λ end. Past (marks ++ marks_from term (start_of place (length inner)) value) end rest) (omega (arith, l))
    ∙ ap (λ own. Past (marks ++ own) (place + length (der term value)) rest) (sym (value_marks_is term place value))
  where
    inner : List ℕ
    inner = contents term value

    l : length (der term value) ≡ 1 + length (length_octets (length inner)) + length inner
    l = length-der term value

-- ---- what may come next
required_picks : (one : List Container → List Mark → ℕ → List ℕ → PartScan) (term : Term) (expected left : Expected) (end : ℕ) (outer : List Container) (marks : List Mark) (place room : ℕ) (octets tail : List ℕ) (next : Next) → 0 < room → octets ≡ tag_of term ∷ tail →
    scan_required one term expected left end outer marks place room octets next ≡ scan_then (one (container_of end left ∷ outer) marks place octets) next
required_picks one term expected left end outer marks place zero octets tail next p e = absurd (omega arith)
required_picks one term expected left end outer marks place (suc room) octets tail next p e =
    rw e (ap (λ c. when c (λ _. scan_then (one (container_of end left ∷ outer) marks place (tag_of term ∷ tail)) next) (λ _. Fault place why.Tag)) (eq-eqb (tag_of term) (tag_of term) refl))

optional_picks : (one : List Container → List Mark → ℕ → List ℕ → PartScan) (term : Term) (expected left : Expected) (end : ℕ) (outer : List Container) (marks : List Mark) (place room : ℕ) (octets tail : List ℕ) (next : Next) (other : Unit {0} → PartScan) → 0 < room → octets ≡ tag_of term ∷ tail →
    scan_optional one term expected left end outer marks place room octets next other ≡ scan_then (one (container_of end left ∷ outer) marks place octets) next
optional_picks one term expected left end outer marks place zero octets tail next other p e = absurd (omega arith)
optional_picks one term expected left end outer marks place (suc room) octets tail next other p e =
    rw e (ap (λ c. when c (λ _. scan_then (one (container_of end left ∷ outer) marks place (tag_of term ∷ tail)) next) other) (eq-eqb (tag_of term) (tag_of term) refl))

optional_skips : (one : List Container → List Mark → ℕ → List ℕ → PartScan) (term : Term) (expected left : Expected) (end : ℕ) (outer : List Container) (marks : List Mark) (place room : ℕ) (prefix rest : List ℕ) (next : Next) (other : Unit {0} → PartScan) → room ≡ length prefix →
    ((octet : ℕ) (tail : List ℕ) → prefix ≡ octet ∷ tail → octet ≡ tag_of term → ⊥) → scan_optional one term expected left end outer marks place room (prefix ++ rest) next other ≡ other tt
optional_skips one term expected left end outer marks place zero prefix rest next other l apart = refl
optional_skips one term expected left end outer marks place (suc room) [] rest next other l apart = absurd (omega arith)
optional_skips one term expected left end outer marks place (suc room) (octet ∷ prefix) rest next other l apart =
    ap (λ c. when c (λ _. scan_then (one (container_of end left ∷ outer) marks place (octet ∷ (prefix ++ rest))) next) other)
    (false_from_ne_true (eqb octet (tag_of term)) (λ t. apart octet prefix refl (eqb-true octet (tag_of term) t)))

ended_past : (expected : Expected) (end : ℕ) (outer : List Container) (marks : List Mark) (place room : ℕ) (rest : List ℕ) → room ≡ 0 → scan_end expected end outer marks place room rest ≡ Past marks place rest
ended_past expected end outer marks place zero rest e = refl
ended_past expected end outer marks place (suc room) rest e = absurd (omega arith)

-- ---- a sole item
only_past : (term : Term) → ReadsItem term → (value : Value term) → Fits term value → length (der term value) < 2 ^ 32 → (start : ℕ) (outer : List Container) (marks : List Mark) (rest : List ℕ) →
    scan_only (begun (scan_contents term) term) term (start + length (der term value)) outer marks start (length (der term value)) (der term value ++ rest) ≡ Past (marks ++ value_marks term start value) (start + length (der term value)) rest
only_past term reads value f small start outer marks rest =
    required_picks (begun (scan_contents term) term) term (OneOf (term ∷ [])) (OneOf []) end outer marks start (length (der term value)) (der term value ++ rest) _ next (der_begins term value) (der-append term value rest)
    ∙ ap (λ seen. scan_then seen next) (reads value f small (container_of end (OneOf []) ∷ outer) marks start rest (omega arith) (λ s. omega arith))
    ∙ ended_past (OneOf []) end outer (marks ++ value_marks term start value) end (end - end) rest (omega arith)
  where
    end : ℕ
    end = start + length (der term value)

    next : Next
    next = λ marks_then there rest. scan_end (OneOf []) end outer marks_then there (end - there) rest

-- ---- items one after another
each_step : (one : List Container → List Mark → ℕ → List ℕ → PartScan) (term : Term) (bound end : ℕ) (outer : List Container) (marks : List Mark) (place room : ℕ) (octets : List ℕ) → 0 < room →
    scan_each one term (suc bound) end outer marks place room octets ≡ scan_required one term (Each term) (Each term) end outer marks place room octets (λ marks_then there rest. scan_each one term bound end outer marks_then there (end - there) rest)
each_step one term bound end outer marks place zero octets p = absurd (omega arith)
each_step one term bound end outer marks place (suc room) octets p = refl

each_past : (term : Term) → ReadsItem term → (values : List (Value term)) → AllByRecursion (Fits term) values → length (flat_map (der term) values) < 2 ^ 32 →
    (bound end : ℕ) (outer : List Container) (marks : List Mark) (place room : ℕ) (rest : List ℕ) → room ≡ length (flat_map (der term) values) → end ≡ place + room → room ≤ bound →
    scan_each (begun (scan_contents term) term) term bound end outer marks place room (flat_map (der term) values ++ rest) ≡ Past (marks ++ list_marks (der term) (value_marks term) place values) end rest
each_past term reads [] f small zero end outer marks place zero rest r e b = ap (λ all. Past all place rest) (sym (append-nil marks)) ∙ ap (λ there. Past (marks ++ []) there rest) (omega arith)
each_past term reads [] f small (suc bound) end outer marks place zero rest r e b = ap (λ all. Past all place rest) (sym (append-nil marks)) ∙ ap (λ there. Past (marks ++ []) there rest) (omega arith)
each_past term reads [] f small bound end outer marks place (suc room) rest r e b = absurd (omega arith)
each_past term reads (value ∷ values) f small zero end outer marks place room rest r e b = absurd (omega (arith, der_begins term value, length-append (der term value) (flat_map (der term) values)))
each_past term reads (value ∷ values) f small (suc bound) end outer marks place room rest r e b =
    each_step (begun (scan_contents term) term) term bound end outer marks place room _ (omega (arith, p, l))
    ∙ ap (λ octets. scan_required (begun (scan_contents term) term) term (Each term) (Each term) end outer marks place room octets next) (append_assoc (der term value) after rest)
    ∙ required_picks (begun (scan_contents term) term) term (Each term) (Each term) end outer marks place room (der term value ++ (after ++ rest)) _ next (omega (arith, p, l)) (der-append term value (after ++ rest))
    ∙ ap (λ seen. scan_then seen next) (reads value f.0 (omega (arith, l)) (container_of end (Each term) ∷ outer) marks place (after ++ rest) (omega (arith, l)) (λ s. absurd cc))
    ∙ each_past term reads values f.1 (omega (arith, l)) bound end outer (marks ++ value_marks term place value) there (end - there) rest (omega (arith, l)) (omega (arith, l)) (omega (arith, p, l))
    ∙ ap (λ all. Past all end rest) (append_assoc marks (value_marks term place value) (list_marks (der term) (value_marks term) there values))
  where
    after : List ℕ
    after = flat_map (der term) values

    there : ℕ
    there = place + length (der term value)

    next : Next
    next = λ marks_then there rest. scan_each (begun (scan_contents term) term) term bound end outer marks_then there (end - there) rest

    l : length (der term value ++ after) ≡ length (der term value) + length after
    l = length-append (der term value) after

    p : 0 < length (der term value)
    p = der_begins term value

-- ---- fields
abbrev pub ReadsFields : Fields → Type 0
ReadsFields fields =
    (values : Values fields) → AllFit fields values → length (der_of_fields fields values) < 2 ^ 32 → (end : ℕ) (outer : List Container) (marks : List Mark) (place room : ℕ) (rest : List ℕ) → room ≡ length (der_of_fields fields values) → end ≡ place + room →
    scan_fields fields end outer marks place room (der_of_fields fields values ++ rest) ≡ Past (marks ++ fields_marks fields place values) end rest

-- a field that is present, and the fields after it
field_past : (term : Term) (fields : Fields) → ReadsItem term → ReadsFields fields → (value : Value term) (values : Values fields) → Fits term value → AllFit fields values → length (der term value ++ der_of_fields fields values) < 2 ^ 32 →
    (end : ℕ) (outer : List Container) (marks : List Mark) (place : ℕ) (rest : List ℕ) → end ≡ place + length (der term value ++ der_of_fields fields values) →
    scan_then (begun (scan_contents term) term (container_of end (Listed fields) ∷ outer) marks place (der term value ++ (der_of_fields fields values ++ rest))) (λ marks_then there rest. scan_fields fields end outer marks_then there (end - there) rest)
    ≡ Past (marks ++ (value_marks term place value ++ fields_marks fields (place + length (der term value)) values)) end rest
field_past term fields reads reads_fields value values f fs small end outer marks place rest e =
    ap (λ seen. scan_then seen next) (reads value f (omega (arith, l)) (container_of end (Listed fields) ∷ outer) marks place (der_of_fields fields values ++ rest) (omega (arith, l)) (λ s. absurd cc))
    ∙ reads_fields values fs (omega (arith, l)) end outer (marks ++ value_marks term place value) there (end - there) rest (omega (arith, l)) (omega (arith, l))
    ∙ ap (λ all. Past all end rest) (append_assoc marks (value_marks term place value) (fields_marks fields there values))
  where
    there : ℕ
    there = place + length (der term value)

    next : Next
    next = λ marks_then there rest. scan_fields fields end outer marks_then there (end - there) rest

    l : length (der term value ++ der_of_fields fields values) ≡ length (der term value) + length (der_of_fields fields values)
    l = length-append (der term value) (der_of_fields fields values)

required_past : (term : Term) (fields : Fields) → ReadsItem term → ReadsFields fields → ReadsFields (Required term fields)
required_past term fields reads reads_fields values f small end outer marks place room rest r e =
    ap (λ octets. scan_fields (Required term fields) end outer marks place room octets) (append_assoc (der term values.0) (der_of_fields fields values.1) rest)
    ∙ required_picks (begun (scan_contents term) term) term (Listed (Required term fields)) (Listed fields) end outer marks place room _ _ _ (omega (arith, der_begins term values.0, length-append (der term values.0) (der_of_fields fields values.1))) (der-append term values.0 (der_of_fields fields values.1 ++ rest))
    ∙ field_past term fields reads reads_fields values.0 values.1 f.0 f.1 small end outer marks place rest (omega arith)

option_past : (term : Term) (fields : Fields) → ReadsItem term → ReadsFields fields → not (may_begin (tag_of term) fields) ≡ true → (value : Option (Value term)) (values : Values fields) → IfPresent (Fits term) value → AllFit fields values →
    length (octets_of_option (der term) value ++ der_of_fields fields values) < 2 ^ 32 → (end : ℕ) (outer : List Container) (marks : List Mark) (place room : ℕ) (rest : List ℕ) → room ≡ length (octets_of_option (der term) value ++ der_of_fields fields values) → end ≡ place + room →
    scan_fields (Optional term fields) end outer marks place room ((octets_of_option (der term) value ++ der_of_fields fields values) ++ rest)
    ≡ Past (marks ++ (option_marks (value_marks term) place value ++ fields_marks fields (place + length (octets_of_option (der term) value)) values)) end rest
option_past term fields reads reads_fields u None values f fs small end outer marks place room rest r e =
    optional_skips (begun (scan_contents term) term) term (Listed (Optional term fields)) (Listed fields) end outer marks place room (der_of_fields fields values) rest _ _ r
    (λ octet tail begins t. true≢false (sym (may_begin_from_der fields values (tag_of term) tail (begins ∙ ap (λ o. o ∷ tail) t)) ∙ not-true _ u))
    ∙ reads_fields values fs small end outer marks place room rest r e
    ∙ ap (λ here. Past (marks ++ fields_marks fields here values) end rest) (omega arith)
option_past term fields reads reads_fields u (Some value) values f fs small end outer marks place room rest r e =
    ap (λ octets. scan_fields (Optional term fields) end outer marks place room octets) (append_assoc (der term value) (der_of_fields fields values) rest)
    ∙ optional_picks (begun (scan_contents term) term) term (Listed (Optional term fields)) (Listed fields) end outer marks place room _ _ _ _ (omega (arith, der_begins term value, length-append (der term value) (der_of_fields fields values))) (der-append term value (der_of_fields fields values ++ rest))
    ∙ field_past term fields reads reads_fields value values f fs small end outer marks place rest (omega arith)

end_past : (end : ℕ) (outer : List Container) (marks : List Mark) (place room : ℕ) (rest : List ℕ) → room ≡ 0 → end ≡ place + room → scan_fields End end outer marks place room ([] ++ rest) ≡ Past (marks ++ []) end rest
end_past end outer marks place room rest r e =
    ended_past (Listed End) end outer marks place room rest r
    ∙ ap (λ all. Past all place rest) (sym (append-nil marks))
    ∙ ap (λ there. Past (marks ++ []) there rest) (omega arith)

-- ---- every term
-- a container's mark comes before those of the items in it
own_first : (marks inner : List Mark) (term : Term) (start count end : ℕ) (rest : List ℕ) → Past (with_mark marks term start count ++ inner) end rest ≡ Past (marks ++ mark_of term start count (pos 0) ∷ inner) end rest
own_first marks inner term start count end rest = ap (λ all. Past all end rest) (append_assoc marks (mark_of term start count (pos 0) ∷ []) inner)

mutual
  pub reads_contents : (term : Term) → is_unambiguous term ≡ true → ReadsContents term
  reads_contents (Integer low high) u value f small start stack marks rest =
      let d : (count : ℕ) × (leaf_outcome (Integer low high) (length (integer_octets value)) (integer_octets value) ≡ Done count) × (0 + length (integer_octets value) ≡ 0 + count) = done_from_after 0 _ _ (contents-accepts (Integer low high) u value f small 0) in
      leaf_past (Integer low high) (integer_octets value) d.0 d.1 start stack marks rest
      ∙ ap (λ number. Past (marks ++ mark_of (Integer low high) start (length (integer_octets value)) number ∷ []) (start + length (integer_octets value)) rest) (integer_value-integer_octets value)
  reads_contents (Bits least) u bits f small start stack marks rest =
      let octets : List ℕ = bits.0 ∷ bits.1 in
      let d : (count : ℕ) × (leaf_outcome (Bits least) (length octets) octets ≡ Done count) × (0 + length octets ≡ 0 + count) = done_from_after 0 _ _ (contents-accepts (Bits least) u bits f small 0) in
      leaf_past (Bits least) octets d.0 d.1 start stack marks rest
  reads_contents (Sequence fields) u values f small start stack marks rest =
      reads_fields fields u values f small (start + length (der_of_fields fields values)) stack (with_mark marks (Sequence fields) start (length (der_of_fields fields values))) start (length (der_of_fields fields values)) rest refl refl
      ∙ own_first marks (fields_marks fields start values) (Sequence fields) start (length (der_of_fields fields values)) _ rest
  reads_contents (SequenceOf empty term) u values f small start stack marks rest =
      let count : ℕ = length (flat_map (der term) values) in
      each_past term (reads_item term u (reads_contents term u)) values f.1 small count (start + count) stack (with_mark marks (SequenceOf empty term) start count) start count rest refl refl (omega arith)
      ∙ own_first marks (list_marks (der term) (value_marks term) start values) (SequenceOf empty term) start count _ rest
  reads_contents (Tagged index term) u value f small start stack marks rest =
      let count : ℕ = length (der term value) in
      only_past term (reads_item term u (reads_contents term u)) value f small start stack (with_mark marks (Tagged index term) start count) rest
      ∙ own_first marks (value_marks term start value) (Tagged index term) start count _ rest
  reads_contents (Application number term) u value f small start stack marks rest =
      let count : ℕ = length (der term value) in
      only_past term (reads_item term u (reads_contents term u)) value f small start stack (with_mark marks (Application number term) start count) rest
      ∙ own_first marks (value_marks term start value) (Application number term) start count _ rest
  reads_contents other u octets f small start stack marks rest =
      let d : (count : ℕ) × (leaf_outcome other (length octets) octets ≡ Done count) × (0 + length octets ≡ 0 + count) = done_from_after 0 _ _ (contents-accepts other u octets f small 0) in
      leaf_past other octets d.0 d.1 start stack marks rest

  pub reads_fields : (fields : Fields) → are_unambiguous fields ≡ true → ReadsFields fields
  reads_fields End u values f small end outer marks place room rest r e = end_past end outer marks place room rest r e
  reads_fields (Required term fields) u values f small end outer marks place room rest r e =
      let t : (is_unambiguous term ≡ true) × (are_unambiguous fields ≡ true) = and_parts _ _ u in
      required_past term fields (reads_item term t.0 (reads_contents term t.0)) (reads_fields fields t.1) values f small end outer marks place room rest r e
  reads_fields (Optional term fields) u values f small end outer marks place room rest r e =
      let s : (not (may_begin (tag_of term) fields) ≡ true) × ((is_unambiguous term && are_unambiguous fields) ≡ true) = and_parts _ _ u in
      let t : (is_unambiguous term ≡ true) × (are_unambiguous fields ≡ true) = and_parts _ _ s.1 in
      option_past term fields (reads_item term t.0 (reads_contents term t.0)) (reads_fields fields t.1) s.0 values.0 values.1 f.0 f.1 small end outer marks place room rest r e

-- The scan of a value's DER, at any place, and whatever follows it.
pub item_read : (term : Term) → is_unambiguous term ≡ true → ReadsItem term
item_read term u = reads_item term u (reads_contents term u)

-- ---- messages
-- the one with the tag of the first octet
chosen_picks : (terms : List Term) (term : Term) → IsChosen term terms → (expected : Expected) (room : ℕ) (octets tail : List ℕ) → 0 < room → octets ≡ tag_of term ∷ tail →
    scan_one_of terms expected room [] [] 0 room octets ≡ scan_then (begun (scan_contents term) term (container_of room (OneOf []) ∷ []) [] 0 octets) (λ marks_then there rest. scan_end (OneOf []) room [] marks_then there (room - there) rest)
chosen_picks [] term c expected room octets tail p e = absurd c
chosen_picks (first ∷ terms) term c expected zero octets tail p e = absurd (omega arith)
chosen_picks (first ∷ terms) term (inl same) expected (suc room) octets tail p e =
    optional_picks (begun (scan_contents first) first) first expected (OneOf []) (suc room) [] [] 0 (suc room) octets tail _ _ p (e ∙ ap (λ t. tag_of t ∷ tail) same)
    ∙ ap (λ t. scan_then (begun (scan_contents t) t (container_of (suc room) (OneOf []) ∷ []) [] 0 octets) (λ marks_then there rest. scan_end (OneOf []) (suc room) [] marks_then there (suc room - there) rest)) (sym same)
chosen_picks (first ∷ terms) term (inr c) expected (suc room) octets tail p e =
    rw e (ap (λ b. when b (λ _. scan_then (begun (scan_contents first) first (container_of (suc room) (OneOf []) ∷ []) [] 0 (tag_of term ∷ tail)) (λ marks_then there rest. scan_end (OneOf []) (suc room) [] marks_then there (suc room - there) rest)) (λ _. scan_one_of terms expected (suc room) [] [] 0 (suc room) (tag_of term ∷ tail))) c.0
    ∙ chosen_picks terms term c.1 expected (suc room) (tag_of term ∷ tail) tail p refl)

chosen_past : (terms : List Term) (term : Term) → IsChosen term terms → is_unambiguous term ≡ true → (value : Value term) → Fits term value → length (der term value) < 2 ^ 32 → (rest : List ℕ) →
    scan_message terms (length (der term value)) (der term value ++ rest) ≡ Past (value_marks term 0 value) (length (der term value)) rest
chosen_past terms term c u value f small rest =
    chosen_picks terms term c (OneOf terms) n (der term value ++ rest) _ (der_begins term value) (der-append term value rest)
    ∙ ap (λ seen. scan_then seen next) (item_read term u value f small (container_of n (OneOf []) ∷ []) [] 0 rest (omega arith) (λ s. omega arith))
    ∙ ended_past (OneOf []) n [] (value_marks term 0 value) (0 + n) (n - (0 + n)) rest (omega arith)
    ∙ ap (λ there. Past (value_marks term 0 value) there rest) (omega arith)
  where
    n : ℕ
    n = length (der term value)

    next : Next
    next = λ marks_then there rest. scan_end (OneOf []) n [] marks_then there (n - there) rest

pub whole_has_marks_of_value : WholeHasMarksOfValue
whole_has_marks_of_value messages grammar term o value f small =
    ap (scan messages (length (der term value))) (sym (append-nil (der term value)))
    ∙ ap answer (chosen_past messages term (chosen_one_of messages term grammar.own_tags o) (unambiguous_message messages grammar term o) value f (omega arith) [])

pub whole_has_marks_of_message : WholeHasMarksOfMessage
whole_has_marks_of_message profile m p =
    ap (λ given. at.marks_from given (λ place. scan (messages profile) (length (message_der m)) (take place (message_der m))))
    (subst (λ octets. scan (messages profile) (length octets) octets ≡ Whole (message_marks profile m)) form
    (whole_has_marks_of_value (messages profile) (messages_are_grammar profile) (kind_term_in profile (kind_of m)) (kind_is_one_of profile (kind_of m)) (message_value_in profile m) p.fits (omega (arith, p.short, ap length form))))
  where
    form : der (kind_term_in profile (kind_of m)) (message_value_in profile m) ≡ message_der m
    form = message_der_in profile m
