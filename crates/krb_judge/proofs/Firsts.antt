-- The first item of what is left of a container is done if alone it is whole.
use Rattle.std.proofs.Common.{◌≡◌, ℕ, ◌+◌, ◌-◌, ◌<◌, ◌≤◌, ◌^◌, ◌&&◌, ◌==◌, nat_lt, Bool, true, false, if◌then◌else◌, List, ◌∷◌, ◌++◌, length, take, drop, refl, sym, ap, ◌∙◌, take-take, take_all, drop_at, length-drop, length-append, ne_eqb, arith}
use Rattle.std.proofs.lemmas.Bool.{le-ltb}
use Rattle.krb_der.specs.Octets.{AreOctets, length_octets, when}
use Rattle.krb_der.specs.inner.Items.{length-length_octets, same_from_cons, same_from_length_octets}
use Rattle.krb_der.specs.declared.why.Why.TheVariants as why
use Rattle.krb_der.specs.declared.verdict.Verdict.TheVariants as verdict
use Rattle.krb_msg.specs.Term.{Term, tag_of}
use Rattle.krb_msg.specs.Viewed.{HasNoLength}
use Rattle.krb_judge.specs.Paths.{after_done}
use Rattle.krb_msg.specs.Judgement.{Outcome, Open, Bad, Done, Got, head, has_size, contents_outcome, item_outcome, term_judgement, verdict_of}
use Rattle.krb_msg.proofs.Grammars.{whole_outcome}
use Rattle.krb_msg.proofs.Heads.{IsHead, IsHead-head, head-length_octets}
use Rattle.krb_msg.proofs.Items.{item_done}
use Rattle.krb_msg.proofs.Stable.{take-append_right}
use Rattle.krb_msg.proofs.TermsDecided.{item-count, contents-count}

-- an item whose length octets are right, and fill the room if they have to
after_head : (term : Term) (room header size : ℕ) (sole : Bool) (tag : ℕ) (rest : List ℕ) → (room == 1) ≡ false → head room (tag ∷ rest) ≡ Got header size → (sole && nat_lt (header + size) room) ≡ false →
    item_outcome term room sole (tag ∷ rest) ≡ when (tag == tag_of term) (λ _. if has_size term size then contents_outcome term header size (take size (drop header (tag ∷ rest))) else Bad (header - 1) why.Size) (λ _. Bad 0 why.Tag)
after_head term room header size sole tag rest more got fills = rw (more, got, fills) refl

parts_alone : (term : Term) (room header tag size : ℕ) (rest : List ℕ) → header ≡ 1 + length (length_octets size) → size < 2 ^ 32 → header + size ≤ room →
    item_outcome term room false (tag ∷ (length_octets size ++ rest)) ≡ item_outcome term (header + size) true (tag ∷ (length_octets size ++ take size rest))
parts_alone term room header tag size rest counted small fits =
    after_head term room header size false tag (length_octets size ++ rest) (ne_eqb room 1 (omega (arith, some, counted, fits))) (got room rest fits) refl
    ∙ ap (λ contents. when (tag == tag_of term) (λ _. if has_size term size then contents_outcome term header size contents else Bad (header - 1) why.Size) (λ _. Bad 0 why.Tag)) same
    ∙ sym (after_head term (header + size) header size true tag (length_octets size ++ take size rest) (ne_eqb (header + size) 1 (omega (arith, some, counted))) (got (header + size) (take size rest) (omega arith)) (le-ltb (header + size) (header + size) (omega arith)))
  where
    some : 0 < length (length_octets size)
    some = (length-length_octets size small).0

    got : (room : ℕ) (rest : List ℕ) → header + size ≤ room → head room (tag ∷ (length_octets size ++ rest)) ≡ Got header size
    got room rest fits = head-length_octets room tag size rest small (omega (arith, counted, fits)) ∙ ap (λ count. Got count size) (sym counted)

    contents : (rest : List ℕ) → drop header (tag ∷ (length_octets size ++ rest)) ≡ rest
    contents rest = drop_at (tag ∷ length_octets size) rest header (omega (arith, counted))

    same : take size (drop header (tag ∷ (length_octets size ++ rest))) ≡ take size (drop header (tag ∷ (length_octets size ++ take size rest)))
    same = ap (take size) (contents rest) ∙ sym (ap (take size) (contents (take size rest)) ∙ take-take size size rest (omega arith))

-- an item in a room is what it is alone, if its length octets are right
as_alone : (term : Term) (room header size : ℕ) (octets : List ℕ) → AreOctets octets → room < 2 ^ 31 → head room octets ≡ Got header size → item_outcome term room false octets ≡ item_outcome term (header + size) true (take (header + size) octets)
as_alone term room header size octets are short got =
    let h : IsHead room header size octets = IsHead-head room header size octets are got in
    let prefix : List ℕ = h.tag ∷ length_octets size in
    let cut : take (header + size) octets ≡ prefix ++ take (header + size - length prefix) h.rest = ap (take (header + size)) h.parts ∙ take-append_right prefix h.rest (header + size) (omega (arith, h.counted)) in
    let left : header + size - length prefix ≡ size = omega (arith, h.counted) in
    ap (item_outcome term room false) h.parts ∙ parts_alone term room header h.tag size h.rest h.counted (omega (arith, h.within, short)) h.within
    ∙ sym (ap (item_outcome term (header + size) true) (cut ∙ ap (λ k. prefix ++ take k h.rest) left))

pub done_if_whole : (term : Term) (room header size : ℕ) (octets : List ℕ) → AreOctets octets → room < 2 ^ 31 → head room octets ≡ Got header size → term_judgement term (header + size) (take (header + size) octets) ≡ verdict.Whole → item_outcome term room false octets ≡ Done (header + size)
done_if_whole term room header size octets are short got e =
    let w = whole_outcome (item_outcome term (header + size) true (take (header + size) octets)) e in
    let all : w.0 ≡ header + size = (item-count term (contents-count term) (header + size) true (take (header + size) octets) w.0 w.1).2 refl in
    as_alone term room header size octets are short got ∙ w.1 ∙ ap Done all

pub whole_if_done : (term : Term) (room header size : ℕ) (octets : List ℕ) (count : ℕ) → AreOctets octets → room < 2 ^ 31 → head room octets ≡ Got header size → item_outcome term room false octets ≡ Done count → term_judgement term (header + size) (take (header + size) octets) ≡ verdict.Whole
whole_if_done term room header size octets count are short got e = ap verdict_of (sym (as_alone term room header size octets are short got) ∙ e)

-- an item without right length octets is not done
pub not_done : (term : Term) (room : ℕ) (octets : List ℕ) (count : ℕ) → ((header size : ℕ) → head room octets ≡ Got header size → ⊥) → item_outcome term room false octets ≡ Done count → ⊥
not_done term room octets count not e =
    let d = item_done (contents_outcome term) term room false octets count e in
    not d.header d.contents d.found

-- ---- the head of an item by its length
counted : (octets rest contents : List ℕ) (tag first size : ℕ) → octets ≡ tag ∷ first ∷ rest → first ∷ rest ≡ length_octets size ++ contents → length octets ≡ 1 + length (length_octets size) + length contents
counted octets rest contents tag first size all parts = omega (arith, ap length all, ap length parts ∙ length-append (length_octets size) contents)

-- octets that spell no length
pub no_head : (room : ℕ) (octets rest : List ℕ) (tag first : ℕ) → AreOctets octets → room < 2 ^ 31 → octets ≡ tag ∷ first ∷ rest → HasNoLength (first ∷ rest) → (header size : ℕ) → head room octets ≡ Got header size → ⊥
no_head room octets rest tag first are short all none header size got =
    let h : IsHead room header size octets = IsHead-head room header size octets are got in
    none size h.rest (omega (arith, h.within, short)) (same_from_cons _ _ _ _ (sym all ∙ h.parts)).1

-- a length that fits
pub head_found : (room : ℕ) (octets rest contents : List ℕ) (tag first size : ℕ) → room < 2 ^ 31 → octets ≡ tag ∷ first ∷ rest → first ∷ rest ≡ length_octets size ++ contents → size ≤ room → length octets - length contents ≤ room - size → head room octets ≡ Got (length octets - length contents) size
head_found room octets rest contents tag first size short all parts small fits =
    let count = counted octets rest contents tag first size all parts in
    let header : length octets - length contents ≡ 1 + length (length_octets size) = omega (arith, count) in
    ap (head room) (all ∙ ap (λ after. tag ∷ after) parts)
    ∙ head-length_octets room tag size contents (omega (arith, small, short)) (omega (arith, header, fits, small))
    ∙ ap (λ k. Got k size) (sym header)

-- and one that does not
pub head_overrun : (room : ℕ) (octets rest contents : List ℕ) (tag first size : ℕ) → AreOctets octets → octets ≡ tag ∷ first ∷ rest → first ∷ rest ≡ length_octets size ++ contents → room < size + (length octets - length contents) → (header found : ℕ) → head room octets ≡ Got header found → ⊥
head_overrun room octets rest contents tag first size are all parts over header found got =
    let h : IsHead room header found octets = IsHead-head room header found octets are got in
    let same : (found ≡ size) × (h.rest ≡ contents) = same_from_length_octets found size h.rest contents (sym (same_from_cons _ _ _ _ (sym all ∙ h.parts)).1 ∙ parts) in
    let count = counted octets rest contents tag first size all parts in
    let header_is : header ≡ 1 + length (length_octets size) = h.counted ∙ ap (λ n. 1 + length (length_octets n)) same.0 in
    absurd (omega (arith, header_is, same.0, h.within, count, over))

-- a slice from a place on
pub rest_taken : (octets : List ℕ) (count : ℕ) → take (length octets - count) (drop count octets) ≡ drop count octets
rest_taken octets count = take_all (length octets - count) (drop count octets) (omega (arith, length-drop count octets))

-- what is in the first item, if that is not done
pub first_into : (outcome : Outcome) (after : ℕ → List ℕ) (into : Unit {0} → List ℕ) → ((count : ℕ) → outcome ≡ Done count → ⊥) → after_done outcome after into ≡ into tt
first_into Open after into other = refl
first_into (Bad offset reason) after into other = refl
first_into (Done count) after into other = absurd (other count refl)
