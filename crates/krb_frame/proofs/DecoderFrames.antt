-- The fields of a decoder: the frames of the octets in them.
use Rattle.std.proofs.Common.{◌≡◌, ℕ, zero, suc, ◌+◌, ◌<◌, ◌≤◌, inl, inr, List, [], ◌∷◌, ◌++◌, length, take, drop, Some, None, refl, sym, ◌∙◌, ap, ap₂, subst, arith, append-nil, length-append, length-take, drop_at}
use Rattle.std.specs.Int.{w32, from_be_bytes}
use Rattle.std.proofs.lemmas.List.{take_all, take_at, drop_all, nil_from_length}
use Rattle.krb_der.specs.Octets.{number}
use Rattle.krb_der.specs.declared.why.Why.{Why}
use Rattle.krb_der.specs.declared.verdict.Refusal.{Refusal}
use Rattle.krb_der.specs.declared.verdict.Verdict.TheVariants as verdict
use Rattle.krb_der.specs.declared.profile.Profile.{Profile}
use Rattle.krb_msg.specs.Term.{Term}
use Rattle.krb_msg.specs.Judgement.{Open, Bad, Done, message_outcome, judgement_by}
use Rattle.krb_msg.specs.Stream.{Frames, Boundary, Within, Refused, ends, with_first, frames}
use Rattle.krb_msg.proofs.FramePrefixes.{MayFollow, frames-open, frames-bad, frames-done_more, frames-short, frames-nil}
use Rattle.krb_msg.proofs.Grammars.{whole_outcome, refused_outcome, open_outcome}
use Rattle.krb_scan.specs.Scanned.{open_count}
use Rattle.krb_scan.specs.Machine.{HasScanned}
use Rattle.krb_scan.specs.declared.machine.Machine.{Machine}
use Rattle.krb_frame.specs.Decoding.{Decoding, found, status_at, status_of, first_of, borrowed, open_lengths_of, finish_at, finish_of, AreOfOne, IsOfOneFrame, octets_of, decoding_of}
use Rattle.krb_frame.specs.Frame.{length_fault}
use Rattle.krb_frame.specs.inner.Phases.{end_after, IsRefusedIn, IsFedContents, phase_of, IsAccepted, HasPartOfLength, HasPart, HasFrame, HasRefused, IsPhaseOf, IsScanned, phase_status}
use Rattle.krb_frame.specs.declared.decoder.Phase.{Phase}
use Rattle.krb_frame.specs.declared.decoder.Phase.TheVariants as phase
use Rattle.krb_frame.specs.declared.decoder.Status.{Status}
use Rattle.krb_frame.specs.declared.decoder.Status.TheVariants as status
use Rattle.krb_frame.proofs.Lengths.{frames-fault}

-- four octets, the highest first, as the code reads them
pub from_be_bytes-number : (octets : List ℕ) → length octets ≡ 4 → from_be_bytes w32 octets ≡ number octets
from_be_bytes-number [] e = absurd (omega arith)
from_be_bytes-number (w ∷ []) e = absurd (omega arith)
from_be_bytes-number (w ∷ x ∷ []) e = absurd (omega arith)
from_be_bytes-number (w ∷ x ∷ y ∷ []) e = absurd (omega arith)
from_be_bytes-number (w ∷ x ∷ y ∷ z ∷ []) e = omega arith
from_be_bytes-number (v ∷ w ∷ x ∷ y ∷ z ∷ rest) e = absurd (omega arith)

-- ---- the octets of a length and contents
-- the octets before contents
pub record Announces (announced : List ℕ) (size : ℕ) : Type 0 where
  pub four : length announced ≡ 4
  pub is : number announced ≡ size

pub number_of : (announced contents : List ℕ) (size : ℕ) → Announces announced size → number (take 4 (announced ++ contents)) ≡ size
number_of announced contents size a = ap number (take_at announced contents 4 a.four) ∙ a.is

pub length_is_there : (announced contents : List ℕ) (size : ℕ) → Announces announced size → 4 ≤ length (announced ++ contents)
length_is_there announced contents size a = omega (arith, a.four, length-append announced contents)

pub announces : (limit : ℕ) (announced : List ℕ) (size : ℕ) → IsAccepted limit announced size → Announces announced size
announces limit announced size a = record { four = a.four; is = a.is }

-- the frames of the octets of a phase
abbrev pub frames_at : Phase → List ℕ → Frames
frames_at (phase.Length count) contents = ends (end_after count)
frames_at (phase.Contents size) contents = ends (Within (4 + length contents))
frames_at phase.Ready contents = with_first contents (ends Boundary)
frames_at (phase.Refused refusal) contents = ends (Refused refusal.place refusal.why)

pub end-some : (present : ℕ) → 0 < present → end_after present ≡ Within present
end-some zero h = absurd (omega arith)
end-some (suc present) h = refl

-- all four octets are present
pub four_octets : (announced contents : List ℕ) → length announced ≡ 4 → take 4 announced ++ contents ≡ announced ++ contents
four_octets announced contents four = ap (λ l. l ++ contents) (take_all 4 announced (omega arith))

pub length_of-part : (announced contents : List ℕ) (count : ℕ) → HasPartOfLength announced contents count → length (take count announced ++ contents) ≡ count
length_of-part announced contents count h = omega (arith, h.part, h.four, ap length h.none, length-append (take count announced) contents, length-take count announced)

-- ---- the status of a decoder
-- the octets of a phase are of one frame
one-end : (octets : List ℕ) (count : ℕ) → length octets ≡ count → AreOfOne octets [] (end_after count)
one-end [] zero e = refl
one-end [] (suc count) e = e
one-end (octet ∷ octets) zero e = absurd (omega arith)
one-end (octet ∷ octets) (suc count) e = e

status-end : (count : ℕ) → status_at [] (end_after count) ≡ status.More
status-end zero = refl
status-end (suc count) = refl

status-at : (p : Phase) (contents : List ℕ) → status_at (frames_at p contents).contents (frames_at p contents).end ≡ phase_status p
status-at (phase.Length count) contents = status-end count
status-at (phase.Contents size) contents = refl
status-at phase.Ready contents = refl
status-at (phase.Refused refusal) contents = refl

-- ---- the contents that are borrowed and kept, and the result at the end
none_ready : (p : Phase) (contents : List ℕ) → (p ≡ phase.Ready → ⊥) → first_of (frames_at p contents).contents ≡ None
none_ready (phase.Length count) contents n = refl
none_ready (phase.Contents size) contents n = refl
none_ready phase.Ready contents n = absurd (n refl)
none_ready (phase.Refused refusal) contents n = refl

-- no length is open if nothing came
none_open : (profile : Profile) (n : ℕ) → open_count profile n [] ≡ 0
none_open profile zero = refl
none_open profile (suc n) = refl

-- ---- by any messages
module _ (messages : List Term) where
  pub refused_length : (limit : ℕ) (announced : List ℕ) (size : ℕ) (reason : Why) → Announces announced size → length_fault limit size ≡ Some reason → HasRefused messages limit announced [] (record { place = 3; why = reason })
  refused_length limit announced size reason a e = record {
    four = a.four;
    found = frames-fault limit size messages (announced ++ []) (length_is_there announced [] size a) (number_of announced [] size a) reason e;
    last = refl;
    few = omega arith;
    short = omega arith;
  }

module _ (messages : List Term) (profile : Profile) where
  -- ---- the frames of the octets of a decoder
  may_follow : (limit : ℕ) (announced : List ℕ) (size : ℕ) → IsAccepted limit announced size → MayFollow messages limit size
  may_follow limit announced size a = record { some = a.some; short = a.short; within = a.within }

  pub found-part : (limit : ℕ) (announced contents : List ℕ) (size : ℕ) → HasPart messages limit announced contents size → frames messages limit (announced ++ contents) ≡ ends (Within (4 + length contents))
  found-part limit announced contents size h =
      let a = announces limit announced size h.accepted in
      let there : take size (drop 4 (announced ++ contents)) ≡ contents = ap (take size) (drop_at announced contents 4 a.four) ∙ take_all size contents h.present in
      let opened : message_outcome messages size (take size (drop 4 (announced ++ contents))) ≡ Open = ap (message_outcome messages size) there ∙ open_outcome (message_outcome messages size contents) h.undecided in
      let long : length (announced ++ contents) ≡ 4 + length contents = omega (arith, a.four, length-append announced contents) in
      frames-open messages limit (announced ++ contents) size (length_is_there announced contents size a) (number_of announced contents size a) (may_follow limit announced size h.accepted) opened
      ∙ ap (λ n. ends (Within n)) long

  -- whatever comes after a frame
  pub found-frame : (limit : ℕ) (announced contents more : List ℕ) → HasFrame messages limit announced contents → frames messages limit ((announced ++ contents) ++ more) ≡ with_first contents (frames messages limit more)
  found-frame limit announced contents more h = by (whole_outcome (message_outcome messages (length contents) contents) h.whole)
    where
      a : Announces announced (length contents)
      a = announces limit announced (length contents) h.accepted

      there : take (length contents) (drop 4 (announced ++ contents)) ≡ contents
      there = ap (take (length contents)) (drop_at announced contents 4 h.accepted.four) ∙ take_all (length contents) contents (omega arith)

      all : length (announced ++ contents) ≡ 4 + length contents
      all = omega (arith, h.accepted.four, length-append announced contents)

      none : drop (4 + length contents) (announced ++ contents) ++ more ≡ more
      none =
          ap (λ l. l ++ more)
          (ap (λ l. drop (4 + length contents) l) (sym (append-nil (announced ++ contents))) ∙ drop_at (announced ++ contents) [] (4 + length contents) all)

      by : (count : ℕ) × (message_outcome messages (length contents) contents ≡ Done count) → frames messages limit ((announced ++ contents) ++ more) ≡ with_first contents (frames messages limit more)
      by (count, d) =
          frames-done_more messages limit (announced ++ contents) more (length contents) count (omega (arith, all)) (number_of announced contents (length contents) a) (may_follow limit announced (length contents) h.accepted) (ap (message_outcome messages (length contents)) there ∙ d)
          ∙ ap₂ (λ c r. with_first c (frames messages limit r)) there none

  pub found-short : (limit : ℕ) (octets : List ℕ) → length octets < 4 → frames messages limit octets ≡ ends (end_after (length octets))
  found-short limit [] h = frames-nil messages limit
  found-short limit (octet ∷ octets) h = frames-short messages limit octet octets h

  pub found-at : (limit : ℕ) (announced contents : List ℕ) (p : Phase) → IsPhaseOf messages limit announced contents p → frames messages limit (octets_of p announced contents) ≡ frames_at p contents
  found-at limit announced contents (phase.Length count) h =
      let n : length (take count announced ++ contents) ≡ count = length_of-part announced contents count h in
      found-short limit (take count announced ++ contents) (omega (arith, h.part)) ∙ ap (λ k. ends (end_after k)) n
  found-at limit announced contents (phase.Contents size) h =
      ap (frames messages limit) (four_octets announced contents h.accepted.four) ∙ found-part limit announced contents size h
  found-at limit announced contents phase.Ready h =
      ap (frames messages limit) (four_octets announced contents h.accepted.four ∙ sym (append-nil (announced ++ contents)))
      ∙ found-frame limit announced contents [] h
      ∙ ap (with_first contents) (frames-nil messages limit)
  found-at limit announced contents (phase.Refused refusal) h = ap (frames messages limit) (four_octets announced contents h.four) ∙ h.found

  one-at : (limit : ℕ) (announced contents : List ℕ) (p : Phase) → IsPhaseOf messages limit announced contents p → AreOfOne (octets_of p announced contents) (frames_at p contents).contents (frames_at p contents).end
  one-at limit announced contents (phase.Length count) h = one-end (take count announced ++ contents) count (length_of-part announced contents count h)
  one-at limit announced contents (phase.Contents size) h = omega (arith, h.accepted.four, length-append (take 4 announced) contents, length-take 4 announced)
  one-at limit announced contents phase.Ready h = ap (drop 4) (four_octets announced contents h.accepted.four) ∙ drop_at announced contents 4 h.accepted.four
  one-at limit announced contents (phase.Refused refusal) h = omega (arith, h.four, h.last, length-append (take 4 announced) contents, length-take 4 announced)

  pub record Comes (d : Decoding) (answer : Status) : Type 0 where
    pub is : status_of messages d ≡ answer
    pub one : IsOfOneFrame messages d

  pub comes : (limit looks : ℕ) (space : ℕ) (announced contents : List ℕ) (p : Phase) → IsPhaseOf messages limit announced contents p → Comes (decoding_of profile limit looks space announced contents p) (phase_status p)
  unfolding found
  comes limit looks space announced contents p h = record {
    is = ap (λ f. status_at f.contents f.end) (found-at limit announced contents p h) ∙ status-at p contents;
    one = subst (λ f. AreOfOne (octets_of p announced contents) f.contents f.end) (sym (found-at limit announced contents p h)) (one-at limit announced contents p h);
  }

  pub one-nothing : (limit looks : ℕ) (space : ℕ) → IsOfOneFrame messages (record { profile = profile; limit = limit; octets = []; looks = looks; capacity = space })
  unfolding found
  one-nothing limit looks space = subst (λ f. AreOfOne [] f.contents f.end) (sym (frames-nil messages limit)) refl

  pub more-nothing : (limit looks : ℕ) (space : ℕ) → status_of messages (record { profile = profile; limit = limit; octets = []; looks = looks; capacity = space }) ≡ status.More
  unfolding found
  more-nothing limit looks space = ap (λ f. status_at f.contents f.end) (frames-nil messages limit)

  -- a status depends on the limit and the octets alone
  pub same-status : (old new : Decoding) → new.limit ≡ old.limit → new.octets ≡ old.octets → status_of messages new ≡ status_of messages old
  unfolding found
  same-status old new l o = ap₂ (λ limit octets. status_at (frames messages limit octets).contents (frames messages limit octets).end) l o

  pub borrowed-none : (limit looks : ℕ) (space : ℕ) (announced contents : List ℕ) (p : Phase) → IsPhaseOf messages limit announced contents p → (p ≡ phase.Ready → ⊥) → borrowed messages (decoding_of profile limit looks space announced contents p) ≡ None
  unfolding found
  borrowed-none limit looks space announced contents p h n = ap (λ f. first_of f.contents) (found-at limit announced contents p h) ∙ none_ready p contents n

  pub borrowed-ready : (limit looks : ℕ) (space : ℕ) (announced contents : List ℕ) (p : Phase) → IsPhaseOf messages limit announced contents p → p ≡ phase.Ready → borrowed messages (decoding_of profile limit looks space announced contents p) ≡ Some contents
  unfolding found
  borrowed-ready limit looks space announced contents p h e = ap (λ f. first_of f.contents) (found-at limit announced contents p h ∙ ap (λ q. frames_at q contents) e)

  pub finish-at : (limit looks : ℕ) (space : ℕ) (announced contents : List ℕ) (p : Phase) → IsPhaseOf messages limit announced contents p → finish_of messages (decoding_of profile limit looks space announced contents p) ≡ finish_at (frames_at p contents).end
  unfolding found
  finish-at limit looks space announced contents p h = ap (λ f. finish_at f.end) (found-at limit announced contents p h)

  -- the contents are those that are kept
  pub contents-at : (limit : ℕ) (announced contents : List ℕ) (p : Phase) → IsPhaseOf messages limit announced contents p → drop 4 (octets_of p announced contents) ≡ contents
  contents-at limit announced contents (phase.Length count) h = drop_all 4 (take count announced ++ contents) (omega (arith, length_of-part announced contents count h, h.part)) ∙ sym h.none
  contents-at limit announced contents (phase.Contents size) h = ap (drop 4) (four_octets announced contents h.accepted.four) ∙ drop_at announced contents 4 h.accepted.four
  contents-at limit announced contents phase.Ready h = ap (drop 4) (four_octets announced contents h.accepted.four) ∙ drop_at announced contents 4 h.accepted.four
  contents-at limit announced contents (phase.Refused refusal) h = ap (drop 4) (four_octets announced contents h.four) ∙ drop_at announced contents 4 h.four

  -- ---- the lengths that are open
  pub open-none : (limit looks : ℕ) (space : ℕ) (announced contents : List ℕ) (p : Phase) → IsPhaseOf messages limit announced contents p → length contents ≡ 0 → open_lengths_of (decoding_of profile limit looks space announced contents p) ≡ 0
  open-none limit looks space announced contents p h e =
      ap (open_count profile (number (take 4 (octets_of p announced contents)))) (contents-at limit announced contents p h ∙ nil_from_length contents e) ∙ none_open profile (number (take 4 (octets_of p announced contents)))

  pub open-some : (limit looks count : ℕ) (space : ℕ) (announced contents : List ℕ) (p : Phase) (machine : Machine) → IsPhaseOf messages limit announced contents p → IsScanned profile machine announced contents p → 0 < length contents → ((n : ℕ) (octets : List ℕ) → HasScanned profile machine n octets → count ≡ open_count profile n octets) → count ≡ open_lengths_of (decoding_of profile limit looks space announced contents p)
  open-some limit looks count space announced contents p machine h s some each = by p h s
    where
      of_length : (n : ℕ) → length announced ≡ 4 → number announced ≡ n → HasScanned profile machine n contents → count ≡ open_count profile (number (take 4 (take 4 announced ++ contents))) (drop 4 (take 4 announced ++ contents))
      of_length n four e at =
          let all : take 4 announced ++ contents ≡ announced ++ contents = four_octets announced contents four in
          each n contents at
          ∙ ap₂ (open_count profile) (sym (ap number (ap (take 4) all ∙ take_at announced contents 4 four) ∙ e)) (sym (ap (drop 4) all ∙ drop_at announced contents 4 four))

      by : (p : Phase) → IsPhaseOf messages limit announced contents p → IsScanned profile machine announced contents p → count ≡ open_lengths_of (decoding_of profile limit looks space announced contents p)
      by (phase.Length k) h s = absurd (omega (arith, some, ap length h.none))
      by (phase.Contents size) h s = of_length size h.accepted.four h.accepted.is s
      by phase.Ready h s = of_length (length contents) h.accepted.four h.accepted.is s
      by (phase.Refused refusal) h (inl e) = absurd (omega (arith, some, ap length e))
      by (phase.Refused refusal) h (inr at) = of_length (number announced) h.four refl at

  -- ---- contents that were fed
  refused_within : (limit : ℕ) (announced contents : List ℕ) (size : ℕ) (refusal : Refusal) → IsAccepted limit announced size → length contents ≤ size → IsRefusedIn messages size contents refusal → HasRefused messages limit announced contents refusal
  refused_within limit announced contents size refusal accepted few r =
      let a = announces limit announced size accepted in
      let there : take size (drop 4 (announced ++ contents)) ≡ contents = ap (take size) (drop_at announced contents 4 a.four) ∙ take_all size contents few in
      let bad : message_outcome messages size (take size (drop 4 (announced ++ contents))) ≡ Bad r.offset refusal.why = ap (message_outcome messages size) there ∙ refused_outcome (message_outcome messages size contents) r.offset refusal.why r.judged in
      let place : 4 + r.offset ≡ refusal.place = omega (arith, r.place) in
      record {
        four = a.four;
        found =
            frames-bad messages limit (announced ++ contents) size r.offset refusal.why (length_is_there announced contents size a) (number_of announced contents size a) (may_follow limit announced size accepted) bad
            ∙ ap (λ n. ends (Refused n refusal.why)) place;
        last = omega (arith, r.place, r.last);
        few = omega (arith, accepted.within);
        short = omega (arith, accepted.short);
      }

  pub taken-at : (limit : ℕ) (announced before piece after : List ℕ) (size used : ℕ) (answer : Status) → HasPart messages limit announced before size → IsFedContents messages size before piece after (record { used = used; status = answer }) → IsPhaseOf messages limit announced after (phase_of size answer)
  taken-at limit announced before piece after size used status.More h t = record { accepted = h.accepted; present = t.present; undecided = t.decided.0 }
  taken-at limit announced before piece after size used status.Memory h t = record { accepted = h.accepted; present = t.present; undecided = t.decided.0 }
  taken-at limit announced before piece after size used status.Ready h t = record {
    accepted = subst (IsAccepted limit announced) (sym t.decided.1) h.accepted;
    whole = subst (λ n. judgement_by messages n after ≡ verdict.Whole) (sym t.decided.1) t.decided.0;
  }
  taken-at limit announced before piece after size used (status.Refused refusal) h t = refused_within limit announced after size refusal h.accepted t.present t.decided

  -- the machine has scanned them
  pub scanned-at : (limit : ℕ) (announced before piece after : List ℕ) (size used : ℕ) (answer : Status) (machine : Machine) → HasPart messages limit announced before size → IsFedContents messages size before piece after (record { used = used; status = answer }) → HasScanned profile machine size after → IsScanned profile machine announced after (phase_of size answer)
  scanned-at limit announced before piece after size used status.More machine h t at = at
  scanned-at limit announced before piece after size used status.Memory machine h t at = at
  scanned-at limit announced before piece after size used status.Ready machine h t at = subst (λ n. HasScanned profile machine n after) (sym t.decided.1) at
  scanned-at limit announced before piece after size used (status.Refused refusal) machine h t at = inr (subst (λ n. HasScanned profile machine n after) (sym h.accepted.is) at)
