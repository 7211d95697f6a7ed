-- The offset in a stream of the octet that is refused.
use Rattle.std.proofs.Common.{◌≡◌, ℕ, zero, suc, ◌+◌, ◌<◌, ◌≤◌, inl, inr, List, [], ◌++◌, length, take, drop, Option, Some, None, refl, sym, ◌∙◌, ap, subst, arith, le_refl, length-take, length-drop, take-append-drop}
use Rattle.std.proofs.lemmas.Bool.{cases_lt}
use Rattle.std.proofs.lemmas.List.{drop_all, drop-take, take-take, take_all}
use Rattle.std.proofs.lemmas.List.Sums.{sum_by-cons}
use Rattle.std.proofs.Math.Seq.{take-add}
use Rattle.krb_der.specs.Octets.{number}
use Rattle.krb_der.specs.declared.profile.Profile.TheVariants.{Lenient}
use Rattle.krb_der.specs.declared.why.Why.{Why}
use Rattle.krb_msg.specs.Term.{Term}
use Rattle.krb_msg.specs.Judgement.{Outcome, Open, Bad, Done, message_outcome, verdict_of}
use Rattle.krb_msg.specs.Stream.{End, Boundary, Within, Refused, ends, with_first, frames}
use Rattle.krb_msg.proofs.FramePrefixes.{MayFollow, frames-open, frames-bad, frames-done, frames-done_more, frames-nil}
use Rattle.krb_msg.proofs.Grammars.{open_outcome, refused_outcome, refusal_is_final}
use Rattle.krb_frame.specs.Decoded.{frames_size}
use Rattle.krb_frame.specs.Frame.{length_fault}
use Rattle.krb_frame.specs.Laws.{IsRefusedWith, RefusalsAreAtOffsets}
use Rattle.krb_frame.specs.inner.Phases.{end_after}
use Rattle.krb_frame.proofs.DecoderFrames.{found-short}
use Rattle.krb_frame.proofs.Lengths.{frames-fault, no_fault}

not_boundary : (place : ℕ) (reason : Why) → Boundary ≡ Refused place reason → ⊥
not_boundary place reason e = cc

not_within : (present place : ℕ) (reason : Why) → Within present ≡ Refused place reason → ⊥
not_within present place reason e = cc

not_after : (n place : ℕ) (reason : Why) → end_after n ≡ Refused place reason → ⊥
not_after zero place reason e = cc
not_after (suc n) place reason e = cc

same_place : (place other : ℕ) (reason same : Why) → Refused place reason ≡ Refused other same → place ≡ other
same_place place other reason same e = cc

module _ (messages : List Term) (limit : ℕ) where
  abbrev ends_at : List ℕ → End
  ends_at octets = (frames messages limit octets).end

  -- the first frame is refused, at the last of these octets of it
  first-at : (octets : List ℕ) (place other : ℕ) (reason same : Why) → place < length octets → ((o : ℕ) (r : Why) → ends_at (take place octets) ≡ Refused o r → ⊥) → frames messages limit (take (place + 1) octets) ≡ ends (Refused place reason) → frames messages limit octets ≡ ends (Refused place reason) → ends_at octets ≡ Refused other same → IsRefusedWith messages limit octets (frames_size (frames messages limit octets).contents + other)
  first-at octets place other reason same inside before last all e =
      let p : place ≡ other = same_place place other reason same (sym (ap (λ f. f.end) all) ∙ e) in
      let z : place ≡ 0 + other = omega (arith, p) in
      subst (IsRefusedWith messages limit octets) (z ∙ ap (λ f. frames_size f.contents + other) (sym all))
      (record { inside = inside; before = before; with_it = last ∙ sym all })

  -- for its length
  short-at : (octets : List ℕ) → 4 ≤ length octets → (o : ℕ) (r : Why) → ends_at (take 3 octets) ≡ Refused o r → ⊥
  short-at octets four o r e =
      let few : length (take 3 octets) < 4 = omega (arith, length-take 3 octets) in
      not_after (length (take 3 octets)) o r (sym (ap (λ f. f.end) (found-short messages Lenient limit (take 3 octets) few)) ∙ e)

  abbrev size : List ℕ → ℕ
  size octets = number (take 4 octets)

  -- the first octets of a frame, those of its length with them
  prefix-size : (k : ℕ) (octets : List ℕ) → number (take 4 (take (4 + k) octets)) ≡ size octets
  prefix-size k octets = ap number (take-take 4 (4 + k) octets (omega arith))

  prefix-contents : (k : ℕ) (octets : List ℕ) → k ≤ size octets → take (size octets) (drop 4 (take (4 + k) octets)) ≡ take k (take (size octets) (drop 4 octets))
  prefix-contents k octets within =
      ap (take (size octets)) (drop-take 4 k octets)
      ∙ take_all (size octets) (take k (drop 4 octets)) (omega (arith, within, length-take k (drop 4 octets)))
      ∙ sym (take-take k (size octets) (drop 4 octets) within)

  prefix-four : (k : ℕ) (octets : List ℕ) → 4 ≤ length octets → 4 ≤ length (take (4 + k) octets)
  prefix-four k octets four = omega (arith, four, length-take (4 + k) octets)

  module _ (octets : List ℕ) (four : 4 ≤ length octets) (place : ℕ) (reason : Why) (e : ends_at octets ≡ Refused place reason) (each : (rest : List ℕ) → length rest < length octets → ends_at rest ≡ Refused place reason → IsRefusedWith messages limit rest (frames_size (frames messages limit rest).contents + place)) where
    abbrev n : ℕ
    n = number (take 4 octets)

    abbrev contents : List ℕ
    contents = take n (drop 4 octets)

    abbrev Wanted : Type 0
    Wanted = IsRefusedWith messages limit octets (frames_size (frames messages limit octets).contents + place)

    -- for its contents
    bad-at : MayFollow messages limit n → (offset : ℕ) (other : Why) → message_outcome messages n contents ≡ Bad offset other → Wanted
    bad-at m offset other o =
        let few : length contents ≤ n = omega (arith, length-take n (drop 4 octets)) in
        let f = refusal_is_final messages n contents offset other few (ap verdict_of o) in
        let within : offset + 1 ≤ n = omega (arith, f.within, few) in
        let last : message_outcome messages n (take (offset + 1) contents) ≡ Bad offset other =
        refused_outcome (message_outcome messages n (take (offset + 1) contents)) offset other (f.same (take (offset + 1) contents) (omega (arith, within, length-take (offset + 1) contents)) (take-take (suc offset) (offset + 1) contents (omega arith))) in
        let open_before : message_outcome messages n (take offset contents) ≡ Open = open_outcome (message_outcome messages n (take offset contents)) (f.sooner offset (omega arith)) in
        let parts : 4 + offset + 1 ≡ 4 + (offset + 1) = omega arith in
        first-at octets (4 + offset) place other reason (omega (arith, f.within, length-take n (drop 4 octets), length-drop 4 octets))
        (λ o r t.
        not_within (length (take (4 + offset) octets)) o r
        (sym (ap (λ x. x.end) (frames-open messages limit (take (4 + offset) octets) n (prefix-four offset octets four) (prefix-size offset octets) m (ap (message_outcome messages n) (prefix-contents offset octets (omega (arith, within))) ∙ open_before))) ∙ t))
        (ap (λ k. frames messages limit (take k octets)) parts ∙ frames-bad messages limit (take (4 + (offset + 1)) octets) n offset other (prefix-four (offset + 1) octets four) (prefix-size (offset + 1) octets) m (ap (message_outcome messages n) (prefix-contents (offset + 1) octets within) ∙ last))
        (frames-bad messages limit octets n offset other four refl m o)
        e

    -- after a whole frame
    rest-at : MayFollow messages limit n → (count : ℕ) → message_outcome messages n contents ≡ Done count → 4 + n ≤ length octets → Wanted
    rest-at m count o there =
        let head : List ℕ = take (4 + n) octets in
        let rest : List ℕ = drop (4 + n) octets in
        let long : 4 + n ≤ length (take (4 + n) octets) = omega (arith, there, length-take (4 + n) octets) in
        let same : take n (drop 4 (take (4 + n) octets)) ≡ contents = prefix-contents n octets (omega arith) ∙ take-take n n (drop 4 octets) (omega arith) in
        let first : (more : List ℕ) → frames messages limit (take (4 + n) octets ++ more) ≡ with_first contents (frames messages limit more) =
        λ more.
        frames-done_more messages limit (take (4 + n) octets) more n count long (prefix-size n octets) m (ap (message_outcome messages n) same ∙ o)
        ∙ ap (λ c. with_first c (frames messages limit (drop (4 + n) (take (4 + n) octets) ++ more))) same
        ∙ ap (λ r. with_first contents (frames messages limit (r ++ more))) (drop_all (4 + n) (take (4 + n) octets) (omega (arith, length-take (4 + n) octets))) in
        let all : frames messages limit octets ≡ with_first contents (frames messages limit (drop (4 + n) octets)) = ap (frames messages limit) (sym (take-append-drop (4 + n) octets)) ∙ first (drop (4 + n) octets) in
        let i : IsRefusedWith messages limit (drop (4 + n) octets) (frames_size (frames messages limit (drop (4 + n) octets)).contents + place) = each (drop (4 + n) octets) (omega (arith, four, length-drop (4 + n) octets)) (sym (ap (λ f. f.end) all) ∙ e) in
        let k : ℕ = frames_size (frames messages limit (drop (4 + n) octets)).contents + place in
        let counted : 4 + n + (frames_size (frames messages limit (drop (4 + n) octets)).contents + place) ≡ frames_size (frames messages limit octets).contents + place =
        omega (arith, there, ap (λ f. frames_size f.contents) all, sum_by-cons (λ c. 4 + length c) contents (frames messages limit (drop (4 + n) octets)).contents, length-take n (drop 4 octets), length-drop 4 octets) in
        let one : 4 + n + k + 1 ≡ 4 + n + (k + 1) = omega arith in
        subst (IsRefusedWith messages limit octets) counted
        (record {
          inside = omega (arith, i.inside, length-drop (4 + n) octets);
          before = λ o r t. i.before o r (sym (ap (λ f. f.end) (ap (frames messages limit) (take-add (4 + n) k octets) ∙ first (take k rest))) ∙ t);
          with_it =
              ap (λ j. frames messages limit (take j octets)) one
              ∙ ap (frames messages limit) (take-add (4 + n) (k + 1) octets)
              ∙ first (take (k + 1) rest)
              ∙ ap (with_first contents) i.with_it
              ∙ sym all;
        })

    -- nothing is left of octets that have no more
    done-at : MayFollow messages limit n → (count : ℕ) → message_outcome messages n contents ≡ Done count → Wanted
    done-at m count o = elim (cases_lt (length octets) (4 + n)) [
      | inl short ↦
          let none : drop n (drop 4 octets) ≡ [] = drop_all n (drop 4 octets) (omega (arith, short, length-drop 4 octets)) in
          absurd (not_boundary place reason (sym (ap (λ f. f.end) (frames-done messages limit octets n count four refl m o ∙ ap (λ r. with_first contents (frames messages limit r)) none ∙ ap (with_first contents) (frames-nil messages limit))) ∙ e))
      | inr there ↦ rest-at m count o there
    ]

    judged-at : MayFollow messages limit n → (outcome : Outcome) → message_outcome messages n contents ≡ outcome → Wanted
    judged-at m Open o = absurd (not_within (length octets) place reason (sym (ap (λ f. f.end) (frames-open messages limit octets n four refl m o)) ∙ e))
    judged-at m (Done count) o = done-at m count o
    judged-at m (Bad offset other) o = bad-at m offset other o

    length-at : (fault : Option Why) → length_fault limit n ≡ fault → Wanted
    length-at (Some other) f =
        first-at octets 3 place other reason (omega (arith, four)) (short-at octets four)
        (frames-fault limit n messages (take 4 octets) (prefix-four 0 octets four) (prefix-size 0 octets) other f) (frames-fault limit n messages octets four refl other f) e
    length-at None f =
        let fine = no_fault limit n f in
        judged-at (record { some = fine.0; short = fine.1.0; within = fine.1.1 }) (message_outcome messages n contents) refl

  short-never : (octets : List ℕ) → length octets < 4 → (place : ℕ) (reason : Why) → ends_at octets ≡ Refused place reason → ⊥
  short-never octets h place reason e = not_after (length octets) place reason (sym (ap (λ f. f.end) (found-short messages Lenient limit octets h)) ∙ e)

  refused-at : (bound : ℕ) (octets : List ℕ) → length octets ≤ bound → (place : ℕ) (reason : Why) → ends_at octets ≡ Refused place reason → IsRefusedWith messages limit octets (frames_size (frames messages limit octets).contents + place)
  refused-at zero octets few place reason e = absurd (short-never octets (omega (arith, few)) place reason e)
  refused-at (suc bound) octets few place reason e =
      elim (cases_lt (length octets) 4) [
        | inl h ↦ absurd (short-never octets h place reason e)
        | inr four ↦
            length-at octets four place reason e (λ rest less t. refused-at bound rest (omega (arith, less, few)) place reason t)
            (length_fault limit (number (take 4 octets))) refl
      ]

pub refusals_are_at_offsets : RefusalsAreAtOffsets
refusals_are_at_offsets messages limit stream place reason e = refused-at messages limit (length stream) stream (le_refl (length stream)) place reason e
