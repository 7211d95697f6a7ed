-- The frames of a stream that is decoded further after a refusal, one after another.
use Rattle.std.proofs.Common.{◌≡◌, ℕ, zero, suc, ◌+◌, ◌-◌, ◌^◌, ◌<◌, ◌≤◌, ◌⊎◌, inl, inr, List, [], ◌∷◌, ◌++◌, length, map, take, drop, refl, sym, ◌∙◌, ap, arith, le_refl, append_assoc, append-nil, length-append, length-take, length-drop}
use Rattle.std.specs.Prelude.{Some, None}
use Rattle.std.proofs.lemmas.Bool.{cases_lt, lt-leb, le-leb}
use Rattle.std.proofs.lemmas.List.{map-append, take-append-le, take_at}
use Rattle.std.proofs.lemmas.List.Sums.{sum_by-append, sum_by-cons}
use Rattle.std.proofs.Math.Seq.{drop-append-add}
use Rattle.krb_der.specs.Octets.{number}
use Rattle.krb_der.specs.declared.profile.Profile.{Profile}
use Rattle.krb_der.specs.declared.verdict.Refusal.{Refusal}
use Rattle.krb_der.specs.declared.why.Why.{Why}
use Rattle.krb_msg.specs.Term.{Term}
use Rattle.krb_msg.specs.Judgement.{Outcome, Open, Bad, Done, message_outcome, verdict_of}
use Rattle.krb_msg.specs.Stream.{Frames, End, Boundary, Within, Refused, ends, with_first, frames}
use Rattle.krb_msg.proofs.FramePrefixes.{MayFollow, frames-long, frames-empty, frames-open, frames-bad, frames-done, frames-nil}
use Rattle.krb_msg.proofs.Grammars.{refusal_is_final}
use Rattle.krb_frame.specs.Decoding.{Decoding, IsAmple, decoding_of, octets_of}
use Rattle.krb_frame.specs.inner.Phases.{IsPhaseOf, HasRefused, phase_status}
use Rattle.krb_frame.specs.declared.decoder.Phase.{Phase}
use Rattle.krb_frame.specs.declared.decoder.Phase.TheVariants as phase
use Rattle.krb_frame.proofs.DecoderFrames.{comes, four_octets}
use Rattle.krb_frame.specs.GoingOn.{rest_of, rest_at, rest_to_come, GivesUp, Entry, Contents, Fault, last_entry, after_contents, next_entries, entries_after, entries_of, entries_within, entries}
use Rattle.krb_frame.specs.Decoded.{after_frames, frames_size}
use Rattle.krb_frame.specs.Laws.{GoingOnBegins}
use Rattle.krb_frame.proofs.Ends.{no_within, no_first, refused_more}

-- ---- by any messages
module _ (messages : List Term) (limit : ℕ) where
  -- ---- the bound on how many are refused
  next-same : (f g : List ℕ → List Entry) (octets : List ℕ) → f (drop (4 + number (take 4 octets)) octets) ≡ g (drop (4 + number (take 4 octets)) octets) → next_entries f octets ≡ next_entries g octets
  next-same f g octets e = rw e refl

  after-same : (end : End) (f g : List ℕ → List Entry) (octets : List ℕ) → f (drop (4 + number (take 4 octets)) octets) ≡ g (drop (4 + number (take 4 octets)) octets) → entries_after end f octets ≡ entries_after end g octets
  after-same Boundary f g octets e = refl
  after-same (Within present) f g octets e = refl
  after-same (Refused place reason) f g octets e = next-same f g octets e

  of-same : (found : Frames) (f g : List ℕ → List Entry) (stream : List ℕ) → f (drop (4 + number (take 4 (drop (frames_size found.contents) stream))) (drop (frames_size found.contents) stream)) ≡ g (drop (4 + number (take 4 (drop (frames_size found.contents) stream))) (drop (frames_size found.contents) stream)) → entries_of found f stream ≡ entries_of found g stream
  of-same found f g stream e = ap (λ l. map Contents found.contents ++ (last_entry found.end (after_contents found stream) ++ l)) (after-same found.end f g (drop (frames_size found.contents) stream) e)

  -- fewer octets are left after a frame
  fewer : (n k b : ℕ) (octets : List ℕ) → length octets ≤ suc b → length (drop (4 + n) (drop k octets)) ≤ b
  fewer n k b octets h = omega (arith, h, length-drop (4 + n) (drop k octets), length-drop k octets)

  within-nil : (b : ℕ) → entries_within b messages limit [] ≡ []
  within-nil zero = refl
  within-nil (suc b) = ap (λ f. entries_of f (entries_within b messages limit) []) (frames-nil messages limit)

  within-same : (b c : ℕ) (stream : List ℕ) → length stream ≤ b → length stream ≤ c → entries_within b messages limit stream ≡ entries_within c messages limit stream
  within-same b c [] p q = within-nil b ∙ sym (within-nil c)
  within-same zero c (octet ∷ rest) p q = absurd (omega arith)
  within-same (suc b) zero (octet ∷ rest) p q = absurd (omega arith)
  within-same (suc b) (suc c) (octet ∷ rest) p q =
      let found : Frames = frames messages limit (octet ∷ rest) in
      let left : List ℕ = drop (frames_size found.contents) (octet ∷ rest) in
      of-same found (entries_within b messages limit) (entries_within c messages limit) (octet ∷ rest)
      (within-same b c (drop (4 + number (take 4 left)) left) (fewer (number (take 4 left)) (frames_size found.contents) b (octet ∷ rest) p) (fewer (number (take 4 left)) (frames_size found.contents) c (octet ∷ rest) q))

  pub entries-nil : entries messages limit [] ≡ []
  unfolding entries
  entries-nil = refl

  -- the frames up to the first refusal, and then those after it
  pub entries-step : (stream : List ℕ) → entries messages limit stream ≡ entries_of (frames messages limit stream) (entries messages limit) stream
  unfolding entries
  entries-step [] = sym (ap (λ f. entries_of f (λ l. entries_within (length l) messages limit l) []) (frames-nil messages limit))
  entries-step (octet ∷ rest) =
      let found : Frames = frames messages limit (octet ∷ rest) in
      let left : List ℕ = drop (frames_size found.contents) (octet ∷ rest) in
      let next : List ℕ = drop (4 + number (take 4 left)) left in
      of-same found (entries_within (length rest) messages limit) (λ l. entries_within (length l) messages limit l) (octet ∷ rest)
      (within-same (length rest) (length next) next (fewer (number (take 4 left)) (frames_size found.contents) (length rest) (octet ∷ rest) (omega arith)) (le_refl (length next)))

  -- ---- as before, up to the first refusal
  none_after : (end : End) (f : List ℕ → List Entry) (octets : List ℕ) → ((place : ℕ) (reason : Why) → end ≡ Refused place reason → ⊥) → entries_after end f octets ≡ []
  none_after Boundary f octets n = refl
  none_after (Within present) f octets n = refl
  none_after (Refused place reason) f octets n = absurd (n place reason refl)

  pub begins : (stream : List ℕ) → GoingOnBegins messages limit stream
  begins stream =
      let found : Frames = frames messages limit stream in
      let rest : List Entry = entries_after found.end (entries messages limit) (drop (frames_size found.contents) stream) in
      record {
        first = (rest, entries-step stream ∙ sym (append_assoc (map Contents found.contents) (last_entry found.end (after_contents found stream)) rest));
        alone = λ n.
            entries-step stream
            ∙ ap (λ l. map Contents found.contents ++ (last_entry found.end (after_contents found stream) ++ l)) (none_after found.end (entries messages limit) (drop (frames_size found.contents) stream) n)
            ∙ ap (λ l. map Contents found.contents ++ l) (append-nil (last_entry found.end (after_contents found stream)));
      }

  -- ---- octets that begin with frames
  pub entries-cleared : (cleared : List (List ℕ)) (before octets : List ℕ) → length before ≡ frames_size cleared → frames messages limit (before ++ octets) ≡ after_frames cleared (frames messages limit octets) → entries messages limit (before ++ octets) ≡ map Contents cleared ++ entries messages limit octets
  entries-cleared cleared before octets counted e =
      entries-step (before ++ octets)
      ∙ ap (λ f. entries_of f (entries messages limit) (before ++ octets)) e
      ∙ ap (λ r. map Contents (cleared ++ found.contents) ++ (last_entry found.end r ++ entries_after found.end (entries messages limit) r)) left
      ∙ ap (λ l. l ++ others) (map-append Contents cleared found.contents)
      ∙ append_assoc (map Contents cleared) (map Contents found.contents) others
      ∙ ap (λ l. map Contents cleared ++ l) (sym (entries-step octets))
    where
      found : Frames
      found = frames messages limit octets

      rest : List ℕ
      rest = drop (frames_size found.contents) octets

      others : List Entry
      others = last_entry found.end rest ++ entries_after found.end (entries messages limit) rest

      left : drop (frames_size (cleared ++ found.contents)) (before ++ octets) ≡ rest
      left =
          ap (λ n. drop n (before ++ octets)) (sum_by-append (λ c. 4 + length c) cleared found.contents ∙ ap (λ n. n + frames_size found.contents) (sym counted))
          ∙ drop-append-add before octets (frames_size found.contents)

  pub entries-frame : (octets contents more : List ℕ) → length octets ≡ 4 + length contents → frames messages limit (octets ++ more) ≡ with_first contents (frames messages limit more) → entries messages limit (octets ++ more) ≡ Contents contents ∷ entries messages limit more
  entries-frame octets contents more l e =
      entries-step (octets ++ more)
      ∙ ap (λ f. entries_of f (entries messages limit) (octets ++ more)) e
      ∙ ap (λ r. Contents contents ∷ (map Contents found.contents ++ (last_entry found.end r ++ entries_after found.end (entries messages limit) r))) after
      ∙ ap (λ r. Contents contents ∷ r) (sym (entries-step more))
    where
      found : Frames
      found = frames messages limit more

      after : drop (frames_size (contents ∷ found.contents)) (octets ++ more) ≡ drop (frames_size found.contents) more
      after =
          ap (λ n. drop n (octets ++ more)) (sum_by-cons (λ c. 4 + length c) contents found.contents)
          ∙ ap (λ n. drop (n + frames_size found.contents) (octets ++ more)) (sym l)
          ∙ drop-append-add octets more (frames_size found.contents)

  -- ---- a frame that is refused
  pub entries-refused : (octets : List ℕ) (place : ℕ) (reason : Why) → frames messages limit octets ≡ ends (Refused place reason) → entries messages limit octets ≡ Fault place reason (take (place + 1) octets) ∷ next_entries (entries messages limit) octets
  entries-refused octets place reason e = entries-step octets ∙ ap (λ f. entries_of f (entries messages limit) octets) e

  -- the frame has the octet that is refused
  pub refused_inside : (octets : List ℕ) (place : ℕ) (reason : Why) → 4 ≤ length octets → number (take 4 octets) < 2 ^ 31 → frames messages limit octets ≡ ends (Refused place reason) → place < 4 + number (take 4 octets)
  refused_inside octets place reason four short e = of_number (cases_lt limit n) (cases_lt 0 n)
    where
      n : ℕ
      n = number (take 4 octets)

      contents : List ℕ
      contents = take n (drop 4 octets)

      same_place : (p q : ℕ) (r s : Why) → ends (Refused p r) ≡ ends (Refused q s) → p ≡ q
      same_place p q r s e = let f : Refused p r ≡ Refused q s = ap (λ x. x.end) e in cc

      at : (p : ℕ) (r : Why) → frames messages limit octets ≡ ends (Refused p r) → place ≡ p
      at p r f = same_place place p reason r (sym e ∙ f)

      judged : MayFollow messages limit n → (outcome : Outcome) → message_outcome messages n contents ≡ outcome → place < 4 + n
      judged m Open o = absurd (no_within (length octets) place reason (sym (frames-open messages limit octets n four refl m o) ∙ e))
      judged m (Done count) o = absurd (no_first contents (frames messages limit (drop n (drop 4 octets))) place reason (sym (frames-done messages limit octets n count four refl m o) ∙ e))
      judged m (Bad offset other) o =
          let l : length contents ≤ n = omega (arith, length-take n (drop 4 octets)) in
          let f = refusal_is_final messages n contents offset other l (ap verdict_of o) in
          omega (arith, at (4 + offset) other (frames-bad messages limit octets n offset other four refl m o), f.within, length-take n (drop 4 octets))

      of_number : (limit < n) ⊎ (n ≤ limit) → (0 < n) ⊎ (n ≤ 0) → place < 4 + n
      of_number (inl h) d = omega (arith, at 3 _ (frames-long messages limit octets n four refl short h))
      of_number (inr w) (inr z) = omega (arith, at 3 _ (frames-empty messages limit octets four (omega arith)))
      of_number (inr w) (inl p) = judged (record { some = p; short = short; within = w }) (message_outcome messages n contents) refl

  -- ---- the octets of a refused frame, and others
  module _ (octets : List ℕ) (place : ℕ) (reason : Why) (four : 4 ≤ length octets) (last : length octets ≡ place + 1) (e : frames messages limit octets ≡ ends (Refused place reason)) where
    prefix : (more : List ℕ) → number (take 4 (octets ++ more)) ≡ number (take 4 octets)
    prefix more = ap number (take-append-le 4 octets more four)

    first : (more : List ℕ) → entries messages limit (octets ++ more) ≡ Fault place reason octets ∷ next_entries (entries messages limit) (octets ++ more)
    first more =
        entries-refused (octets ++ more) place reason (refused_more messages limit octets more place reason e)
        ∙ ap (λ l. Fault place reason l ∷ next_entries (entries messages limit) (octets ++ more)) (take_at octets more (place + 1) last)

    -- its length is not known
    pub entries-unknown : 2 ^ 31 ≤ number (take 4 octets) → (more : List ℕ) → entries messages limit (octets ++ more) ≡ Fault place reason octets ∷ []
    entries-unknown h more = first more ∙ rw (prefix more, le-leb (2 ^ 31) (number (take 4 octets)) h) refl

    -- it is known
    pub used-few : number (take 4 octets) < 2 ^ 31 → length octets ≤ 4 + number (take 4 octets)
    used-few h = omega (arith, last, refused_inside octets place reason four h e)

    pub entries-skipped : number (take 4 octets) < 2 ^ 31 → (more : List ℕ) → entries messages limit (octets ++ more) ≡ Fault place reason octets ∷ entries messages limit (drop (4 + number (take 4 octets) - length octets) more)
    entries-skipped h more =
        first more
        ∙ rw (prefix more, lt-leb (2 ^ 31) (number (take 4 octets)) h) refl
        ∙ ap (λ l. Fault place reason octets ∷ entries messages limit l) after
      where
        rest : ℕ
        rest = 4 + number (take 4 octets) - length octets

        all : 4 + number (take 4 octets) ≡ length octets + rest
        all = omega (arith, used-few h)

        after : drop (4 + number (take 4 octets)) (octets ++ more) ≡ drop rest more
        after = ap (λ n. drop n (octets ++ more)) all ∙ drop-append-add octets more rest

-- ---- a decoder that is refused
-- a phase that is no refusal has no rest
none_to_come : (p : Phase) (octets : List ℕ) → ((refusal : Refusal) → p ≡ phase.Refused refusal → ⊥) → rest_at (phase_status p) octets ≡ None
none_to_come (phase.Length count) octets n = refl
none_to_come (phase.Contents size) octets n = refl
none_to_come phase.Ready octets n = refl
none_to_come (phase.Refused refusal) octets n = absurd (n refusal refl)

pub keeps : (messages : List Term) (d : Decoding) → rest_to_come messages d ≡ None → GivesUp messages d d None
keeps messages d e = record { rest = sym e; left = refl; ample = λ a. a }

pub gives-up : (messages : List Term) (old new : Decoding) (rest : ℕ) → rest_to_come messages old ≡ Some rest → new ≡ record { profile = old.profile; limit = old.limit; octets = []; looks = old.looks; capacity = new.capacity } → (IsAmple old → IsAmple new) → GivesUp messages old new (Some rest)
gives-up messages old new rest e l a = record { rest = sym e; left = l; ample = a }

module _ (messages : List Term) (profile : Profile) (limit looks : ℕ) (space : ℕ) (announced contents : List ℕ) (p : Phase) (h : IsPhaseOf messages limit announced contents p) where
  abbrev d : Decoding
  d = decoding_of profile limit looks space announced contents p

  pub rest-none : ((refusal : Refusal) → p ≡ phase.Refused refusal → ⊥) → rest_to_come messages d ≡ None
  rest-none n = ap (λ s. rest_at s d.octets) (comes messages profile limit looks space announced contents p h).is ∙ none_to_come p d.octets n

-- the octets of a refused phase
module _ (messages : List Term) (profile : Profile) (limit looks : ℕ) (space : ℕ) (announced contents : List ℕ) (refusal : Refusal) (h : HasRefused messages limit announced contents refusal) where
  abbrev held : List ℕ
  held = octets_of (phase.Refused refusal) announced contents

  all : held ≡ announced ++ contents
  all = four_octets announced contents h.four

  size : number (take 4 held) ≡ number announced
  size = ap (λ l. number (take 4 l)) all ∙ ap number (take_at announced contents 4 h.four)

  used : length held ≡ 4 + length contents
  used = ap length all ∙ omega (arith, h.four, length-append announced contents)

  pub contents-few : number announced < 2 ^ 31 → length contents ≤ number announced
  contents-few s =
      let i : refusal.place < 4 + number (take 4 held) = refused_inside messages limit held refusal.place refusal.why (omega (arith, used)) (omega (arith, size, s)) (ap (frames messages limit) all ∙ h.found) in
      omega (arith, i, size, h.last)

  pub rest-refused : rest_to_come messages (decoding_of profile limit looks space announced contents (phase.Refused refusal)) ≡ rest_of (number announced) (4 + length contents)
  rest-refused =
      ap (λ s. rest_at s held) (comes messages profile limit looks space announced contents (phase.Refused refusal) h).is
      ∙ ap (λ n. rest_of n (length held)) size
      ∙ ap (rest_of (number announced)) used

pub rest-known : (size used : ℕ) → size < 2 ^ 31 → rest_of size (4 + used) ≡ Some (size - used)
rest-known size used h = rw (lt-leb (2 ^ 31) size h) (let e : 4 + size - (4 + used) ≡ size - used = omega arith in ap Some e)
