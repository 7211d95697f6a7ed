-- A decoder that has decoded a stream, by the end of the stream; and a stream after a refusal.
use Rattle.std.proofs.Common.{◌≡◌, ℕ, suc, ◌+◌, ◌^◌, ◌<◌, ◌≤◌, ◌⊎◌, inl, inr, List, [], ◌∷◌, ◌++◌, length, take, drop, Some, None, refl, sym, ◌∙◌, ap, arith, append_assoc, append-nil, length-append, length-take, take-append-drop}
use Rattle.std.specs.Prelude.{if◌then◌else◌, is_some}
use Rattle.std.proofs.lemmas.Bool.{cases_lt}
use Rattle.std.proofs.lemmas.List.{take-append-le, drop-append-le, take-take}
use Rattle.krb_der.specs.Octets.{number}
use Rattle.krb_der.specs.declared.why.Why.{Why}
use Rattle.krb_der.specs.declared.verdict.Refusal.{Refusal}
use Rattle.krb_msg.specs.Term.{Term}
use Rattle.krb_msg.specs.Judgement.{Outcome, Open, Bad, Done, message_outcome, verdict_of}
use Rattle.krb_msg.specs.Stream.{Frames, End, Boundary, Within, Refused, ends, with_first, frames}
use Rattle.krb_msg.proofs.FramePrefixes.{MayFollow, frames-high, frames-long, frames-empty, frames-open, frames-bad, frames-done, frames-short, frames-nil}
use Rattle.krb_msg.proofs.Grammars.{refused_outcome, refusal_is_final}
use Rattle.krb_frame.specs.Decoding.{Decoding, found, status_at, first_of, AreOfOne}
use Rattle.krb_frame.specs.Decoded.{HasDecoded, EndsWith, after_frames}
use Rattle.krb_frame.specs.Laws.{MatchesStream}
use Rattle.krb_frame.specs.declared.decoder.Status.TheVariants as status

-- ---- octets after a refusal
pub no_within : (n place : ℕ) (reason : Why) → ends (Within n) ≡ ends (Refused place reason) → ⊥
no_within n place reason e = absurd (no (ap (λ f. f.end) e))
  where
    no : Within n ≡ Refused place reason → ⊥
    no e = cc

pub no_boundary : (place : ℕ) (reason : Why) → ends Boundary ≡ ends (Refused place reason) → ⊥
no_boundary place reason e = absurd (no (ap (λ f. f.end) e))
  where
    no : Boundary ≡ Refused place reason → ⊥
    no e = cc

pub no_first : (contents : List ℕ) (f : Frames) (place : ℕ) (reason : Why) → with_first contents f ≡ ends (Refused place reason) → ⊥
no_first contents f place reason e = absurd (no (ap (λ g. g.contents) e))
  where
    no : contents ∷ f.contents ≡ [] → ⊥
    no e = cc

-- ---- a decoder that waits or is refused has no frame
pub none_found : (contents : List (List ℕ)) (end : End) → (status_at contents end ≡ status.Ready → ⊥) → contents ≡ []
none_found [] end n = refl
none_found (first ∷ others) end n = absurd (n refl)

pub refused_end : (contents : List (List ℕ)) (end : End) (refusal : Refusal) → status_at contents end ≡ status.Refused refusal → (contents ≡ []) × (end ≡ Refused refusal.place refusal.why)
refused_end (first ∷ others) end refusal e = absurd cc
refused_end [] Boundary refusal e = absurd cc
refused_end [] (Within present) refusal e = absurd cc
refused_end [] (Refused place reason) refusal e = (refl, same (record { place = place; why = reason }) refusal e)
  where
    same : (r s : Refusal) → status.Refused r ≡ status.Refused s → Refused r.place r.why ≡ Refused s.place s.why
    same r s e = let f : r ≡ s = cc in ap (λ t. Refused t.place t.why) f

-- ---- by any messages
module _ (messages : List Term) where
  module _ (limit : ℕ) (octets more : List ℕ) (place : ℕ) (reason : Why) (e : frames messages limit octets ≡ ends (Refused place reason)) where
    Same : Type 0
    Same = frames messages limit (octets ++ more) ≡ ends (Refused place reason)

    short : (octets : List ℕ) → length octets < 4 → frames messages limit octets ≡ ends (Refused place reason) → ⊥
    short [] h e = no_boundary place reason (sym (frames-nil messages limit) ∙ e)
    short (octet ∷ octets) h e = no_within (length (octet ∷ octets)) place reason (sym (frames-short messages limit octet octets h) ∙ e)

    module _ (four : 4 ≤ length octets) where
      long : 4 ≤ length (octets ++ more)
      long = omega (arith, four, length-append octets more)

      prefix : number (take 4 (octets ++ more)) ≡ number (take 4 octets)
      prefix = ap number (take-append-le 4 octets more four)

      abbrev n : ℕ
      n = number (take 4 octets)

      -- the contents that are present, with or without more octets
      begins : (k : ℕ) → k ≤ length (take n (drop 4 octets)) → take k (take n (drop 4 (octets ++ more))) ≡ take k (take n (drop 4 octets))
      begins k h =
          let within : k ≤ n = omega (arith, h, length-take n (drop 4 octets)) in
          let there : k ≤ length (drop 4 octets) = omega (arith, h, length-take n (drop 4 octets)) in
          take-take k n (drop 4 (octets ++ more)) within
          ∙ ap (take k) (drop-append-le 4 octets more four)
          ∙ take-append-le k (drop 4 octets) more there
          ∙ sym (take-take k n (drop 4 octets) within)

      judged : MayFollow messages limit n → (outcome : Outcome) → message_outcome messages n (take n (drop 4 octets)) ≡ outcome → frames messages limit (octets ++ more) ≡ ends (Refused place reason)
      judged m Open o = absurd (no_within (length octets) place reason (sym (frames-open messages limit octets n four refl m o) ∙ e))
      judged m (Done count) o = absurd (no_first (take n (drop 4 octets)) (frames messages limit (drop n (drop 4 octets))) place reason (sym (frames-done messages limit octets n count four refl m o) ∙ e))
      judged m (Bad offset other) o =
          let l : length (take n (drop 4 octets)) ≤ n = omega (arith, length-take n (drop 4 octets)) in
          let k : length (take n (drop 4 (octets ++ more))) ≤ n = omega (arith, length-take n (drop 4 (octets ++ more))) in
          let f = refusal_is_final messages n (take n (drop 4 octets)) offset other l (ap verdict_of o) in
          let same = f.same (take n (drop 4 (octets ++ more))) k (begins (suc offset) (omega (arith, f.within))) in
          let bad = refused_outcome (message_outcome messages n (take n (drop 4 (octets ++ more)))) offset other same in
          frames-bad messages limit (octets ++ more) n offset other long prefix m bad ∙ (sym (frames-bad messages limit octets n offset other four refl m o) ∙ e)

      of_number : (n < 2 ^ 31) ⊎ (2 ^ 31 ≤ n) → (limit < n) ⊎ (n ≤ limit) → (0 < n) ⊎ (n ≤ 0) → frames messages limit (octets ++ more) ≡ ends (Refused place reason)
      of_number (inr h) c d = frames-high messages limit (octets ++ more) n long prefix h ∙ (sym (frames-high messages limit octets n four refl h) ∙ e)
      of_number (inl s) (inl h) d = frames-long messages limit (octets ++ more) n long prefix s h ∙ (sym (frames-long messages limit octets n four refl s h) ∙ e)
      of_number (inl s) (inr w) (inr z) = frames-empty messages limit (octets ++ more) long (prefix ∙ omega arith) ∙ (sym (frames-empty messages limit octets four (omega arith)) ∙ e)
      of_number (inl s) (inr w) (inl p) = judged (record { some = p; short = s; within = w }) (message_outcome messages n (take n (drop 4 octets))) refl

    pub refused_more : frames messages limit (octets ++ more) ≡ ends (Refused place reason)
    refused_more = elim (cases_lt (length octets) 4) [
      | inl h ↦ absurd (short octets h e)
      | inr h ↦ of_number h (cases_lt (number (take 4 octets)) (2 ^ 31)) (cases_lt limit (number (take 4 octets))) (cases_lt 0 (number (take 4 octets)))
    ]

  -- ---- what a decoder has of its stream
  module _ (octets : List ℕ) where
    one_more : (contents : List (List ℕ)) (end : End) → AreOfOne octets contents end → length contents ≡ (if is_some (first_of contents) then 1 else 0)
    one_more [] end a = refl
    one_more (first ∷ []) end a = refl
    one_more (first ∷ second ∷ others) end a = absurd a

    is_ready : (contents : List (List ℕ)) (end : End) (first : List ℕ) → AreOfOne octets contents end → first_of contents ≡ Some first → (contents ≡ first ∷ []) × (end ≡ Boundary) × (drop 4 octets ≡ first)
    is_ready [] end first a e = absurd cc
    is_ready (other ∷ []) Boundary first a e = let s : other ≡ first = cc in (ap (λ c. c ∷ []) s, refl, a ∙ s)
    is_ready (other ∷ []) (Within present) first a e = absurd a
    is_ready (other ∷ []) (Refused place reason) first a e = absurd a
    is_ready (other ∷ second ∷ others) end first a e = absurd a

    is_refused : (contents : List (List ℕ)) (end : End) (place : ℕ) (reason : Why) → AreOfOne octets contents end → end ≡ Refused place reason → status_at contents end ≡ status.Refused (record { place = place; why = reason })
    is_refused [] end place reason a e = ap (status_at []) e
    is_refused (first ∷ []) Boundary place reason a e = absurd cc
    is_refused (first ∷ []) (Within present) place reason a e = absurd a
    is_refused (first ∷ []) (Refused other same) place reason a e = absurd a
    is_refused (first ∷ second ∷ others) end place reason a e = absurd a

    is_between : (contents : List (List ℕ)) (end : End) → AreOfOne octets contents end → end ≡ Boundary → first_of contents ≡ None → octets ≡ []
    is_between [] Boundary a e n = a
    is_between [] (Within present) a e n = absurd cc
    is_between [] (Refused place reason) a e n = absurd cc
    is_between (first ∷ others) end a e n = absurd cc

    is_within : (contents : List (List ℕ)) (end : End) (present : ℕ) → AreOfOne octets contents end → end ≡ Within present → length octets ≡ present
    is_within [] Boundary present a e = absurd cc
    is_within [] (Within other) present a e = let s : other ≡ present = cc in a ∙ s
    is_within [] (Refused place reason) present a e = absurd cc
    is_within (first ∷ []) Boundary present a e = absurd cc
    is_within (first ∷ []) (Within other) present a e = absurd a
    is_within (first ∷ []) (Refused place reason) present a e = absurd a
    is_within (first ∷ second ∷ others) end present a e = absurd a

  pub found_of : (d : Decoding) (stream : List ℕ) (cleared : List (List ℕ)) → HasDecoded messages d stream cleared → frames messages d.limit stream ≡ after_frames cleared (found messages d)
  unfolding found
  found_of d stream cleared s =
      ap (frames messages d.limit) (sym (append-nil stream))
      ∙ s.goes_on []
      ∙ ap (λ l. after_frames cleared (frames messages d.limit l)) (append-nil d.octets)

  pub decoder_matches_stream : (d : Decoding) (stream : List ℕ) (cleared : List (List ℕ)) → HasDecoded messages d stream cleared → MatchesStream messages d stream cleared
  decoder_matches_stream d stream cleared s = record {
    found_all = all;
    counted = ap (λ f. length f.contents) all ∙ length-append cleared (found messages d).contents ∙ ap (λ k. length cleared + k) (one_more d.octets (found messages d).contents (found messages d).end s.one);
    ready = λ contents e.
        let r = is_ready d.octets (found messages d).contents (found messages d).end contents s.one e in
        (λ i. record { contents = r.0 i; end = r.1 i }, r.2, contents_last contents r.2);
    refused = λ place reason. (
      λ e. is_refused d.octets (found messages d).contents (found messages d).end place reason s.one (sym end ∙ e),
      λ e. end ∙ (refused_end (found messages d).contents (found messages d).end (record { place = place; why = reason }) e).1,
    );
    boundary = λ e n. is_between d.octets (found messages d).contents (found messages d).end s.one (sym end ∙ e) n;
    within = λ present e. (is_within d.octets (found messages d).contents (found messages d).end present s.one (sym end ∙ e), s.last);
  }
    where
      all : frames messages d.limit stream ≡ after_frames cleared (found messages d)
      all = found_of d stream cleared s

      end : (frames messages d.limit stream).end ≡ (found messages d).end
      end = ap (λ f. f.end) all

      contents_last : (contents : List ℕ) → drop 4 d.octets ≡ contents → EndsWith contents stream
      contents_last contents e = record {
        before = s.last.before ++ take 4 d.octets;
        parts =
            s.last.parts
            ∙ ap (λ l. s.last.before ++ l) (sym (take-append-drop 4 d.octets))
            ∙ sym (append_assoc s.last.before (take 4 d.octets) (drop 4 d.octets))
            ∙ ap (λ l. (s.last.before ++ take 4 d.octets) ++ l) e;
      }

  pub refusal_ends : (d : Decoding) (stream more : List ℕ) (cleared : List (List ℕ)) (place : ℕ) (reason : Why) → HasDecoded messages d stream cleared → (frames messages d.limit stream).end ≡ Refused place reason → frames messages d.limit (stream ++ more) ≡ frames messages d.limit stream
  unfolding found
  refusal_ends d stream more cleared place reason s e =
      let t = decoder_matches_stream d stream cleared s in
      let r = refused_end (found messages d).contents (found messages d).end (record { place = place; why = reason }) ((t.refused place reason).0 e) in
      let f : found messages d ≡ ends (Refused place reason) = λ i. record { contents = r.0 i; end = r.1 i } in
      s.goes_on more ∙ ap (after_frames cleared) (refused_more d.limit d.octets more place reason f ∙ sym f) ∙ sym t.found_all
