-- The places and the reasons for which the frames of a stream are refused.
use Rattle.std.proofs.Common.{◌≡◌, ℕ, zero, suc, ◌+◌, ◌^◌, ◌<◌, ◌≤◌, ◌⊎◌, inl, inr, List, [], ◌∷◌, ◌++◌, length, take, drop, refl, sym, ◌∙◌, ap, subst, arith, le_refl, append_assoc, length-append, length-take, length-drop, take-append-drop, Result, Err}
use Rattle.std.proofs.lemmas.Bool.{cases_lt}
use Rattle.krb_der.specs.Octets.{AreOctets, number}
use Rattle.krb_der.specs.inner.Numbers.{AreOctets-take, AreOctets-drop}
use Rattle.krb_der.specs.declared.profile.Profile.TheVariants.{Lenient}
use Rattle.krb_der.specs.declared.verdict.Refusal.{Refusal}
use Rattle.krb_der.specs.declared.why.Why.{Why}
use Rattle.krb_der.specs.declared.why.Why.TheVariants as why
use Rattle.krb_msg.specs.Grammar.{messages}
use Rattle.krb_msg.specs.Term.{Term}
use Rattle.krb_msg.specs.Judgement.{Outcome, Open, Bad, Done, message_outcome, verdict_of, judgement_by}
use Rattle.krb_msg.specs.Laws.{IsRefusedFor}
use Rattle.krb_msg.specs.Stream.{End, Boundary, Within, Refused, ends, frames}
use Rattle.krb_msg.proofs.FramePrefixes.{MayFollow, frames-high, frames-long, frames-empty, frames-open, frames-bad, frames-done, frames-short, frames-nil}
use Rattle.krb_msg.proofs.Grammars.{refusal_is_final}
use Rattle.krb_msg.proofs.Reasons.{refusal_is_not_truncated, lenient_has_no_charset as no_charset}
use Rattle.krb_frame.specs.Decoding.{Decoding, found, finish_at}
use Rattle.krb_frame.specs.Feeds.{IsAnswer, Feeds}
use Rattle.krb_frame.specs.Decoded.{EndsWith}
use Rattle.krb_frame.specs.Laws.{RefusesFor, RefusalsAreInside, LenientHasNoCharset}
use Rattle.krb_frame.specs.declared.decoder.Fed.{Fed}
use Rattle.krb_frame.specs.declared.decoder.Status.{Status}
use Rattle.krb_frame.specs.declared.decoder.Status.TheVariants as status
use Rattle.krb_frame.proofs.Ends.{refused_end}

-- ---- octets at the end of others
AreOctets-suffix : (prefix suffix : List ℕ) → AreOctets (prefix ++ suffix) → AreOctets suffix
AreOctets-suffix [] suffix a = a
AreOctets-suffix (octet ∷ prefix) suffix a = AreOctets-suffix prefix suffix a.1

AreOctets-last : (frame stream : List ℕ) → EndsWith frame stream → AreOctets stream → AreOctets frame
AreOctets-last frame stream l a = AreOctets-suffix l.before frame (subst AreOctets l.parts a)

length-last : (frame stream : List ℕ) → EndsWith frame stream → length frame ≤ length stream
length-last frame stream l = omega (arith, ap length l.parts, length-append l.before frame)

EndsWith-after : (frame rest stream before : List ℕ) → stream ≡ before ++ rest → EndsWith frame rest → EndsWith frame stream
EndsWith-after frame rest stream before e l = record { before = before ++ l.before; parts = e ∙ ap (λ r. before ++ r) l.parts ∙ sym (append_assoc before l.before frame) }

-- ---- the frame that is refused
abbrev IsOfLength : Why → Type 0
IsOfLength reason = (reason ≡ why.HighBit) ⊎ ((reason ≡ why.TooLong) ⊎ (reason ≡ why.Empty))

-- the last frame is refused at one of its octets, for its length or for its contents
record Last (messages : List Term) (limit : ℕ) (stream : List ℕ) (place : ℕ) (reason : Why) : Type 0 where
  pub frame : List ℕ
  pub last : EndsWith frame stream
  pub alone : frames messages limit frame ≡ ends (Refused place reason)
  pub inside : place < length frame
  pub by : IsOfLength reason ⊎ ((n : ℕ) × (IsRefusedFor reason (judgement_by messages n (take n (drop 4 frame)))))

same_end : (place other : ℕ) (reason same : Why) → Refused place reason ≡ Refused other same → (place ≡ other) × (reason ≡ same)
same_end place other reason same e = (cc, cc)

not_boundary : (place : ℕ) (reason : Why) → Boundary ≡ Refused place reason → ⊥
not_boundary place reason e = cc

not_within : (present place : ℕ) (reason : Why) → Within present ≡ Refused place reason → ⊥
not_within present place reason e = cc

module _ (messages : List Term) (limit : ℕ) where
  Last-all : (octets : List ℕ) (place other : ℕ) (reason same : Why) → frames messages limit octets ≡ ends (Refused place reason) → (frames messages limit octets).end ≡ Refused other same → place < length octets → IsOfLength reason ⊎ ((n : ℕ) × (IsRefusedFor reason (judgement_by messages n (take n (drop 4 octets))))) → Last messages limit octets other same
  Last-all octets place other reason same f e inside by =
      let s : (place ≡ other) × (reason ≡ same) = same_end place other reason same (sym (ap (λ g. g.end) f) ∙ e) in
      subst (λ p. Last messages limit octets p same) s.0
      (subst (Last messages limit octets place) s.1 (record { frame = octets; last = record { before = []; parts = refl }; alone = f; inside = inside; by = by }))

  Last-after : (rest octets before : List ℕ) (place : ℕ) (reason : Why) → octets ≡ before ++ rest → Last messages limit rest place reason → Last messages limit octets place reason
  Last-after rest octets before place reason e l = record { frame = l.frame; last = EndsWith-after l.frame rest octets before e l.last; alone = l.alone; inside = l.inside; by = l.by }

  long-last : (octets : List ℕ) (place : ℕ) (reason : Why) → (frames messages limit octets).end ≡ Refused place reason → 4 ≤ length octets → ((frames messages limit (drop (number (take 4 octets)) (drop 4 octets))).end ≡ Refused place reason → Last messages limit (drop (number (take 4 octets)) (drop 4 octets)) place reason) → Last messages limit octets place reason
  long-last octets place reason e four after = of_number (cases_lt n (2 ^ 31)) (cases_lt limit n) (cases_lt 0 n)
    where
      n : ℕ
      n = number (take 4 octets)

      contents : List ℕ
      contents = take n (drop 4 octets)

      rest : List ℕ
      rest = drop n (drop 4 octets)

      parts : octets ≡ (take 4 octets ++ contents) ++ rest
      parts =
          sym (take-append-drop 4 octets)
          ∙ ap (λ l. take 4 octets ++ l) (sym (take-append-drop n (drop 4 octets)))
          ∙ sym (append_assoc (take 4 octets) contents rest)

      judged : MayFollow messages limit n → (outcome : Outcome) → message_outcome messages n contents ≡ outcome → Last messages limit octets place reason
      judged m Open o = absurd (not_within (length octets) place reason (sym (ap (λ f. f.end) (frames-open messages limit octets n four refl m o)) ∙ e))
      judged m (Done count) o = Last-after rest octets (take 4 octets ++ contents) place reason parts (after (sym (ap (λ f. f.end) (frames-done messages limit octets n count four refl m o)) ∙ e))
      judged m (Bad offset other) o =
          let l : length contents ≤ n = omega (arith, length-take n (drop 4 octets)) in
          let f = refusal_is_final messages n contents offset other l (ap verdict_of o) in
          Last-all octets (4 + offset) place other reason (frames-bad messages limit octets n offset other four refl m o) e (omega (arith, f.within, length-take n (drop 4 octets), length-drop 4 octets)) (inr (n, (offset, ap verdict_of o)))

      of_number : (n < 2 ^ 31) ⊎ (2 ^ 31 ≤ n) → (limit < n) ⊎ (n ≤ limit) → (0 < n) ⊎ (n ≤ 0) → Last messages limit octets place reason
      of_number (inr h) c d = Last-all octets 3 place why.HighBit reason (frames-high messages limit octets n four refl h) e (omega (arith, four)) (inl (inl refl))
      of_number (inl s) (inl h) d = Last-all octets 3 place why.TooLong reason (frames-long messages limit octets n four refl s h) e (omega (arith, four)) (inl (inr (inl refl)))
      of_number (inl s) (inr w) (inr z) = Last-all octets 3 place why.Empty reason (frames-empty messages limit octets four (omega arith)) e (omega (arith, four)) (inl (inr (inr refl)))
      of_number (inl s) (inr w) (inl p) = judged (record { some = p; short = s; within = w }) (message_outcome messages n contents) refl

  refused-last : (bound : ℕ) (octets : List ℕ) → length octets ≤ bound → (place : ℕ) (reason : Why) → (frames messages limit octets).end ≡ Refused place reason → Last messages limit octets place reason
  refused-last bound [] l place reason e = absurd (not_boundary place reason (sym (ap (λ f. f.end) (frames-nil messages limit)) ∙ e))
  refused-last zero (octet ∷ octets) l place reason e = absurd (omega arith)
  refused-last (suc bound) (octet ∷ octets) l place reason e =
      elim (cases_lt (length (octet ∷ octets)) 4) [
        | inl h ↦ absurd (not_within (length (octet ∷ octets)) place reason (sym (ap (λ f. f.end) (frames-short messages limit octet octets h)) ∙ e))
        | inr h ↦
            long-last (octet ∷ octets) place reason e h
            (refused-last bound (drop (number (take 4 (octet ∷ octets))) (drop 4 (octet ∷ octets))) (omega (arith, length-drop (number (take 4 (octet ∷ octets))) (drop 4 (octet ∷ octets)), length-drop 4 (octet ∷ octets))) place reason)
      ]

  last_of : (stream : List ℕ) (place : ℕ) (reason : Why) → (frames messages limit stream).end ≡ Refused place reason → Last messages limit stream place reason
  last_of stream = refused-last (length stream) stream (le_refl (length stream))

-- ---- the results of a decoder
refused_by : (messages : List Term) (d : Decoding) (answer : Status) (refusal : Refusal) → IsAnswer messages d answer → answer ≡ status.Refused refusal → (frames messages d.limit d.octets).end ≡ Refused refusal.place refusal.why
unfolding found
refused_by messages d answer refusal (inl a) e = (refused_end (found messages d).contents (found messages d).end refusal (sym a ∙ e)).1
refused_by messages d answer refusal (inr (m, w)) e = absurd cc

fed_last : (messages : List Term) (old new : Decoding) (piece : List ℕ) (fed : Fed) (place : ℕ) (reason : Why) → Feeds messages old piece new fed → RefusesFor reason place fed → Last messages new.limit new.octets place reason
fed_last messages old new piece fed place reason f r =
    last_of messages new.limit new.octets place reason (refused_by messages new fed.status (record { place = place; why = reason }) f.answer r)

pub refusals_are_inside : RefusalsAreInside
refusals_are_inside = record {
  of_feed = λ messages old new piece fed place reason f r.
      let l : Last messages new.limit new.octets place reason = fed_last messages old new piece fed place reason f r in
      omega (arith, l.inside, length-last l.frame new.octets l.last);
  of_stream = λ messages limit stream place reason e.
      let l : Last messages limit stream place reason = last_of messages limit stream place reason e in
      record { frame = l.frame; last = l.last; alone = l.alone; inside = l.inside };
}

not_truncated : (messages : List Term) (limit : ℕ) (stream : List ℕ) (place : ℕ) (l : Last messages limit stream place why.Truncated) → ⊥
not_truncated messages limit stream place l = by l.by
  where
    by : IsOfLength why.Truncated ⊎ ((n : ℕ) × (IsRefusedFor why.Truncated (judgement_by messages n (take n (drop 4 l.frame))))) → ⊥
    by (inl (inl e)) = cc
    by (inl (inr (inl e))) = cc
    by (inl (inr (inr e))) = cc
    by (inr (n, r)) = refusal_is_not_truncated messages n (take n (drop 4 l.frame)) r

pub feed_is_not_truncated : (messages : List Term) (old new : Decoding) (piece : List ℕ) (fed : Fed) (place : ℕ) → Feeds messages old piece new fed → RefusesFor why.Truncated place fed → ⊥
feed_is_not_truncated messages old new piece fed place f r = not_truncated messages new.limit new.octets place (fed_last messages old new piece fed place why.Truncated f r)

not_charset : (limit : ℕ) (stream : List ℕ) (place : ℕ) → AreOctets stream → (l : Last (messages Lenient) limit stream place why.Charset) → ⊥
not_charset limit stream place a l = by l.by
  where
    by : IsOfLength why.Charset ⊎ ((n : ℕ) × (IsRefusedFor why.Charset (judgement_by (messages Lenient) n (take n (drop 4 l.frame))))) → ⊥
    by (inl (inl e)) = cc
    by (inl (inr (inl e))) = cc
    by (inl (inr (inr e))) = cc
    by (inr (n, r)) = no_charset n (take n (drop 4 l.frame)) (AreOctets-take n (drop 4 l.frame) (AreOctets-drop 4 l.frame (AreOctets-last l.frame stream l.last a))) r

same_refusal : (r s : Refusal) → ◌≡◌ {A = Result (Unit {0}) Refusal} (Err r) (Err s) → r ≡ s
same_refusal r s e = cc

finish_end : (end : End) (place : ℕ) → finish_at end ≡ Err (record { place = place; why = why.Charset }) → end ≡ Refused place why.Charset
finish_end Boundary place e = absurd cc
finish_end (Within present) place e =
    let r : Refusal = record { place = present; why = why.Truncated } in
    let s : Refusal = record { place = place; why = why.Charset } in
    let w : why.Truncated ≡ why.Charset = ap (λ t. t.why) (same_refusal r s e) in
    absurd cc
finish_end (Refused other reason) place e =
    let r : Refusal = record { place = other; why = reason } in
    let s : Refusal = record { place = place; why = why.Charset } in
    ap (λ t. Refused t.place t.why) (same_refusal r s e)

pub lenient_has_no_charset : LenientHasNoCharset
unfolding found
lenient_has_no_charset = record {
  of_feed = λ old new piece fed place a f r. not_charset new.limit new.octets place a (fed_last (messages Lenient) old new piece fed place why.Charset f r);
  of_finish = λ d place a e. not_charset d.limit d.octets place a (last_of (messages Lenient) d.limit d.octets place why.Charset (finish_end (found (messages Lenient) d).end place e));
}
