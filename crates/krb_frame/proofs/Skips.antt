-- The stream that a decoder that skips has decoded when it is fed, and when a frame is cleared or skipped.
use Rattle.std.proofs.Common.{◌≡◌, ℕ, zero, suc, ◌+◌, ◌-◌, ◌^◌, ◌<◌, ◌≤◌, ◌⊎◌, inl, inr, min, List, [], ◌∷◌, ◌++◌, length, map, take, drop, true, Bool, Some, None, refl, sym, ◌∙◌, ap, ap₂, subst, arith, append_assoc, append-nil, length-take, drop_at}
use Rattle.std.specs.Prelude.{Option, is_some, if◌then◌else◌}
use Rattle.std.proofs.lemmas.Bool.{cases_lt, lt-leb, le-leb}
use Rattle.std.proofs.lemmas.List.{drop_all, take_all}
use Rattle.std.proofs.Math.Seq.{take-add, drop-append-add}
use Rattle.krb_der.specs.Octets.{number}
use Rattle.krb_der.specs.declared.why.Why.{Why}
use Rattle.krb_der.specs.declared.why.Why.TheVariants as why
use Rattle.krb_der.specs.declared.verdict.Refusal.{Refusal}
use Rattle.krb_msg.specs.Term.{Term}
use Rattle.krb_msg.specs.Stream.{Frames, End, Boundary, Within, Refused, ends, with_first, frames}
use Rattle.krb_frame.specs.Decoding.{Decoding, found, status_at, status_of, borrowed, AreOfOne, IsOfOneFrame}
use Rattle.krb_frame.specs.Decoded.{HasDecoded, frames_size}
use Rattle.krb_frame.specs.Feeds.{Feeds, Clears}
use Rattle.krb_frame.specs.GoingOn.{Entry, Contents, Fault, last_entry, entries, rest_of, rest_at, rest_to_come, GivesUp, Skipping, GoesOn, without, FeedsAfter, ClearsEntry, Skips}
use Rattle.krb_frame.specs.declared.decoder.Fed.{Fed}
use Rattle.krb_frame.specs.declared.decoder.Status.TheVariants as status
use Rattle.krb_frame.proofs.Announced.{ready-size, refused-four}
use Rattle.krb_frame.proofs.DecoderFrames.{one-nothing}
use Rattle.krb_msg.proofs.FramePrefixes.{frames-high}
use Rattle.krb_frame.proofs.Ends.{none_found, refused_end}
use Rattle.krb_frame.proofs.GoingOn.{begins, entries-cleared, entries-frame, entries-unknown, entries-skipped}

-- ---- octets that are skipped
-- the octets after those that are skipped
pub drop-min : (skipped : ℕ) (piece : List ℕ) → drop (min (length piece) skipped) piece ≡ drop skipped piece
drop-min skipped piece = elim (cases_lt (length piece) skipped) [
  | inl h ↦
      let k : length piece ≤ min (length piece) skipped = omega (arith, h) in
      drop_all (min (length piece) skipped) piece k ∙ sym (drop_all skipped piece (omega (arith, h)))
  | inr h ↦
      let k : min (length piece) skipped ≡ skipped = omega (arith, h) in
      ap (λ n. drop n piece) k
]

take-none : (n : ℕ) (octets : List ℕ) → octets ≡ [] → take n octets ≡ []
take-none zero octets e = refl
take-none (suc n) octets e = ap (take (suc n)) e

-- the octets that are left after a piece of which some were skipped or used
pub skipped-prefix : (skipped used : ℕ) (piece more : List ℕ) → used ≤ length (drop skipped piece) → drop skipped (take (min skipped (length piece) + used) piece ++ more) ≡ take used (drop skipped piece) ++ drop (skipped - length piece) more
skipped-prefix skipped used piece more u = elim (cases_lt (length piece) skipped) [
  | inl h ↦ of_all h
  | inr h ↦ of_some h
]
  where
    of_all : length piece < skipped → drop skipped (take (min skipped (length piece) + used) piece ++ more) ≡ take used (drop skipped piece) ++ drop (skipped - length piece) more
    of_all h =
        let none : drop skipped piece ≡ [] = drop_all skipped piece (omega (arith, h)) in
        let all : take (min skipped (length piece) + used) piece ≡ piece = take_all (min skipped (length piece) + used) piece (omega (arith, h)) in
        let n : skipped ≡ length piece + (skipped - length piece) = omega (arith, h) in
        ap (λ l. drop skipped (l ++ more)) all
        ∙ ap (λ k. drop k (piece ++ more)) n
        ∙ drop-append-add piece more (skipped - length piece)
        ∙ ap (λ l. l ++ drop (skipped - length piece) more) (sym (take-none used (drop skipped piece) none))

    of_some : skipped ≤ length piece → drop skipped (take (min skipped (length piece) + used) piece ++ more) ≡ take used (drop skipped piece) ++ drop (skipped - length piece) more
    of_some h =
        let k : min skipped (length piece) ≡ skipped = omega (arith, h) in
        let z : skipped - length piece ≡ 0 = omega (arith, h) in
        let prefix : length (take skipped piece) ≡ skipped = omega (arith, h, length-take skipped piece) in
        ap (λ n. drop skipped (take (n + used) piece ++ more)) k
        ∙ ap (λ l. drop skipped (l ++ more)) (take-add skipped used piece)
        ∙ ap (drop skipped) (append_assoc (take skipped piece) (take used (drop skipped piece)) more)
        ∙ drop_at (take skipped piece) (take used (drop skipped piece) ++ more) skipped prefix
        ∙ ap (λ n. take used (drop skipped piece) ++ drop n more) (sym z)

-- ---- by any messages
module _ (messages : List Term) where
  -- a decoder that used no octet has decoded none
  one-empty : (d : Decoding) → d.octets ≡ [] → IsOfOneFrame messages d
  one-empty d e = subst (λ o. IsOfOneFrame messages (record d { octets = o })) (sym e) (one-nothing messages d.profile d.limit d.looks d.capacity)

  -- a decoder goes on with the stream that it has decoded
  pub goes_on-decoded : (d : Decoding) (new : Skipping) (stream : List ℕ) (cleared : List (List ℕ)) → new ≡ record { current = d; skipped = 0 } → HasDecoded messages d stream cleared → GoesOn messages new stream (map Contents cleared)
  goes_on-decoded d new stream cleared e h =
      subst (λ n. GoesOn messages n stream (map Contents cleared)) (sym e)
      (record {
        goes_on = λ more.
            let parts : stream ++ more ≡ h.last.before ++ (d.octets ++ more) = ap (λ l. l ++ more) h.last.parts ∙ append_assoc h.last.before d.octets more in
            ap (entries messages d.limit) parts ∙ entries-cleared messages d.limit cleared h.last.before (d.octets ++ more) h.counted (ap (frames messages d.limit) (sym parts) ∙ h.goes_on more);
        one = h.one;
        alone = inl refl;
      })

  -- a decoder has decoded its own octets
  decoded-self : (d : Decoding) → IsOfOneFrame messages d → HasDecoded messages d d.octets []
  decoded-self d one = record { goes_on = λ more. refl; last = record { before = []; parts = refl }; counted = refl; one = one }

  -- ---- feeds
  feeds-after : (old new : Skipping) (piece : List ℕ) (fed : Fed) → new.skipped ≡ old.skipped - min (length piece) old.skipped → Feeds messages old.current (drop (min (length piece) old.skipped) piece) new.current fed → FeedsAfter messages old piece new (record { used = min (length piece) old.skipped + fed.used; status = fed.status })
  feeds-after old new piece fed s f = record {
    skipped = omega (arith, s);
    first = omega arith;
    others = subst (Feeds messages old.current (drop old.skipped piece) new.current) (sym same) fed_rest;
    goes_on = λ stream before g. record {
      goes_on = λ more. goes stream before g more;
      one = (fed_rest.decoded old.current.octets [] (decoded-self old.current g.one)).one;
      alone = by (cases_lt (length piece) old.skipped) g.alone;
    };
  }
    where
      fed_rest : Feeds messages old.current (drop old.skipped piece) new.current fed
      fed_rest = subst (λ l. Feeds messages old.current l new.current fed) (drop-min old.skipped piece) f

      same : without (min old.skipped (length piece)) (record { used = min (length piece) old.skipped + fed.used; status = fed.status }) ≡ fed
      same =
          let e : min (length piece) old.skipped + fed.used - min old.skipped (length piece) ≡ fed.used = omega arith in
          λ i. record { used = e i; status = fed.status }

      goes : (stream : List ℕ) (before : List Entry) → GoesOn messages old stream before → (more : List ℕ) → entries messages new.current.limit ((stream ++ take (min (length piece) old.skipped + fed.used) piece) ++ more) ≡ before ++ entries messages new.current.limit (new.current.octets ++ drop new.skipped more)
      goes stream before g more =
          let used : List ℕ = take (min (length piece) old.skipped + fed.used) piece in
          let swap : min (length piece) old.skipped + fed.used ≡ min old.skipped (length piece) + fed.used = omega arith in
          let left : new.skipped ≡ old.skipped - length piece = omega (arith, s) in
          let prefix : drop old.skipped (used ++ more) ≡ take fed.used (drop old.skipped piece) ++ drop new.skipped more =
          ap (λ n. drop old.skipped (take n piece ++ more)) swap
          ∙ skipped-prefix old.skipped fed.used piece more fed_rest.within
          ∙ ap (λ n. take fed.used (drop old.skipped piece) ++ drop n more) (sym left) in
          let all : old.current.octets ++ drop old.skipped (used ++ more) ≡ new.current.octets ++ drop new.skipped more =
          ap (λ l. old.current.octets ++ l) prefix
          ∙ sym (append_assoc old.current.octets (take fed.used (drop old.skipped piece)) (drop new.skipped more))
          ∙ ap (λ l. l ++ drop new.skipped more) (sym fed_rest.octets) in
          ap (λ n. entries messages n ((stream ++ used) ++ more)) fed_rest.same_limit
          ∙ ap (entries messages old.current.limit) (append_assoc stream used more)
          ∙ g.goes_on (used ++ more)
          ∙ ap (λ l. before ++ entries messages old.current.limit l) all
          ∙ ap (λ n. before ++ entries messages n (new.current.octets ++ drop new.skipped more)) (sym fed_rest.same_limit)

      by : (length piece < old.skipped) ⊎ (old.skipped ≤ length piece) → (old.skipped ≡ 0) ⊎ (old.current.octets ≡ []) → (new.skipped ≡ 0) ⊎ (new.current.octets ≡ [])
      by (inr h) a = inl (omega (arith, s, h))
      by (inl h) (inl z) = absurd (omega (arith, h, z))
      by (inl h) (inr e) = inr (fed_rest.octets ∙ ap₂ (λ a b. a ++ b) e (take-none fed.used (drop old.skipped piece) (drop_all old.skipped piece (omega (arith, h)))))

  pub feeds-after_count : (old new : Skipping) (piece : List ℕ) (fed : Fed) (count : ℕ) → count ≡ min (length piece) old.skipped → new.skipped ≡ old.skipped - count → Feeds messages old.current (drop count piece) new.current fed → FeedsAfter messages old piece new (record { used = count + fed.used; status = fed.status })
  feeds-after_count old new piece fed count e s f =
      subst (λ k. FeedsAfter messages old piece new (record { used = k + fed.used; status = fed.status })) (sym e)
      (feeds-after old new piece fed (s ∙ ap (λ k. old.skipped - k) e) (subst (λ k. Feeds messages old.current (drop k piece) new.current fed) e f))

  -- ---- a frame that is cleared
  cleared-octets : (old : Decoding) (capacity : ℕ) (o : Option (List ℕ)) (contents : List ℕ) → o ≡ Some contents → (if is_some o then record old { octets = []; capacity = capacity } else old) ≡ record old { octets = []; capacity = capacity }
  cleared-octets old capacity o contents e = rw e refl

  pub clears-entry : (old new : Skipping) (answer : Bool) → new.skipped ≡ old.skipped → Clears messages old.current new.current answer → ClearsEntry messages old new answer
  unfolding found
  clears-entry old new answer s c = record {
    skipped = s;
    clears = c;
    goes_on = λ stream contents before g m.
        let d : Decoding = old.current in
        let left : new.current ≡ record d { octets = []; capacity = new.current.capacity } = c.left ∙ cleared-octets d new.current.capacity (borrowed messages d) contents m in
        let limit : new.current.limit ≡ d.limit = ap (λ n. n.limit) left in
        let none : new.current.octets ≡ [] = ap (λ n. n.octets) left in
        let after : HasDecoded messages new.current d.octets (contents ∷ []) = c.decoded d.octets contents [] (decoded-self d g.one) m in
        let first : (more : List ℕ) → frames messages d.limit (d.octets ++ more) ≡ with_first contents (frames messages d.limit more) =
        λ more. subst (λ n. frames messages n (d.octets ++ more) ≡ with_first contents (frames messages n more)) limit (after.goes_on more ∙ ap (λ l. with_first contents (frames messages new.current.limit (l ++ more))) none) in
        let long : length d.octets ≡ 4 + length contents = ready-size messages d contents m g.one in
        record {
          goes_on = λ more.
              ap (λ n. entries messages n (stream ++ more)) limit
              ∙ g.goes_on more
              ∙ ap (λ l. before ++ l) (entries-frame messages d.limit d.octets contents (drop old.skipped more) long (first (drop old.skipped more)))
              ∙ sym (append_assoc before (Contents contents ∷ []) (entries messages d.limit (drop old.skipped more)))
              ∙ ap₂ (λ n l. (before ++ Contents contents ∷ []) ++ entries messages n (l ++ drop old.skipped more)) (sym limit) (sym none)
              ∙ ap (λ k. (before ++ Contents contents ∷ []) ++ entries messages new.current.limit (new.current.octets ++ drop k more)) (sym s);
          one = after.one;
          alone = inr none;
        };
  }

  -- ---- a frame that is skipped
  no_rest : (rest : ℕ) → Some rest ≡ None → ⊥
  no_rest rest e = cc

  same_rest : (rest other : ℕ) → Some rest ≡ Some other → rest ≡ other
  same_rest rest other e = cc

  -- the octets of a refused decoder, if the length of the frame is known
  pub record HoldsRefused (d : Decoding) (rest place : ℕ) (reason : Why) : Type 0 where
    pub found : frames messages d.limit d.octets ≡ ends (Refused place reason)
    pub last : length d.octets ≡ place + 1
    pub four : 4 ≤ length d.octets
    pub short : number (take 4 d.octets) < 2 ^ 31
    pub rest_is : rest ≡ 4 + number (take 4 d.octets) - length d.octets

  pub holds-refused : (d : Decoding) (rest place : ℕ) (reason : Why) → IsOfOneFrame messages d → Some rest ≡ rest_to_come messages d → status_of messages d ≡ status.Refused (record { place = place; why = reason }) → HoldsRefused d rest place reason
  unfolding found
  holds-refused d rest place reason one e st =
      elim (cases_lt n (2 ^ 31)) [
        | inl h ↦ record { found = f; last = last; four = four; short = h; rest_is = same_rest rest (4 + n - length d.octets) (known ∙ rw (lt-leb (2 ^ 31) n h) refl) }
        | inr h ↦ absurd (no_rest rest (known ∙ rw (le-leb (2 ^ 31) n h) refl))
      ]
    where
      n : ℕ
      n = number (take 4 d.octets)

      f : frames messages d.limit d.octets ≡ ends (Refused place reason)
      f =
          let r = refused_end (frames messages d.limit d.octets).contents (frames messages d.limit d.octets).end (record { place = place; why = reason }) st in
          λ i. record { contents = r.0 i; end = r.1 i }

      last : length d.octets ≡ place + 1
      last = subst (λ x. AreOfOne d.octets x.contents x.end) f one

      four : 4 ≤ length d.octets
      four = refused-four messages d (record { place = place; why = reason }) st

      known : Some rest ≡ rest_of n (length d.octets)
      known = e ∙ ap (λ s. rest_at s d.octets) st

  nothing_skipped : (old : Skipping) → (old.skipped ≡ 0) ⊎ (old.current.octets ≡ []) → 4 ≤ length old.current.octets → old.skipped ≡ 0
  nothing_skipped old (inl e) h = e
  nothing_skipped old (inr e) h = absurd (omega (arith, h, ap length e))

  goes_on-skipped : (old new : Skipping) (rest place : ℕ) (reason : Why) (stream : List ℕ) (before : List Entry) → HoldsRefused old.current rest place reason → new.current.limit ≡ old.current.limit → new.current.octets ≡ [] → new.skipped ≡ rest → GoesOn messages old stream before → GoesOn messages new stream (before ++ Fault place reason old.current.octets ∷ [])
  goes_on-skipped old new rest place reason stream before h limit none s g =
      let d : Decoding = old.current in
      let z : old.skipped ≡ 0 = nothing_skipped old g.alone h.four in
      record {
        goes_on = λ more.
            ap (λ n. entries messages n (stream ++ more)) limit
            ∙ g.goes_on more
            ∙ ap (λ n. before ++ entries messages d.limit (d.octets ++ drop n more)) z
            ∙ ap (λ l. before ++ l) (entries-skipped messages d.limit d.octets place reason h.four h.last h.found h.short more)
            ∙ sym (append_assoc before (Fault place reason d.octets ∷ []) (entries messages d.limit (drop (4 + number (take 4 d.octets) - length d.octets) more)))
            ∙ ap (λ n. (before ++ Fault place reason d.octets ∷ []) ++ entries messages d.limit (drop n more)) (sym (s ∙ h.rest_is))
            ∙ ap₂ (λ n l. (before ++ Fault place reason d.octets ∷ []) ++ entries messages n (l ++ drop new.skipped more)) (sym limit) (sym none);
        one = one-empty new.current none;
        alone = inr none;
      }

  pub skips-some : (old new : Skipping) (rest : ℕ) → GivesUp messages old.current new.current (Some rest) → new.skipped ≡ rest → Skips messages old new true
  skips-some old new rest g s = record {
    is_known = ap is_some g.rest;
    gives_up = subst (GivesUp messages old.current new.current) g.rest g;
    rest = λ count e. s ∙ same_rest rest count (g.rest ∙ e);
    none = λ e. absurd (no_rest rest (g.rest ∙ e));
    goes_on = λ stream before place reason o st t.
        goes_on-skipped old new rest place reason stream before (holds-refused old.current rest place reason o.one g.rest st) (ap (λ n. n.limit) g.left) (ap (λ n. n.octets) g.left) s o;
  }

-- ---- the end of a stream
waiting_end : (contents : List (List ℕ)) (end : End) → status_at contents end ≡ status.More → (place : ℕ) (reason : Why) → end ≡ Refused place reason → ⊥
waiting_end (first ∷ others) end e place reason r = cc
waiting_end [] Boundary e place reason r = cc
waiting_end [] (Within present) e place reason r = cc
waiting_end [] (Refused other same) e place reason r = cc

waiting_none : status.More ≡ status.Ready → ⊥
waiting_none e = cc

-- a decoder that waits has at most a frame that is cut
pub entries-waiting : (messages : List Term) (s : Skipping) (stream : List ℕ) (before : List Entry) → GoesOn messages s stream before → status_of messages s.current ≡ status.More → entries messages s.current.limit stream ≡ before ++ last_entry (found messages s.current).end s.current.octets
unfolding found
entries-waiting messages s stream before g w =
    let d : Decoding = s.current in
    let f : Frames = frames messages d.limit d.octets in
    ap (entries messages d.limit) (sym (append-nil stream))
    ∙ g.goes_on []
    ∙ ap (λ l. before ++ entries messages d.limit (d.octets ++ l)) (drop_all s.skipped [] (omega arith))
    ∙ ap (λ l. before ++ entries messages d.limit l) (append-nil d.octets)
    ∙ ap (λ l. before ++ l) ((begins messages d.limit d.octets).alone (waiting_end f.contents f.end w))
    ∙ ap (λ c. before ++ (map Contents c ++ last_entry f.end (drop (frames_size c) d.octets))) (none_found f.contents f.end (λ e. waiting_none (sym w ∙ e)))

-- A frame is refused whose length is not known: whatever comes, it is the last one.
pub record IsLast (messages : List Term) (s : Skipping) (stream : List ℕ) (before : List Entry) : Type 0 where
  pub end : (found messages s.current).end ≡ Refused 3 why.HighBit
  pub four : length s.current.octets ≡ 3 + 1
  pub big : 2 ^ 31 ≤ number (take 4 s.current.octets)
  pub last : (more : List ℕ) → entries messages s.current.limit (stream ++ more) ≡ before ++ Fault 3 why.HighBit s.current.octets ∷ []

unknown_length : (size used : ℕ) → rest_of size used ≡ None → 2 ^ 31 ≤ size
unknown_length size used e = elim (cases_lt size (2 ^ 31)) [
  | inl h ↦ absurd (no (sym (rw (lt-leb (2 ^ 31) size h) refl) ∙ e))
  | inr h ↦ h
]
  where
    no : Some (4 + size - used) ≡ None → ⊥
    no e = cc

pub entries-last : (messages : List Term) (s : Skipping) (stream : List ℕ) (before : List Entry) (refusal : Refusal) → GoesOn messages s stream before → status_of messages s.current ≡ status.Refused refusal → rest_to_come messages s.current ≡ None → IsLast messages s stream before
unfolding found
entries-last messages s stream before refusal g st none = record {
  end = ap (λ x. x.end) high;
  four = four_octets;
  big = big;
  last = λ more.
      g.goes_on more
      ∙ ap (λ n. before ++ entries messages d.limit (d.octets ++ drop n more)) (nothing_skipped messages s g.alone four)
      ∙ ap (λ l. before ++ l) (entries-unknown messages d.limit d.octets 3 why.HighBit four four_octets high big more);
}
  where
    d : Decoding
    d = s.current

    n : ℕ
    n = number (take 4 d.octets)

    f : frames messages d.limit d.octets ≡ ends (Refused refusal.place refusal.why)
    f =
        let r = refused_end (frames messages d.limit d.octets).contents (frames messages d.limit d.octets).end refusal st in
        λ i. record { contents = r.0 i; end = r.1 i }

    four : 4 ≤ length d.octets
    four = refused-four messages d refusal st

    big : 2 ^ 31 ≤ n
    big = unknown_length n (length d.octets) (sym (ap (λ t. rest_at t d.octets) st) ∙ none)

    high : frames messages d.limit d.octets ≡ ends (Refused 3 why.HighBit)
    high = frames-high messages d.limit d.octets n four refl big

    four_octets : length d.octets ≡ 3 + 1
    four_octets = subst (λ x. AreOfOne d.octets x.contents x.end) high g.one
