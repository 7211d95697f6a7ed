-- The stream that a decoder has decoded when it is fed, and when a frame is cleared.
use Rattle.std.proofs.Common.{◌≡◌, ◌≢◌, ℕ, ◌+◌, ◌-◌, ◌<◌, ◌≤◌, ◌⊎◌, inl, inr, List, [], ◌∷◌, ◌++◌, length, take, drop, true, false, Some, None, refl, sym, ◌∙◌, ap, subst, arith, append_assoc, append-nil, length-append, length-take, length-drop}
use Rattle.std.proofs.lemmas.Bool.{cases_lt}
use Rattle.std.proofs.lemmas.List.Sums.{sum_by-append, sum_by-cons}
use Rattle.std.proofs.Math.Seq.{take-add}
use Rattle.std.specs.Prelude.{is_some}
use Rattle.krb_der.specs.declared.profile.Profile.{Profile}
use Rattle.krb_msg.specs.Term.{Term}
use Rattle.krb_msg.specs.Stream.{with_first, frames}
use Rattle.krb_frame.specs.Decoding.{Decoding, IsAmple, status_of, borrowed, kept_contents, IsOfOneFrame, octets_of, decoding_of, length_present}
use Rattle.krb_frame.specs.Decoded.{HasDecoded, after_frames, frames_size}
use Rattle.krb_frame.specs.Feeds.{IsAnswer, Feeds, Clears}
use Rattle.krb_frame.specs.inner.Phases.{IsDecided, IsFedContents, phase_of, HasPartOfLength, HasPart, HasFrame, IsPhaseOf, IsPut, FeedsLength, phase_status}
use Rattle.krb_frame.specs.declared.decoder.Phase.{Phase}
use Rattle.krb_frame.specs.declared.decoder.Phase.TheVariants as phase
use Rattle.krb_frame.specs.declared.decoder.Fed.{Fed}
use Rattle.krb_frame.specs.declared.decoder.Status.{Status}
use Rattle.krb_frame.specs.declared.decoder.Status.TheVariants as status
use Rattle.krb_frame.proofs.DecoderFrames.{Comes, comes, one-nothing, found-frame, four_octets, same-status, borrowed-ready, length_of-part, taken-at}

-- less than a length is present
pub none-fed : (announced contents piece : List ℕ) (count : ℕ) → HasPartOfLength announced contents count → (piece ≡ []) ⊎ (4 ≤ length (take count announced ++ contents)) → piece ≡ []
none-fed announced contents piece count h (inl e) = e
none-fed announced contents piece count h (inr l) = absurd (omega (arith, h.part, length_of-part announced contents count h))

four_present : (size : ℕ) (answer : Status) → length_present (phase_of size answer) ≡ 4
four_present size status.More = refl
four_present size status.Memory = refl
four_present size status.Ready = refl
four_present size (status.Refused refusal) = refl

same_contents : (contents other : List ℕ) → Some contents ≡ Some other → contents ≡ other
same_contents contents other e = cc

-- capacity that is not lost is enough as before
pub ample-kept : (old new : Decoding) → new.limit ≡ old.limit → old.capacity ≤ new.capacity → IsAmple old → IsAmple new
ample-kept old new l k a = record { octets = omega (arith, l, k, a.octets) }

-- ---- by any messages
module _ (messages : List Term) (profile : Profile) where
  pub HasDecoded-new : (limit looks : ℕ) (space : ℕ) → HasDecoded messages (record { profile = profile; limit = limit; octets = []; looks = looks; capacity = space }) [] []
  HasDecoded-new limit looks space = record { goes_on = λ more. refl; last = record { before = []; parts = refl }; counted = refl; one = one-nothing messages profile limit looks space }

  -- octets more
  pub HasDecoded-fed : (old new : Decoding) (used : List ℕ) → new.limit ≡ old.limit → new.octets ≡ old.octets ++ used → IsOfOneFrame messages new → (stream : List ℕ) (cleared : List (List ℕ)) → HasDecoded messages old stream cleared → HasDecoded messages new (stream ++ used) cleared
  HasDecoded-fed old new used l o one stream cleared s = record {
    goes_on = λ more.
        ap (frames messages new.limit) (append_assoc stream used more)
        ∙ ap (λ n. frames messages n (stream ++ (used ++ more))) l
        ∙ s.goes_on (used ++ more)
        ∙ ap (λ n. after_frames cleared (frames messages n (old.octets ++ (used ++ more)))) (sym l)
        ∙ ap (λ r. after_frames cleared (frames messages new.limit r)) (sym (append_assoc old.octets used more) ∙ ap (λ r. r ++ more) (sym o));
    last = record { before = s.last.before; parts = ap (λ r. r ++ used) s.last.parts ∙ append_assoc s.last.before old.octets used ∙ ap (λ r. s.last.before ++ r) (sym o) };
    counted = s.counted;
    one = one;
  }

  -- one frame more is before what follows it
  pub counted-more : (contents : List ℕ) (cleared : List (List ℕ)) (before : ℕ) → before ≡ frames_size cleared → before + (4 + length contents) ≡ frames_size (cleared ++ contents ∷ [])
  counted-more contents cleared before e = omega (arith, e, sum_by-append (λ (c : List ℕ). 4 + length c) cleared (contents ∷ []), sum_by-cons (λ (c : List ℕ). 4 + length c) contents [])

  -- one frame less
  pub HasDecoded-cleared : (limit looks : ℕ) (space made : ℕ) (octets contents : List ℕ) → length octets ≡ 4 + length contents → ((more : List ℕ) → frames messages limit (octets ++ more) ≡ with_first contents (frames messages limit more)) → (stream : List ℕ) (cleared : List (List ℕ)) → HasDecoded messages (record { profile = profile; limit = limit; octets = octets; looks = looks; capacity = space }) stream cleared → HasDecoded messages (record { profile = profile; limit = limit; octets = []; looks = looks; capacity = made }) stream (cleared ++ contents ∷ [])
  HasDecoded-cleared limit looks space made octets contents size first stream cleared s = record {
    goes_on = λ more.
        s.goes_on more
        ∙ ap (after_frames cleared) (first more)
        ∙ ap (λ l. record { contents = l; end = (frames messages limit more).end }) (sym (append_assoc cleared (contents ∷ []) (frames messages limit more).contents));
    last = record { before = stream; parts = sym (append-nil stream) };
    counted = ap length s.last.parts ∙ length-append s.last.before octets ∙ ap (λ n. length s.last.before + n) size ∙ counted-more contents cleared (length s.last.before) s.counted;
    one = one-nothing messages profile limit looks made;
  }

  -- ---- feeds
  pub Feeds-made : (old new : Decoding) (piece : List ℕ) (count : ℕ) (answer came : Status) → count ≤ length piece → new.profile ≡ old.profile → new.limit ≡ old.limit → new.octets ≡ old.octets ++ take count piece → new.looks ≡ old.looks + (length (kept_contents new) - length (kept_contents old)) → status_of messages old ≡ status.More → Comes messages profile new came → (answer ≡ came) ⊎ ((answer ≡ status.Memory) × (came ≡ status.More)) → (answer ≡ status.More → count ≡ length piece) → (answer ≡ status.Memory → (4 ≤ length new.octets) × (count < length piece)) → old.capacity ≤ new.capacity → (IsAmple old → answer ≢ status.Memory) → Feeds messages old piece new (record { used = count; status = answer })
  Feeds-made old new piece count answer came k q l o s w c a more memory capacity enough = record {
    within = k;
    same_profile = q;
    same_limit = l;
    octets = o;
    looks = s;
    answer = by a;
    all = more;
    again = λ n. absurd (n w);
    memory = memory;
    enough = enough;
    ample = ample-kept old new l capacity;
    decoded = HasDecoded-fed old new (take count piece) l o c.one;
  }
    where
      by : (answer ≡ came) ⊎ ((answer ≡ status.Memory) × (came ≡ status.More)) → IsAnswer messages new answer
      by (inl e) = inl (e ∙ sym c.is)
      by (inr (e, f)) = inr (e, c.is ∙ f)

  -- nothing is used
  pub Feeds-nothing : (d : Decoding) (piece : List ℕ) (answer : Status) → Comes messages profile d answer → (answer ≡ status.More → piece ≡ []) → answer ≢ status.Memory → Feeds messages d piece d (record { used = 0; status = answer })
  Feeds-nothing d piece answer c none not_memory = record {
    within = omega arith;
    same_profile = refl;
    same_limit = refl;
    octets = sym (append-nil d.octets);
    looks = omega arith;
    answer = inl (sym c.is);
    all = λ e. omega (arith, ap length (none e));
    again = λ n. (refl, sym c.is);
    memory = λ e. absurd (not_memory e);
    enough = λ a. not_memory;
    ample = λ a. a;
    decoded = HasDecoded-fed d d [] refl (sym (append-nil d.octets)) c.one;
  }

  pub Feeds-idle : (limit looks : ℕ) (space : ℕ) (announced contents piece : List ℕ) (p : Phase) (answer : Status) → IsPhaseOf messages limit announced contents p → phase_status p ≡ answer → (answer ≡ status.More → piece ≡ []) → answer ≢ status.Memory → Feeds messages (decoding_of profile limit looks space announced contents p) piece (decoding_of profile limit looks space announced contents p) (record { used = 0; status = answer })
  Feeds-idle limit looks space announced contents piece p answer h e none n =
      Feeds-nothing (decoding_of profile limit looks space announced contents p) piece answer
      (subst (Comes messages profile (decoding_of profile limit looks space announced contents p)) e (comes messages profile limit looks space announced contents p h)) none n

  answer_of : (size used : ℕ) (after piece : List ℕ) (answer : Status) → IsDecided messages size after piece used answer → (answer ≡ phase_status (phase_of size answer)) ⊎ ((answer ≡ status.Memory) × (phase_status (phase_of size answer) ≡ status.More))
  answer_of size used after piece status.More d = inl refl
  answer_of size used after piece status.Memory d = inr (refl, refl)
  answer_of size used after piece status.Ready d = inl refl
  answer_of size used after piece (status.Refused refusal) d = inl refl

  all_of : (size used : ℕ) (after piece : List ℕ) (answer : Status) → IsDecided messages size after piece used answer → answer ≡ status.More → used ≡ length piece
  all_of size used after piece status.More d e = d.1
  all_of size used after piece status.Memory d e = absurd cc
  all_of size used after piece status.Ready d e = absurd cc
  all_of size used after piece (status.Refused refusal) d e = absurd cc

  memory_of : (size used : ℕ) (after piece : List ℕ) (answer : Status) → IsDecided messages size after piece used answer → answer ≡ status.Memory → used < length piece
  memory_of size used after piece status.More d e = absurd cc
  memory_of size used after piece status.Memory d e = d.1
  memory_of size used after piece status.Ready d e = absurd cc
  memory_of size used after piece (status.Refused refusal) d e = absurd cc

  pub Feeds-contents : (limit looks looked : ℕ) (space made : ℕ) (announced before piece after : List ℕ) (size : ℕ) (p : Phase) (fed : Fed) → HasPart messages limit announced before size → IsFedContents messages size before piece after fed → looked ≡ looks + fed.used → space ≤ made → (size ≤ space → fed.status ≢ status.Memory) → p ≡ phase_of size fed.status → Feeds messages (decoding_of profile limit looks space announced before (phase.Contents size)) piece (decoding_of profile limit looked made announced after p) fed
  Feeds-contents limit looks looked space made announced before piece after size p fed h t k capacity enough e =
      let old : Decoding = decoding_of profile limit looks space announced before (phase.Contents size) in
      let octets : octets_of (phase_of size fed.status) announced after ≡ octets_of (phase.Contents size) announced before ++ take fed.used piece =
      ap (λ n. take n announced ++ after) (four_present size fed.status) ∙ ap (λ l. take 4 announced ++ l) t.contents ∙ sym (append_assoc (take 4 announced) before (take fed.used piece)) in
      let four : 4 ≤ length (octets_of (phase_of size fed.status) announced after) =
      let n : length_present (phase_of size fed.status) ≡ 4 = four_present size fed.status in
      omega (arith, n, h.accepted.four, length-append (take (length_present (phase_of size fed.status)) announced) after, length-take (length_present (phase_of size fed.status)) announced) in
      let seen : looked ≡ looks + (length (drop 4 (octets_of (phase_of size fed.status) announced after)) - length (drop 4 (octets_of (phase.Contents size) announced before))) =
      let n : length_present (phase_of size fed.status) ≡ 4 = four_present size fed.status in
      omega (
        arith,
        k,
        n,
        t.within,
        h.accepted.four,
        ap length t.contents,
        length-append before (take fed.used piece),
        length-take fed.used piece,
        length-append (take (length_present (phase_of size fed.status)) announced) after,
        length-take (length_present (phase_of size fed.status)) announced,
        length-append (take 4 announced) before,
        length-take 4 announced,
        length-drop 4 (octets_of (phase_of size fed.status) announced after),
        length-drop 4 (octets_of (phase.Contents size) announced before),
      ) in
      subst (λ q. Feeds messages old piece (decoding_of profile limit looked made announced after q) fed) (sym e)
      (Feeds-made old (decoding_of profile limit looked made announced after (phase_of size fed.status)) piece fed.used fed.status (phase_status (phase_of size fed.status)) t.within refl refl octets seen (comes messages profile limit looks space announced before (phase.Contents size) h).is
      (comes messages profile limit looked made announced after (phase_of size fed.status) (taken-at messages profile limit announced before piece after size fed.used fed.status h t))
      (answer_of size fed.used after piece fed.status t.decided)
      (all_of size fed.used after piece fed.status t.decided)
      (λ m. (four, memory_of size fed.used after piece fed.status t.decided m))
      capacity
      (λ a. enough (omega (arith, h.accepted.within, a.octets))))

  -- no octet of a length is missing
  pub FeedsLength-none : (limit looks : ℕ) (space : ℕ) (announced contents piece : List ℕ) (p : Phase) → IsPhaseOf messages limit announced contents p → ((count : ℕ) → p ≡ phase.Length count → ⊥) → FeedsLength messages (decoding_of profile limit looks space announced contents p) piece (decoding_of profile limit looks space announced contents p) 0
  FeedsLength-none limit looks space announced contents piece p h n = record {
    within = omega arith;
    same_profile = refl;
    same_limit = refl;
    octets = sym (append-nil (octets_of p announced contents));
    looks = refl;
    contents = refl;
    again = λ m. refl;
    capacity = omega arith;
    on = inr (four p h n);
    one = (comes messages profile limit looks space announced contents p h).one;
  }
    where
      four : (p : Phase) → IsPhaseOf messages limit announced contents p → ((count : ℕ) → p ≡ phase.Length count → ⊥) → 4 ≤ length (octets_of p announced contents)
      four (phase.Length count) h n = absurd (n count refl)
      four (phase.Contents size) h n = omega (arith, h.accepted.four, length-append (take 4 announced) contents, length-take 4 announced)
      four phase.Ready h n = omega (arith, h.accepted.four, length-append (take 4 announced) contents, length-take 4 announced)
      four (phase.Refused refusal) h n = omega (arith, h.four, length-append (take 4 announced) contents, length-take 4 announced)

  -- octets of a length
  pub FeedsLength-made : (limit looks looked : ℕ) (space made : ℕ) (announced contents piece after : List ℕ) (present used : ℕ) (p : Phase) → HasPartOfLength announced contents present → IsPut announced present piece after used → length after ≡ 4 → length_present p ≡ present + used → looked ≡ looks → space ≤ made → IsPhaseOf messages limit after contents p → FeedsLength messages (record { profile = profile; limit = limit; octets = take present announced ++ contents; looks = looks; capacity = space }) piece (decoding_of profile limit looked made after contents p) used
  FeedsLength-made limit looks looked space made announced contents piece after present used p h put four n k capacity at = record {
    within = omega (arith, put.many);
    same_profile = refl;
    same_limit = refl;
    octets =
        ap (λ l. take (length_present p) after ++ l) h.none
        ∙ append-nil (take (length_present p) after)
        ∙ ap (λ k. take k after) n
        ∙ put.prefix
        ∙ ap (λ l. l ++ take used piece) (sym (ap (λ l. take present announced ++ l) h.none ∙ append-nil (take present announced)));
    looks = k;
    contents = omega (
      arith,
      put.many,
      n,
      four,
      h.part,
      h.four,
      ap length h.none,
      length-append (take (length_present p) after) contents,
      length-take (length_present p) after,
      length-append (take present announced) contents,
      length-take present announced,
      length-drop 4 (octets_of p after contents),
      length-drop 4 (take present announced ++ contents),
    );
    again = λ m. absurd (m (comes messages profile limit looks space announced contents (phase.Length present) h).is);
    capacity = capacity;
    on = by (cases_lt used (length piece));
    one = (comes messages profile limit looked made after contents p at).one;
  }
    where
      by : (used < length piece) ⊎ (length piece ≤ used) → (used ≡ length piece) ⊎ (4 ≤ length (octets_of p after contents))
      by (inl l) = inr (omega (arith, put.many, n, four, h.part, length-append (take (length_present p) after) contents, length-take (length_present p) after))
      by (inr l) = inl (omega (arith, put.many))

  -- the length, and then the contents
  pub Feeds-both : (old between new : Decoding) (piece : List ℕ) (used : ℕ) (fed : Fed) → FeedsLength messages old piece between used → Feeds messages between (drop used piece) new fed → Feeds messages old piece new (record { used = used + fed.used; status = fed.status })
  Feeds-both old between new piece used fed f g = record {
    within = omega (arith, f.within, g.within, length-drop used piece);
    same_profile = g.same_profile ∙ f.same_profile;
    same_limit = g.same_limit ∙ f.same_limit;
    octets = octets;
    looks = omega (arith, f.looks, f.contents, g.looks);
    answer = g.answer;
    all = λ e. omega (arith, g.all e, f.within, length-drop used piece);
    again = λ n. again n (f.again n);
    memory = λ e. ((g.memory e).0, omega (arith, (g.memory e).1, f.within, length-drop used piece));
    enough = λ a. g.enough (ample-kept old between f.same_limit f.capacity a);
    ample = λ a. g.ample (ample-kept old between f.same_limit f.capacity a);
    decoded = λ stream cleared s.
        subst (λ l. HasDecoded messages new l cleared)
        (append_assoc stream (take used piece) (take fed.used (drop used piece)) ∙ ap (λ l. stream ++ l) (sym (take-add used fed.used piece)))
        (g.decoded (stream ++ take used piece) cleared (HasDecoded-fed old between (take used piece) f.same_limit f.octets f.one stream cleared s));
  }
    where
      octets : new.octets ≡ old.octets ++ take (used + fed.used) piece
      octets =
          g.octets
          ∙ ap (λ l. l ++ take fed.used (drop used piece)) f.octets
          ∙ append_assoc old.octets (take used piece) (take fed.used (drop used piece))
          ∙ ap (λ l. old.octets ++ l) (sym (take-add used fed.used piece))

      again : status_of messages old ≢ status.More → used ≡ 0 → (used + fed.used ≡ 0) × (fed.status ≡ status_of messages old)
      again n e =
          let s : status_of messages between ≡ status_of messages old = same-status messages profile old between f.same_limit (f.octets ∙ ap (λ n. old.octets ++ take n piece) e ∙ append-nil old.octets) in
          let a = g.again (λ m. n (sym s ∙ m)) in
          (omega (arith, e, a.0), a.1 ∙ s)

  -- ---- a frame that is cleared
  pub Clears-none : (d : Decoding) → borrowed messages d ≡ None → Clears messages d d false
  Clears-none d e = record {
    is_ready = sym (ap is_some e);
    left = rw e refl;
    ample = λ a. a;
    decoded = λ stream contents cleared s m. absurd (no_contents contents (sym e ∙ m));
  }
    where
      no_contents : (contents : List ℕ) → None ≡ Some contents → ⊥
      no_contents contents n = cc

  pub Clears-frame : (limit looks : ℕ) (space : ℕ) (announced contents : List ℕ) (new : Decoding) → HasFrame messages limit announced contents → new ≡ record { profile = profile; limit = limit; octets = []; looks = looks; capacity = new.capacity } → (IsAmple (decoding_of profile limit looks space announced contents phase.Ready) → IsAmple new) → Clears messages (decoding_of profile limit looks space announced contents phase.Ready) new true
  Clears-frame limit looks space announced contents new h left ample =
      let d : Decoding = decoding_of profile limit looks space announced contents phase.Ready in
      let there : borrowed messages d ≡ Some contents = borrowed-ready messages profile limit looks space announced contents phase.Ready h refl in
      let size : length (take 4 announced ++ contents) ≡ 4 + length contents = omega (arith, h.accepted.four, length-append (take 4 announced) contents, length-take 4 announced) in
      let first : (more : List ℕ) → frames messages limit ((take 4 announced ++ contents) ++ more) ≡ with_first contents (frames messages limit more) =
      λ more. ap (λ l. frames messages limit (l ++ more)) (four_octets announced contents h.accepted.four) ∙ found-frame messages profile limit announced contents more h in
      record {
        is_ready = sym (ap is_some there);
        left = rw there left;
        ample = ample;
        decoded = λ stream other cleared s m.
            let same : contents ≡ other = same_contents contents other (sym there ∙ m) in
            subst (λ n. HasDecoded messages n stream (cleared ++ other ∷ [])) (sym left)
            (subst (λ o. HasDecoded messages (record { profile = profile; limit = limit; octets = []; looks = looks; capacity = new.capacity }) stream (cleared ++ o ∷ [])) same
            (HasDecoded-cleared limit looks space new.capacity (take 4 announced ++ contents) contents size first stream cleared s));
      }
