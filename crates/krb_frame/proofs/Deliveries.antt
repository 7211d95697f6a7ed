-- Frames that are delivered one after another.
use Rattle.std.proofs.Common.{◌≡◌, ℕ, zero, suc, ◌+◌, ◌-◌, ◌<◌, ◌≤◌, ◌⊎◌, inl, inr, min, Bool, true, false, List, [], ◌∷◌, ◌++◌, length, take, drop, Some, None, refl, sym, ◌∙◌, ap, subst, arith, le_refl, append_assoc, append-nil, length-append, length-take, length-drop, take-append-drop}
use Rattle.std.specs.Prelude.{Option, is_some, if◌then◌else◌}
use Rattle.std.specs.List.{AllByRecursion}
use Rattle.std.proofs.lemmas.List.{drop_all}
use Rattle.krb_der.specs.declared.profile.Profile.{Profile}
use Rattle.krb_der.specs.declared.verdict.Refusal.{Refusal}
use Rattle.krb_msg.specs.Grammar.{messages}
use Rattle.krb_frame.specs.Decoding.{Decoding, borrowed, found, status_of}
use Rattle.krb_frame.specs.Decoded.{HasDecoded}
use Rattle.krb_frame.specs.Deliveries.{Received, IsReceived, IsMessage, contents_in, IsFollowed, status_in, due, AreUsed, Delivers, DeliversBefore, DeliversPrefix, DeliversUpTo}
use Rattle.krb_frame.specs.Feeds.{Clears}
use Rattle.krb_frame.specs.Frame.{framed, frame_length}
use Rattle.krb_frame.specs.GoingOn.{Entry, Contents, Fault, Skipping, GoesOn, FeedsAfter, IsClear, ClearsEntry, GivesUp, Skips, entries_size, rest_to_come}
use Rattle.krb_frame.specs.inner.Deliveries.{Completes, CompletesEntry, CompletesWith, DeliversFrame, DeliversNext, DeliversOne}
use Rattle.krb_frame.specs.inner.Phases.{HasFrame}
use Rattle.krb_frame.specs.Wholes.{BeginWith}
use Rattle.krb_frame.specs.declared.delivery.Next.{Next}
use Rattle.krb_frame.specs.declared.delivery.Next.TheVariants as next
use Rattle.krb_frame.specs.declared.decoder.Fed.{Fed}
use Rattle.krb_frame.specs.declared.decoder.Status.{Status}
use Rattle.krb_frame.specs.declared.decoder.Status.TheVariants as status
use Rattle.krb_frame.proofs.Announced.{ready-size}
use Rattle.krb_frame.proofs.DecoderFrames.{more-nothing, same-status}
use Rattle.krb_frame.proofs.Skips.{HoldsRefused, holds-refused, feeds-after_count, clears-entry}
use Rattle.krb_frame.proofs.Wholes.{GoesOn-frame, HasDecoded-frame, begin-frame}

-- ---- what a decoder answers
pub memory_more : status.Memory ≡ status.More → ⊥
memory_more e = cc

pub memory_ready : status.Memory ≡ status.Ready → ⊥
memory_ready e = cc

pub memory_refused : (refusal : Refusal) → status.Memory ≡ status.Refused refusal → ⊥
memory_refused refusal e = cc

waits_or : (s : Status) → (s ≡ status.More) ⊎ (due s ≡ 1)
waits_or status.More = inl refl
waits_or status.Ready = inr refl
waits_or status.Memory = inr refl
waits_or (status.Refused refusal) = inr refl

module _ (old new : Skipping) (piece : List ℕ) (fed : Fed) (f : FeedsAfter (messages old.current.profile) old piece new fed) where
  pub fed_within : fed.used ≤ length piece
  fed_within = omega (arith, f.first, f.others.within, length-drop old.skipped piece)

  pub fed_all : fed.status ≡ status.More → fed.used ≡ length piece
  fed_all e = omega (arith, f.first, f.others.all e, length-drop old.skipped piece)

  pub status_is : (answer : Status) → fed.status ≡ answer → (status.Memory ≡ answer → ⊥) → status_in new ≡ answer
  status_is answer e never = subst (λ p. status_of (messages p) new.current ≡ answer) (sym f.others.same_profile) (by f.others.answer)
    where
      by : (fed.status ≡ status_of (messages old.current.profile) new.current) ⊎ ((fed.status ≡ status.Memory) × (status_of (messages old.current.profile) new.current ≡ status.More)) → status_of (messages old.current.profile) new.current ≡ answer
      by (inl s) = sym s ∙ e
      by (inr m) = absurd (never (sym m.0 ∙ e))

  -- an octet decides
  fed_some : status_in old ≡ status.More → (status_in new ≡ status.More → ⊥) → 0 < fed.used
  fed_some w differs = by (fed.used - min old.skipped (length piece)) refl
    where
      same : fed.used - min old.skipped (length piece) ≡ 0 → status_in new ≡ status_in old
      same z =
          subst (λ p. status_of (messages p) new.current ≡ status_in old) (sym f.others.same_profile)
          (same-status (messages old.current.profile) old.current.profile old.current new.current f.others.same_limit
          (f.others.octets ∙ ap (λ n. old.current.octets ++ take n (drop old.skipped piece)) z ∙ append-nil old.current.octets))

      by : (n : ℕ) → fed.used - min old.skipped (length piece) ≡ n → 0 < fed.used
      by zero z = absurd (differs (same z ∙ w))
      by (suc n) z = omega (arith, z)

  fed_due : due (status_in new) ≤ length (take fed.used piece) + due (status_in old)
  fed_due = by (waits_or (status_in new)) (waits_or (status_in old))
    where
      by : (status_in new ≡ status.More) ⊎ (due (status_in new) ≡ 1) → (status_in old ≡ status.More) ⊎ (due (status_in old) ≡ 1) → due (status_in new) ≤ length (take fed.used piece) + due (status_in old)
      by (inl m) o = omega (arith, ap due m)
      by (inr n) (inr o) = omega (arith, n, o)
      by (inr n) (inl w) =
          let some : 0 < fed.used = fed_some w (λ m. absurd (omega (arith, n, ap due m))) in
          omega (arith, n, some, fed_within, length-take fed.used piece)

-- ---- several frames
pub all_both : (P : Entry → Type 0) (xs ys : List Entry) → AllByRecursion P xs → AllByRecursion P ys → AllByRecursion P (xs ++ ys)
all_both P [] ys p q = q
all_both P (x ∷ xs) ys p q = (p.0, all_both P xs ys p.1 q)

all_parts : (P : Entry → Type 0) (xs ys : List Entry) → AllByRecursion P (xs ++ ys) → AllByRecursion P xs × AllByRecursion P ys
all_parts P [] ys p = (tt, p)
all_parts P (x ∷ xs) ys p = let others = all_parts P xs ys p.1 in ((p.0, others.0), others.1)

pub contents_in-append : (xs ys : List Entry) → contents_in (xs ++ ys) ≡ contents_in xs ++ contents_in ys
contents_in-append [] ys = refl
contents_in-append (Contents contents ∷ xs) ys = ap (λ l. contents ∷ l) (contents_in-append xs ys)
contents_in-append (Fault place reason prefix ∷ xs) ys = contents_in-append xs ys

pub entries_size-append : (xs ys : List Entry) → entries_size (xs ++ ys) ≡ entries_size xs + entries_size ys
entries_size-append [] ys = omega arith
entries_size-append (x ∷ xs) ys = omega (arith, entries_size-append xs ys)

abbrev nothing : Profile → ℕ → ℕ → ℕ → ℕ → Skipping
nothing profile limit looks capacity skipped = record { current = record { profile = profile; limit = limit; octets = []; looks = looks; capacity = capacity }; skipped = skipped }

left_waits : (new : Skipping) → new.current.octets ≡ [] → status_in new ≡ status.More
left_waits new e =
    let d : Decoding = new.current in
    ap (λ o. status_of (messages d.profile) (record d { octets = o })) e ∙ more-nothing (messages d.profile) d.profile d.limit d.looks d.capacity

module _ {R : Type 0} (receives : R → Entry → R → Type 0) where
  pub received-append : (a b c : R) (xs ys : List Entry) → Received receives a xs b → Received receives b ys c → Received receives a (xs ++ ys) c
  received-append a b c [] ys p q = subst (λ r. Received receives r ys c) p q
  received-append a b c (x ∷ xs) ys (between, first, p) q = (between, first, received-append between b c xs ys p q)

  -- no octets; the capacity may be another one
  delivers-nothing : (s : Skipping) (capacity : ℕ) (r : R) → Delivers receives s [] (record { current = record s.current { capacity = capacity }; skipped = s.skipped }) r r
  unfolding found
  delivers-nothing s capacity r =
      let new : Skipping = record { current = record s.current { capacity = capacity }; skipped = s.skipped } in
      let same : due (status_in new) ≤ due (status_in s) = le_refl (due (status_in s)) in
      record {
        frames = [];
        received = refl;
        same_profile = refl;
        same_limit = refl;
        few = omega (arith, same);
        followed = λ stream first g. tt;
        used = λ stream first g. record { size = omega arith; short = λ h. h };
        goes_on = λ stream first g. subst (λ l. GoesOn (messages s.current.profile) new l (first ++ [])) (sym (append-nil stream)) (subst (GoesOn (messages s.current.profile) new stream) (sym (append-nil first)) (record { goes_on = g.goes_on; one = g.one; alone = g.alone }));
        decoded = λ m z stream cleared h. (z, subst (λ l. HasDecoded (messages s.current.profile) new.current l (cleared ++ [])) (sym (append-nil stream)) (subst (HasDecoded (messages s.current.profile) new.current stream) (sym (append-nil cleared)) (record { goes_on = h.goes_on; last = h.last; counted = h.counted; one = h.one })));
      }

  pub prefix-nothing : (keeps_going : Bool) (s : Skipping) (capacity : ℕ) (piece : List ℕ) (r : R) → DeliversPrefix receives keeps_going s piece piece (record { current = record s.current { capacity = capacity }; skipped = s.skipped }) r r
  unfolding delivers-nothing
  prefix-nothing keeps_going s capacity piece r = record { used = []; parts = refl; delivers = delivers-nothing s capacity r; stops = λ e. tt }

  pub prefix-start : (keeps_going : Bool) (s : Skipping) (piece : List ℕ) (r : R) → DeliversPrefix receives keeps_going s piece piece s r r
  prefix-start keeps_going s piece r = prefix-nothing keeps_going s s.current.capacity piece r

  pub delivers-fed : (old new : Skipping) (piece : List ℕ) (fed : Fed) (r : R) → FeedsAfter (messages old.current.profile) old piece new fed → Delivers receives old (take fed.used piece) new r r
  delivers-fed old new piece fed r f = record {
    frames = [];
    received = refl;
    same_profile = f.others.same_profile;
    same_limit = f.others.same_limit;
    few = omega (arith, fed_due old new piece fed f);
    followed = λ stream first g. tt;
    used = λ stream first g. record {
      size = omega (arith, f.skipped, f.first, f.others.within, fed_within old new piece fed f, ap length f.others.octets, length-append old.current.octets (take (fed.used - min old.skipped (length piece)) (drop old.skipped piece)), length-take (fed.used - min old.skipped (length piece)) (drop old.skipped piece), length-take fed.used piece, length-drop old.skipped piece);
      short = λ h. omega (arith, f.skipped, h);
    };
    goes_on = λ stream first g. subst (GoesOn (messages old.current.profile) new (stream ++ take fed.used piece)) (sym (append-nil first)) (f.goes_on stream first g);
    decoded = λ m z stream cleared h.
        let n : fed.used - min 0 (length piece) ≡ fed.used = omega arith in
        let all : take (fed.used - min old.skipped (length piece)) (drop old.skipped piece) ≡ take fed.used piece =
        ap (λ k. take (fed.used - min k (length piece)) (drop k piece)) z ∙ ap (λ k. take k piece) n in
        (omega (arith, f.skipped, z), subst (λ l. HasDecoded (messages old.current.profile) new.current (stream ++ l) (cleared ++ [])) all (subst (HasDecoded (messages old.current.profile) new.current (stream ++ take (fed.used - min old.skipped (length piece)) (drop old.skipped piece))) (sym (append-nil cleared)) (f.others.decoded stream cleared h)));
  }

  -- ---- some and then others
  pub delivers-both : (a b c : Skipping) (xs ys : List ℕ) (u v w : R) → Delivers receives a xs b u v → Delivers receives b ys c v w → Delivers receives a (xs ++ ys) c u w
  delivers-both a b c xs ys u v w l m = record {
    frames = l.frames ++ m.frames;
    received = received-append u v w l.frames m.frames l.received m.received;
    same_profile = m.same_profile ∙ l.same_profile;
    same_limit = m.same_limit ∙ l.same_limit;
    few = omega (arith, l.few, m.few, length-append l.frames m.frames, length-append xs ys);
    followed = λ stream first g. all_both IsFollowed l.frames m.frames (l.followed stream first g) (m.followed (stream ++ xs) (first ++ l.frames) (subst (λ p. GoesOn (messages p) b (stream ++ xs) (first ++ l.frames)) (sym l.same_profile) (l.goes_on stream first g)));
    used = λ stream first g.
        let before : AreUsed a xs l.frames b = l.used stream first g in
        let after : AreUsed b ys m.frames c = m.used (stream ++ xs) (first ++ l.frames) (subst (λ p. GoesOn (messages p) b (stream ++ xs) (first ++ l.frames)) (sym l.same_profile) (l.goes_on stream first g)) in
        record { size = omega (arith, before.size, after.size, entries_size-append l.frames m.frames, length-append xs ys); short = λ h. after.short (before.short h) };
    goes_on = λ stream first g.
        subst (λ s. GoesOn (messages a.current.profile) c s (first ++ (l.frames ++ m.frames))) (append_assoc stream xs ys)
        (subst (GoesOn (messages a.current.profile) c ((stream ++ xs) ++ ys)) (append_assoc first l.frames m.frames)
        (subst (λ p. GoesOn (messages p) c ((stream ++ xs) ++ ys) ((first ++ l.frames) ++ m.frames)) l.same_profile
        (m.goes_on (stream ++ xs) (first ++ l.frames) (subst (λ p. GoesOn (messages p) b (stream ++ xs) (first ++ l.frames)) (sym l.same_profile) (l.goes_on stream first g)))));
    decoded = λ all z stream cleared h.
        let each = all_parts IsMessage l.frames m.frames all in
        let between = l.decoded each.0 z stream cleared h in
        let last = m.decoded each.1 between.0 (stream ++ xs) (cleared ++ contents_in l.frames) (subst (λ p. HasDecoded (messages p) b.current (stream ++ xs) (cleared ++ contents_in l.frames)) (sym l.same_profile) between.1) in
        let contents : (cleared ++ contents_in l.frames) ++ contents_in m.frames ≡ cleared ++ contents_in (l.frames ++ m.frames) =
        append_assoc cleared (contents_in l.frames) (contents_in m.frames) ∙ ap (λ x. cleared ++ x) (sym (contents_in-append l.frames m.frames)) in (
          last.0,
          subst (λ s. HasDecoded (messages a.current.profile) c.current s (cleared ++ contents_in (l.frames ++ m.frames))) (append_assoc stream xs ys)
              (subst (HasDecoded (messages a.current.profile) c.current ((stream ++ xs) ++ ys)) contents
              (subst (λ p. HasDecoded (messages p) c.current ((stream ++ xs) ++ ys) ((cleared ++ contents_in l.frames) ++ contents_in m.frames)) l.same_profile last.1)),
        );
  }

  -- ---- one frame
  pub delivers-whole : (keeps_going : Bool) (s : Skipping) (piece contents rest : List ℕ) (before after : R) → IsClear s → BeginWith s.current.limit piece contents rest → IsReceived receives s.current.profile contents before after true → DeliversFrame receives keeps_going s piece rest s before after
  delivers-whole keeps_going s piece contents rest before after clear b r =
      let h : HasFrame (messages s.current.profile) s.current.limit (frame_length (length contents)) contents = begin-frame (messages s.current.profile) s.current.limit piece contents rest b r.0 in
      record {
        used = framed contents;
        parts = b.parts;
        one = record {
          delivers = record {
            frames = Contents contents ∷ [];
            received = (after, r.1, refl);
            same_profile = refl;
            same_limit = refl;
            few = omega arith;
            followed = λ stream first g. (tt, tt);
            used = λ stream first g. record { size = omega arith; short = λ h. h };
            goes_on = GoesOn-frame (messages s.current.profile) s contents clear h;
            decoded = λ m z stream cleared d. (z, HasDecoded-frame (messages s.current.profile) s.current contents clear.nothing h stream cleared d);
          };
          stops = λ e. (tt, tt);
          some = omega arith;
          waits = left_waits s clear.nothing;
        };
      }

  cleared_is : (old new : Skipping) (answer : Bool) (contents : List ℕ) → ClearsEntry (messages old.current.profile) old new answer → borrowed (messages old.current.profile) old.current ≡ Some contents → new.current ≡ record old.current { octets = []; capacity = new.current.capacity }
  cleared_is old new answer contents c e = c.clears.left ∙ ap (λ (o : Option (List ℕ)). if is_some o then record old.current { octets = []; capacity = new.current.capacity } else old.current) e

  pub delivers-ready : (keeps_going : Bool) (old new : Skipping) (answer : Bool) (contents : List ℕ) (before after : R) → status_in old ≡ status.Ready → borrowed (messages old.current.profile) old.current ≡ Some contents → ClearsEntry (messages old.current.profile) old new answer → receives before (Contents contents) after → DeliversOne receives keeps_going old [] new before after
  delivers-ready keeps_going old new answer contents before after st b c r =
      let left = cleared_is old new answer contents c b in
      let waits = left_waits new (ap (λ d. d.octets) left) in
      record {
        delivers = record {
          frames = Contents contents ∷ [];
          received = (after, r, refl);
          same_profile = ap (λ d. d.profile) left;
          same_limit = ap (λ d. d.limit) left;
          few = omega (arith, ap due waits, ap due st);
          followed = λ stream first g. (tt, tt);
          used = λ stream first g. record {
            size = omega (arith, ap (λ d. length d.octets) left, c.skipped, ready-size (messages old.current.profile) old.current contents b g.one);
            short = λ h. omega (arith, c.skipped, h);
          };
          goes_on = λ stream first g. subst (λ s. GoesOn (messages old.current.profile) new s (first ++ Contents contents ∷ [])) (sym (append-nil stream)) (c.goes_on stream contents first g b);
          decoded = λ m z stream cleared h. (c.skipped ∙ z, subst (λ s. HasDecoded (messages old.current.profile) new.current s (cleared ++ contents ∷ [])) (sym (append-nil stream)) (c.clears.decoded stream contents cleared h b));
        };
        stops = λ e. (tt, tt);
        some = omega arith;
        waits = waits;
      }

  some_of : (o : Option ℕ) → true ≡ is_some o → (n : ℕ) × (o ≡ Some n)
  some_of (Some n) e = (n, refl)
  some_of None e = absurd cc

  goes : true ≡ false → ⊥
  goes e = cc

  -- nothing is to be skipped before octets of a frame
  none_skipped : (skipped : ℕ) (octets : List ℕ) → 4 ≤ length octets → (skipped ≡ 0) ⊎ (octets ≡ []) → skipped ≡ 0
  none_skipped skipped octets four (inl e) = e
  none_skipped skipped octets four (inr e) = absurd (omega (arith, four, ap length e))

  pub delivers-refused : (old new : Skipping) (refusal : Refusal) (before after : R) → status_in old ≡ status.Refused refusal → Skips (messages old.current.profile) old new true → receives before (Fault refusal.place refusal.why old.current.octets) after → DeliversOne receives true old [] new before after
  delivers-refused old new refusal before after st s r =
      let d : Decoding = old.current in
      let o = some_of (rest_to_come (messages d.profile) d) s.is_known in
      let left : new.current ≡ record d { octets = []; capacity = new.current.capacity } = (subst (GivesUp (messages d.profile) d new.current) o.1 s.gives_up).left in
      let waits = left_waits new (ap (λ d. d.octets) left) in
      record {
        delivers = record {
          frames = Fault refusal.place refusal.why d.octets ∷ [];
          received = (after, r, refl);
          same_profile = ap (λ d. d.profile) left;
          same_limit = ap (λ d. d.limit) left;
          few = omega (arith, ap due waits, ap due st);
          followed = λ stream first g. let held : HoldsRefused (messages d.profile) d o.0 refusal.place refusal.why = holds-refused (messages d.profile) d o.0 refusal.place refusal.why g.one (sym o.1) st in ((held.last, held.short), tt);
          used = λ stream first g.
              let held : HoldsRefused (messages d.profile) d o.0 refusal.place refusal.why = holds-refused (messages d.profile) d o.0 refusal.place refusal.why g.one (sym o.1) st in
              let none : old.skipped ≡ 0 = none_skipped old.skipped d.octets held.four g.alone in
              record {
                size = omega (arith, ap (λ d. length d.octets) left, none, s.rest o.0 o.1, held.rest_is);
                short = λ h. omega (arith, s.rest o.0 o.1, held.rest_is, held.short);
              };
          goes_on = λ stream first g. subst (λ t. GoesOn (messages d.profile) new t (first ++ Fault refusal.place refusal.why d.octets ∷ [])) (sym (append-nil stream)) (s.goes_on stream first refusal.place refusal.why g st refl);
          decoded = λ m z stream cleared h. absurd m.0;
        };
        stops = λ e. absurd (goes e);
        some = omega arith;
        waits = waits;
      }

  -- a frame after octets that were fed
  pub fed-one : (keeps_going : Bool) (old mid new : Skipping) (piece : List ℕ) (fed : Fed) (before after : R) → FeedsAfter (messages old.current.profile) old piece mid fed → DeliversOne receives keeps_going mid [] new before after → DeliversOne receives keeps_going old (take fed.used piece) new before after
  unfolding delivers-both delivers-fed
  fed-one keeps_going old mid new piece fed before after f o =
      subst (λ l. DeliversOne receives keeps_going old l new before after) (append-nil (take fed.used piece))
      (record { delivers = delivers-both old mid new (take fed.used piece) [] before before after (delivers-fed old mid piece fed before f) o.delivers; stops = o.stops; some = o.some; waits = o.waits })

  -- how many octets were looked at before changes nothing
  other_looks : (keeps_going : Bool) (old : Skipping) (octets : List ℕ) (profile : Profile) (limit looks other capacity skipped : ℕ) (before after : R) → DeliversOne receives keeps_going old octets (nothing profile limit looks capacity skipped) before after → DeliversOne receives keeps_going old octets (nothing profile limit other capacity skipped) before after
  unfolding found
  other_looks keeps_going old octets profile limit looks other capacity skipped before after o = record {
    delivers = record {
      frames = o.delivers.frames;
      received = o.delivers.received;
      same_profile = o.delivers.same_profile;
      same_limit = o.delivers.same_limit;
      few = o.delivers.few;
      followed = o.delivers.followed;
      used = λ stream first g. let u : AreUsed old octets o.delivers.frames (nothing profile limit looks capacity skipped) = o.delivers.used stream first g in record { size = u.size; short = u.short };
      goes_on = λ stream first g. let h = o.delivers.goes_on stream first g in record { goes_on = h.goes_on; one = h.one; alone = h.alone };
      decoded = λ m z stream cleared h. let e = o.delivers.decoded m z stream cleared h in (e.0, record { goes_on = e.1.goes_on; last = e.1.last; counted = e.1.counted; one = e.1.one });
    };
    stops = o.stops;
    some = o.some;
    waits = o.waits;
  }

  -- a frame of which earlier pieces have some octets
  pub delivers-completed : (keeps_going : Bool) (old new : Skipping) (piece : List ℕ) (used : ℕ) (before after : R) → old.skipped ≡ 0 → new.skipped ≡ old.skipped → CompletesWith receives (messages old.current.profile) old.current piece used new.current before after → DeliversOne receives keeps_going old (take used piece) new before after
  delivers-completed keeps_going old new piece used before after z s c =
      let d : Decoding = old.current in
      let fed : Fed = record { used = used; status = status.Ready } in
      let ready : Skipping = record { current = c.ready; skipped = old.skipped } in
      let cleared : Skipping = record { current = record c.ready { octets = []; capacity = new.current.capacity }; skipped = old.skipped } in
      let feeds : FeedsAfter (messages d.profile) old piece ready fed = subst (λ k. FeedsAfter (messages d.profile) old piece ready (record { used = k; status = status.Ready })) (omega arith) (feeds-after_count (messages d.profile) old ready piece fed 0 (omega (arith, z)) (omega arith) c.feeds) in
      let same : c.ready.profile ≡ d.profile = c.feeds.same_profile in
      let clears : ClearsEntry (messages c.ready.profile) ready cleared true = clears-entry (messages c.ready.profile) ready cleared true refl (subst (λ p. Clears (messages p) c.ready cleared.current true) (sym same) c.clears) in
      let one : DeliversOne receives keeps_going ready [] cleared before after = delivers-ready keeps_going ready cleared true c.contents before after (status_is old ready piece fed feeds status.Ready refl memory_ready) (subst (λ p. borrowed (messages p) c.ready ≡ Some c.contents) (sym same) c.is_ready) clears c.received in
      let here : nothing c.ready.profile c.ready.limit new.current.looks new.current.capacity old.skipped ≡ new =
      λ i. record { current = record { profile = (same ∙ sym c.profile) i; limit = (c.feeds.same_limit ∙ sym c.limit) i; octets = sym c.none i; looks = new.current.looks; capacity = new.current.capacity }; skipped = sym s i } in
      subst (λ n. DeliversOne receives keeps_going old (take used piece) n before after) here
      (other_looks keeps_going old (take used piece) c.ready.profile c.ready.limit c.ready.looks new.current.looks new.current.capacity old.skipped before after (fed-one keeps_going old ready cleared piece fed before after feeds one))

  pub completes-entry : (s new : Skipping) (piece : List ℕ) (before after : R) (used : Option ℕ) → s.skipped ≡ 0 → new.skipped ≡ s.skipped → Completes receives (messages s.current.profile) s.current piece new.current before after used → CompletesEntry receives s piece new before after used
  completes-entry s new piece before after None z k c = λ keeps_going.
      subst (λ n. DeliversPrefix receives keeps_going s piece piece n before after) (λ i. record { current = sym c.0 i; skipped = sym k i })
      (subst (λ r. DeliversPrefix receives keeps_going s piece piece (record { current = record s.current { capacity = new.current.capacity }; skipped = s.skipped }) before r) (sym c.1) (prefix-nothing keeps_going s new.current.capacity piece before))
  completes-entry s new piece before after (Some used) z k c = (c.feeds.within, λ keeps_going. delivers-completed keeps_going s new piece used before after z k c)

  -- ---- several frames of a piece
  prefix-both : (keeps_going : Bool) (a b c : Skipping) (piece rest others : List ℕ) (u v w : R) → DeliversPrefix receives keeps_going a piece rest b u v → DeliversPrefix receives keeps_going b rest others c v w → DeliversPrefix receives keeps_going a piece others c u w
  unfolding delivers-both
  prefix-both keeps_going a b c piece rest others u v w l m = record {
    used = l.used ++ m.used;
    parts = l.parts ∙ ap (λ x. l.used ++ x) m.parts ∙ sym (append_assoc l.used m.used others);
    delivers = delivers-both a b c l.used m.used u v w l.delivers m.delivers;
    stops = λ e. all_both IsMessage l.delivers.frames m.delivers.frames (l.stops e) (m.stops e);
  }

  pub prefix-fed : (keeps_going : Bool) (old new : Skipping) (piece : List ℕ) (fed : Fed) (r : R) → FeedsAfter (messages old.current.profile) old piece new fed → DeliversPrefix receives keeps_going old piece (drop fed.used piece) new r r
  unfolding delivers-fed
  prefix-fed keeps_going old new piece fed r f = record { used = take fed.used piece; parts = sym (take-append-drop fed.used piece); delivers = delivers-fed old new piece fed r f; stops = λ e. tt }

  -- a frame more
  pub prefix-frame : (keeps_going : Bool) (a b c : Skipping) (piece rest others : List ℕ) (u v w : R) → DeliversPrefix receives keeps_going a piece rest b u v → DeliversFrame receives keeps_going b rest others c v w → DeliversPrefix receives keeps_going a piece others c u w
  prefix-frame keeps_going a b c piece rest others u v w l m = prefix-both keeps_going a b c piece rest others u v w l (record { used = m.used; parts = m.parts; delivers = m.one.delivers; stops = m.one.stops })

  pub smaller : (keeps_going : Bool) (b c : Skipping) (rest others : List ℕ) (v w : R) → DeliversFrame receives keeps_going b rest others c v w → length others + due (status_in c) < length rest + due (status_in b)
  smaller keeps_going b c rest others v w m = omega (arith, m.one.delivers.few, m.one.some, ap length m.parts, length-append m.used others)

  pub up-to : (IsFull : R → Type 0) (keeps_going : Bool) (a b c : Skipping) (piece rest others : List ℕ) (u v w : R) → DeliversPrefix receives keeps_going a piece rest b u v → DeliversFrame receives keeps_going b rest others c v w → IsFull w → DeliversUpTo receives IsFull keeps_going a piece others c u w
  up-to IsFull keeps_going a b c piece rest others u v w l m full = record { prefix = prefix-frame keeps_going a b c piece rest others u v w l m; waits = m.one.waits; full = λ h. full }

  pub up-to_part : (IsFull : R → Type 0) (keeps_going : Bool) (a b c : Skipping) (piece rest : List ℕ) (u v w : R) → DeliversPrefix receives keeps_going a piece rest b u v → DeliversUpTo receives (λ r. ⊥) keeps_going b rest [] c v w → DeliversUpTo receives IsFull keeps_going a piece [] c u w
  up-to_part IsFull keeps_going a b c piece rest u v w l m = record { prefix = prefix-both keeps_going a b c piece rest [] u v w l m.prefix; waits = m.waits; full = λ h. absurd (omega arith) }

  pub stopped : (keeps_going : Bool) (a b c : Skipping) (piece rest : List ℕ) (refusal : Refusal) (u v w : R) → DeliversPrefix receives keeps_going a piece rest b u v → DeliversBefore receives keeps_going b rest refusal c v w → DeliversBefore receives keeps_going a piece refusal c u w
  stopped keeps_going a b c piece rest refusal u v w l m = record { rest = m.rest; prefix = prefix-both keeps_going a b c piece rest m.rest u v w l m.prefix; refused = m.refused; unknown = m.unknown }

  frame-after : (keeps_going : Bool) (a b c : Skipping) (piece rest others : List ℕ) (u v w : R) → DeliversPrefix receives keeps_going a piece rest b u v → DeliversFrame receives keeps_going b rest others c v w → DeliversFrame receives keeps_going a piece others c u w
  unfolding delivers-both
  frame-after keeps_going a b c piece rest others u v w l m = record {
    used = l.used ++ m.used;
    parts = l.parts ∙ ap (λ x. l.used ++ x) m.parts ∙ sym (append_assoc l.used m.used others);
    one = record {
      delivers = delivers-both a b c l.used m.used u v w l.delivers m.one.delivers;
      stops = λ e. all_both IsMessage l.delivers.frames m.one.delivers.frames (l.stops e) (m.one.stops e);
      some = omega (arith, m.one.some, length-append l.delivers.frames m.one.delivers.frames);
      waits = m.one.waits;
    };
  }

  -- what comes next after octets that were used
  pub next-after : (keeps_going : Bool) (a b c : Skipping) (piece rest : List ℕ) (u v w : R) (n : Next) → DeliversPrefix receives keeps_going a piece rest b u v → DeliversNext receives keeps_going b rest c v w n → DeliversNext receives keeps_going a piece c u w n
  next-after keeps_going a b c piece rest u v w (next.Frame others) l m = frame-after keeps_going a b c piece rest others.now u v w l m
  next-after keeps_going a b c piece rest u v w next.Part l m = up-to_part (λ r. ⊥) keeps_going a b c piece rest u v w l m
  next-after keeps_going a b c piece rest u v w (next.Stopped refusal) l m = stopped keeps_going a b c piece rest refusal u v w l m

  -- one frame, and no octets
  pub frame-here : (keeps_going : Bool) (old new : Skipping) (rest : List ℕ) (before after : R) → DeliversOne receives keeps_going old [] new before after → DeliversFrame receives keeps_going old rest rest new before after
  frame-here keeps_going old new rest before after o = record { used = []; parts = refl; one = o }

  -- and the first octets of a piece
  pub frame-first : (keeps_going : Bool) (old new : Skipping) (piece : List ℕ) (used : ℕ) (before after : R) → DeliversOne receives keeps_going old (take used piece) new before after → DeliversFrame receives keeps_going old piece (drop used piece) new before after
  frame-first keeps_going old new piece used before after o = record { used = take used piece; parts = sym (take-append-drop used piece); one = o }

  -- all of a piece was fed
  pub next-part : (keeps_going : Bool) (old new : Skipping) (piece : List ℕ) (fed : Fed) (r : R) → FeedsAfter (messages old.current.profile) old piece new fed → fed.status ≡ status.More → DeliversUpTo receives (λ r. ⊥) keeps_going old piece [] new r r
  next-part keeps_going old new piece fed r f e = record {
    prefix = subst (λ l. DeliversPrefix receives keeps_going old piece l new r r) (drop_all fed.used piece (omega (arith, fed_all old new piece fed f e))) (prefix-fed keeps_going old new piece fed r f);
    waits = status_is old new piece fed f status.More e memory_more;
    full = λ h. absurd (omega arith);
  }

  -- the frame is refused that was fed
  pub next-refused : (old new : Skipping) (piece : List ℕ) (fed : Fed) (refusal : Refusal) (r : R) → FeedsAfter (messages old.current.profile) old piece new fed → fed.status ≡ status.Refused refusal → DeliversBefore receives false old piece refusal new r r
  next-refused old new piece fed refusal r f e = record {
    rest = drop fed.used piece;
    prefix = prefix-fed false old new piece fed r f;
    refused = status_is old new piece fed f (status.Refused refusal) e (memory_refused refusal);
    unknown = λ g. absurd (goes (sym g));
  }

  -- its length is not known
  pub stopped-here : (s : Skipping) (rest : List ℕ) (refusal : Refusal) (r : R) → status_in s ≡ status.Refused refusal → rest_to_come (messages s.current.profile) s.current ≡ None → DeliversBefore receives true s rest refusal s r r
  stopped-here s rest refusal r st none = record { rest = rest; prefix = prefix-start true s rest r; refused = st; unknown = λ g. none }
