-- A stream whose frames are listed piece by piece, whatever is written of them.
use Rattle.std.proofs.Common.{◌≡◌, ℕ, ◌+◌, ◌^◌, ◌<◌, ◌≤◌, ◌⊎◌, inl, inr, Bool, true, false, List, [], ◌∷◌, ◌++◌, length, take, drop, Option, refl, sym, ◌∙◌, ap, ap₂, subst, arith, append-nil, append_assoc, length-append, take-append-drop}
use Rattle.std.specs.Prelude.{◌↔◌, IsTrue, not}
use Rattle.std.specs.Io.KnownBytes.{IsAtEnd}
use Rattle.std.specs.List.{AllByRecursion}
use Rattle.std.proofs.lemmas.Bool.{cases_lt}
use Rattle.std.proofs.lemmas.List.{take_at}
use Rattle.krb_der.specs.declared.profile.Profile.{Profile}
use Rattle.krb_der.specs.declared.why.Why.{Why}
use Rattle.krb_der.specs.declared.why.Why.TheVariants.{HighBit, Truncated}
use Rattle.krb_der.specs.declared.verdict.Refusal.{Refusal}
use Rattle.krb_msg.specs.Grammar.{messages}
use Rattle.krb_msg.specs.Stream.{End, Boundary, Within, Refused, ends, frames}
use Rattle.krb_frame.specs.Decoding.{Decoding, AreOfOne, found, finish_at, status_at, status_of}
use Rattle.krb_frame.specs.Deliveries.{AreUsed, Delivers, DeliversBefore, DeliversPrefix, DeliversUpTo, IsMessage, Received, contents_in, due}
use Rattle.krb_frame.specs.GoingOn.{Entry, Fault, GoesOn, Skipping, after_contents, entries, entries_size, last_entry, next_entries}
use Rattle.krb_frame.specs.declared.decoder.Status.TheVariants as status
use Rattle.krb_frame.proofs.DecoderFrames.{more-nothing}
use Rattle.krb_frame.proofs.Deliveries.{all_both, entries_size-append}
use Rattle.krb_frame.proofs.Ends.{none_found, refused_end, refused_more}
use Rattle.krb_frame.proofs.GoingOn.{entries-refused}
use Rattle.krb_frame.proofs.Skips.{entries-waiting, entries-last}
use Rattle.krb_tool.specs.GoingOn.{EndsUnknown, IsCut as IsCutEntry}
use Rattle.krb_tool.specs.Listing.{IsNotRefused}
use Rattle.krb_tool.specs.Starts.{IsStart}
use Rattle.krb_tool.specs.inner.Listers.{Adds, AreListed, Ends, FrameLister, HasListed, IsDecoded, IsDone, IsRefused, LinesKind, current_end, last_frames, last_of, lister_kind}
use Rattle.krb_run.specs.Pieces.{Goes, IsLastOf, TakesPiece, WaitsAfter, listing_of}
use Rattle.krb_run.specs.Streams.{AcceptsPiece, Begins, EndsListing, Feeds, Finishes, IsLast, IsNew, MayFinish, Clears, Taken, with_piece}
use Rattle.krb_tool.proofs.FirstRefusals.{IsTold, SameEnd, frames-begin, frames-first, is_told}
use Rattle.krb_tool.proofs.KnownLengths.{known_last, known_more, none_unknown}
use Rattle.krb_run.proofs.Pieces.{Clears-made, Feeds-made, Finishes-made, IsNew-made}

-- the frames of octets, by the decoder of a lister
abbrev pub entries_of : {S : Type 0} → FrameLister S → List ℕ → List Entry
entries_of lister octets = entries (messages lister.decoder.current.profile) lister.decoder.current.limit octets

-- ---- while more is awaited
more_not_refused : (contents : List (List ℕ)) (end : End) → status_at contents end ≡ status.More → IsNotRefused end
more_not_refused contents Boundary e = tt
more_not_refused contents (Within present) e = tt
more_not_refused [] (Refused place reason) e = absurd cc
more_not_refused (first ∷ others) (Refused place reason) e = absurd cc

not_both : status.Ready ≡ status.More → ⊥
not_both e = cc

-- then the frame at the end is cut, if there is one
waiting_last : (end : End) (octets : List ℕ) → IsNotRefused end → last_entry end octets ≡ last_frames (finish_at end) octets
waiting_last Boundary octets n = refl
waiting_last (Within present) octets n = refl
waiting_last (Refused place reason) octets n = absurd n

waiting_known : (before : List Entry) → (EndsUnknown before → ⊥) → (end : End) (octets : List ℕ) → IsNotRefused end → EndsUnknown (before ++ last_entry end octets) → ⊥
waiting_known before known Boundary octets n u = known (subst EndsUnknown (append-nil before) u)
waiting_known before known (Within present) octets n u = known_last before (Fault present Truncated octets) cut u
  where
    cut : (prefix : List ℕ) → Fault present Truncated octets ≡ Fault 3 HighBit prefix → ⊥
    cut prefix e = cc
waiting_known before known (Refused place reason) octets n u = n

told_end : {S : Type 0} (lister : FrameLister S) → IsTold (current_end lister)
unfolding found
told_end lister = is_told (messages lister.decoder.current.profile) lister.decoder.current.limit lister.decoder.current.octets

-- of a stream that ends as a lister lists it
abbrev pub SameLast : {S : Type 0} → FrameLister S → List ℕ → Type 0
SameLast lister octets = SameEnd (frames (messages lister.decoder.current.profile) lister.decoder.current.limit octets).end (current_end lister) (after_contents (frames (messages lister.decoder.current.profile) lister.decoder.current.limit octets) octets) lister.decoder.current.octets

module _ {S Q E : Type 0} (kind : LinesKind S Q E) where
  module _ (lister : FrameLister S) (octets written : List ℕ) (h : HasListed kind lister octets written) (w : (lister_kind kind).IsWaiting lister) where
    not_refused : IsNotRefused (current_end lister)
    not_refused = more_not_refused (found (messages lister.decoder.current.profile) lister.decoder.current).contents (current_end lister) w.0

    pub entries_read : entries_of lister octets ≡ h.frames ++ last_entry (current_end lister) lister.decoder.current.octets
    entries_read = entries-waiting (messages lister.decoder.current.profile) lister.decoder octets h.frames h.goes_on w.0

    all_read : entries_of lister octets ≡ h.frames ++ last_of lister
    all_read = entries_read ∙ ap (λ l. h.frames ++ l) (waiting_last (current_end lister) lister.decoder.current.octets not_refused)

    -- no frame is after them but one that is cut
    pub waits-cut : IsCutEntry lister.decoder.current.profile lister.decoder.current.limit (last_entry (current_end lister) lister.decoder.current.octets)
    unfolding found
    waits-cut = record {
      octets = lister.decoder.current.octets;
      none = none_found (found (messages lister.decoder.current.profile) lister.decoder.current).contents (current_end lister) (λ ready. not_both (sym ready ∙ w.0));
      accepted = not_refused;
      is = refl;
    }

    -- the length of the last frame is known, if the lister goes on after refusals
    pub waits-known : kind.keeps_going lister.lines ≡ true → EndsUnknown (entries_of lister octets) → ⊥
    waits-known kept = subst (λ l. EndsUnknown l → ⊥) (sym entries_read) (waiting_known h.frames (h.known kept) (current_end lister) lister.decoder.current.octets not_refused)

    -- and else no frame is refused
    pub waits-whole : kind.keeps_going lister.lines ≡ false → ((frames (messages lister.decoder.current.profile) lister.decoder.current.limit octets).contents ≡ contents_in h.frames) × IsNotRefused (frames (messages lister.decoder.current.profile) lister.decoder.current.limit octets).end
    waits-whole stops =
        let first = frames-first (messages lister.decoder.current.profile) lister.decoder.current.limit octets h.frames (current_end lister) lister.decoder.current.octets [] (all_read ∙ ap (λ l. h.frames ++ l) (sym (append-nil (last_of lister)))) (h.whole stops) (λ n. refl) (told_end lister) in
        (first.0, subst IsNotRefused (sym first.1.0) not_refused)

  -- ---- the frames of a stream that is done, none of which before the last one is refused
  module _ (lister : FrameLister S) (taken : Taken) (d : IsDone kind lister taken) (stops : kind.keeps_going lister.lines ≡ false) where
    pub done-begins : (rest : List (List ℕ)) × ((frames (messages lister.decoder.current.profile) lister.decoder.current.limit taken.octets).contents ≡ contents_in d.frames ++ rest)
    done-begins = frames-begin (messages lister.decoder.current.profile) lister.decoder.current.limit taken.octets d.frames d.rest d.all (d.whole stops)

    pub done-first : (kind.IsFull lister.lines → ⊥) → ((frames (messages lister.decoder.current.profile) lister.decoder.current.limit taken.octets).contents ≡ contents_in d.frames) × SameLast lister taken.octets
    done-first room =
        let e : Ends kind lister d.rest = d.end room in
        frames-first (messages lister.decoder.current.profile) lister.decoder.current.limit taken.octets d.frames (current_end lister) lister.decoder.current.octets e.others (d.all ∙ ap (λ l. d.frames ++ l) e.parts) (d.whole stops) e.cut (told_end lister)

  -- ---- the current frame is refused and not skipped
  both_ways : true ≡ false → ⊥
  both_ways e = cc

  last-refused : (lister : FrameLister S) (place : ℕ) (why : Why) → current_end lister ≡ Refused place why → Fault place why lister.decoder.current.octets ∷ [] ≡ last_of lister
  last-refused lister place why e = ap (λ x. last_frames (finish_at x) lister.decoder.current.octets) (sym e)

  -- of a stream with octets after it
  record IsCut (lister : FrameLister S) (before : List Entry) (octets : List ℕ) : Type 0 where
    rest : List Entry
    all : entries_of lister octets ≡ before ++ rest
    end : (kind.IsFull lister.lines → ⊥) → Ends kind lister rest

  cut-refused : (lister : FrameLister S) (stream written more : List ℕ) (h : HasListed kind lister stream written) → IsRefused kind lister → IsCut lister h.frames (stream ++ more)
  unfolding found
  cut-refused lister stream written more h r = by (kind.keeps_going lister.lines) refl
    where
      current : Decoding
      current = lister.decoder.current

      alone : frames (messages lister.decoder.current.profile) lister.decoder.current.limit lister.decoder.current.octets ≡ ends (Refused r.refusal.place r.refusal.why)
      alone =
          let e = refused_end (found (messages lister.decoder.current.profile) lister.decoder.current).contents (current_end lister) r.refusal r.refused in
          λ i. record { contents = e.0 i; end = e.1 i }

      refused : current_end lister ≡ Refused r.refusal.place r.refusal.why
      refused = ap (λ f. f.end) alone

      size : length lister.decoder.current.octets ≡ r.refusal.place + 1
      size = subst (λ x. AreOfOne lister.decoder.current.octets x.contents x.end) alone h.goes_on.one

      by : (going : Bool) → kind.keeps_going lister.lines ≡ going → IsCut lister h.frames (stream ++ more)
      by true kept =
          let l = entries-last (messages current.profile) lister.decoder stream h.frames r.refusal h.goes_on r.refused (r.unknown kept) in
          record {
            rest = Fault 3 HighBit current.octets ∷ [];
            all = l.last more;
            end = λ room. record {
              others = [];
              parts = last-refused lister 3 HighBit l.end ∙ sym (append-nil (last_of lister));
              cut = λ n. refl;
              unknown = λ g. (refl, inr l.end);
            };
          }
      by false kept =
          let rest : List ℕ = drop lister.decoder.skipped more in
          let next : List Entry = next_entries (entries (messages current.profile) current.limit) (current.octets ++ rest) in
          record {
            rest = Fault r.refusal.place r.refusal.why current.octets ∷ next;
            all =
                h.goes_on.goes_on more
                ∙ ap (λ e. h.frames ++ e)
                (entries-refused (messages current.profile) current.limit (current.octets ++ rest) r.refusal.place r.refusal.why (refused_more (messages current.profile) current.limit current.octets rest r.refusal.place r.refusal.why alone)
                ∙ ap (λ o. Fault r.refusal.place r.refusal.why o ∷ next) (take_at current.octets rest (r.refusal.place + 1) size));
            end = λ room. record {
              others = next;
              parts = ap (λ l. l ++ next) (last-refused lister r.refusal.place r.refusal.why refused);
              cut = λ n. absurd (subst IsNotRefused refused n);
              unknown = λ g. absurd (both_ways (sym g ∙ kept));
            };
          }

  -- the current frame is refused, or the lines are full
  cut-piece : (lister : FrameLister S) (stream written more : List ℕ) (h : HasListed kind lister stream written) → IsRefused kind lister ⊎ kind.IsFull lister.lines → IsCut lister h.frames (stream ++ more)
  cut-piece lister stream written more h (inl r) = cut-refused lister stream written more h r
  cut-piece lister stream written more h (inr full) = record {
    rest = entries_of lister (lister.decoder.current.octets ++ drop lister.decoder.skipped more);
    all = h.goes_on.goes_on more;
    end = λ room. absurd (room full);
  }

  refused_full : (lister : FrameLister S) → IsRefused kind lister ⊎ kind.IsFull lister.lines → IsNotRefused (current_end lister) → kind.IsFull lister.lines
  refused_full lister (inl r) n = absurd (subst IsNotRefused (refused_end (found (messages lister.decoder.current.profile) lister.decoder.current).contents (current_end lister) r.refusal r.refused).1 n)
  refused_full lister (inr full) n = full

  -- ---- several frames are listed
  record AddsAll (old : S) (xs : List Entry) (new : S) : Type 0 where
    decoded : kind.keeps_going old ≡ true → AllByRecursion IsDecoded xs
    lines : (profile : Profile) (before : List Entry) (written : List ℕ) → kind.HasLines profile old before written → kind.HasLines profile new (before ++ xs) written
    few : kind.count new ≤ kind.count old + length xs
    going : kind.keeps_going new ≡ kind.keeps_going old
    same : (profile : Profile) (limit : ℕ) → kind.request new profile limit ≡ kind.request old profile limit

  module _ (l : AreListed kind) where
    adds_all : (old : S) (xs : List Entry) (new : S) → Received kind.Receives old xs new → kind.count old + length xs < 2 ^ 64 → kind.size old + entries_size xs < 2 ^ 64 → AddsAll old xs new
    adds_all old [] new e few small = record {
      decoded = λ kept. tt;
      lines = λ profile before written h. subst (λ b. kind.HasLines profile new b written) (sym (append-nil before)) (subst (λ s. kind.HasLines profile s before written) (sym e) h);
      few = omega (arith, ap kind.count e);
      going = ap kind.keeps_going e;
      same = λ profile limit. ap (λ s. kind.request s profile limit) e;
    }
    adds_all old (x ∷ xs) new (between, first, others) few small =
        let a : Adds kind old x between = l.adds old x between first (omega (arith, few)) (omega (arith, small)) in
        let b : AddsAll between xs new = adds_all between xs new others (omega (arith, few, a.few)) (omega (arith, small, a.small)) in
        record {
          decoded = λ kept. (a.decoded kept, b.decoded (a.going ∙ kept));
          lines = λ profile before written h. subst (λ b. kind.HasLines profile new b written) (append_assoc before (x ∷ []) xs) (b.lines profile (before ++ x ∷ []) written (a.lines profile before written h));
          few = omega (arith, a.few, b.few);
          going = b.going ∙ a.going;
          same = λ profile limit. b.same profile limit ∙ a.same profile limit;
        }

    -- ---- no piece follows
    done-waiting : (lister : FrameLister S) (taken : Taken) → WaitsAfter (lister_kind kind) lister taken → IsDone kind lister taken
    done-waiting lister taken w = record {
      frames = w.listed.frames;
      rest = last_of lister;
      all = all_read lister taken.octets taken.written w.listed w.waits;
      whole = w.listed.whole;
      lines = w.listed.lines;
      end = λ room. record { others = []; parts = sym (append-nil (last_of lister)); cut = λ n. refl; unknown = λ kept. (refl, inl (not_refused lister taken.octets taken.written w.listed w.waits)) };
      few = w.few;
      stops = record { prefix = taken.octets; piece = []; parts = sym (append-nil taken.octets); goes_on = l.asks lister taken.octets taken.written w.listed w.waits; short = omega arith };
    }

    -- the lines so far begin the listing
    begins-waiting : (lister : FrameLister S) (taken : Taken) → WaitsAfter (lister_kind kind) lister taken → Begins (kind.rules ((lister_kind kind).request lister)) taken (kind.text lister.lines)
    begins-waiting lister taken w =
        let more-listed = l.listing lister taken (done-waiting lister taken w) w.waits.1 in
        record {
          lines = λ more. l.begins lister.decoder.current.profile lister.decoder.current.limit lister.lines (taken.octets ++ more) taken.written w.listed.frames (entries_of lister (lister.decoder.current.octets ++ drop lister.decoder.skipped more)) (w.listed.goes_on.goes_on more) w.listed.whole w.listed.lines;
          all = l.all lister taken.octets taken.written w.listed w.waits;
          rest = more-listed.0;
          listing = more-listed.1;
        }

    stops-cut : (old new : FrameLister S) (piece : List ℕ) (taken : Taken) → length piece ≤ 65536 → WaitsAfter (lister_kind kind) old taken → TakesPiece (lister_kind kind) old piece new false → (lister_kind kind).Stops new (with_piece taken piece) × (kind.rules ((lister_kind kind).request new)).AreLines (taken.octets ++ piece) (taken.written ++ kind.text new.lines)
    stops-cut old new piece taken short w f =
        let used : List ℕ = take f.used piece in
        let h : HasListed kind new (taken.octets ++ used) taken.written = f.listed taken.octets taken.written w.listed in
        let c : IsCut new h.frames ((taken.octets ++ used) ++ drop f.used piece) = cut-piece new (taken.octets ++ used) taken.written (drop f.used piece) h f.goes in
        let parts : (taken.octets ++ used) ++ drop f.used piece ≡ taken.octets ++ piece = append_assoc taken.octets used (drop f.used piece) ∙ ap (λ l. taken.octets ++ l) (take-append-drop f.used piece) in
        let all : entries_of new (taken.octets ++ piece) ≡ h.frames ++ c.rest = ap (entries_of new) (sym parts) ∙ c.all in (
          (
            record {
              frames = h.frames;
              rest = c.rest;
              all = all;
              whole = h.whole;
              lines = h.lines;
              end = c.end;
              few = omega (arith, w.few, f.few);
              stops = record { prefix = taken.octets; piece = piece; parts = refl; goes_on = subst (λ q. kind.AsksAfter q taken.octets) (sym f.same) (l.asks old taken.octets taken.written w.listed w.waits); short = short };
            },
            refused_full new f.goes,
          ),
          l.begins new.decoder.current.profile new.decoder.current.limit new.lines (taken.octets ++ piece) taken.written h.frames c.rest all h.whole h.lines,
        )

    -- ---- the frames of a piece were delivered
    -- a lister waits, and can count the frames of a piece and their octets
    record HasRoom (lister : FrameLister S) (piece : List ℕ) : Type 0 where
      stream : List ℕ
      written : List ℕ
      listed : HasListed kind lister stream written
      waits : (lister_kind kind).IsWaiting lister
      few : kind.count lister.lines + length piece < 2 ^ 64
      room : length stream + length piece < 2 ^ 63

    has_room : (lister : FrameLister S) (piece : List ℕ) → AcceptsPiece (listing_of (lister_kind kind) lister) → length piece ≤ 65536 → HasRoom lister piece
    has_room lister piece m short =
        let w : WaitsAfter (lister_kind kind) lister m.taken = m.waits.1 in
        record {
          stream = m.taken.octets;
          written = m.taken.written;
          listed = w.listed;
          waits = w.waits;
          few = omega (arith, m.few, w.few, short);
          room = omega (arith, m.few, w.short, short);
        }

    module _ (old new : FrameLister S) (piece rest : List ℕ) (r : HasRoom old piece) (p : DeliversPrefix kind.Receives (kind.keeps_going old.lines) old.decoder piece rest new.decoder old.lines new.lines) where
      within : length p.used ≤ length piece
      within = omega (arith, ap length p.parts, length-append p.used rest)

      few_frames : length p.delivers.frames ≤ length p.used
      few_frames = omega (arith, p.delivers.few, ap due r.waits.0)

      adds : AddsAll old.lines p.delivers.frames new.lines
      adds =
          let u : AreUsed old.decoder p.used p.delivers.frames new.decoder = p.delivers.used r.stream r.listed.frames r.listed.goes_on in
          adds_all old.lines p.delivers.frames new.lines p.delivers.received (omega (arith, r.few, few_frames, within))
          (omega (arith, l.sized old.decoder.current.profile old.lines r.listed.frames r.written r.listed.lines, u.size, u.short r.listed.short, r.listed.within, r.room, within))

      delivered : (stream written : List ℕ) → HasListed kind old stream written → HasListed kind new (stream ++ p.used) written
      delivered stream written h =
          let d : Delivers kind.Receives old.decoder p.used new.decoder old.lines new.lines = p.delivers in
          let u : AreUsed old.decoder p.used p.delivers.frames new.decoder = d.used stream h.frames h.goes_on in
          record {
            frames = h.frames ++ d.frames;
            goes_on = subst (λ q. GoesOn (messages q) new.decoder (stream ++ p.used) (h.frames ++ d.frames)) (sym d.same_profile) (d.goes_on stream h.frames h.goes_on);
            known = λ kept. let before = sym adds.going ∙ kept in known_more h.frames d.frames (h.known before) (adds.decoded before) (d.followed stream h.frames h.goes_on);
            whole = λ stops. let before = sym adds.going ∙ stops in all_both IsMessage h.frames d.frames (h.whole before) (p.stops before);
            lines = subst (λ q. kind.HasLines q new.lines (h.frames ++ d.frames) written) (sym d.same_profile) (adds.lines old.decoder.current.profile h.frames written h.lines);
            within = omega (arith, entries_size-append h.frames d.frames, u.size, h.within, length-append stream p.used);
            short = u.short h.short;
          }

      takes : (goes_on : Bool) → Goes (lister_kind kind) new (length piece) (length p.used) goes_on → TakesPiece (lister_kind kind) old piece new goes_on
      takes goes_on g =
          let prefix : take (length p.used) piece ≡ p.used = ap (take (length p.used)) p.parts ∙ take_at p.used rest (length p.used) refl in
          record {
            used = length p.used;
            within = within;
            same = adds.same new.decoder.current.profile new.decoder.current.limit ∙ ap₂ (kind.request old.lines) p.delivers.same_profile p.delivers.same_limit;
            listed = λ stream written h. subst (λ u. HasListed kind new (stream ++ u) written) (sym prefix) (delivered stream written h);
            few = omega (arith, adds.few, few_frames, within);
            goes = g;
          }

    takes-up-to : (old new : FrameLister S) (piece rest : List ℕ) (full : Bool) → HasRoom old piece → DeliversUpTo kind.Receives kind.IsFull (kind.keeps_going old.lines) old.decoder piece rest new.decoder old.lines new.lines → IsTrue full ↔ kind.IsFull new.lines → TakesPiece (lister_kind kind) old piece new (not full)
    takes-up-to old new piece rest true r d full = takes old new piece rest r d.prefix false (inr (full.0 refl))
    takes-up-to old new piece rest false r d full = takes old new piece rest r d.prefix true (all, (d.waits, room))
      where
        room : kind.IsFull new.lines → ⊥
        room is = both_ways (sym (full.1 is))

        none : length rest ≤ 0
        none = elim (cases_lt 0 (length rest)) [
          | inl h ↦ absurd (room (d.full h))
          | inr h ↦ h
        ]

        all : length d.prefix.used ≡ length piece
        all = omega (arith, none, ap length d.prefix.parts, length-append d.prefix.used rest)

    -- all of them, or as many as the lines hold
    pub feeds-up-to : (old new : FrameLister S) (piece rest : List ℕ) (full : Bool) → AcceptsPiece (listing_of (lister_kind kind) old) → length piece ≤ 65536 → DeliversUpTo kind.Receives kind.IsFull (kind.keeps_going old.lines) old.decoder piece rest new.decoder old.lines new.lines → IsTrue full ↔ kind.IsFull new.lines → Feeds kind.rules (listing_of (lister_kind kind) old) piece (listing_of (lister_kind kind) new) (not full)
    feeds-up-to old new piece rest full m short d is = Feeds-made (lister_kind kind) begins-waiting stops-cut short (takes-up-to old new piece rest full (has_room old piece m short) d is)

    -- those before a frame that is refused and not skipped
    pub feeds-stopped : (old new : FrameLister S) (piece : List ℕ) (refusal : Refusal) → AcceptsPiece (listing_of (lister_kind kind) old) → length piece ≤ 65536 → DeliversBefore kind.Receives (kind.keeps_going old.lines) old.decoder piece refusal new.decoder old.lines new.lines → Feeds kind.rules (listing_of (lister_kind kind) old) piece (listing_of (lister_kind kind) new) false
    feeds-stopped old new piece refusal m short d =
        let r : HasRoom old piece = has_room old piece m short in
        Feeds-made (lister_kind kind) begins-waiting stops-cut short
        (takes old new piece d.rest r d.prefix false (inl (record { refusal = refusal; refused = d.refused; unknown = λ kept. d.unknown (sym (adds old new piece d.rest r d.prefix).going ∙ kept) })))

    -- ---- a lister of a stream
    -- nothing came yet
    pub is_new : (lister : FrameLister S) (request : Q) (profile : Profile) (limit : ℕ) → IsStart profile limit lister.decoder → kind.request lister.lines profile limit ≡ request → kind.text lister.lines ≡ [] → kind.HasLines profile lister.lines [] [] → (kind.IsFull lister.lines → ⊥) → kind.count lister.lines ≡ 0 → IsNew (kind.rules request) request (listing_of (lister_kind kind) lister)
    is_new lister request profile limit s e empty lines room none =
        let d : Decoding = lister.decoder.current in
        IsNew-made (lister_kind kind) begins-waiting (ap₂ (kind.request lister.lines) s.same_profile s.same_limit ∙ e) empty
        (record {
          listed = record {
            frames = [];
            goes_on = subst (λ p. GoesOn (messages p) lister.decoder [] []) (sym s.same_profile) s.goes_on;
            known = λ kept. none_unknown;
            whole = λ stops. tt;
            lines = subst (λ p. kind.HasLines p lister.lines [] []) (sym s.same_profile) lines;
            within = omega (arith, ap length s.clear.nothing);
            short = omega (arith, s.clear.none);
          };
          waits = (ap (λ o. status_of (messages d.profile) (record d { octets = o })) s.clear.nothing ∙ more-nothing (messages d.profile) d.profile d.limit d.looks d.capacity, room);
          few = omega (arith, none);
          short = omega arith;
        })

    -- no piece follows
    pub record IsOver (lister : FrameLister S) (taken : Taken) (left : Option (List ℕ)) : Type 0 where
      pub done : IsDone kind lister taken
      pub read : (kind.IsFull lister.lines → ⊥) → IsNotRefused (current_end lister) → IsAtEnd left

    is_over : (lister : FrameLister S) (taken : Taken) (left : Option (List ℕ)) → IsLastOf (lister_kind kind) lister taken left → IsOver lister taken left
    is_over lister taken left (inl (w, a)) = record { done = done-waiting lister taken w; read = λ room n. a }
    is_over lister taken left (inr s) = record { done = s.0; read = λ room n. absurd (room (s.1 n)) }

    -- the lines of the end were added
    pub finishes : (old new : FrameLister S) (ended : E) → ((taken : Taken) (left : Option (List ℕ)) → IsOver old taken left → EndsListing (kind.rules ((lister_kind kind).request old)) taken.octets (taken.written ++ kind.text new.lines) left ended) → Finishes kind.rules (listing_of (lister_kind kind) old) (listing_of (lister_kind kind) new) ended
    finishes old new ended made = Finishes-made (lister_kind kind) old new ended (λ taken left last. made taken left (is_over old taken left last))

  -- the lines were written
  pub clears : (decoder : Skipping) (old new : S) → kind.text new ≡ [] → kind.keeps_going new ≡ kind.keeps_going old → ((profile : Profile) (limit : ℕ) → kind.request new profile limit ≡ kind.request old profile limit) → (kind.IsFull new → kind.IsFull old) → kind.count new ≡ kind.count old → ((profile : Profile) (frames : List Entry) (written : List ℕ) → kind.HasLines profile old frames written → kind.HasLines profile new frames (written ++ kind.text old)) → Clears (listing_of (lister_kind kind) (record { decoder = decoder; lines = old })) (listing_of (lister_kind kind) (record { decoder = decoder; lines = new }))
  clears decoder old new none going same full count lines =
      Clears-made (lister_kind kind) none (same decoder.current.profile decoder.current.limit) (λ w. (w.0, λ is. w.1 (full is))) count
      (λ stream written h. record {
        frames = h.frames;
        goes_on = h.goes_on;
        known = λ kept. h.known (sym going ∙ kept);
        whole = λ stops. h.whole (sym going ∙ stops);
        lines = lines decoder.current.profile h.frames written h.lines;
        within = h.within;
        short = h.short;
      })

  -- one frame more can be counted
  pub count_few : (lister : FrameLister S) → MayFinish (listing_of (lister_kind kind) lister) → kind.count lister.lines + 1 < 2 ^ 64
  count_few lister m = by m.last
    where
      by : IsLast (listing_of (lister_kind kind) lister) m.request m.taken m.left → kind.count lister.lines + 1 < 2 ^ 64
      by (inl (w, a)) = omega (arith, w.1.few, m.few)
      by (inr s) = omega (arith, s.1.0.few, m.few)
