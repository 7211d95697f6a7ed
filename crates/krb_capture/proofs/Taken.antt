-- What the frames of messages have to do with the octets that they took.
use Rattle.std.proofs.Common.{◌≡◌, ◌-◌, ℕ, true, false, List, [], ◌∷◌, ◌++◌, length, take, None, refl, sym, ◌∙◌, ap, subst, arith, append_assoc, append-nil, length-append}
use Rattle.std.specs.List.{AllByRecursion}
use Rattle.std.proofs.Math.Seq.{take-append_seam}
use Rattle.krb_der.specs.declared.profile.Profile.{Profile}
use Rattle.krb_der.specs.declared.verdict.Refusal.{Refusal}
use Rattle.krb_msg.specs.Grammar.{messages}
use Rattle.krb_frame.specs.Decoding.{status_of}
use Rattle.krb_frame.specs.Deliveries.{Delivers, DeliversBefore, DeliversUpTo, status_in}
use Rattle.krb_frame.specs.GoingOn.{Entry, Fault, GoesOn, Skipping, rest_to_come}
use Rattle.krb_frame.specs.declared.decoder.Status.TheVariants as status
use Rattle.krb_record.specs.declared.capture_origin.CaptureOrigin.{CaptureOrigin}
use Rattle.krb_capture.specs.Found.{Found, Written, with_all, with_found}
use Rattle.krb_capture.specs.Listed.{ListsEntry}
use Rattle.krb_capture.specs.Streams.{Framed, after_entries, entries_found, entry_found, found_with, framed}
use Rattle.krb_capture.specs.Taken.{IsDone, IsOver, TookMessages, Waits, WaitsUnless, WaitsWith}
use Rattle.krb_capture.specs.declared.flow.Service.TheVariants as services
use Rattle.krb_capture.specs.declared.message_frames.FrameLister.{FrameLister}
use Rattle.krb_capture.specs.declared.message_frames.MessageFrames.{MessageFrames}
use Rattle.krb_capture.proofs.Found.{with_all-append}
use Rattle.krb_capture.proofs.Framed.{after_entries-append, all_done, entries_found-append, found_with-of, found-waiting, framed-last, last_framed, over-more, over-none}
use Rattle.krb_capture.proofs.Listed.{ListsEntries, all_followed, lists-entries}

-- ---- a piece was taken
pub record TakesMessages (old new : MessageFrames) (piece : List ℕ) (origin : CaptureOrigin) (before after : Written) : Type 0 where
  pub took : (profile : Profile) (limit : ℕ) (stream : List ℕ) → TookMessages profile old limit stream → TookMessages profile new limit (stream ++ piece)
  pub listed : (profile : Profile) (limit : ℕ) (stream : List ℕ) → TookMessages profile old limit stream → after ≡ with_all origin (found_with (services.Kerberos profile) limit stream piece) before

-- all that follows is passed over
pub takes-none : (old : MessageFrames) (piece : List ℕ) (origin : CaptureOrigin) (w : Written) → old.is_over ≡ true → TakesMessages old old piece origin w w
takes-none old piece origin w e = record {
  took = λ profile limit stream t. record {
    profile_is = t.profile_is;
    limit_is = t.limit_is;
    state = subst (λ b. WaitsUnless b profile old limit (stream ++ piece)) (sym e) (over-more (services.Kerberos profile) limit stream piece (subst (λ b. WaitsUnless b profile old limit stream) e t.state));
  };
  listed = λ profile limit stream t. ap (λ x. with_all origin x w) (sym (over-none (services.Kerberos profile) limit stream piece (subst (λ b. WaitsUnless b profile old limit stream) e t.state)));
}

-- ---- frames were delivered, which follow those of a stream
module _ (old : MessageFrames) (new : Skipping) (octets : List ℕ) (start end : FrameLister) (d : Delivers ListsEntry old.decoder octets new start end) (here : start.offset ≡ old.offset) (by : start.profile ≡ old.decoder.current.profile) (profile : Profile) (limit : ℕ) (stream : List ℕ) (t : TookMessages profile old limit stream) (w : WaitsWith profile old stream) where
  lists : ListsEntries start d.frames end
  lists = lists-entries start d.frames end d.received

  given : GoesOn (messages old.decoder.current.profile) old.decoder stream w.waits.before
  given = subst (λ p. GoesOn (messages p) old.decoder stream w.waits.before) (sym t.profile_is) w.waits.goes_on

  all : AllByRecursion IsDone (w.waits.before ++ d.frames)
  all = all_done w.waits.before d.frames w.waits.done (all_followed d.frames (d.followed stream w.waits.before given))

  goes_on : GoesOn (messages profile) new (stream ++ octets) (w.waits.before ++ d.frames)
  goes_on = subst (λ p. GoesOn (messages p) new (stream ++ octets) (w.waits.before ++ d.frames)) t.profile_is (d.goes_on stream w.waits.before given)

  by_profile : start.profile ≡ profile
  by_profile = by ∙ t.profile_is

  found_listed : end.listing.now ≡ with_all start.origin.now (entries_found profile start.offset d.frames) start.listing.now
  found_listed = lists.listed ∙ ap (λ q. with_all start.origin.now (entries_found q start.offset d.frames) start.listing.now) by_profile

  begin : start.offset ≡ after_entries 0 w.waits.before
  begin = here ∙ w.offset

  offset : end.offset ≡ after_entries 0 (w.waits.before ++ d.frames)
  offset = lists.offset ∙ ap (λ k. after_entries k d.frames) begin ∙ sym (after_entries-append 0 w.waits.before d.frames)

  found-both : entries_found profile 0 (w.waits.before ++ d.frames) ≡ entries_found profile 0 w.waits.before ++ entries_found profile start.offset d.frames
  found-both = entries_found-append profile 0 w.waits.before d.frames ∙ ap (λ k. entries_found profile 0 w.waits.before ++ entries_found profile k d.frames) (sym begin)

  same : new.current.profile ≡ profile
  same = d.same_profile ∙ t.profile_is

  found-old : (framed (services.Kerberos profile) limit stream).found ≡ entries_found profile 0 w.waits.before
  found-old = found-waiting profile limit old.decoder stream w.waits t.limit_is

  -- and more octets are awaited
  module _ (more : status_in new ≡ status.More) where
    pub waits : Waits profile new (stream ++ octets)
    waits = record {
      before = w.waits.before ++ d.frames;
      done = all;
      goes_on = goes_on;
      waits = subst (λ p. status_of (messages p) new.current ≡ status.More) same more;
    }

    pub waits-offset : end.offset ≡ after_entries 0 waits.before
    unfolding waits
    waits-offset = offset

    pub waits-listed : end.listing.now ≡ with_all start.origin.now (found_with (services.Kerberos profile) limit stream octets) start.listing.now
    unfolding waits
    waits-listed =
        found_listed
        ∙ ap (λ x. with_all start.origin.now x start.listing.now)
        (sym (found_with-of (services.Kerberos profile) limit stream octets (entries_found profile 0 w.waits.before) (entries_found profile start.offset d.frames) found-old
        (found-waiting profile limit new (stream ++ octets) waits (d.same_limit ∙ t.limit_is) ∙ found-both)))

  -- and the next one is refused, whose length is not known
  module _ (rest piece : List ℕ) (parts : piece ≡ octets ++ rest) (refusal : Refusal) (refused : status_in new ≡ status.Refused refusal) (unknown : rest_to_come (messages new.current.profile) new.current ≡ None) where
    abbrev last : Entry
    last = Fault refusal.place refusal.why new.current.octets

    all_framed : (more : List ℕ) → framed (services.Kerberos profile) limit ((stream ++ piece) ++ more) ≡ last_framed profile (w.waits.before ++ d.frames) refusal new.current.octets
    all_framed more =
        ap (framed (services.Kerberos profile) limit) (ap (λ x. (stream ++ x) ++ more) parts ∙ ap (λ x. x ++ more) (sym (append_assoc stream octets rest)) ∙ append_assoc (stream ++ octets) rest more)
        ∙ framed-last profile limit new (stream ++ octets) (w.waits.before ++ d.frames) refusal (d.same_limit ∙ t.limit_is) all goes_on
        (subst (λ p. status_of (messages p) new.current ≡ status.Refused refusal) same refused)
        (subst (λ p. rest_to_come (messages p) new.current ≡ None) same unknown)
        (rest ++ more)

    at_piece : framed (services.Kerberos profile) limit (stream ++ piece) ≡ last_framed profile (w.waits.before ++ d.frames) refusal new.current.octets
    at_piece = ap (framed (services.Kerberos profile) limit) (sym (append-nil (stream ++ piece))) ∙ all_framed []

    pub stopped-over : IsOver (services.Kerberos profile) limit (stream ++ piece)
    stopped-over = λ more. (ap (λ (f : Framed). f.found) (all_framed more ∙ sym at_piece), ap (λ (f : Framed). f.over) (all_framed more))

    -- where they are
    abbrev listed_from : List Found
    listed_from = entries_found profile start.offset d.frames ++ entry_found profile end.offset last ∷ []

    found_all : entries_found profile 0 (w.waits.before ++ d.frames) ++ entry_found profile (after_entries 0 (w.waits.before ++ d.frames)) last ∷ [] ≡ entries_found profile 0 w.waits.before ++ listed_from
    found_all =
        (λ i. found-both i ++ entry_found profile (sym offset i) last ∷ [])
        ∙ append_assoc (entries_found profile 0 w.waits.before) (entries_found profile start.offset d.frames) (entry_found profile end.offset last ∷ [])

    pub stopped-listed : (after : Written) → after ≡ with_found end.origin.now (entry_found end.profile end.offset last) end.listing.now → after ≡ with_all start.origin.now (found_with (services.Kerberos profile) limit stream piece) start.listing.now
    stopped-listed after e =
        e
        ∙ ap (λ q. with_found end.origin.now (entry_found q end.offset last) end.listing.now) (lists.profile ∙ by_profile)
        ∙ (λ i. with_found (lists.origin i).now (entry_found profile end.offset last) (found_listed i))
        ∙ sym (with_all-append start.origin.now (entries_found profile start.offset d.frames) (entry_found profile end.offset last ∷ []) start.listing.now)
        ∙ ap (λ x. with_all start.origin.now x start.listing.now)
        (sym (found_with-of (services.Kerberos profile) limit stream piece (entries_found profile 0 w.waits.before) listed_from found-old (ap (λ (f : Framed). f.found) at_piece ∙ found_all)))

-- ---- a piece that was delivered
waits-in : (profile : Profile) (old : MessageFrames) (limit : ℕ) (stream : List ℕ) → old.is_over ≡ false → TookMessages profile old limit stream → WaitsWith profile old stream
waits-in profile old limit stream e t = subst (λ b. WaitsUnless b profile old limit stream) e t.state

pub takes-up-to : (IsFull : FrameLister → Type 0) (old new : MessageFrames) (octets rest : List ℕ) (start end : FrameLister) → old.is_over ≡ false → new.is_over ≡ false → start.offset ≡ old.offset → start.profile ≡ old.decoder.current.profile → new.offset ≡ end.offset → DeliversUpTo ListsEntry IsFull true old.decoder octets rest new.decoder start end → TakesMessages old new (take (length octets - length rest) octets) start.origin.now start.listing.now end.listing.now
takes-up-to IsFull old new octets rest start end goes still here by moved d =
    subst (λ l. TakesMessages old new l start.origin.now start.listing.now end.listing.now) used
    (record {
      took = λ profile limit stream t.
          let w = waits-in profile old limit stream goes t in
          record {
            profile_is = p.same_profile ∙ t.profile_is;
            limit_is = p.same_limit ∙ t.limit_is;
            state = subst (λ b. WaitsUnless b profile new limit (stream ++ d.prefix.used)) (sym still) (record { waits = waits old new.decoder d.prefix.used start end p here by profile limit stream t w d.waits; offset = moved ∙ waits-offset old new.decoder d.prefix.used start end p here by profile limit stream t w d.waits });
          };
      listed = λ profile limit stream t. waits-listed old new.decoder d.prefix.used start end p here by profile limit stream t (waits-in profile old limit stream goes t) d.waits;
    })
  where
    p : Delivers ListsEntry old.decoder d.prefix.used new.decoder start end
    p = d.prefix.delivers

    count : length d.prefix.used ≡ length octets - length rest
    count = omega (arith, ap length d.prefix.parts, length-append d.prefix.used rest)

    used : d.prefix.used ≡ take (length octets - length rest) octets
    used = sym (take-append_seam d.prefix.used rest) ∙ (λ i. take (count i) (sym d.prefix.parts i))

pub takes-stopped : (old new : MessageFrames) (octets : List ℕ) (refusal : Refusal) (start end : FrameLister) (after : Written) → old.is_over ≡ false → new.is_over ≡ true → start.offset ≡ old.offset → start.profile ≡ old.decoder.current.profile → DeliversBefore ListsEntry true old.decoder octets refusal new.decoder start end → after ≡ with_found end.origin.now (entry_found end.profile end.offset (Fault refusal.place refusal.why new.decoder.current.octets)) end.listing.now → TakesMessages old new octets start.origin.now start.listing.now after
takes-stopped old new octets refusal start end after goes over here by d last = record {
  took = λ profile limit stream t. record {
    profile_is = p.same_profile ∙ t.profile_is;
    limit_is = p.same_limit ∙ t.limit_is;
    state = subst (λ b. WaitsUnless b profile new limit (stream ++ octets)) (sym over) (stopped-over old new.decoder d.prefix.used start end p here by profile limit stream t (waits-in profile old limit stream goes t) d.rest octets d.prefix.parts refusal d.refused (d.unknown refl));
  };
  listed = λ profile limit stream t. stopped-listed old new.decoder d.prefix.used start end p here by profile limit stream t (waits-in profile old limit stream goes t) d.rest octets d.prefix.parts refusal d.refused (d.unknown refl) after last;
}
  where
    p : Delivers ListsEntry old.decoder d.prefix.used new.decoder start end
    p = d.prefix.delivers
