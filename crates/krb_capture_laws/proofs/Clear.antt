-- Records that are all clear: nothing is told of segments and ends, and all that is found in streams is listed.
use Rattle.std.proofs.Common.{◌≡◌, ℕ, zero, suc, ◌+◌, ◌^◌, inl, inr, Bool, true, false, not, ◌&&◌, ◌||◌, Option, Some, None, List, [], ◌∷◌, ◌++◌, length, take, drop, cond, refl, sym, ap, ap₂, ◌∙◌}
use Rattle.std.specs.Prelude.{nat_le, nat_lt, if◌then◌else◌}
use Rattle.std.specs.List.{list_all, list_any}
use Rattle.std.proofs.lemmas.Bool.{and_parts, leb-true, le-ltb}
use Rattle.std.proofs.lemmas.List.Elements.{All-from_recursion}
use Rattle.std.proofs.lemmas.List.Folds.{list_all-append}
use Rattle.krb_der.specs.Octets.{number}
use Rattle.krb_der.specs.declared.profile.Profile.{Profile}
use Rattle.krb_der.specs.declared.why.Why.{Why}
use Rattle.krb_der.specs.declared.why.Why.TheVariants as why
use Rattle.krb_msg.specs.Grammar.{messages}
use Rattle.krb_frame.specs.Frame.{length_fault}
use Rattle.krb_frame.specs.GoingOn.{Entry, Contents, Fault, entries}
use Rattle.krb_packet.specs.declared.contents.Segment.{Segment}
use Rattle.krb_flow.specs.Directions.{end_of, step}
use Rattle.krb_flow.specs.Unread.{untaken_of}
use Rattle.krb_flow.specs.Window.{stream_at, stream_with}
use Rattle.krb_flow.specs.declared.direction.Beginning.{Beginning}
use Rattle.krb_flow.specs.declared.direction.State.{State}
use Rattle.krb_flow.specs.declared.direction.State.TheVariants.{Fresh, Open, Ended}
use Rattle.krb_flow.specs.declared.stream.End.{End}
use Rattle.krb_flow.specs.declared.stream.End.TheVariants.{Complete, Lost}
use Rattle.krb_flow.specs.declared.unread.Unread.{Unread as Octets}
use Rattle.krb_flow.specs.declared.unread.Untaken.{Untaken}
use Rattle.krb_capture.specs.Found.{Found}
use Rattle.krb_capture.specs.Laws.{compared, direction_found, found_if, still}
use Rattle.krb_capture.specs.Passwords.{password_found}
use Rattle.krb_capture.specs.Sending.{Sent, after_segment, beginning_found, end_if, unread_found, untaken_found}
use Rattle.krb_capture.specs.Streams.{Framed, after_entry, after_frame, before_frames, end_found, entries_found, found_with, frame_of, framed, is_unknown, known_end, messages_framed, no_frames, not_cut, password_frame_by, password_frames, passwords_framed}
use Rattle.krb_capture.specs.declared.flow.Flow.{Flow}
use Rattle.krb_capture.specs.declared.flow.Service.{Service}
use Rattle.krb_capture.specs.declared.flow.Service.TheVariants as services
use Rattle.krb_capture.proofs.Prefixes.{extends, found_with-all, found_with-none}
use Rattle.krb_capture_laws.specs.Shown.{HidesNothing, TakenStream}
use Rattle.krb_capture_laws.specs.Hidden.{DirectionHidesNothing, IsAllListed, is_clear, streams_in}
use Rattle.krb_capture_laws.proofs.Showing.{AreUntold, EndsWell, IsCompared, Shows, shown}
use Rattle.krb_capture_laws.proofs.Untold.{NoneTold}

abbrev pub AreClear : List Found → Type 0
AreClear found = list_all is_clear found ≡ true

pub clear_parts : (xs ys : List Found) → AreClear (xs ++ ys) → AreClear xs × AreClear ys
clear_parts xs ys clear = and_parts (list_all is_clear xs) (list_all is_clear ys) (sym (list_all-append is_clear xs ys) ∙ clear)

pub both_clear : (xs ys : List Found) → AreClear xs → AreClear ys → AreClear (xs ++ ys)
both_clear xs ys one other = list_all-append is_clear xs ys ∙ ap₂ (λ (a b : Bool). a && b) one other

-- ---- octets that no message has

none_unread : (unread : Option Octets) → AreClear (unread_found unread) → unread ≡ None
none_unread None clear = refl
none_unread (Some octets) clear = absurd cc

none_told : (untaken : Untaken) → AreClear (untaken_found untaken) → NoneTold untaken
none_told untaken clear =
    let first = clear_parts (unread_found untaken.apart) (unread_found untaken.old ++ unread_found untaken.differs) clear in
    let others = clear_parts (unread_found untaken.old) (unread_found untaken.differs) first.1 in
    record { apart = none_unread untaken.apart first.0; old = none_unread untaken.old others.0; differs = none_unread untaken.differs others.1 }

-- ---- a frame whose length is not known is told

unknown_told : (profile : Profile) (offset : ℕ) (found : List Entry) → list_any is_unknown found ≡ true → AreClear (entries_found profile offset (not_cut found)) → ⊥
unknown_told profile offset [] unknown clear = absurd cc
unknown_told profile offset (Contents contents ∷ others) unknown clear = unknown_told profile (after_entry offset (Contents contents)) others unknown clear
unknown_told profile offset (Fault place reason prefix ∷ others) unknown clear = by (λ u c. unknown_told profile offset others u c) (nat_le (length prefix) place) refl clear
  where
    by : (list_any is_unknown others ≡ true → AreClear (entries_found profile offset (not_cut others)) → ⊥) → (cut : Bool) → nat_le (length prefix) place ≡ cut → AreClear (entries_found profile offset (cond (not cut) (Fault place reason prefix ∷ not_cut others) (not_cut others))) → ⊥
    by rest true is clear =
        let after : nat_lt place (length prefix) ≡ false = le-ltb place (length prefix) (leb-true (length prefix) place is) in
        rest (ap (λ (b : Bool). (b && nat_le (2 ^ 31) (number (take 4 prefix))) || list_any is_unknown others) (sym after) ∙ unknown) clear
    by rest false is clear = absurd cc

-- of changes of passwords
abbrev IsTold : Framed → Type 0
IsTold f = f.over ≡ true → AreClear f.found → ⊥

part_told : (b : Bool) (offset : ℕ) (octets : List ℕ) (others : Framed) → IsTold others → IsTold (if b then no_frames offset octets else others)
part_told true offset octets others rest over clear = absurd cc
part_told false offset octets others rest over clear = rest over clear

frame_told : (profile : Profile) (fault : Option Why) (offset n : ℕ) (octets : List ℕ) (others : Framed) → IsTold others → IsTold (password_frame_by profile fault offset n octets others)
frame_told profile (Some why.HighBit) offset n octets others rest over clear = absurd cc
frame_told profile (Some reason) offset n octets others rest over clear = absurd cc
frame_told profile None offset n octets others rest over clear =
    part_told (nat_lt (length octets) (4 + n)) offset octets (before_frames (password_found profile (frame_of offset n) 4 (take n (drop 4 octets))) others)
    (λ o c. rest o (clear_parts (password_found profile (frame_of offset n) 4 (take n (drop 4 octets))) others.found c).1)
    over clear

frames_told : (profile : Profile) (bound limit offset : ℕ) (octets : List ℕ) → IsTold (password_frames profile bound limit offset octets)
frames_told profile zero limit offset octets over clear = absurd cc
frames_told profile (suc bound) limit offset octets over clear =
    part_told (nat_lt (length octets) 4) offset octets (password_frame_by profile (length_fault limit (number (take 4 octets))) offset (number (take 4 octets)) octets (password_frames profile bound limit (after_frame offset (number (take 4 octets))) (drop (4 + number (take 4 octets)) octets)))
    (frame_told profile (length_fault limit (number (take 4 octets))) offset (number (take 4 octets)) octets (password_frames profile bound limit (after_frame offset (number (take 4 octets))) (drop (4 + number (take 4 octets)) octets))
    (frames_told profile bound limit (after_frame offset (number (take 4 octets))) (drop (4 + number (take 4 octets)) octets)))
    over clear

over_told : (service : Service) (limit : ℕ) (stream : List ℕ) → IsTold (framed service limit stream)
unfolding messages_framed passwords_framed
over_told (services.Kerberos profile) limit stream over clear = unknown_told profile 0 (entries (messages profile) limit stream) over clear
over_told (services.Passwords profile) limit stream over clear = frames_told profile (length stream) limit 0 stream over clear

all_known : (service : Service) (limit : ℕ) (stream : List ℕ) → AreClear (framed service limit stream).found → (framed service limit stream).over ≡ false
all_known service limit stream clear = by (framed service limit stream).over refl
  where
    by : (b : Bool) → (framed service limit stream).over ≡ b → b ≡ false
    by true over = absurd (over_told service limit stream over clear)
    by false over = refl

-- ---- an end of which nothing is told

none_cut : (service : Service) (end : End) (offset : ℕ) (octets : List ℕ) → AreClear (known_end service end offset octets) → (end ≡ Complete) × (octets ≡ [])
none_cut service (Lost lost) offset octets clear = absurd cc
none_cut service Complete offset [] clear = (refl, refl)
none_cut service Complete offset (octet ∷ octets) clear = absurd cc

module _ (limit : ℕ) (flow : Flow) (service : Service) where
  abbrev sent_at : State → List ℕ → Sent
  sent_at state stream = record { flow = flow; service = service; state = state; stream = stream }

  ends_well : (stream : List ℕ) (end : Option End) → AreClear (framed service limit stream).found → AreClear (end_if service limit stream end) → EndsWell (IsAllListed service limit) stream end
  unfolding end_found
  ends_well stream None clear told = tt
  ends_well stream (Some end) clear told =
      let known : (framed service limit stream).over ≡ false = all_known service limit stream clear in
      let at_end : AreClear (known_end service end (framed service limit stream).offset (framed service limit stream).partial) = ap (λ (b : Bool). list_all is_clear (if b then [] else known_end service end (framed service limit stream).offset (framed service limit stream).partial)) (sym known) ∙ told in
      let none = none_cut service end (framed service limit stream).offset (framed service limit stream).partial at_end in
      (none.0, record { clear = clear; none_cut = none.1; all_known = known })

  -- what is found with more octets is clear, too
  clear_with : (stream : List ℕ) (how : Option Beginning) (octets : List ℕ) → AreClear (framed service limit stream).found → AreClear (found_with service limit (stream_at how stream) octets) → AreClear (framed service limit (stream_at how stream ++ octets)).found
  clear_with stream None octets clear more = ap (list_all is_clear) (extends service limit stream octets) ∙ both_clear (framed service limit stream).found (found_with service limit stream octets) clear more
  clear_with stream (Some beginning) octets clear more = ap (list_all is_clear) (sym (found_with-all service limit octets)) ∙ more

  clear_at_first : AreClear (framed service limit []).found
  clear_at_first = ap (list_all is_clear) (sym (found_with-all service limit []) ∙ found_with-none service limit [])

  compared_with : (kept : Bool) (state : State) (stream : List ℕ) → IsCompared state stream (compared kept state stream)
  compared_with kept Fresh stream = refl
  compared_with kept (Open progress) stream = refl
  compared_with true (Ended had) stream = inl refl
  compared_with false (Ended had) stream = inr refl

  untold : (kept : List Bool) (segments : List Segment) (state : State) (stream : List ℕ) → AreClear (framed service limit stream).found → AreClear (direction_found limit (sent_at state stream) kept segments) → AreUntold (IsAllListed service limit) state stream segments
  untold kept [] state stream clear told = ends_well stream (end_of state) clear told
  untold kept (segment ∷ segments) state stream clear told =
      let split = clear_parts (found_if limit (sent_at state stream) (still kept) segment) (direction_found limit (after_segment (sent_at state stream) segment) (drop 1 kept) segments) told in
      let a = clear_parts (end_if service limit stream (step state segment).0.before) _ split.0 in
      let b = clear_parts (beginning_found (step state segment).0.begins) _ a.1 in
      let c = clear_parts (untaken_found (untaken_of state (compared (still kept) state stream) segment)) _ b.1 in
      let d = clear_parts (found_with service limit (stream_at (step state segment).0.begins stream) (step state segment).0.octets) (end_if service limit (stream_at (step state segment).0.begins stream ++ (step state segment).0.octets) (step state segment).0.end) c.1 in
      let all : AreClear (framed service limit (stream_with state stream segment)).found = clear_with stream (step state segment).0.begins (step state segment).0.octets clear d.0 in (
        record {
          others = compared (still kept) state stream;
          compared = compared_with (still kept) state stream;
          untold = record {
            none = none_told (untaken_of state (compared (still kept) state stream) segment) c.0;
            before = ends_well stream (step state segment).0.before clear a.0;
            end = ends_well (stream_with state stream segment) (step state segment).0.end all d.1;
          };
        },
        untold (drop 1 kept) segments (step state segment).1 (stream_with state stream segment) all split.1,
      )

pub direction_hides_nothing : DirectionHidesNothing
direction_hides_nothing limit flow service kept segments few clear =
    let all : Shows (IsAllListed service limit) Fresh [] segments (streams_in segments) = shown (IsAllListed service limit) segments Fresh [] tt few (untold limit flow service kept segments Fresh [] (clear_at_first limit flow service) clear) in
    record {
      listed = All-from_recursion (λ (stream : TakenStream). IsAllListed service limit stream.octets) (streams_in segments) all.listed;
      shown = All-from_recursion (HidesNothing (streams_in segments)) segments all.hidden;
    }
