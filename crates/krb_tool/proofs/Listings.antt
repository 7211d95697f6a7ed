-- The lines of a stream, up to its end or the first refusal, or also after refusals.
use Rattle.std.proofs.Common.{◌≡◌, ℕ, suc, ◌+◌, ◌^◌, ◌<◌, ◌⊎◌, inl, inr, Bool, true, false, List, [], ◌∷◌, ◌++◌, length, map, Option, Result, Ok, Err, refl, sym, ◌∙◌, ap, ap₂, subst, arith, append_assoc, append-nil}
use Rattle.std.specs.Prelude.{◌==◌, ◌&&◌, ◌||◌}
use Rattle.std.specs.Io.KnownBytes.{IsAtEnd}
use Rattle.std.specs.List.{AllByRecursion, flat_map}
use Rattle.std.proofs.lemmas.Bool.Decides.{nat_tests}
use Rattle.std.proofs.lemmas.List.{map-append}
use Rattle.std.proofs.lemmas.List.Sums.{sum_by-cons}
use Rattle.krb_der.specs.declared.profile.Profile.{Profile}
use Rattle.krb_der.specs.declared.why.Why.{Why}
use Rattle.krb_der.specs.declared.why.Why.TheVariants.{HighBit, Truncated}
use Rattle.krb_der.specs.declared.verdict.Refusal.{Refusal}
use Rattle.krb_msg.specs.Grammar.{messages}
use Rattle.krb_msg.specs.Stream.{Frames, End, Boundary, Within, Refused, frames}
use Rattle.krb_msg.specs.Views.{message_der}
use Rattle.krb_msg.specs.declared.message.Message.{Message}
use Rattle.krb_frame.specs.Decoding.{finish_at, finish_of}
use Rattle.krb_frame.specs.Decoded.{frames_size}
use Rattle.krb_frame.specs.Deliveries.{IsMessage, contents_in}
use Rattle.krb_frame.specs.GoingOn.{Entry, after_contents, entries, entries_size, entry_size, last_entry}
use Rattle.krb_record.specs.Labels.{Label}
use Rattle.krb_tool.specs.GoingOn.{Listed, Whole, Faulty, entry_of, messages_in, octets_in, refused_in, lines_after, IsCountedListing, counted_run_end, is_refused_at_once, refused_end, refused_line, EndsUnknown, ListsStream, FailsStream}
use Rattle.krb_tool.specs.Listing.{end_line, message_line, refused_after, run_end, AllIsRead, IsListing, IsNotRefused}
use Rattle.krb_run.specs.Runs.{StopsInPiece}
use Rattle.krb_tool.specs.Paths.{frame_extent, frame_path, last_octets}
use Rattle.krb_tool.specs.declared.listing.StreamLines.{StreamLines}
use Rattle.krb_run.specs.declared.run.RunEnd.{RunEnd}
use Rattle.krb_run.specs.declared.run.RunFault.{RunFault}
use Rattle.krb_run.specs.declared.run.RunFault.TheVariants as fault
use Rattle.krb_tool.specs.inner.Listers.{Adds, AreListed, FrameLister, HasListed, IsDone, current_end, last_frames, last_of, lister_kind}
use Rattle.krb_tool.specs.inner.StreamLines.{AddsEnd, AddsRefused, AsksAfter, HasLines, ListsEntry, PutsClosing, at_once_with, closing, last_listed, listed_last, rules_of, stream_lines}
use Rattle.krb_run.specs.Streams.{EndsListing, FailsBy, ListsBy, Taken}
use Rattle.krb_tool.proofs.FirstRefusals.{SameEnd, frames-begin}
use Rattle.krb_tool.proofs.ListedPieces.{IsOver, SameLast, done-first, entries_read, waits-cut, waits-known, waits-whole}

-- ---- lists of frames
messages_in-append : (xs ys : List Listed) → messages_in (xs ++ ys) ≡ messages_in xs + messages_in ys
messages_in-append [] ys = omega arith
messages_in-append (Whole message ∷ xs) ys = omega (arith, messages_in-append xs ys)
messages_in-append (Faulty place reason prefix ∷ xs) ys = messages_in-append xs ys

refused_in-append : (xs ys : List Listed) → refused_in (xs ++ ys) ≡ refused_in xs + refused_in ys
refused_in-append [] ys = omega arith
refused_in-append (Whole message ∷ xs) ys = refused_in-append xs ys
refused_in-append (Faulty place reason prefix ∷ xs) ys = omega (arith, refused_in-append xs ys)

octets_in-append : (xs ys : List Listed) → octets_in (xs ++ ys) ≡ octets_in xs + octets_in ys
octets_in-append [] ys = omega arith
octets_in-append (x ∷ xs) ys = omega (arith, octets_in-append xs ys)

lines_after-append : (label : Label) (profile : Profile) (n offset : ℕ) (xs ys : List Listed) → lines_after label profile n offset (xs ++ ys) ≡ lines_after label profile n offset xs ++ lines_after label profile (n + messages_in xs) (offset + octets_in xs) ys
lines_after-append label profile n offset [] ys =
    let e : n ≡ n + 0 = omega arith in
    let o : offset ≡ offset + 0 = omega arith in
    ap₂ (λ k m. lines_after label profile k m ys) e o
lines_after-append label profile n offset (Whole message ∷ xs) ys =
    let size : ℕ = entry_size (entry_of (Whole message)) in
    let e : n + 1 + messages_in xs ≡ n + (1 + messages_in xs) = omega arith in
    let o : offset + entry_size (entry_of (Whole message)) + octets_in xs ≡ offset + (entry_size (entry_of (Whole message)) + octets_in xs) = omega arith in
    ap (λ l. message_line label message ++ l) (lines_after-append label profile (n + 1) (offset + size) xs ys)
    ∙ sym (append_assoc (message_line label message) (lines_after label profile (n + 1) (offset + size) xs) (lines_after label profile (n + 1 + messages_in xs) (offset + size + octets_in xs) ys))
    ∙ ap₂ (λ k m. (message_line label message ++ lines_after label profile (n + 1) (offset + size) xs) ++ lines_after label profile k m ys) e o
lines_after-append label profile n offset (Faulty place reason prefix ∷ xs) ys =
    let size : ℕ = entry_size (entry_of (Faulty place reason prefix)) in
    let line : List ℕ = refused_line label n place reason (frame_path profile prefix) (frame_extent offset prefix) in
    let o : offset + entry_size (entry_of (Faulty place reason prefix)) + octets_in xs ≡ offset + (entry_size (entry_of (Faulty place reason prefix)) + octets_in xs) = omega arith in
    ap (λ l. line ++ l) (lines_after-append label profile n (offset + size) xs ys)
    ∙ sym (append_assoc line (lines_after label profile n (offset + size) xs) (lines_after label profile (n + messages_in xs) (offset + size + octets_in xs) ys))
    ∙ ap (λ m. (line ++ lines_after label profile n (offset + size) xs) ++ lines_after label profile (n + messages_in xs) m ys) o

one_counted : (x : Listed) → messages_in (x ∷ []) + refused_in (x ∷ []) ≡ 1
one_counted (Whole message) = omega arith
one_counted (Faulty place reason prefix) = omega arith

all_sized : (xs : List Listed) → octets_in xs ≡ entries_size (map entry_of xs)
all_sized [] = refl
all_sized (x ∷ xs) = omega (arith, all_sized xs)

-- none of them is refused
record AreWhole (label : Label) (profile : Profile) (n offset : ℕ) (listed : List Listed) : Type 0 where
  found : List Message
  contents : contents_in (map entry_of listed) ≡ map message_der found
  lines : lines_after label profile n offset listed ≡ flat_map (message_line label) found
  counted : messages_in listed ≡ length found
  none : refused_in listed ≡ 0
  octets : octets_in listed ≡ frames_size (map message_der found)

are_whole : (label : Label) (profile : Profile) (n offset : ℕ) (listed : List Listed) → AllByRecursion IsMessage (map entry_of listed) → AreWhole label profile n offset listed
are_whole label profile n offset [] m = record { found = []; contents = refl; lines = refl; counted = refl; none = refl; octets = refl }
are_whole label profile n offset (Whole message ∷ others) m =
    let rest : AreWhole label profile (n + 1) (offset + (4 + length (message_der message))) others = are_whole label profile (n + 1) (offset + (4 + length (message_der message))) others m.1 in
    record {
      found = message ∷ rest.found;
      contents = ap (λ l. message_der message ∷ l) rest.contents;
      lines = ap (λ l. message_line label message ++ l) rest.lines;
      counted = omega (arith, rest.counted);
      none = rest.none;
      octets = ap (λ k. 4 + length (message_der message) + k) rest.octets ∙ sym (sum_by-cons (λ c. 4 + length c) (message_der message) (map message_der rest.found));
    }
are_whole label profile n offset (Faulty place reason prefix ∷ others) m = absurd m.0

-- ---- whether the first of them is refused
not_none : (n : ℕ) → (1 + n == 0) ≡ false
not_none n = grind (arith, nat_tests)

-- after some that are counted
at_once-more : (xs ys : List Listed) (flag : Bool) (m r : ℕ) → flag ≡ is_refused_at_once xs → m ≡ messages_in xs → r ≡ refused_in xs → (flag || ((m == 0 && r == 0) && is_refused_at_once ys)) ≡ is_refused_at_once (xs ++ ys)
at_once-more [] ys flag m r f p q = λ i. f i || ((p i == 0 && q i == 0) && is_refused_at_once ys)
at_once-more (Whole message ∷ xs) ys flag m r f p q =
    (λ i. f i || ((p i == 0 && r == 0) && is_refused_at_once ys))
    ∙ ap (λ b. false || ((b && r == 0) && is_refused_at_once ys)) (not_none (messages_in xs))
at_once-more (Faulty place reason prefix ∷ xs) ys flag m r f p q = λ i. f i || ((m == 0 && r == 0) && is_refused_at_once ys)

-- after messages, and nothing else
at_once-whole : (xs : List Listed) (place : ℕ) (reason : Why) (prefix : List ℕ) → AllByRecursion IsMessage (map entry_of xs) → refused_end (is_refused_at_once (xs ++ Faulty place reason prefix ∷ [])) ≡ refused_after (messages_in xs)
at_once-whole [] place reason prefix m = refl
at_once-whole (Whole message ∷ xs) place reason prefix m = let e : suc (messages_in xs) ≡ 1 + messages_in xs = omega arith in ap refused_after e
at_once-whole (Faulty place' reason' prefix' ∷ xs) place reason prefix m = absurd m.0

-- none follows
pub at_once-none : (flag b : Bool) → flag ≡ (flag || (b && false))
at_once-none true true = refl
at_once-none true false = refl
at_once-none false true = refl
at_once-none false false = refl

-- one that is refused follows
pub at_once-one : (flag b : Bool) → (flag || b) ≡ (flag || (b && true))
at_once-one true true = refl
at_once-one true false = refl
at_once-one false true = refl
at_once-one false false = refl

-- ---- a frame is listed
adds_entry : (old : StreamLines) (entry : Entry) (new : StreamLines) → ListsEntry old entry new → old.messages + old.refused + 1 < 2 ^ 64 → old.offset + entry_size entry < 2 ^ 64 → Adds stream_lines old entry new
adds_entry old entry new r few small =
    let label : Label = old.request.label.now in
    let one : List Listed = r.listed ∷ [] in
    let messages : new.messages ≡ old.messages + messages_in (r.listed ∷ []) = r.messages (omega (arith, few)) in
    let refused : new.refused ≡ old.refused + refused_in (r.listed ∷ []) = r.refused (omega (arith, few)) in
    let offset : new.offset ≡ old.offset + octets_in (r.listed ∷ []) = omega (arith, r.offset small, ap entry_size r.is_entry) in
    record {
      decoded = λ kept. r.decoded;
      lines = λ profile frames written h.
          let m : old.messages ≡ 0 + messages_in h.listed = omega (arith, h.messages) in
          let o : old.offset ≡ 0 + octets_in h.listed = omega (arith, h.offset) in
          record {
            listed = h.listed ++ r.listed ∷ [];
            are = map-append entry_of h.listed (r.listed ∷ []) ∙ ap₂ (λ xs x. xs ++ x ∷ []) h.are r.is_entry;
            same_profile = ap (λ q. q.profile) r.same ∙ h.same_profile;
            text =
                ap (λ t. written ++ t) r.line
                ∙ sym (append_assoc written old.text (lines_after label old.request.profile old.messages old.offset one))
                ∙ ap₂ (λ t q. t ++ lines_after label q old.messages old.offset one) h.text h.same_profile
                ∙ ap₂ (λ n k. lines_after label profile 0 0 h.listed ++ lines_after label profile n k one) m o
                ∙ sym (lines_after-append label profile 0 0 h.listed one)
                ∙ ap (λ q. lines_after q.label.now profile 0 0 (h.listed ++ one)) (sym r.same);
            messages = omega (arith, messages, h.messages, messages_in-append h.listed (r.listed ∷ []));
            refused = omega (arith, refused, h.refused, refused_in-append h.listed (r.listed ∷ []));
            at_once = r.at_once ∙ at_once-more h.listed one old.is_refused_at_once old.messages old.refused h.at_once h.messages h.refused;
            offset = omega (arith, offset, h.offset, octets_in-append h.listed (r.listed ∷ []));
          };
      few = omega (arith, messages, refused, one_counted r.listed);
      small = omega (arith, r.offset small);
      going = ap (λ q. q.keep_going) r.same;
      same = λ profile limit. ap (λ q. record { label = q.label; profile = profile; limit = limit; keep_going = q.keep_going }) r.same;
    }

-- the lines of the first frames
are-lines : (going : Bool) (label : Label) (profile : Profile) (limit : ℕ) (octets text : List ℕ) (listed : List Listed) (others : List Entry) → entries (messages profile) limit octets ≡ map entry_of listed ++ others → (going ≡ false → AllByRecursion IsMessage (map entry_of listed)) → text ≡ lines_after label profile 0 0 listed → (rules_of going label profile limit).AreLines octets text
are-lines true label profile limit octets text listed others e whole t = record { found = listed; others = others; in_frames = e; lines = t }
are-lines false label profile limit octets text listed others e whole t =
    let w : AreWhole label profile 0 0 listed = are_whole label profile 0 0 listed (whole refl) in
    let begin = frames-begin (messages profile) limit octets (map entry_of listed) others e (whole refl) in
    record { found = w.found; others = begin.0; in_frames = begin.1 ∙ ap (λ l. l ++ begin.0) w.contents; lines = t ∙ w.lines }

-- and those of all whole frames
all-lines : (going : Bool) (lister : FrameLister StreamLines) (octets written : List ℕ) → HasListed stream_lines lister octets written → (lister_kind stream_lines).IsWaiting lister → lister.lines.request.keep_going ≡ going → (rules_of going lister.lines.request.label.now lister.decoder.current.profile lister.decoder.current.limit).AreAllLines octets (written ++ lister.lines.text)
all-lines true lister octets written h w kept =
    let cut : List Entry = last_entry (current_end lister) lister.decoder.current.octets in
    record {
      lines = record {
        found = h.lines.listed;
        others = last_entry (current_end lister) lister.decoder.current.octets;
        in_frames = entries_read stream_lines lister octets written h w ∙ ap (λ l. l ++ cut) (sym h.lines.are);
        lines = h.lines.text;
      };
      all = waits-cut stream_lines lister octets written h w;
    }
all-lines false lister octets written h w stops =
    let label : Label = lister.lines.request.label.now in
    let whole : AreWhole label lister.decoder.current.profile 0 0 h.lines.listed = are_whole label lister.decoder.current.profile 0 0 h.lines.listed (subst (AllByRecursion IsMessage) (sym h.lines.are) (h.whole stops)) in
    let first = waits-whole stream_lines lister octets written h w stops in
    record {
      lines = record {
        found = whole.found;
        others = [];
        in_frames = first.0 ∙ ap contents_in (sym h.lines.are) ∙ whole.contents ∙ sym (append-nil (map message_der whole.found));
        lines = h.lines.text ∙ whole.lines;
      };
      all = refl;
    }

asks-after : (going : Bool) (lister : FrameLister StreamLines) (octets written : List ℕ) (h : HasListed stream_lines lister octets written) → (lister_kind stream_lines).IsWaiting lister → lister.lines.request.keep_going ≡ going → AsksAfter going lister.decoder.current.profile lister.decoder.current.limit octets
asks-after true lister octets written h w kept = waits-known stream_lines lister octets written h w kept
asks-after false lister octets written h w stops = (waits-whole stream_lines lister octets written h w stops).1

-- ---- the end of a stream
-- what is put there
pub AddsEnd-whole : (old : FrameLister StreamLines) (new : StreamLines) (ended : RunEnd) (done : Unit {0}) → finish_of (messages old.decoder.current.profile) old.decoder.current ≡ Ok done → PutsClosing old.lines new ended → AddsEnd old new ended
AddsEnd-whole old new ended done e p =
    let none : listed_last old ≡ [] = ap (λ r. last_listed r old.decoder.current.octets) e in
    let z : old.lines.refused ≡ old.lines.refused + 0 = omega arith in
    let label : Label = old.lines.request.label.now in
    let going : Bool = old.lines.request.keep_going in
    record {
      lines =
          p.line
          ∙ ap (λ k. old.lines.text ++ closing going label old.lines.messages k) z
          ∙ ap (λ l. old.lines.text ++ (lines_after label old.decoder.current.profile old.lines.messages old.lines.offset l ++ closing going label old.lines.messages (old.lines.refused + refused_in l))) (sym none);
      ended_so =
          p.ended_so
          ∙ ap₂ counted_run_end (at_once-none old.lines.is_refused_at_once (old.lines.messages == 0 && old.lines.refused == 0)) z
          ∙ ap (λ l. counted_run_end (at_once_with old.lines l) (old.lines.refused + refused_in l)) (sym none);
    }

pub AddsEnd-refused : (old : FrameLister StreamLines) (between new : StreamLines) (ended : RunEnd) (refusal : Refusal) → old.lines.refused + 1 < 2 ^ 64 → finish_of (messages old.decoder.current.profile) old.decoder.current ≡ Err refusal → AddsRefused old.decoder.current.profile refusal old.decoder.current.octets old.lines between → PutsClosing between new ended → AddsEnd old new ended
AddsEnd-refused old between new ended refusal few e r p =
    let one : listed_last old ≡ Faulty refusal.place refusal.why old.decoder.current.octets ∷ [] = ap (λ r. last_listed r old.decoder.current.octets) e in
    let z : between.refused ≡ old.lines.refused + (1 + 0) = omega (arith, r.refused few) in
    let label : Label = old.lines.request.label.now in
    let going : Bool = old.lines.request.keep_going in
    let line : List ℕ = refused_line label old.lines.messages refusal.place refusal.why (frame_path old.decoder.current.profile old.decoder.current.octets) (frame_extent old.lines.offset old.decoder.current.octets) in
    record {
      lines =
          p.line
          ∙ ap₂ (λ q n. between.text ++ closing q.keep_going q.label.now n between.refused) r.same r.messages
          ∙ ap₂ (λ t k. t ++ closing going label old.lines.messages k) r.line z
          ∙ append_assoc old.lines.text line (closing going label old.lines.messages (old.lines.refused + (1 + 0)))
          ∙ ap (λ l. old.lines.text ++ (l ++ closing going label old.lines.messages (old.lines.refused + (1 + 0)))) (sym (append-nil line))
          ∙ ap (λ l. old.lines.text ++ (lines_after label old.decoder.current.profile old.lines.messages old.lines.offset l ++ closing going label old.lines.messages (old.lines.refused + refused_in l))) (sym one);
      ended_so =
          p.ended_so
          ∙ ap₂ counted_run_end (r.at_once ∙ at_once-one old.lines.is_refused_at_once (old.lines.messages == 0 && old.lines.refused == 0)) z
          ∙ ap (λ l. counted_run_end (at_once_with old.lines l) (old.lines.refused + refused_in l)) (sym one);
    }

last_messages : (end : End) (octets : List ℕ) → messages_in (last_listed (finish_at end) octets) ≡ 0
last_messages Boundary octets = refl
last_messages (Within present) octets = refl
last_messages (Refused place reason) octets = refl

last_entries : (finish : Result (Unit {0}) Refusal) (octets : List ℕ) → map entry_of (last_listed finish octets) ≡ last_frames finish octets
last_entries (Ok done) octets = refl
last_entries (Err refusal) octets = refl

-- the last line, up to the end or the first refusal
last-line : (label : Label) (profile : Profile) (count offset refused : ℕ) (end other : End) (left octets : List ℕ) → refused ≡ 0 → SameEnd end other left octets → lines_after label profile count offset (last_listed (finish_at other) octets) ++ closing false label count (refused + refused_in (last_listed (finish_at other) octets)) ≡ end_line label count end (frame_path profile (last_octets end left)) (frame_extent offset (last_octets end left))
last-line label profile count offset refused end other left octets none same = by other same.0 same.1
  where
    line : ℕ → Why → List ℕ → List ℕ
    line place why prefix = refused_line label count place why (frame_path profile prefix) (frame_extent offset prefix)

    at_end : End → List ℕ
    at_end other = end_line label count other (frame_path profile (last_octets end left)) (frame_extent offset (last_octets end left))

    told : (place : ℕ) (why : Why) → last_octets end left ≡ octets → (line place why octets ++ []) ++ closing false label count (refused + (1 + 0)) ≡ line place why (last_octets end left)
    told place why l =
        let one : refused + (1 + 0) ≡ 1 = omega (arith, none) in
        ap (λ k. (line place why octets ++ []) ++ closing false label count k) one
        ∙ append-nil (line place why octets ++ [])
        ∙ append-nil (line place why octets)
        ∙ ap (line place why) (sym l)

    by : (other : End) → end ≡ other → (other ≡ Boundary) ⊎ (last_octets end left ≡ octets) → lines_after label profile count offset (last_listed (finish_at other) octets) ++ closing false label count (refused + refused_in (last_listed (finish_at other) octets)) ≡ at_end end
    by Boundary s l = let z : refused + 0 ≡ 0 = omega (arith, none) in ap (closing false label count) z ∙ ap at_end (sym s)
    by (Within present) s (inl e) = absurd cc
    by (Within present) s (inr l) = told present Truncated l ∙ ap at_end (sym s)
    by (Refused place reason) s (inl e) = absurd cc
    by (Refused place reason) s (inr l) = told place reason l ∙ ap at_end (sym s)

-- and how a run ends
last_end : (end : End) (octets : List ℕ) (refused : ℕ) (xs : List Listed) → refused ≡ 0 → AllByRecursion IsMessage (map entry_of xs) → counted_run_end (is_refused_at_once (xs ++ last_listed (finish_at end) octets)) (refused + refused_in (last_listed (finish_at end) octets)) ≡ run_end (messages_in xs) end
last_end Boundary octets refused xs none m = let z : refused + 0 ≡ 0 = omega (arith, none) in ap (counted_run_end (is_refused_at_once (xs ++ []))) z
last_end (Within present) octets refused xs none m = let one : refused + (1 + 0) ≡ 1 = omega (arith, none) in ap (counted_run_end (is_refused_at_once (xs ++ Faulty present Truncated octets ∷ []))) one ∙ at_once-whole xs present Truncated octets m
last_end (Refused place reason) octets refused xs none m = let one : refused + (1 + 0) ≡ 1 = omega (arith, none) in ap (counted_run_end (is_refused_at_once (xs ++ Faulty place reason octets ∷ []))) one ∙ at_once-whole xs place reason octets m

all_is_read : (end : End) (left : Option (List ℕ)) → (IsNotRefused end → IsAtEnd left) → AllIsRead end left
all_is_read Boundary left a = a tt
all_is_read (Within present) left a = a tt
all_is_read (Refused place reason) left a = tt

-- ---- what a run did
pub ListsStream-listed : (going : Bool) (label : Label) (profile : Profile) (limit : ℕ) (had left written_before written_after : Option (List ℕ)) (ended : RunEnd) → ListsBy (rules_of going label profile limit) had left written_before written_after ended → ListsStream going label profile limit had left written_before written_after ended
ListsStream-listed true label profile limit had left written_before written_after ended l = record {
  read = l.read;
  written = l.written;
  taken = l.taken;
  added = l.added;
  listed = l.listing.listing;
  ended_so = l.listing.ends.ended_so;
  all_read = l.listing.ends.all_read;
  stops = l.listing.ends.stops;
}
ListsStream-listed false label profile limit had left written_before written_after ended l = record {
  read = l.read;
  written = l.written;
  taken = l.taken;
  added = l.added;
  listed = l.listing.listing;
  ended_so = l.listing.ends.ended_so;
  all_read = l.listing.ends.all_read;
  stops = l.listing.ends.stops;
}

pub FailsStream-failed : (going : Bool) (label : Label) (profile : Profile) (limit : ℕ) (had left written_before written_after : Option (List ℕ)) (failed : RunFault) → FailsBy (rules_of going label profile limit) had left written_before written_after failed → FailsStream going label profile limit had left written_before written_after failed
FailsStream-failed true label profile limit had left written_before written_after (fault.Write error) f = f
FailsStream-failed true label profile limit had left written_before written_after (fault.Read error) f = f
FailsStream-failed true label profile limit had left written_before written_after fault.Memory f = f
FailsStream-failed false label profile limit had left written_before written_after (fault.Write error) f = f
FailsStream-failed false label profile limit had left written_before written_after (fault.Read error) f = f
FailsStream-failed false label profile limit had left written_before written_after fault.Memory f = f

-- ---- no octet more is looked at
module _ (lister : FrameLister StreamLines) (taken : Taken) (d : IsDone stream_lines lister taken) where
  abbrev label : Label
  label = lister.lines.request.label.now

  abbrev profile : Profile
  profile = lister.decoder.current.profile

  abbrev limit : ℕ
  limit = lister.decoder.current.limit

  abbrev read : Frames
  read = frames (messages lister.decoder.current.profile) lister.decoder.current.limit taken.octets

  abbrev h : HasLines lister.decoder.current.profile lister.lines d.frames taken.written
  h = d.lines

  room : ⊥ → ⊥
  room full = full

  -- the lines, and those of the end
  abbrev text_of : Bool → List ℕ
  text_of going = lines_after label profile 0 0 h.listed ++ (lines_after label profile (messages_in h.listed) (octets_in h.listed) (listed_last lister) ++ closing going label (messages_in h.listed) (refused_in h.listed + refused_in (listed_last lister)))

  abbrev end_text : Bool → List ℕ
  end_text going = lines_after label profile lister.lines.messages lister.lines.offset (listed_last lister) ++ closing going label lister.lines.messages (lister.lines.refused + refused_in (listed_last lister))

  text-is : (going : Bool) → taken.written ++ (lister.lines.text ++ end_text going) ≡ text_of going
  text-is going =
      sym (append_assoc taken.written lister.lines.text (end_text going))
      ∙ ap (λ l. l ++ end_text going) h.text
      ∙ ap₂ (λ n k. lines_after label profile 0 0 h.listed ++ (lines_after label profile n lister.lines.offset (listed_last lister) ++ closing going label n (k + refused_in (listed_last lister)))) h.messages h.refused
      ∙ ap (λ o. lines_after label profile 0 0 h.listed ++ (lines_after label profile (messages_in h.listed) o (listed_last lister) ++ closing going label (messages_in h.listed) (refused_in h.listed + refused_in (listed_last lister)))) h.offset

  -- also after refusals
  counted : (d.end room).others ≡ [] → (text : List ℕ) → text ≡ text_of true → IsCountedListing label profile limit taken.octets text
  counted none text t =
      let all : List Listed = h.listed ++ listed_last lister in
      let m : messages_in all ≡ messages_in h.listed = omega (arith, messages_in-append h.listed (listed_last lister), last_messages (current_end lister) lister.decoder.current.octets) in
      let z : 0 + messages_in h.listed ≡ messages_in h.listed = omega arith in
      let o : 0 + octets_in h.listed ≡ octets_in h.listed = omega arith in
      let line : List ℕ = closing true label (messages_in h.listed) (refused_in h.listed + refused_in (listed_last lister)) in
      record {
        found = h.listed ++ listed_last lister;
        in_frames =
            map-append entry_of h.listed (listed_last lister)
            ∙ ap₂ (λ xs ys. xs ++ ys) h.are (last_entries (finish_of (messages profile) lister.decoder.current) lister.decoder.current.octets ∙ sym (append-nil (last_of lister)) ∙ ap (λ l. last_of lister ++ l) (sym none) ∙ sym (d.end room).parts)
            ∙ sym d.all;
        lines =
            t
            ∙ sym (append_assoc (lines_after label profile 0 0 h.listed) (lines_after label profile (messages_in h.listed) (octets_in h.listed) (listed_last lister)) line)
            ∙ ap (λ l. l ++ line) (sym (lines_after-append label profile 0 0 h.listed (listed_last lister) ∙ ap₂ (λ n k. lines_after label profile 0 0 h.listed ++ lines_after label profile n k (listed_last lister)) z o))
            ∙ sym (ap₂ (λ n k. lines_after label profile 0 0 all ++ closing true label n k) m (refused_in-append h.listed (listed_last lister)));
      }

  -- up to the first refusal
  module _ (stops : lister.lines.request.keep_going ≡ false) where
    whole : AreWhole label profile 0 0 h.listed
    whole = are_whole label profile 0 0 h.listed (subst (AllByRecursion IsMessage) (sym h.are) (d.whole stops))

    first : (read.contents ≡ map message_der whole.found) × SameLast lister taken.octets
    first = let f = done-first stream_lines lister taken d stops room in (f.0 ∙ ap contents_in (sym h.are) ∙ whole.contents, f.1)

    stopped : (text : List ℕ) → text ≡ text_of false → IsListing label profile limit taken.octets text
    stopped text t =
        let w : AreWhole label profile 0 0 h.listed = whole in
        let prefix : List ℕ = last_octets read.end (after_contents read taken.octets) in
        let size : octets_in h.listed ≡ frames_size read.contents = w.octets ∙ ap frames_size (sym first.0) in
        record {
          found = w.found;
          in_frames = sym first.0;
          lines =
              t
              ∙ ap₂ (λ a b. a ++ b) w.lines (last-line label profile (messages_in h.listed) (octets_in h.listed) (refused_in h.listed) read.end (current_end lister) (after_contents read taken.octets) lister.decoder.current.octets w.none first.1)
              ∙ ap₂ (λ n o. flat_map (message_line label) w.found ++ end_line label n read.end (frame_path profile prefix) (frame_extent o prefix)) w.counted size;
        }

  listing-by : (going : Bool) → lister.lines.request.keep_going ≡ going → (text : List ℕ) → text ≡ text_of going → (rules_of going label profile limit).IsListing taken.octets text
  listing-by true kept text t = counted ((d.end room).unknown kept).0 text t
  listing-by false kept text t = stopped kept text t

  -- the lines of the end follow
  listing-done : (rest : List ℕ) × (rules_of lister.lines.request.keep_going label profile limit).IsListing taken.octets ((taken.written ++ lister.lines.text) ++ rest)
  listing-done = (
    end_text lister.lines.request.keep_going,
    listing-by lister.lines.request.keep_going refl _ (append_assoc taken.written lister.lines.text _ ∙ text-is lister.lines.request.keep_going),
  )

  unknown-read : (left : Option (List ℕ)) → (IsNotRefused (current_end lister) → IsAtEnd left) → (d.end room).others ≡ [] → IsNotRefused (current_end lister) ⊎ (current_end lister ≡ Refused 3 HighBit) → IsAtEnd left ⊎ EndsUnknown (entries (messages profile) limit taken.octets)
  unknown-read left a none (inl n) = inl (a n)
  unknown-read left a none (inr e) = inr (record {
    before = d.frames;
    length_octets = lister.decoder.current.octets;
    parts = d.all ∙ ap (λ l. d.frames ++ l) ((d.end room).parts ∙ ap₂ (λ x o. last_frames (finish_at x) lister.decoder.current.octets ++ o) e none);
  })

  ends-by : (going : Bool) → lister.lines.request.keep_going ≡ going → (text : List ℕ) (left : Option (List ℕ)) (ended : RunEnd) → (IsNotRefused (current_end lister) → IsAtEnd left) → text ≡ text_of going → ended ≡ counted_run_end (is_refused_at_once (h.listed ++ listed_last lister)) (refused_in h.listed + refused_in (listed_last lister)) → EndsListing (rules_of going label profile limit) taken.octets text left ended
  unfolding counted stopped whole
  ends-by true kept text left ended a t e =
      let unknown = (d.end room).unknown kept in
      record {
        listing = counted unknown.0 text t;
        ends = record {
          ended_so = e ∙ ap (counted_run_end (is_refused_at_once (h.listed ++ listed_last lister))) (sym (refused_in-append h.listed (listed_last lister)));
          all_read = unknown-read left a unknown.0 unknown.1;
          stops = subst (λ g. StopsInPiece (AsksAfter g profile limit) taken.octets) kept d.stops;
        };
      }
  ends-by false kept text left ended a t e =
      let same : read.end ≡ current_end lister = (first kept).1.0 in
      record {
        listing = stopped kept text t;
        ends = record {
          ended_so =
              e
              ∙ last_end (current_end lister) lister.decoder.current.octets (refused_in h.listed) h.listed (whole kept).none (subst (AllByRecursion IsMessage) (sym h.are) (d.whole kept))
              ∙ ap₂ run_end (whole kept).counted (sym same);
          all_read = subst (λ x. AllIsRead x left) (sym same) (all_is_read (current_end lister) left a);
          stops = subst (λ g. StopsInPiece (AsksAfter g profile limit) taken.octets) kept d.stops;
        };
      }

-- a lister of these lines
pub stream_listed : AreListed stream_lines
stream_listed = record {
  adds = adds_entry;
  sized = λ profile lines frames written h. omega (arith, h.offset, all_sized h.listed, ap entries_size h.are);
  begins = λ profile limit lines octets written frames others e whole h.
      are-lines lines.request.keep_going lines.request.label.now profile limit octets (written ++ lines.text) h.listed others
      (e ∙ ap (λ l. l ++ others) (sym h.are))
      (λ stops. subst (AllByRecursion IsMessage) (sym h.are) (whole stops))
      h.text;
  all = λ lister octets written h w. all-lines lister.lines.request.keep_going lister octets written h w refl;
  asks = λ lister octets written h w. asks-after lister.lines.request.keep_going lister octets written h w refl;
  listing = λ lister taken d room. listing-done lister taken d;
}

-- the lines of the end were added
pub ends-listed : (lister : FrameLister StreamLines) (new : StreamLines) (ended : RunEnd) → AddsEnd lister new ended → (taken : Taken) (left : Option (List ℕ)) → IsOver stream_lines stream_listed lister taken left → EndsListing (stream_lines.rules ((lister_kind stream_lines).request lister)) taken.octets (taken.written ++ new.text) left ended
ends-listed lister new ended f taken left o =
    ends-by lister taken o.done lister.lines.request.keep_going refl (taken.written ++ new.text) left ended (o.read (λ full. full))
    (ap (λ l. taken.written ++ l) f.lines ∙ text-is lister taken o.done lister.lines.request.keep_going)
    (f.ended_so
    ∙ ap₂ counted_run_end
    (at_once-more o.done.lines.listed (listed_last lister) lister.lines.is_refused_at_once lister.lines.messages lister.lines.refused o.done.lines.at_once o.done.lines.messages o.done.lines.refused)
    (ap (λ k. k + refused_in (listed_last lister)) o.done.lines.refused))
