-- How the decoding of a capture ends, and how many messages it has then.
use Rattle.std.proofs.Common.{◌≡◌, ℕ, ◌+◌, ◌-◌, ◌^◌, ◌≤◌, Bool, true, false, cond, List, [], ◌∷◌, ◌++◌, length, Option, Some, None, refl, sym, ◌∙◌, ap, ap₂, arith, length-append}
use Rattle.std.specs.Prelude.{min}
use Rattle.std.specs.List.{AllByRecursion, Contains, filter}
use Rattle.std.proofs.lemmas.Grind.{flat_map-append}
use Rattle.std.proofs.lemmas.List.{length-map}
use Rattle.krb_file.specs.Fields.{Fault}
use Rattle.krb_json.specs.Lines.{message_text}
use Rattle.krb_json.specs.Unencrypted.{unencrypted_in}
use Rattle.krb_msg.specs.Views.{message_of_der}
use Rattle.krb_packet.specs.Captures.{packets}
use Rattle.krb_packet.specs.Fragments.{contents_of_whole, nested_step}
use Rattle.krb_packet.specs.declared.contents.Contents.{Contents}
use Rattle.krb_packet.specs.declared.contents.Contents.TheVariants as contents
use Rattle.krb_packet.specs.declared.contents.Datagram.{Datagram}
use Rattle.krb_packet.specs.declared.contents.Segment.{Segment}
use Rattle.krb_packet.specs.declared.fragments.Reassembled.{Reassembled}
use Rattle.krb_packet.specs.declared.packet.Packet.{Packet}
use Rattle.krb_record.specs.declared.capture.CaptureCounts.{CaptureCounts}
use Rattle.krb_record.specs.declared.capture_origin.CaptureOrigin.{CaptureOrigin}
use Rattle.krb_capture.specs.Captures.{Finding, Progress, Settings, Taken, all_counts, at_first, completed, completed_event, contents_event, contents_in, contents_taken, counted_each, datagram_taken, end_taken, error_event, packet_taken, packet_told, segment_event, segment_taken, unread_taken, whole_event, whole_taken, with_packet}
use Rattle.krb_capture.specs.Counts.{is_clean}
use Rattle.krb_capture.specs.Flows.{due_with, service_of}
use Rattle.krb_capture.specs.Found.{Begun, Failed, Faulty, Joined, Missing, Password, Sent, Unread, Whole, counted}
use Rattle.krb_capture.specs.declared.flow.Due.{Due}
use Rattle.krb_capture.specs.declared.flow.Service.{Service}
use Rattle.krb_capture_run.specs.Captures.{after_packets, capture_run_end, run_end}
use Rattle.krb_capture_run.specs.Decoded.{Ends, decoded_capture, decoding}
use Rattle.krb_capture_run.specs.Laws.{capture_told, told_after}
use Rattle.krb_decode.specs.Sorted.{is_any, lines_after, message_lines, sorted_end, told_lines}
use Rattle.krb_run.specs.Records.{text_of}
use Rattle.krb_run.specs.declared.run.RunEnd.{RunEnd}
use Rattle.krb_run.specs.declared.run.RunEnd.TheVariants as run
use Rattle.krb_tool_laws.specs.Listings.{AreRead}
use Rattle.krb_decode_laws.specs.Captures.{CapturesEndAsTold, IsTold, counts_of, decoded_by, message_in, messages_in, sealed_in}
use Rattle.krb_decode_laws.specs.Messages.{is_sealed_by}
use Rattle.krb_decode_laws.proofs.DecodedCaptures.{Premises, closing_line, end-untold, refusal-told}
use Rattle.krb_decode_laws.proofs.Findings.{all-wanted}
use Rattle.krb_decode_laws.proofs.FoundLines.{texts}
use Rattle.krb_decode_laws.proofs.ListedMessages.{all-told, found, found-is, sorted}
use Rattle.krb_decode_laws.proofs.SortedTexts.{sorted-count, with_feed}

-- ---- counts
-- so many messages more, up to the greatest number
abbrev pub CountsMore : ℕ → CaptureCounts → CaptureCounts → Type 0
CountsMore more old new = new.messages ≡ min (old.messages + more) (2 ^ 64 - 1)

abbrev pub IsSmall : CaptureCounts → Type 0
IsSmall counts = counts.messages ≤ 2 ^ 64 - 1

one-counted : (one : Finding) (counts : CaptureCounts) → IsSmall counts → CountsMore (length (message_in one.1)) counts (counted one.1 counts)
one-counted (origin, Whole octets) counts small = refl
one-counted (origin, Faulty refusal path extent) counts small = omega (arith, small)
one-counted (origin, Begun) counts small = omega (arith, small)
one-counted (origin, Joined) counts small = omega (arith, small)
one-counted (origin, Missing place octets path) counts small = omega (arith, small)
one-counted (origin, Password octets version size rest) counts small = omega (arith, small)
one-counted (origin, Unread place octets reason) counts small = omega (arith, small)
one-counted (origin, Sent header) counts small = omega (arith, small)
one-counted (origin, Failed error) counts small = omega (arith, small)

still-small : (more : ℕ) (old new : CaptureCounts) → CountsMore more old new → IsSmall new
still-small more old new is = omega (arith, is)

messages-both : (a b : List Finding) → length (messages_in (a ++ b)) ≡ length (messages_in a) + length (messages_in b)
messages-both a b = ap length (flat_map-append (λ (one : Finding). message_in one.1) a b) ∙ length-append (messages_in a) (messages_in b)

each-counted : (found : List Finding) (counts : CaptureCounts) → IsSmall counts → CountsMore (length (messages_in found)) counts (counted_each found counts)
each-counted [] counts small = omega (arith, small)
each-counted (one ∷ others) counts small =
    let first : CountsMore (length (message_in one.1)) counts (counted one.1 counts) = one-counted one counts small in
    let rest : CountsMore (length (messages_in others)) (counted one.1 counts) (counted_each others (counted one.1 counts)) = each-counted others (counted one.1 counts) (still-small (length (message_in one.1)) counts (counted one.1 counts) first) in
    omega (arith, first, rest, length-append (message_in one.1) (messages_in others))

-- ---- what is taken of a packet counts no message before it is found
abbrev Same : Progress → Taken → Type 0
Same progress taken = taken.progress.counts.messages ≡ progress.counts.messages

datagram-same : (service : Option Service) (datagram : Datagram) (progress : Progress) → Same progress (datagram_taken service datagram progress)
datagram-same None datagram progress = refl
datagram-same (Some service) datagram progress = refl

segment-same : (limit : ℕ) (service : Option Service) (segment : Segment) (progress : Progress) → Same progress (segment_taken limit service segment progress)
segment-same limit None segment progress = refl
segment-same limit (Some service) segment progress = refl

unread-same : (service : Option Service) (progress : Progress) → Same progress (unread_taken service progress)
unread-same None progress = refl
unread-same (Some service) progress = refl

module _ (settings : Settings) where
  whole-same : (read : Contents) (progress : Progress) → Same progress (whole_taken settings read progress)
  whole-same (contents.Datagram datagram) progress = datagram-same (service_of settings.profile settings.port datagram.source datagram.target) datagram progress
  whole-same (contents.Segment segment) progress = segment-same settings.limit (service_of settings.profile settings.port segment.source segment.target) segment progress
  whole-same (contents.Fragment fragment) progress = refl
  whole-same (contents.Error error) progress = refl
  whole-same contents.Other progress = refl
  whole-same (contents.UnreadBetween ends) progress = unread-same (service_of settings.profile settings.port ends.source ends.target) progress
  whole-same contents.Unread progress = refl

  completed-same : (made : Option Reassembled) (progress : Progress) → Same progress (completed settings made progress)
  completed-same None progress = refl
  completed-same (Some made) progress = whole-same (contents_of_whole settings.port made) progress

  contents-same : (read : Contents) (progress : Progress) → Same progress (contents_taken settings read progress)
  contents-same (contents.Datagram datagram) progress = whole-same (contents.Datagram datagram) progress
  contents-same (contents.Segment segment) progress = whole-same (contents.Segment segment) progress
  contents-same (contents.Fragment fragment) progress =
      completed-same (nested_step settings.port progress.fragments fragment).0 (record progress { fragments = (nested_step settings.port progress.fragments fragment).1 })
  contents-same (contents.Error error) progress = whole-same (contents.Error error) progress
  contents-same contents.Other progress = whole-same contents.Other progress
  contents-same (contents.UnreadBetween ends) progress = whole-same (contents.UnreadBetween ends) progress
  contents-same contents.Unread progress = whole-same contents.Unread progress

  -- ---- nor is the segment or the error that it carries a message
  abbrev None-in : List Finding → Type 0
  None-in found = messages_in found ≡ []

  whole-none : (due : Due) (read : Contents) → None-in (whole_event settings due read)
  whole-none due (contents.Segment segment) = by (service_of settings.profile settings.port segment.source segment.target)
    where
      by : (service : Option Service) → None-in (segment_event service due segment)
      by None = refl
      by (Some service) = refl
  whole-none due (contents.Error error) = by (service_of settings.profile settings.port error.ends.source error.ends.target)
    where
      by : (service : Option Service) → None-in (error_event service due error)
      by None = refl
      by (Some service) = refl
  whole-none due (contents.Datagram datagram) = refl
  whole-none due (contents.Fragment fragment) = refl
  whole-none due contents.Other = refl
  whole-none due (contents.UnreadBetween ends) = refl
  whole-none due contents.Unread = refl

  completed-none : (due : Due) (made : Option Reassembled) → None-in (completed_event settings due made)
  completed-none due None = refl
  completed-none due (Some made) = whole-none due (contents_of_whole settings.port made)

  event-none : (due : Due) (progress : Progress) (read : Contents) → None-in (contents_event settings due progress.fragments read)
  event-none due progress (contents.Fragment fragment) = completed-none due (nested_step settings.port progress.fragments fragment).0
  event-none due progress (contents.Datagram datagram) = whole-none due (contents.Datagram datagram)
  event-none due progress (contents.Segment segment) = whole-none due (contents.Segment segment)
  event-none due progress (contents.Error error) = whole-none due (contents.Error error)
  event-none due progress contents.Other = whole-none due contents.Other
  event-none due progress (contents.UnreadBetween ends) = whole-none due (contents.UnreadBetween ends)
  event-none due progress contents.Unread = whole-none due contents.Unread

  packet-counted : (packet : Packet) (progress : Progress) → IsSmall progress.counts → CountsMore (length (messages_in (packet_told settings packet progress).found)) progress.counts (packet_told settings packet progress).progress.counts
  unfolding packet_told packet_taken
  packet-counted packet progress small =
      let read : Contents = contents_in settings.port packet in
      let event : List Finding = contents_event settings (due_with packet) progress.fragments read in
      let taken : Taken = contents_taken settings read (with_packet packet progress) in
      let same : Same (with_packet packet progress) taken = contents-same read (with_packet packet progress) in
      let more : CountsMore (length (messages_in taken.found)) taken.progress.counts (counted_each taken.found taken.progress.counts) = each-counted taken.found taken.progress.counts (omega (arith, same, small)) in
      omega (arith, more, same, messages-both event taken.found, ap length (event-none (due_with packet) progress read))

  -- ---- all packets, and the end
  pub all-counted : (all : List Packet) (progress : Progress) → IsSmall progress.counts → CountsMore (length (messages_in (told_after settings progress all))) progress.counts (end_taken settings (after_packets settings all progress)).progress.counts
  all-counted [] progress small = each-counted (end_taken settings progress).found progress.counts small
  all-counted (packet ∷ others) progress small =
      let taken : Taken = packet_told settings packet progress in
      let first : CountsMore (length (messages_in taken.found)) progress.counts taken.progress.counts = packet-counted packet progress small in
      let rest = all-counted others taken.progress (still-small (length (messages_in taken.found)) progress.counts taken.progress.counts first) in
      omega (arith, first, rest, messages-both taken.found (told_after settings taken.progress others))

-- ---- nothing is told only if all messages are sealed
pub nothing-there : {A : Type 0} (all : List A) (one : A) → all ≡ [] → Contains all one → ⊥
nothing-there all one e is = omega (arith, is.1, ap length e)

must-be-sealed : (text : List ℕ) (origin : CaptureOrigin) (octets : List ℕ) → told_lines text ≡ [] → IsTold text (origin, Whole octets) → (unencrypted : Option (List ℕ)) → unencrypted_in (message_of_der octets) ≡ unencrypted → is_sealed_by unencrypted ≡ true
must-be-sealed text origin octets nothing is None e = refl
must-be-sealed text origin octets nothing is (Some path) e = absurd (nothing-there (told_lines text) _ nothing (is path e))

all-sealed : (text : List ℕ) → told_lines text ≡ [] → (found : List Finding) → AllByRecursion (IsTold text) found → sealed_in found ≡ messages_in found
all-sealed text nothing [] each = refl
all-sealed text nothing ((origin, Whole octets) ∷ others) each =
    ap₂ (λ test l. cond test (message_of_der octets ∷ l) l) (must-be-sealed text origin octets nothing each.0 (unencrypted_in (message_of_der octets)) refl) (all-sealed text nothing others each.1)
all-sealed text nothing ((origin, Faulty refusal path extent) ∷ others) each = all-sealed text nothing others each.1
all-sealed text nothing ((origin, Begun) ∷ others) each = all-sealed text nothing others each.1
all-sealed text nothing ((origin, Joined) ∷ others) each = all-sealed text nothing others each.1
all-sealed text nothing ((origin, Missing place octets path) ∷ others) each = all-sealed text nothing others each.1
all-sealed text nothing ((origin, Password octets version size rest) ∷ others) each = all-sealed text nothing others each.1
all-sealed text nothing ((origin, Unread place octets reason) ∷ others) each = all-sealed text nothing others each.1
all-sealed text nothing ((origin, Sent header) ∷ others) each = all-sealed text nothing others each.1
all-sealed text nothing ((origin, Failed error) ∷ others) each = all-sealed text nothing others each.1

none-before : (n : ℕ) → 0 + n ≡ n
none-before n = omega arith

counted-lines : (p : Premises) (settings : Settings) (file : List ℕ) → AreRead file → told_lines (text_of (decoded_by settings None file)) ≡ [] → (counts_of settings file).messages ≡ min (length (lines_after [] (message_lines (text_of (decoded_by settings None file))))) (2 ^ 64 - 1)
counted-lines p settings file are nothing =
    let all : List Finding = found p settings None file in
    let text : List ℕ = text_of (decoded_by settings None file) in
    let lines : length (lines_after [] (message_lines text)) ≡ length (messages_in all) =
    ap length (sorted-count text (texts None all) (sorted p settings None file are))
    ∙ length-map (texts None all) with_feed
    ∙ length-map (sealed_in (filter (λ one. true) all)) message_text
    ∙ ap (λ l. length (sealed_in l)) (all-wanted all)
    ∙ ap length (all-sealed text nothing all (all-told p settings file are)) in
    all-counted settings (packets file).items at_first (omega arith)
    ∙ ap (λ n. min n (2 ^ 64 - 1)) (none-before (length (messages_in (capture_told settings (packets file).items))))
    ∙ ap (λ n. min n (2 ^ 64 - 1)) (ap (λ l. length (messages_in l)) (sym (found-is p settings file)) ∙ sym lines)

-- ---- how it ends
not-at-once : (clean : Bool) → run_end clean ≡ run.RefusedAtOnce → ⊥
not-at-once true e = cc
not-at-once false e = cc

never-at-once : (p : Premises) (settings : Settings) (file : List ℕ) → AreRead file → told_lines (text_of (decoded_by settings None file)) ≡ [] → (decoded_by settings None file).end ≡ run.RefusedAtOnce → ⊥
unfolding decoded_capture
never-at-once p settings file are nothing at = by (packets file).end at (end-untold p settings.profile settings.limit settings.port None file are nothing)
  where
    its : Settings
    its = decoding settings.profile settings.limit settings.port None

    progress : Progress
    progress = after_packets its (packets file).items at_first

    by : (refusal : Option Fault) → capture_run_end its refusal progress ≡ run.RefusedAtOnce → told_lines (closing_line its (Ends refusal) progress) ≡ [] → ⊥
    by None e untold = not-at-once (is_clean (all_counts (end_taken its progress).progress)) e
    by (Some fault) e untold = refusal-told p settings.profile settings.limit settings.port None fault progress untold

pub clean-end : (end : RunEnd) → (end ≡ run.RefusedAtOnce → ⊥) → sorted_end end false ≡ run.Clean
clean-end run.Clean never = refl
clean-end run.Refused never = refl
clean-end run.RefusedAtOnce never = absurd (never refl)

pub silent-end : (end : RunEnd) (told : List (List ℕ)) → sorted_end end (is_any told) ≡ run.Clean → told ≡ []
silent-end run.Clean [] e = refl
silent-end run.Refused [] e = refl
silent-end run.RefusedAtOnce told e = absurd cc
silent-end run.Clean (line ∷ told) e = absurd cc
silent-end run.Refused (line ∷ told) e = absurd cc

pub captures_end_as_told : Premises → CapturesEndAsTold
captures_end_as_told p settings file are = record {
  clean = λ nothing. ap (λ told. sorted_end (decoded_by settings None file).end (is_any told)) nothing ∙ clean-end (decoded_by settings None file).end (never-at-once p settings file are nothing);
  silent = silent-end (decoded_by settings None file).end (told_lines (text_of (decoded_by settings None file)));
  counted = counted-lines p settings file are;
}
