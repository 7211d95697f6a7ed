-- Each line of the listing of a capture is one.
use Rattle.std.proofs.Common.{◌≡◌, ℕ, zero, suc, pos, negsuc, ◌-◌, ◌-ℤ◌, ◌^◌, ◌<◌, ◌==◌, nat_lt, Bool, true, false, if◌then◌else◌, List, [], ◌∷◌, ◌++◌, length, map, take, drop, Option, Some, None, IfSome, codes, refl, sym, ◌∙◌, ap, subst, arith, append_assoc}
use Rattle.std.specs.Option.{option_map}
use Rattle.krb_file.specs.Fields.{Fault}
use Rattle.krb_file.specs.declared.field_path.FileItem.TheVariants as places
use Rattle.krb_msg.specs.Views.{message_of_der}
use Rattle.krb_msg.specs.declared.message.Kind.{Kind}
use Rattle.krb_msg.specs.declared.message.Kind.TheVariants as kinds
use Rattle.krb_packet.specs.Captures.{packets}
use Rattle.krb_packet.specs.declared.packet.Packet.{Packet}
use Rattle.krb_packet.proofs.Streams.{refusal_in_file}
use Rattle.krb_exchange.specs.Fingerprints.{fingerprint_of}
use Rattle.krb_exchange.specs.Happened.{before_of, begun, error_taken, open_in, replied, requested, segment_taken}
use Rattle.krb_exchange.specs.declared.fingerprint.Fingerprint.{Fingerprint}
use Rattle.krb_exchange.specs.declared.parties.Header.{Header}
use Rattle.krb_exchange.specs.declared.parties.Reply.{Reply}
use Rattle.krb_exchange.specs.declared.parties.Reply.TheVariants as replies
use Rattle.krb_exchange.specs.declared.sending.Moment.{Moment}
use Rattle.krb_exchange.specs.declared.sending.Sending.{Sending}
use Rattle.krb_exchange.specs.declared.sending.What.{What}
use Rattle.krb_exchange.specs.declared.sending.What.TheVariants as whats
use Rattle.krb_laws.specs.JsonLaws.{AreCounts, AreToldCounts, CapturesAreJson, IsAnswer, IsError, IsFlowOrigin, IsSmall, IsTold as IsToldIn, PrintsJson}
use Rattle.krb_record.specs.Captures.{capture_end_record, capture_refused_record, captured, lost_record, password_record, unanswered_record, unreachable_record, unread_line, unread_record}
use Rattle.krb_record.specs.Forms.{form_of, record_line}
use Rattle.krb_record.specs.Labels.{Label, line_of}
use Rattle.krb_record.specs.Laws.{CaptureEndIsOneLine, CaptureRefusalIsOneLine, CapturedRefusalIsOneLine, IsOneLine, JoinedIsOneLine, LostIsOneLine, OriginIsInRange, PasswordIsOneLine, UnansweredIsOneLine, UnreachableIsOneLine}
use Rattle.krb_record.specs.Refusals.{extent_in, path_in, refusal_record}
use Rattle.krb_record.specs.Time.{microseconds}
use Rattle.krb_record.specs.Unreachables.{error_of}
use Rattle.krb_record.specs.Values.{Printed, printed}
use Rattle.krb_record.specs.declared.capture.CaptureCounts.{CaptureCounts}
use Rattle.krb_record.specs.declared.capture_origin.CaptureOrigin.{CaptureOrigin}
use Rattle.krb_record.specs.declared.flow.Flow.{Flow}
use Rattle.krb_record.specs.declared.form.Base.{Base}
use Rattle.krb_record.specs.declared.form.Form.{Form}
use Rattle.krb_record.specs.declared.form.Form.TheVariants as forms
use Rattle.krb_record.specs.declared.told.Answer.{Answer}
use Rattle.krb_record.specs.declared.told.Request.{Request}
use Rattle.krb_record.specs.declared.told.Request.TheVariants as requests
use Rattle.krb_record.specs.declared.told.Told.{Told}
use Rattle.krb_record.specs.declared.told.ToldCounts.{ToldCounts}
use Rattle.krb_record.specs.declared.unreachable.How.{How}
use Rattle.krb_record.specs.declared.unreachable.How.TheVariants as hows
use Rattle.krb_run.specs.Extents.{extent_of}
use Rattle.krb_run.specs.Paths.{field_path}
use Rattle.krb_source.specs.declared.timestamp.Timestamp.{Timestamp}
use Rattle.krb_source.specs.declared.unread_why.UnreadWhy.{UnreadWhy}
use Rattle.krb_text.specs.Laws.{CapturedMessageIsOneLine}
use Rattle.krb_text.specs.Messages.{shown_record}
use Rattle.krb_capture.specs.Labels.{Label as CaptureLabel, of_records}
use Rattle.krb_capture.specs.Captures.{Finding, Progress, Settings, all_counts, at_first, end_taken, happened_each, lines_of}
use Rattle.krb_capture.specs.Flows.{moment_due}
use Rattle.krb_capture.specs.Found.{Begun, Failed, Faulty, Found, Joined, Missing, Password, Sent, Unread, Whole, and_more, event_of, found_happened, found_heard, found_line, found_text, origin_with}
use Rattle.krb_capture.specs.Happened.{Heard, again_counted, again_for, answer_counted, answer_for, answer_with, at_moment, begins_ap_req, by_part, each_counted, end_counts, end_lines, heard, kind_in, kind_role, kind_tells, message_event, missed, missed_counted, missed_record, moment_of, news_counted, news_line, news_lines, no_counts_told, password_event, password_role, reply_heard, request_heard, reset, role_heard, segment_heard, span_between, telling, told_at_first, told_of, unread_event, waited}
use Rattle.krb_capture.specs.declared.happened.Happened.{Happened}
use Rattle.krb_capture_run.specs.Captures.{capture_listing, after_packets}
use Rattle.krb_capture_run.specs.Laws.{capture_told, last_line}
use Rattle.krb_run.specs.Records.{text_of}
use Rattle.krb_tool_laws.specs.Listings.{AreLinesOf, AreRead, CapturesAreLines, IsNamed}
use Rattle.krb_tool_laws.proofs.CaptureFindings.{AreFindings, IsProgress, after_is, first_is, told_are, totals_are}
use Rattle.krb_tool_laws.proofs.CaptureListings.{captures_are_listed}
use Rattle.krb_tool_laws.proofs.CaptureParts.{IsHost}
use Rattle.krb_tool_laws.proofs.FileReaders.{IsFault, IsSmallFault, small_fault}
use Rattle.krb_tool_laws.proofs.FoundParts.{IsFound, Rules}
use Rattle.krb_tool_laws.proofs.KeptEntries.{chosen}
use Rattle.krb_tool_laws.proofs.InForms.{base_in, one_in, shown_json}
use Rattle.krb_tool_laws.proofs.Lines.{a_line, and_lines, no_lines}
use Rattle.krb_tool_laws.proofs.ListedFiles.{path_octets}
use Rattle.krb_tool_laws.proofs.PacketOctets.{ArePackets, IsTime, packets_are}
use Rattle.krb_tool_laws.proofs.WindowFlows.{AreSendings, AreTold, IsMoment, IsRecordFlow, IsRequested, IsSegmentTold, IsSending, IsTold, before_is, begun_is, error_is, open_is, replied_is, requested_is, segment_is}

pub record Premises : Type 0 where
  pub rules : Rules
  pub message_line_is : CapturedMessageIsOneLine
  pub refusal_line_is : CapturedRefusalIsOneLine
  pub joined_line_is : JoinedIsOneLine
  pub lost_line_is : LostIsOneLine
  pub unread_line_is : (base : Base) (origin : CaptureOrigin) (place : Option ℕ) (octets : ℕ) (reason : UnreadWhy) → OriginIsInRange origin → IsOneLine (unread_line (form_of base) origin place octets reason)
  pub password_line_is : PasswordIsOneLine
  pub unanswered_line_is : UnansweredIsOneLine
  pub unreachable_line_is : UnreachableIsOneLine
  pub end_line_is : CaptureEndIsOneLine
  pub file_line_is : CaptureRefusalIsOneLine
  pub json : CapturesAreJson

-- ---- what happened
-- what is remembered, and what is counted
abbrev IsRemembered : Happened → Type 0
IsRemembered happened = AreSendings happened.sendings × AreToldCounts happened.counts

abbrev IsHappened : Option Happened → Type 0
IsHappened happened = IfSome happened IsRemembered

no_counts : AreToldCounts no_counts_told
no_counts = record { answered = omega arith; unanswered = omega arith; again = omega arith; unreachable = omega arith }

first_remembered : (form : Form) → IsHappened (told_at_first form)
first_remembered forms.Lines = tt
first_remembered forms.NamedLines = (tt, no_counts)
first_remembered forms.Json = (tt, no_counts)
first_remembered forms.KeptLines = tt
first_remembered forms.KeptNamedLines = (tt, no_counts)
first_remembered forms.KeptJson = (tt, no_counts)
first_remembered (forms.Rows wanted) = (tt, no_counts)

-- the flow and the moment of an origin
flow_is : (origin : CaptureOrigin) → IsFlowOrigin origin → IsRecordFlow origin.flow
flow_is origin is = (record { host = is.in_range.source; small = is.source }, record { host = is.in_range.target; small = is.target })

moment_is : (origin : CaptureOrigin) → IsFlowOrigin origin → IsMoment (moment_of origin)
moment_is origin is = record { packet = is.packet; time = is.in_range.time }

-- a record that is told with a packet
news_origin_is : (now : Moment) (flow : Flow) → IsMoment now → IsRecordFlow flow → IsFlowOrigin (at_moment now flow)
news_origin_is now flow is its = record { in_range = record { time = is.time; source = its.0.host; target = its.1.host }; packet = is.packet; source = its.0.small; target = its.1.small; told = tt }

-- ---- what is told of an exchange
difference_small : (a b : ℕ) → a < 2 ^ 64 → b < 2 ^ 64 → IsSmall (pos a -ℤ pos b)
difference_small a zero small other = omega (arith, small)
difference_small a (suc b) small other = chosen IsSmall (nat_lt a (suc b)) (negsuc (suc b - suc a)) (pos (a - suc b)) (omega (arith, small, other)) (omega (arith, small))

span_is : (from to : Option Timestamp) → IsTime from → IsTime to → IfSome (span_between from to) (λ span. IsSmall span.microseconds)
span_is None to a b = tt
span_is (Some from) None a b = tt
span_is (Some from) (Some to) a b = difference_small (microseconds to.seconds to.nanoseconds) (microseconds from.seconds from.nanoseconds) (omega (arith, b)) (omega (arith, a))

waited_is : (sending : Sending) (now : Moment) → IsSending sending → IsMoment now → IsAnswer (waited sending now)
waited_is sending now is at = record { of = is.sent.packet; after = span_is sending.sent.time now.time is.sent.time at.time; waited = span_is sending.first.time now.time is.first.time at.time }

answer_is : (told : Option Sending) (now : Moment) → IsTold told → IsMoment now → IsAnswer (answer_with told now)
answer_is None now is at = record { of = tt; after = tt; waited = tt }
answer_is (Some sending) now is at = waited_is sending now is at

again_packet : (before : Option Sending) → IsTold before → IfSome (option_map (λ one. one.first.packet) before) (λ n. n < 10 ^ 64)
again_packet None is = tt
again_packet (Some before) is = is.first.packet

module _ (origin : CaptureOrigin) (is : IsFlowOrigin origin) (window : List Sending) (are : AreSendings window) where
  again_is : (octets : List ℕ) → IfSome (option_map (λ one. one.first.packet) (before_of (fingerprint_of octets) window)) (λ n. n < 10 ^ 64)
  again_is octets = again_packet (before_of (fingerprint_of octets) window) (before_is (fingerprint_of octets) window are)

  answered_is : (reply : Reply) → IsAnswer (answer_with (replied reply origin.flow window).told (moment_of origin))
  answered_is reply = answer_is (replied reply origin.flow window).told (moment_of origin) (replied_is reply origin.flow window are).0 (moment_is origin is)

  nothing_answered : IsAnswer (answer_with None (moment_of origin))
  nothing_answered = answer_is None (moment_of origin) tt (moment_is origin is)

  -- a message by its kind, and the same as a part of one that changes a password
  kind_told : (kind : Option Kind) (octets : List ℕ) → IsToldIn (told_of (record { tells = kind_tells kind; role = kind_role kind octets }) origin window)
  kind_told None octets = tt
  kind_told (Some kinds.AsReq) octets = again_is octets
  kind_told (Some kinds.TgsReq) octets = again_is octets
  kind_told (Some kinds.AsRep) octets = answered_is replies.AsRep
  kind_told (Some kinds.TgsRep) octets = answered_is replies.TgsRep
  kind_told (Some kinds.KrbError) octets = answered_is replies.Error
  kind_told (Some other) octets = tt

  part_told : (kind : Option Kind) (octets : List ℕ) → IsToldIn (told_of (by_part 1 (record { tells = kind_tells kind; role = kind_role kind octets })) origin window)
  part_told None octets = tt
  part_told (Some kinds.AsReq) octets = tt
  part_told (Some kinds.TgsReq) octets = tt
  part_told (Some kinds.AsRep) octets = nothing_answered
  part_told (Some kinds.TgsRep) octets = nothing_answered
  part_told (Some kinds.KrbError) octets = nothing_answered
  part_told (Some other) octets = tt

  by_part_told : (parts : ℕ) (event : _) → IsToldIn (told_of event origin window) → IsToldIn (told_of (by_part 1 event) origin window) → IsToldIn (told_of (by_part parts event) origin window)
  by_part_told parts event whole part = by (parts == 0)
    where
      by : (none : Bool) → IsToldIn (told_of (if none then event else record event { role = (by_part 1 event).role }) origin window)
      by true = whole
      by false = part

  password_told : (asks : Bool) (octets : List ℕ) → IfSome (again_for (password_role asks octets) window) (λ n. n < 10 ^ 64) × IsAnswer (answer_for (password_role asks octets) origin window)
  password_told true octets = (again_is octets, nothing_answered)
  password_told false octets = (tt, answered_is replies.Kpasswd)

-- what is told leaves the rest of an origin as it is
told_with : (origin : CaptureOrigin) (told : Told) → IsFlowOrigin origin → IsToldIn told → IsFlowOrigin (telling origin told)
told_with origin told is its = record { in_range = record { time = is.in_range.time; source = is.in_range.source; target = is.in_range.target }; packet = is.packet; source = is.source; target = is.target; told = its }

with_is : (found : Found) (origin : CaptureOrigin) (happened : Happened) → IsFlowOrigin origin → IsRemembered happened → IsFlowOrigin (origin_with (event_of happened.parts found) origin happened)
with_is (Whole octets) origin happened is are =
    told_with origin (told_of (by_part happened.parts (message_event octets)) origin happened.sendings) is
    (by_part_told origin is happened.sendings are.0 happened.parts (message_event octets) (kind_told origin is happened.sendings are.0 (kind_in octets) octets) (part_told origin is happened.sendings are.0 (kind_in octets) octets))
with_is (Faulty refusal path extent) origin happened is are =
    told_with origin (told_of (by_part happened.parts unread_event) origin happened.sendings) is
    (by_part_told origin is happened.sendings are.0 happened.parts unread_event (answered_is origin is happened.sendings are.0 replies.Unread) (nothing_answered origin is happened.sendings are.0))
with_is Begun origin happened is are = is
with_is Joined origin happened is are = is
with_is (Missing place octets path) origin happened is are =
    told_with origin (told_of (by_part happened.parts unread_event) origin happened.sendings) is
    (by_part_told origin is happened.sendings are.0 happened.parts unread_event (answered_is origin is happened.sendings are.0 replies.Unread) (nothing_answered origin is happened.sendings are.0))
with_is (Password octets version ap rest) origin happened is are =
    told_with origin (told_of (password_event octets (take ap (drop 6 octets))) origin happened.sendings) is (password_told origin is happened.sendings are.0 (begins_ap_req (take ap (drop 6 octets))) octets)
with_is (Unread place octets reason) origin happened is are = is
with_is (Sent header) origin happened is are = is
with_is (Failed error) origin happened is are = is

-- who sent an error has an address
host_of : (how : How) → IfSome (error_of how) IsError → IfSome (error_of how) (λ error. IsHost error.by)
host_of hows.Reset is = tt
host_of hows.Silent is = tt
host_of (hows.Error error) is = is.by

-- ---- what is counted
again_counts : (again : Option ℕ) (counts : ToldCounts) → AreToldCounts counts → AreToldCounts (again_counted again counts)
again_counts None counts are = are
again_counts (Some packet) counts are = record { answered = are.answered; unanswered = are.unanswered; again = omega arith; unreachable = are.unreachable }

answer_counts : (told : Option Sending) (counts : ToldCounts) → AreToldCounts counts → AreToldCounts (answer_counted told counts)
answer_counts None counts are = are
answer_counts (Some sending) counts are = record { answered = omega arith; unanswered = are.unanswered; again = are.again; unreachable = are.unreachable }

one_unreachable_counts : (counts : ToldCounts) → AreToldCounts counts → AreToldCounts (record counts { unreachable = and_more counts.unreachable 1 })
one_unreachable_counts counts are = record { answered = are.answered; unanswered = are.unanswered; again = are.again; unreachable = omega arith }

missed_counts : (what : What) (counts : ToldCounts) → AreToldCounts counts → AreToldCounts (missed_counted what counts)
missed_counts (whats.Request kind octets) counts are = record { answered = are.answered; unanswered = omega arith; again = are.again; unreachable = are.unreachable }
missed_counts (whats.Syn number) counts are = one_unreachable_counts counts are

missed_counted_are : (told : Option Sending) (counts : ToldCounts) → AreToldCounts counts → AreToldCounts (each_counted (missed told) counts)
missed_counted_are None counts are = are
missed_counted_are (Some sending) counts are = missed_counts sending.what counts are

reset_counted_are : (told : Option Sending) (counts : ToldCounts) → AreToldCounts counts → AreToldCounts (each_counted (reset told) counts)
reset_counted_are None counts are = are
reset_counted_are (Some sending) counts are = one_unreachable_counts counts are

-- one after another, each made of a sending
each_made : (make : Sending → _) (sendings : List Sending) (counts : ToldCounts) → ((sending : Sending) (counts : ToldCounts) → AreToldCounts counts → AreToldCounts (news_counted (make sending) counts)) → AreToldCounts counts → AreToldCounts (each_counted (map make sendings) counts)
each_made make [] counts one are = are
each_made make (first ∷ others) counts one are = each_made make others (news_counted (make first) counts) one (one first counts are)

both_counted : (one other : _) (counts : ToldCounts) → each_counted (one ++ other) counts ≡ each_counted other (each_counted one counts)
both_counted [] other counts = refl
both_counted (first ∷ others) other counts = both_counted others other (news_counted first counts)

both_counts : (one other : _) (counts : ToldCounts) → AreToldCounts (each_counted other (each_counted one counts)) → AreToldCounts (each_counted (one ++ other) counts)
both_counts one other counts are = subst AreToldCounts (sym (both_counted one other counts)) are

end_counts_are : (happened : Option Happened) → IsHappened happened → AreToldCounts (end_counts happened)
end_counts_are None is = no_counts
end_counts_are (Some happened) is = each_made _ (open_in happened.sendings) happened.counts (λ sending counts are. missed_counts sending.what counts are) is.1

module _ (p : Premises) (label : Label) (named : IsNamed label) where
  -- how what is found is written
  abbrev ours : CaptureLabel
  ours = of_records label

  abbrev AreOurs : List ℕ → Type 0
  AreOurs = AreLinesOf label.form

  -- the line of a record, by what it is in each form
  its_line : (shown : Form → Printed) → IsOneLine (record_line (form_of (base_in label.form)) (shown (form_of (base_in label.form)))) → PrintsJson (shown forms.Json) → AreOurs (line_of label (shown label.form))
  its_line shown one json = a_line label named (shown label.form) (one_in shown label.form named.0 one) (λ is. subst (λ f. PrintsJson (shown f)) (sym is) json)

  -- ---- news, which are told with a packet
  one_unreachable : (now : Moment) (flow : Flow) (how : How) (answer : Answer) → IsMoment now → IsRecordFlow flow → IfSome (error_of how) IsError → IsAnswer answer → AreOurs (line_of label (captured label.form (at_moment now flow) (unreachable_record how answer)))
  one_unreachable now flow how answer at is by told =
      let origin : IsFlowOrigin (at_moment now flow) = news_origin_is now flow at is in
      its_line (λ form. captured form (at_moment now flow) (unreachable_record how answer)) (p.unreachable_line_is (base_in label.form) (at_moment now flow) how answer origin.in_range (host_of how by)) (p.json.unreachable (at_moment now flow) how answer origin refl by told)

  one_missed : (now : Moment) (what : What) (sending : Sending) → IsMoment now → IsSending sending → AreOurs (line_of label (captured label.form (at_moment now sending.flow) (missed_record now what sending)))
  one_missed now (whats.Request kind octets) sending at is =
      let origin : IsFlowOrigin (at_moment now sending.flow) = news_origin_is now sending.flow at is.flow in
      its_line (λ form. captured form (at_moment now sending.flow) (unanswered_record kind (waited sending now))) (p.unanswered_line_is (base_in label.form) (at_moment now sending.flow) kind (waited sending now) origin.in_range)
      (p.json.unanswered (at_moment now sending.flow) kind (waited sending now) origin refl (waited_is sending now is at))
  one_missed now (whats.Syn number) sending at is = one_unreachable now sending.flow hows.Silent (waited sending now) at is.flow tt (waited_is sending now is at)

  missed_lines : (now : Moment) (sending : Option Sending) → IsMoment now → IsTold sending → AreOurs (news_lines ours now (missed sending))
  missed_lines now None at is = no_lines label.form
  missed_lines now (Some sending) at is = and_lines label.form _ [] (one_missed now sending.what sending at is) (no_lines label.form)

  reset_lines : (now : Moment) (sending : Option Sending) → IsMoment now → IsTold sending → AreOurs (news_lines ours now (reset sending))
  reset_lines now None at is = no_lines label.form
  reset_lines now (Some sending) at is = and_lines label.form _ [] (one_unreachable now sending.flow hows.Reset (waited sending now) at is.flow tt (waited_is sending now is at)) (no_lines label.form)

  -- one after another, each made of a sending
  each_line : (now : Moment) (make : Sending → _) (sendings : List Sending) → ((sending : Sending) → IsSending sending → AreOurs (news_line ours now (make sending))) → AreSendings sendings → AreOurs (news_lines ours now (map make sendings))
  each_line now make [] one are = no_lines label.form
  each_line now make (first ∷ others) one are = and_lines label.form (news_line ours now (make first)) (news_lines ours now (map make others)) (one first are.0) (each_line now make others one are.1)

  both_news : (now : Moment) (one other : _) → AreOurs (news_lines ours now one) → AreOurs (news_lines ours now other) → AreOurs (news_lines ours now (one ++ other))
  both_news now one other a b = subst AreOurs (sym (parted one)) (and_lines label.form (news_lines ours now one) (news_lines ours now other) a b)
    where
      parted : (some : _) → news_lines ours now (some ++ other) ≡ news_lines ours now some ++ news_lines ours now other
      parted [] = refl
      parted (first ∷ others) = ap (λ l. news_line ours now first ++ l) (parted others) ∙ sym (append_assoc (news_line ours now first) (news_lines ours now others) (news_lines ours now other))

  -- the lines of the news, what is remembered, and what is counted with the news
  record IsHeard (after : Heard) : Type 0 where
    lines : (now : Moment) → IsMoment now → AreOurs (news_lines ours now after.news)
    sendings : AreSendings after.happened.sendings
    counts : AreToldCounts (each_counted after.news after.happened.counts)

  no_news : (happened : Happened) → IsRemembered happened → IsHeard (record { news = []; happened = happened })
  no_news happened are = record { lines = λ now at. no_lines label.form; sendings = are.0; counts = are.1 }

  module _ (origin : CaptureOrigin) (is_origin : IsFlowOrigin origin) where
    request_is : (kind : Request) (octets : Fingerprint) (happened : Happened) → IsRemembered happened → IsHeard (request_heard kind octets origin happened)
    request_is kind octets happened are =
        let told = (requested kind origin.flow octets (moment_of origin) happened.sendings).told in
        let its : IsRequested (requested kind origin.flow octets (moment_of origin) happened.sendings) = requested_is kind origin.flow octets (moment_of origin) happened.sendings (flow_is origin is_origin) (moment_is origin is_origin) are.0 in
        record { lines = λ now at. missed_lines now told.missed at its.0; sendings = its.1; counts = missed_counted_are told.missed (again_counted told.again happened.counts) (again_counts told.again happened.counts are.1) }

    reply_is : (reply : Reply) (happened : Happened) → IsRemembered happened → IsHeard (reply_heard reply origin happened)
    reply_is reply happened are = record {
      lines = λ now at. no_lines label.form;
      sendings = (replied_is reply origin.flow happened.sendings are.0).1;
      counts = answer_counts (replied reply origin.flow happened.sendings).told happened.counts are.1;
    }

    kind_is : (kind : Option Kind) (octets : List ℕ) (happened : Happened) → IsRemembered happened → IsHeard (role_heard (kind_role kind octets) origin happened)
    kind_is None octets happened are = no_news happened are
    kind_is (Some kinds.AsReq) octets happened are = request_is requests.AsReq (fingerprint_of octets) happened are
    kind_is (Some kinds.TgsReq) octets happened are = request_is requests.TgsReq (fingerprint_of octets) happened are
    kind_is (Some kinds.AsRep) octets happened are = reply_is replies.AsRep happened are
    kind_is (Some kinds.TgsRep) octets happened are = reply_is replies.TgsRep happened are
    kind_is (Some kinds.KrbError) octets happened are = reply_is replies.Error happened are
    kind_is (Some other) octets happened are = no_news happened are

    password_is : (asks : Bool) (octets : List ℕ) (happened : Happened) → IsRemembered happened → IsHeard (role_heard (password_role asks octets) origin happened)
    password_is true octets happened are = request_is requests.Kpasswd (fingerprint_of octets) happened are
    password_is false octets happened are = reply_is replies.Kpasswd happened are

    -- parts of a message that changes a password are neither a request nor a reply
    part_is : (parts : ℕ) (event : _) (happened : Happened) → IsRemembered happened → IsHeard (heard event origin happened) → IsHeard (heard (by_part parts event) origin happened)
    part_is parts event happened are whole = by (parts == 0)
      where
        by : (none : Bool) → IsHeard (heard (if none then event else record event { role = (by_part 1 event).role }) origin happened)
        by true = whole
        by false = no_news (record happened { parts = happened.parts - 1 }) are

    segment_heard_is : (header : Header) (happened : Happened) → IsRemembered happened → IsHeard (segment_heard header origin happened)
    segment_heard_is header happened are =
        let told = (segment_taken header origin.flow (moment_of origin) happened.sendings).told in
        let its : IsSegmentTold (segment_taken header origin.flow (moment_of origin) happened.sendings) = segment_is header origin.flow (moment_of origin) happened.sendings (flow_is origin is_origin) (moment_is origin is_origin) are.0 in
        let of_reset : ToldCounts = each_counted (reset told.reset) happened.counts in
        record {
          lines = λ now at.
              both_news now (reset told.reset ++ missed told.silent) (missed told.missed)
              (both_news now (reset told.reset) (missed told.silent) (reset_lines now told.reset at its.0.0) (missed_lines now told.silent at its.0.1))
              (missed_lines now told.missed at its.0.2);
          sendings = its.1;
          counts = both_counts (reset told.reset ++ missed told.silent) (missed told.missed) happened.counts
              (missed_counted_are told.missed (each_counted (reset told.reset ++ missed told.silent) happened.counts)
              (both_counts (reset told.reset) (missed told.silent) happened.counts (missed_counted_are told.silent of_reset (reset_counted_are told.reset happened.counts are.1))));
        }

    found_heard_is : (found : Found) (happened : Happened) → IsFound found → IsRemembered happened → IsHeard (found_heard origin found happened)
    found_heard_is (Whole octets) happened is are = part_is happened.parts (message_event octets) happened are (kind_is (kind_in octets) octets (record happened { parts = happened.parts - 1 }) are)
    found_heard_is (Faulty refusal path extent) happened is are = part_is happened.parts unread_event happened are (reply_is replies.Unread (record happened { parts = happened.parts - 1 }) are)
    found_heard_is Begun happened is are =
        let its : AreTold (begun origin.flow happened.sendings) = begun_is origin.flow happened.sendings are.0 in
        record {
          lines = λ now at. each_line now _ (begun origin.flow happened.sendings).told (λ sending good. one_missed now sending.what sending at good) its.0;
          sendings = its.1;
          counts = each_made _ (begun origin.flow happened.sendings).told happened.counts (λ sending counts good. missed_counts sending.what counts good) are.1;
        }
    found_heard_is Joined happened is are = no_news happened are
    found_heard_is (Missing place octets path) happened is are = part_is happened.parts unread_event happened are (reply_is replies.Unread (record happened { parts = happened.parts - 1 }) are)
    found_heard_is (Password octets version ap rest) happened is are =
        let its : IsHeard (heard (password_event octets (take ap (drop 6 octets))) origin happened) = password_is (begins_ap_req (take ap (drop 6 octets))) octets (record happened { parts = happened.parts - 1 }) are in
        record { lines = its.lines; sendings = its.sendings; counts = its.counts }
    found_heard_is (Unread place octets reason) happened is are = no_news happened are
    found_heard_is (Sent header) happened is are = segment_heard_is header happened are
    found_heard_is (Failed error) happened is are =
        let its = error_is origin.flow happened.sendings are.0 in
        record {
          lines = λ now at.
              and_lines label.form _ []
              (one_unreachable now origin.flow (hows.Error error) (answer_with (error_taken origin.flow happened.sendings).told now) at (flow_is origin is_origin) is (answer_is (error_taken origin.flow happened.sendings).told now its.0 at)) (no_lines label.form);
          sendings = its.1;
          counts = one_unreachable_counts happened.counts are.1;
        }

    happened_is : (found : Found) (happened : Option Happened) → IsFound found → IsHappened happened → IsHappened (found_happened origin found happened)
    happened_is found None is are = tt
    happened_is found (Some happened) is are = let its : IsHeard (found_heard origin found happened) = found_heard_is found happened is are in (its.sendings, its.counts)

  each_is : (found : List Finding) (happened : Option Happened) → AreFindings found → IsHappened happened → IsHappened (happened_each found happened)
  each_is [] happened each are = are
  each_is (first ∷ others) happened each are = each_is others (found_happened first.0 first.1 happened) each.1 (happened_is first.0 each.0.0 first.1 happened each.0.1 are)

  -- ---- lines
  one_found : (origin : CaptureOrigin) (found : Found) → IsFlowOrigin origin → IsFound found → AreOurs (found_line ours origin found)
  one_found origin (Whole octets) range is =
      its_line (λ form. captured form origin (shown_record form (message_of_der octets))) (p.message_line_is (base_in label.form) origin (message_of_der octets) range.in_range is)
      (subst (λ (r : Printed). PrintsJson (captured forms.Json origin r)) (sym (shown_json (message_of_der octets))) (p.json.message origin (message_of_der octets) range is))
  one_found origin (Faulty refusal path extent) range is =
      its_line (λ form. captured form origin (refusal_record refusal (path_in form path ++ extent_in form extent))) (p.refusal_line_is (base_in label.form) origin refusal path extent range.in_range is.1) (p.json.refusal origin refusal path extent range is.0 is.2)
  one_found origin Begun range is = no_lines label.form
  one_found origin Joined range is = its_line (λ form. captured form origin (printed (codes "joined") [])) (p.joined_line_is (base_in label.form) origin range.in_range) (p.json.joined origin range)
  one_found origin (Missing place octets path) range is =
      its_line (λ form. captured form origin (lost_record form place octets path)) (p.lost_line_is (base_in label.form) origin place octets path range.in_range is.2) (p.json.lost origin place octets path range is.0 is.1)
  one_found origin (Password octets version ap rest) range is =
      its_line (λ form. captured form origin (password_record version ap rest)) (p.password_line_is (base_in label.form) origin version ap rest range.in_range) (p.json.password origin version ap rest range is.0 is.1 is.2)
  one_found origin (Unread place octets reason) range is =
      its_line (λ form. captured form origin (unread_record place octets reason)) (p.unread_line_is (base_in label.form) origin place octets reason range.in_range) (p.json.unread origin place octets reason range is.0 is.1)
  one_found origin (Sent header) range is = no_lines label.form
  one_found origin (Failed error) range is = no_lines label.form

  one_text : (origin : CaptureOrigin) (found : Found) (happened : Option Happened) → IsFlowOrigin origin → IsFound found → IsHappened happened → AreOurs (found_text ours origin found happened)
  one_text origin found None range is are = one_found origin found range is
  one_text origin found (Some happened) range is are =
      let with_event : CaptureOrigin = origin_with (event_of happened.parts found) origin happened in
      and_lines label.form (found_line ours with_event found) (news_lines ours (moment_of origin) (found_heard origin found happened).news)
      (one_found with_event found (with_is found origin happened range are) is)
      ((found_heard_is origin range found happened is are).lines (moment_of origin) (moment_is origin range))

  each_text : (found : List Finding) (happened : Option Happened) → AreFindings found → IsHappened happened → AreOurs (lines_of ours happened found)
  each_text [] happened each are = no_lines label.form
  each_text (first ∷ others) happened each are =
      and_lines label.form (found_text ours first.0 first.1 happened) (lines_of ours (found_happened first.0 first.1 happened) others) (one_text first.0 first.1 happened each.0.0 each.0.1 are)
      (each_text others (found_happened first.0 first.1 happened) each.1 (happened_is first.0 each.0.0 first.1 happened each.0.1 are))

  -- ---- the end
  end_lines_are : (now : Moment) (happened : Option Happened) → IsMoment now → IsHappened happened → AreOurs (end_lines ours now happened)
  end_lines_are now None at are = no_lines label.form
  end_lines_are now (Some happened) at are = each_line now _ (open_in happened.sendings) (λ sending good. one_missed now sending.what sending at good) (open_is happened.sendings are.0)

  -- the record of the totals, or of the fault
  abbrev last_record : Option Fault → CaptureCounts → ToldCounts → Form → Printed
  last_record None counts told form = capture_end_record form counts told
  last_record (Some fault) counts told form = capture_refused_record form counts told fault.place fault.why (field_path fault.field) (extent_of fault)

  counts_line : (refusal : Option Fault) (counts : CaptureCounts) (told : ToldCounts) → IfSome refusal IsSmallFault → AreCounts counts → AreToldCounts told → AreOurs (line_of label (last_record refusal counts told label.form))
  counts_line None counts told small are too = its_line (λ form. capture_end_record form counts told) (p.end_line_is (base_in label.form) counts told) (p.json.end counts told are too)
  counts_line (Some fault) counts told small are too =
      its_line (λ form. capture_refused_record form counts told fault.place fault.why (field_path fault.field) (extent_of fault))
      (p.file_line_is (base_in label.form) counts told fault.place fault.why (field_path fault.field) (extent_of fault) (path_octets places.File fault.field))
      (p.json.file counts told fault.place fault.why (field_path fault.field) (extent_of fault) are too small.place small.extent)

  last_is : (settings : Settings) → settings.label ≡ ours → (refusal : Option Fault) (happened : Option Happened) (progress : Progress) → IfSome refusal IsSmallFault → IsProgress progress → IsHappened happened → AreOurs (last_line (record settings { label = ours }) refusal happened progress)
  last_is settings e refusal happened progress small is are =
      let lines : AreOurs (end_lines ours (moment_due progress.last) happened) = end_lines_are (moment_due progress.last) happened (record { packet = is.last.packet; time = is.last.time }) are in
      let counts : CaptureCounts = all_counts (end_taken (record settings { label = ours }) progress).progress in
      let line : AreOurs (line_of label (last_record refusal counts (end_counts happened) label.form)) = counts_line refusal counts (end_counts happened) small (totals_are p.rules (record settings { label = ours }) progress is) (end_counts_are happened are) in
      by refusal (and_lines label.form (end_lines ours (moment_due progress.last) happened) (line_of label (last_record refusal counts (end_counts happened) label.form)) lines line)
    where
      by : (end : Option Fault) → AreOurs (end_lines ours (moment_due progress.last) happened ++ line_of label (last_record end (all_counts (end_taken (record settings { label = ours }) progress).progress) (end_counts happened) label.form)) → AreOurs (last_line (record settings { label = ours }) end happened progress)
      by None lines = lines
      by (Some fault) lines = lines

-- the fault of a file: its place is in that, or at its end
faults_are : (file : List ℕ) → length file < 2 ^ 64 → IfSome (packets file).end IsFault → IfSome (packets file).end IsSmallFault
faults_are file few is = by (packets file).end refl is
  where
    by : (end : Option Fault) → (packets file).end ≡ end → IfSome end IsFault → IfSome end IsSmallFault
    by None e is = tt
    by (Some fault) e is = small_fault fault (omega (arith, refusal_in_file file fault e, few)) is

-- with the label of records
records_are_lines : Premises → (label : Label) (settings : Settings) (file : List ℕ) → IsNamed label → AreRead file → AreLinesOf label.form (text_of (capture_listing (record settings { label = of_records label }) file))
records_are_lines p label given file named are =
    let settings : Settings = record given { label = of_records label } in
    let all : List Packet = (packets file).items in
    let each : ArePackets (packets file) = packets_are file are.0 are.1 in
    let told : List Finding = capture_told settings all in
    let told_good : AreFindings told = told_are p.rules settings all at_first each.each first_is in
    let first : Option Happened = told_at_first label.form in
    let first_good : IsHappened first = first_remembered label.form in
    let last_good : IsProgress (after_packets settings all at_first) = after_is p.rules settings all at_first each.each first_is in
    subst (AreLinesOf label.form) (sym (captures_are_listed settings file))
    (and_lines label.form (lines_of settings.label first told) (last_line settings (packets file).end (happened_each told first) (after_packets settings all at_first)) (each_text p label named told first told_good first_good)
    (last_is p label named settings refl (packets file).end (happened_each told first) (after_packets settings all at_first) (faults_are file are.1 each.end) last_good (each_is p label named told first told_good first_good)))

pub captures_are_lines : Premises → CapturesAreLines
captures_are_lines p label settings file same named are =
    subst (λ (s : Settings). AreLinesOf label.form (text_of (capture_listing s file))) (sym (ap (λ l. record settings { label = l }) same)) (records_are_lines p label settings file named are)
