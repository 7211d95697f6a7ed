-- What is told of requests and of the replies to them, and of who could not be reached: what something that is found is to an exchange, what its origin tells, and what is remembered after it.
use Rattle.std.specs.Prelude.{ℕ, pos, nat_lt, ◌-◌, ◌-ℤ◌, ◌==◌, Bool, true, false, if◌then◌else◌, List, [], ◌∷◌, ◌++◌, map, Option, Some, None}
use Rattle.std.specs.Option.{option_map}
use Rattle.krb_exchange.specs.Fingerprints.{fingerprint_of}
use Rattle.krb_exchange.specs.Happened.{before_of, begun, error_taken, open_in, replied, requested, segment_taken}
use Rattle.krb_exchange.specs.declared.parties.Header.{Header}
use Rattle.krb_exchange.specs.declared.fingerprint.Fingerprint.{Fingerprint}
use Rattle.krb_exchange.specs.declared.parties.Reply.{Reply}
use Rattle.krb_exchange.specs.declared.parties.Reply.TheVariants as replies
use Rattle.krb_exchange.specs.declared.sending.Moment.{Moment}
use Rattle.krb_exchange.specs.declared.sending.Sending.{Sending}
use Rattle.krb_exchange.specs.declared.sending.What.{What}
use Rattle.krb_exchange.specs.declared.sending.What.TheVariants as whats
use Rattle.krb_msg.specs.Kinds.{kind_with_tag}
use Rattle.krb_msg.specs.declared.message.Kind.{Kind}
use Rattle.krb_msg.specs.declared.message.Kind.TheVariants as kinds
use Rattle.krb_record.specs.Captures.{captured, unanswered_record, unreachable_record}
use Rattle.krb_capture.specs.Labels.{Label, line_of}
use Rattle.krb_record.specs.Values.{Printed}
use Rattle.krb_record.specs.Time.{microseconds}
use Rattle.krb_record.specs.declared.capture_origin.CaptureOrigin.{CaptureOrigin}
use Rattle.krb_record.specs.declared.flow.Flow.{Flow}
use Rattle.krb_record.specs.declared.form.Form.{Form}
use Rattle.krb_record.specs.Forms.{is_plain_form}
use Rattle.krb_record.specs.declared.told.Answer.{Answer}
use Rattle.krb_record.specs.declared.told.Request.{Request}
use Rattle.krb_record.specs.declared.told.Request.TheVariants as requests
use Rattle.krb_record.specs.declared.told.Span.{Span}
use Rattle.krb_record.specs.declared.told.Told.{Told}
use Rattle.krb_record.specs.declared.told.Told.TheVariants as told
use Rattle.krb_record.specs.declared.told.ToldCounts.{ToldCounts}
use Rattle.krb_record.specs.declared.unreachable.How.TheVariants as hows
use Rattle.krb_record.specs.declared.unreachable.IcmpError.{IcmpError}
use Rattle.krb_source.specs.declared.timestamp.Timestamp.{Timestamp}
use Rattle.krb_capture.specs.Counts.{and_more}
use Rattle.krb_capture.specs.declared.happened.Event.{Event}
use Rattle.krb_capture.specs.declared.happened.Happened.{Happened}
use Rattle.krb_capture.specs.declared.happened.News.{News}
use Rattle.krb_capture.specs.declared.happened.News.TheVariants as news
use Rattle.krb_capture.specs.declared.happened.Role.{Role}
use Rattle.krb_capture.specs.declared.happened.Role.TheVariants as roles
use Rattle.krb_capture.specs.declared.happened.Tells.{Tells}
use Rattle.krb_capture.specs.declared.happened.Tells.TheVariants as tells

-- ---- what something that is found is to an exchange
-- a message by its kind, which its first octet says
abbrev pub kind_in : List ℕ → Option Kind
kind_in [] = None
kind_in (first ∷ others) = kind_with_tag first

abbrev pub kind_tells : Option Kind → Tells
kind_tells (Some kinds.AsReq) = tells.Request
kind_tells (Some kinds.TgsReq) = tells.Request
kind_tells (Some kinds.AsRep) = tells.Reply
kind_tells (Some kinds.TgsRep) = tells.Reply
kind_tells (Some kinds.KrbError) = tells.Reply
kind_tells _ = tells.Nothing

abbrev pub kind_role : Option Kind → List ℕ → Role
kind_role (Some kinds.AsReq) octets = roles.Request requests.AsReq (fingerprint_of octets)
kind_role (Some kinds.TgsReq) octets = roles.Request requests.TgsReq (fingerprint_of octets)
kind_role (Some kinds.AsRep) octets = roles.Reply replies.AsRep
kind_role (Some kinds.TgsRep) octets = roles.Reply replies.TgsRep
kind_role (Some kinds.KrbError) octets = roles.Reply replies.Error
kind_role _ octets = roles.Neither

abbrev pub message_event : List ℕ → Event
message_event octets = record { tells = kind_tells (kind_in octets); role = kind_role (kind_in octets) octets }

-- a refusal, and octets that are lost: a reply of any kind
abbrev pub unread_event : Event
unread_event = record { tells = tells.Reply; role = roles.Reply replies.Unread }

-- a message that changes a password (RFC 3244, 2): a request if it has an AP-REQ, whole or refused
abbrev pub begins_ap_req : List ℕ → Bool
begins_ap_req [] = false
begins_ap_req (first ∷ others) = first == 0x6E

abbrev pub password_role : Bool → List ℕ → Role
password_role true octets = roles.Request requests.Kpasswd (fingerprint_of octets)
password_role false octets = roles.Reply replies.Kpasswd

abbrev pub password_event : List ℕ → List ℕ → Event
password_event octets ap = record { tells = tells.Either; role = password_role (begins_ap_req ap) octets }

-- its parts are neither a request nor a reply: they are the next messages and refusals, so many
abbrev pub by_part : ℕ → Event → Event
by_part parts event = if parts == 0 then event else record event { role = roles.Neither }

-- those that are left out are none
abbrev pub part_count : ℕ → ℕ
part_count size = if nat_lt 0 size then 1 else 0

-- ---- what is told
abbrev pub moment_of : CaptureOrigin → Moment
moment_of origin = record { packet = origin.packet; time = origin.time }

-- the time from one packet to another, if both have one: their whole microseconds are subtracted
abbrev pub span_between : Option Timestamp → Option Timestamp → Option Span
span_between None to = None
span_between (Some from) None = None
span_between (Some from) (Some to) = Some (record { microseconds = pos (microseconds to.seconds to.nanoseconds) -ℤ pos (microseconds from.seconds from.nanoseconds) })

-- how long a sending waited up to a packet
abbrev pub waited : Sending → Moment → Answer
waited sending now = record { of = Some sending.sent.packet; after = span_between sending.sent.time now.time; waited = span_between sending.first.time now.time }

abbrev pub answer_with : Option Sending → Moment → Answer
answer_with None now = record { of = None; after = None; waited = None }
answer_with (Some sending) now = waited sending now

-- of a request, the packet of the first sending of the same octets, if they were sent before
abbrev pub again_for : Role → List Sending → Option ℕ
again_for (roles.Request kind octets) window = option_map (λ one. one.first.packet) (before_of octets window)
again_for _ window = None

-- of a reply, the request that it answers
abbrev pub answer_for : Role → CaptureOrigin → List Sending → Answer
answer_for (roles.Reply reply) origin window = answer_with (replied reply origin.flow window).told (moment_of origin)
answer_for _ origin window = answer_with None (moment_of origin)

abbrev pub told_by : Tells → Role → CaptureOrigin → List Sending → Told
told_by tells.Nothing role origin window = told.Nothing
told_by tells.Request role origin window = told.Request (again_for role window)
told_by tells.Reply role origin window = told.Reply (answer_for role origin window)
told_by tells.Either role origin window = told.Either (again_for role window) (answer_for role origin window)

abbrev pub told_of : Event → CaptureOrigin → List Sending → Told
told_of event origin window = told_by event.tells event.role origin window

abbrev pub telling : CaptureOrigin → Told → CaptureOrigin
telling origin what = record origin { told = what }

-- ---- records that are told, each with a packet
-- A request that no reply answered, or a SYN that nothing did; a SYN that was reset; an error about a packet of a flow, and the request or the SYN that it is about, if one is open.
abbrev pub at_moment : Moment → Flow → CaptureOrigin
at_moment now flow = record { packet = now.packet; time = now.time; flow = flow; told = told.Nothing }

abbrev pub missed_record : Moment → What → Sending → Printed
missed_record now (whats.Request kind octets) sending = unanswered_record kind (waited sending now)
missed_record now (whats.Syn number) sending = unreachable_record hows.Silent (waited sending now)

abbrev pub news_record : Moment → News → Printed
news_record now (news.Missed sending) = missed_record now sending.what sending
news_record now (news.Reset sending) = unreachable_record hows.Reset (waited sending now)
news_record now (news.Failed flow error sending) = unreachable_record (hows.Error error) (answer_with sending now)

abbrev pub news_origin : Moment → News → CaptureOrigin
news_origin now (news.Missed sending) = at_moment now sending.flow
news_origin now (news.Reset sending) = at_moment now sending.flow
news_origin now (news.Failed flow error sending) = at_moment now flow

abbrev pub news_line : Label → Moment → News → List ℕ
news_line label now one = line_of label (captured label.form (news_origin now one) (news_record now one))

abbrev pub news_lines : Label → Moment → List News → List ℕ
news_lines label now [] = []
news_lines label now (first ∷ others) = news_line label now first ++ news_lines label now others

-- ---- what is counted
abbrev pub again_counted : Option ℕ → ToldCounts → ToldCounts
again_counted None counts = counts
again_counted (Some packet) counts = record counts { again = and_more counts.again 1 }

abbrev pub answer_counted : Option Sending → ToldCounts → ToldCounts
answer_counted None counts = counts
answer_counted (Some sending) counts = record counts { answered = and_more counts.answered 1 }

abbrev pub missed_counted : What → ToldCounts → ToldCounts
missed_counted (whats.Request kind octets) counts = record counts { unanswered = and_more counts.unanswered 1 }
missed_counted (whats.Syn number) counts = record counts { unreachable = and_more counts.unreachable 1 }

abbrev pub news_counted : News → ToldCounts → ToldCounts
news_counted (news.Missed sending) counts = missed_counted sending.what counts
news_counted (news.Reset sending) counts = record counts { unreachable = and_more counts.unreachable 1 }
news_counted (news.Failed flow error sending) counts = record counts { unreachable = and_more counts.unreachable 1 }

abbrev pub each_counted : List News → ToldCounts → ToldCounts
each_counted [] counts = counts
each_counted (first ∷ others) counts = each_counted others (news_counted first counts)

-- ---- what is remembered after an event, and the records that are told and counted then
pub record Heard : Type 0 where
  pub news : List News
  pub happened : Happened

abbrev pub no_counts_told : ToldCounts
no_counts_told = record { answered = 0; unanswered = 0; again = 0; unreachable = 0 }

abbrev pub nothing_happened : Happened
nothing_happened = record { sendings = []; parts = 0; counts = no_counts_told }

abbrev pub missed : Option Sending → List News
missed None = []
missed (Some sending) = news.Missed sending ∷ []

abbrev pub reset : Option Sending → List News
reset None = []
reset (Some sending) = news.Reset sending ∷ []

abbrev pub request_heard : Request → Fingerprint → CaptureOrigin → Happened → Heard
request_heard kind octets origin happened =
    let after = requested kind origin.flow octets (moment_of origin) happened.sendings in
    record {
      news = missed after.told.missed;
      happened = record happened { sendings = after.window; counts = again_counted after.told.again happened.counts };
    }

abbrev pub reply_heard : Reply → CaptureOrigin → Happened → Heard
reply_heard reply origin happened =
    let after = replied reply origin.flow happened.sendings in
    record { news = []; happened = record happened { sendings = after.window; counts = answer_counted after.told happened.counts } }

abbrev pub role_heard : Role → CaptureOrigin → Happened → Heard
role_heard roles.Neither origin happened = record { news = []; happened = happened }
role_heard (roles.Request kind octets) origin happened = request_heard kind octets origin happened
role_heard (roles.Reply reply) origin happened = reply_heard reply origin happened

-- after a part one less is left
abbrev pub heard : Event → CaptureOrigin → Happened → Heard
heard event origin happened = role_heard event.role origin (record happened { parts = happened.parts - 1 })

-- a direction begins: its open requests are unanswered
abbrev pub begun_heard : CaptureOrigin → Happened → Heard
begun_heard origin happened =
    let after = begun origin.flow happened.sendings in record { news = map (λ sending. news.Missed sending) after.told; happened = record happened { sendings = after.window } }

-- a segment of TCP
abbrev pub segment_heard : Header → CaptureOrigin → Happened → Heard
segment_heard header origin happened =
    let after = segment_taken header origin.flow (moment_of origin) happened.sendings in
    record {
      news = reset after.told.reset ++ missed after.told.silent ++ missed after.told.missed;
      happened = record happened { sendings = after.window };
    }

-- an error of ICMP about a packet of a flow
abbrev pub error_heard : IcmpError → CaptureOrigin → Happened → Heard
error_heard error origin happened =
    let after = error_taken origin.flow happened.sendings in
    record { news = news.Failed origin.flow error after.told ∷ []; happened = record happened { sendings = after.window } }

abbrev pub news_told : Heard → Happened
news_told after = record after.happened { counts = each_counted after.news after.happened.counts }

-- so are all that are open at the end
abbrev pub end_news : Happened → List News
end_news happened = map (λ sending. news.Missed sending) (open_in happened.sendings)

-- ---- lines without names have nothing of it
abbrev pub told_at_first : Form → Option Happened
told_at_first form = if is_plain_form form then None else Some nothing_happened

abbrev pub end_lines : Label → Moment → Option Happened → List ℕ
end_lines label now None = []
end_lines label now (Some happened) = news_lines label now (end_news happened)

abbrev pub end_counts : Option Happened → ToldCounts
end_counts None = no_counts_told
end_counts (Some happened) = each_counted (end_news happened) happened.counts
