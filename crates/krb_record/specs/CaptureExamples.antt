-- What is printed of captures, computed: records of captures of real exchanges.
use Rattle.std.specs.Prelude.{◌≡◌, pos, negsuc, [], ◌∷◌, Some, None, codes, refl}
use Rattle.std.specs.Fmt.{digits}
use Rattle.std.specs.declared.net.ip_addr.IpAddr.{IpAddr}
use Rattle.std.specs.declared.net.ip_addr.IpAddr.TheVariants as ip
use Rattle.krb_der.specs.declared.why.Why.TheVariants.{Truncated}
use Rattle.krb_source.specs.declared.file_why.FileWhy.TheVariants as why
use Rattle.krb_record.specs.Captures.{captured_refused_line, capture_end_line, capture_refused_line, joined_line, lost_line, password_line, told_counts, told_fields, told_in, unanswered_line, unreachable_line}
use Rattle.krb_record.specs.Forms.{closing, json_value, labelled, members, names_member, opening, opening_from, record_text, span_text, value_text}
use Rattle.krb_record.specs.Time.{civil_date, date_from, date_in_year, two_digits, date_text, clock_text, timestamp_text}
use Rattle.krb_record.specs.declared.capture.CaptureCounts.{CaptureCounts}
use Rattle.krb_record.specs.declared.form.Form.TheVariants.{Lines, NamedLines, Json}
use Rattle.krb_record.specs.declared.capture_origin.CaptureOrigin.{CaptureOrigin}
use Rattle.krb_record.specs.declared.flow.Transport.TheVariants as transports
use Rattle.krb_record.specs.declared.told.Answer.{Answer}
use Rattle.krb_record.specs.declared.unreachable.How.{How}
use Rattle.krb_record.specs.declared.unreachable.How.TheVariants as hows
use Rattle.krb_record.specs.declared.unreachable.IcmpVersion.TheVariants as versions
use Rattle.krb_record.specs.declared.told.Request.TheVariants as kinds
use Rattle.krb_record.specs.declared.told.Told.TheVariants as tells
use Rattle.krb_record.specs.declared.told.ToldCounts.{ToldCounts}

-- ---- a server's answer to a request to change a password
abbrev local : IpAddr
local = ip.V4 (record { octets = 127 ∷ 0 ∷ 0 ∷ 1 ∷ [] })

abbrev answer : CaptureOrigin
answer = record { packet = 10; time = Some (record { seconds = 1795604170; nanoseconds = 71545000 }); flow = record { transport = transports.Tcp; source = record { address = local; port = 464 }; target = record { address = local; port = 60806 } }; told = tells.Nothing }

password : password_line Lines answer 1 140 90 ≡ codes "packet=10 t=2026-11-25T10:56:10.071545000Z flow=tcp/127.0.0.1:464>127.0.0.1:60806 KPASSWD version=1 ap=140 rest=90\n"
unfolding digits civil_date date_from date_in_year two_digits date_text clock_text timestamp_text record_text opening_from opening closing labelled value_text told_in told_fields
password = refl

password_object : password_line Json answer 1 140 90 ≡ codes "{\"kind\":\"KPASSWD\",\"packet\":10,\"t\":\"2026-11-25T10:56:10.071545000Z\",\"flow\":{\"over\":\"tcp\",\"source\":{\"address\":\"127.0.0.1\",\"port\":464},\"target\":{\"address\":\"127.0.0.1\",\"port\":60806}},\"version\":1,\"ap\":140,\"rest\":90,\"t_us\":1795604170071545}\n"
unfolding digits civil_date date_from date_in_year two_digits date_text clock_text timestamp_text record_text opening_from opening closing labelled members json_value names_member told_in told_fields
password_object = refl

-- ---- a packet that was cut at 120 octets
abbrev request : CaptureOrigin
request = record { packet = 7; time = Some (record { seconds = 1795604178; nanoseconds = 390184000 }); flow = record { transport = transports.Udp; source = record { address = local; port = 59720 }; target = record { address = local; port = 88 } }; told = tells.Nothing }

lost : lost_line NamedLines request 78 203 (Some (codes "AS-REQ.padata[1].padata-value")) ≡ codes "packet=7 t=2026-11-25T10:56:18.390184000Z flow=udp/127.0.0.1:59720>127.0.0.1:88 lost place=78 octets=203 in=AS-REQ.padata[1].padata-value\n"
unfolding digits civil_date date_from date_in_year two_digits date_text clock_text timestamp_text record_text opening_from opening closing labelled value_text told_in told_fields
lost = refl

lost_object : lost_line Json request 78 203 (Some (codes "AS-REQ.padata[1].padata-value")) ≡ codes "{\"kind\":\"lost\",\"packet\":7,\"t\":\"2026-11-25T10:56:18.390184000Z\",\"flow\":{\"over\":\"udp\",\"source\":{\"address\":\"127.0.0.1\",\"port\":59720},\"target\":{\"address\":\"127.0.0.1\",\"port\":88}},\"place\":78,\"octets\":203,\"in\":\"AS-REQ.padata[1].padata-value\",\"t_us\":1795604178390184}\n"
unfolding digits civil_date date_from date_in_year two_digits date_text clock_text timestamp_text record_text opening_from opening closing labelled members json_value names_member told_in told_fields
lost_object = refl

-- ---- a connection that was cut
abbrev cut : CaptureOrigin
cut = record { packet = 46; time = Some (record { seconds = 1795604929; nanoseconds = 329196000 }); flow = record { transport = transports.Tcp; source = record { address = local; port = 88 }; target = record { address = local; port = 54120 } }; told = tells.Nothing }

captured_refusal : captured_refused_line NamedLines cut (record { place = 524; why = Truncated }) (Some (codes "TGS-REP.padata[0].padata-value")) (record { at = 0; length = Some 1475 }) ≡ codes "packet=46 t=2026-11-25T11:08:49.329196000Z flow=tcp/127.0.0.1:88>127.0.0.1:54120 refused place=524 why=16 Truncated in=TGS-REP.padata[0].padata-value at=0 length=1475\n"
unfolding digits civil_date date_from date_in_year two_digits date_text clock_text timestamp_text record_text opening_from opening closing labelled value_text told_in told_fields
captured_refusal = refl

-- ---- a packet without a time
joined : joined_line Lines (record cut { time = None }) ≡ codes "packet=46 t=- flow=tcp/127.0.0.1:88>127.0.0.1:54120 joined\n"
unfolding digits record_text opening_from opening closing labelled value_text told_in told_fields
joined = refl

joined_object : joined_line Json (record cut { time = None }) ≡ codes "{\"kind\":\"joined\",\"packet\":46,\"t\":null,\"flow\":{\"over\":\"tcp\",\"source\":{\"address\":\"127.0.0.1\",\"port\":88},\"target\":{\"address\":\"127.0.0.1\",\"port\":54120}},\"t_us\":null}\n"
unfolding digits record_text opening_from opening closing labelled members json_value names_member told_in told_fields
joined_object = refl

-- ---- a reply, a message that changes a password, and a request that no reply answered
abbrev quick : Answer
quick = record { of = Some 44; after = Some (record { microseconds = pos 7773 }); waited = Some (record { microseconds = pos 4016183 }) }

reply : joined_line NamedLines (record cut { time = None; told = tells.Reply quick }) ≡ codes "packet=46 t=- flow=tcp/127.0.0.1:88>127.0.0.1:54120 of=44 after=0.007773 waited=4.016183 joined\n"
unfolding digits record_text opening_from opening closing labelled value_text span_text told_in told_fields
reply = refl

untold_reply : joined_line Lines (record cut { time = None; told = tells.Reply quick }) ≡ codes "packet=46 t=- flow=tcp/127.0.0.1:88>127.0.0.1:54120 joined\n"
unfolding digits record_text opening_from opening closing labelled value_text told_in told_fields
untold_reply = refl

password_told : password_line Json (record answer { told = tells.Either None (record quick { after = Some (record { microseconds = negsuc 2500000 }); waited = None }) }) 1 140 90 ≡ codes "{\"kind\":\"KPASSWD\",\"packet\":10,\"t\":\"2026-11-25T10:56:10.071545000Z\",\"flow\":{\"over\":\"tcp\",\"source\":{\"address\":\"127.0.0.1\",\"port\":464},\"target\":{\"address\":\"127.0.0.1\",\"port\":60806}},\"version\":1,\"ap\":140,\"rest\":90,\"t_us\":1795604170071545,\"again\":null,\"of\":44,\"after\":-2500001,\"waited\":null}\n"
unfolding digits civil_date date_from date_in_year two_digits date_text clock_text timestamp_text record_text opening_from opening closing labelled members json_value names_member told_in told_fields
password_told = refl

unanswered : unanswered_line NamedLines (record cut { time = None }) kinds.TgsReq (record quick { after = Some (record { microseconds = negsuc 2500000 }); waited = None }) ≡ codes "packet=46 t=- flow=tcp/127.0.0.1:88>127.0.0.1:54120 unanswered request=TGS-REQ of=44 after=-2.500001 waited=-\n"
unfolding digits record_text opening_from opening closing labelled value_text span_text told_in told_fields
unanswered = refl

-- ---- a port at which nobody listens
abbrev closed : How
closed = hows.Error (record { version = versions.V4; by = local; error_type = 3; code = 3 })

unreachable : unreachable_line NamedLines (record request { time = None }) closed (record quick { after = None; waited = None }) ≡ codes "packet=7 t=- flow=udp/127.0.0.1:59720>127.0.0.1:88 unreachable how=icmp by=127.0.0.1 type=3:destination-unreachable code=3:port-unreachable of=44 after=- waited=-\n"
unfolding digits record_text opening_from opening closing labelled value_text told_in told_fields
unreachable = refl

unreachable_object : unreachable_line Json (record request { time = None }) hows.Reset (record quick { after = None; waited = None }) ≡ codes "{\"kind\":\"unreachable\",\"packet\":7,\"t\":null,\"flow\":{\"over\":\"udp\",\"source\":{\"address\":\"127.0.0.1\",\"port\":59720},\"target\":{\"address\":\"127.0.0.1\",\"port\":88}},\"how\":\"reset\",\"by\":null,\"type\":null,\"code\":null,\"of\":44,\"after\":null,\"waited\":null,\"t_us\":null}\n"
unfolding digits record_text opening_from opening closing labelled members json_value names_member told_in told_fields
unreachable_object = refl

-- ---- ends
abbrev told : ToldCounts
told = record { answered = 4; unanswered = 1; again = 0; unreachable = 2 }

abbrev counts : CaptureCounts
counts = record { packets = 43; messages = 9; refused = 0; lost = 0; unread = 0 }

capture_end : capture_end_line Lines counts told ≡ codes "end packets=43 messages=9 refused=0 lost=0 unread=0\n"
unfolding digits opening closing labelled record_text value_text told_counts
capture_end = refl

named_capture_end : capture_end_line NamedLines counts told ≡ codes "end packets=43 messages=9 refused=0 lost=0 unread=0 answered=4 unanswered=1 again=0 unreachable=2\n"
unfolding digits opening closing labelled record_text value_text told_counts
named_capture_end = refl

capture_refused : capture_refused_line NamedLines counts told 8928 why.Truncated (Some (codes "block[45].body")) (record { at = 8920; length = None }) ≡ codes "refused packets=43 messages=9 refused=0 lost=0 unread=0 place=8928 why=3 Truncated in=block[45].body at=8920 length=- answered=4 unanswered=1 again=0 unreachable=2\n"
unfolding digits opening closing labelled record_text value_text told_counts
capture_refused = refl

capture_refused_object : capture_refused_line Json counts told 8928 why.Truncated (Some (codes "block[45].body")) (record { at = 8920; length = None }) ≡ codes "{\"kind\":\"refused\",\"packets\":43,\"messages\":9,\"refused\":0,\"lost\":0,\"unread\":0,\"place\":8928,\"why\":3,\"why_name\":\"Truncated\",\"in\":\"block[45].body\",\"at\":8920,\"length\":null,\"answered\":4,\"unanswered\":1,\"again\":0,\"unreachable\":2}\n"
unfolding digits opening closing labelled record_text members json_value names_member told_counts
capture_refused_object = refl
