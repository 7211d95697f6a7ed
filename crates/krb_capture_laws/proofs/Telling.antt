-- What is told of something that is found is what is told of its event.
use Rattle.std.proofs.Common.{◌≡◌, ℕ, zero, suc, ◌-◌, ◌==◌, arith, Bool, true, false, if◌then◌else◌, List, [], ◌∷◌, ◌++◌, length, map, take, drop, Option, None, Some, refl, sym, ◌∙◌, ap, ap₂, append-nil, ne_eqb}
use Rattle.krb_exchange.specs.Happened.{begun, error_taken, listed, open_in, requested, segment_taken}
use Rattle.krb_exchange.specs.Fingerprints.{fingerprint_of}
use Rattle.krb_exchange.specs.declared.fingerprint.Fingerprint.{Fingerprint}
use Rattle.krb_exchange.specs.declared.parties.Reply.{Reply}
use Rattle.krb_exchange.specs.declared.parties.Reply.TheVariants as replies
use Rattle.krb_exchange.specs.declared.sending.Moment.{Moment}
use Rattle.krb_exchange.specs.declared.sending.Sending.{Sending}
use Rattle.krb_exchange_laws.specs.Events
use Rattle.krb_msg.specs.declared.message.Kind.{Kind}
use Rattle.krb_msg.specs.declared.message.Kind.TheVariants as kinds
use Rattle.krb_capture.specs.Labels.{Label}
use Rattle.krb_record.specs.declared.capture_origin.CaptureOrigin.{CaptureOrigin}
use Rattle.krb_record.specs.declared.told.Request.{Request}
use Rattle.krb_record.specs.declared.told.Request.TheVariants as requests
use Rattle.krb_record.specs.declared.told.Told.{Told}
use Rattle.krb_record.specs.declared.told.Told.TheVariants as told
use Rattle.krb_capture.specs.Captures.{Finding, happened_each, lines_of}
use Rattle.krb_capture.specs.Found.{Begun, Failed, Faulty, Found, Joined, Missing, Password, Sent, Unread, Whole, found_heard, found_line, found_text}
use Rattle.krb_capture.specs.Happened.{Heard, answer_with, begins_ap_req, by_part, end_lines, kind_in, kind_role, kind_tells, missed, moment_of, news_lines, news_told, nothing_happened, password_event, password_role, reply_heard, request_heard, reset, role_heard, told_by, unread_event}
use Rattle.krb_capture.specs.declared.happened.Happened.{Happened}
use Rattle.krb_capture_laws.specs.Exchanges.{EndTellsOfEvents, LinesTellOfEvents, events_from, events_of, failed_line, first_told, lines_with, message_events, message_told, missed_line, missed_lines, parts_after, password_events, reset_lines, text_with, unless_parts}

-- ---- the lines of records that are told
missed-once : (label : Label) (now : Moment) (one : Option Sending) → news_lines label now (missed one) ≡ missed_lines label now (listed one)
missed-once label now None = refl
missed-once label now (Some one) = refl

-- by whatever records they are
missed-each : {N : Type 0} (label : Label) (now : Moment) (f : Sending → N) (lines : List N → List ℕ) → lines [] ≡ [] → ((one : Sending) (others : List N) → lines (f one ∷ others) ≡ missed_line label now one ++ lines others) → (sendings : List Sending) → lines (map f sendings) ≡ missed_lines label now sendings
missed-each label now f lines none more [] = none
missed-each label now f lines none more (one ∷ others) = more one (map f others) ∙ ap (λ xs. missed_line label now one ++ xs) (missed-each label now f lines none more others)

missed-two : (label : Label) (now : Moment) (b c : Option Sending) → news_lines label now (missed b ++ missed c) ≡ missed_lines label now (listed b ++ listed c)
missed-two label now None None = refl
missed-two label now None (Some c) = refl
missed-two label now (Some b) None = refl
missed-two label now (Some b) (Some c) = refl

segment-lines : (label : Label) (now : Moment) (a b c : Option Sending) → news_lines label now (reset a ++ missed b ++ missed c) ≡ reset_lines label now a ++ missed_lines label now (listed b ++ listed c)
segment-lines label now None b c = missed-two label now b c
segment-lines label now (Some a) b c = ap (λ xs. reset_lines label now (Some a) ++ xs) (missed-two label now b c)

-- ---- what is told of something that is found, and what is remembered after it
abbrev told_of : ℕ → List Sending → CaptureOrigin → Found → Events.Told
told_of parts window origin found = first_told (Events.heard_from window (events_of parts origin found))

pub record IsTold (origin : CaptureOrigin) (found : Found) (happened : Happened) : Type 0 where
  pub text : (label : Label) → found_text label origin found (Some happened) ≡ text_with label origin found (told_of happened.parts happened.sendings origin found)
  pub sendings : (found_heard origin found happened).happened.sendings ≡ Events.window_from happened.sendings (events_of happened.parts origin found)
  pub parts : (found_heard origin found happened).happened.parts ≡ parts_after happened.parts found

-- ---- what follows something that is found
record Follows (origin : CaptureOrigin) (events : List Events.Event) (happened : Happened) (after : Heard) : Type 0 where
  lines : (label : Label) → news_lines label (moment_of origin) after.news ≡ reset_lines label (moment_of origin) (first_told (Events.heard_from happened.sendings events)).resets ++ missed_lines label (moment_of origin) (first_told (Events.heard_from happened.sendings events)).missed
  sendings : after.happened.sendings ≡ Events.window_from happened.sendings events
  parts : after.happened.parts ≡ happened.parts

-- neither a request nor a reply; a request; and a reply
neither-follows : (origin : CaptureOrigin) (happened : Happened) → Follows origin [] happened (record { news = []; happened = happened })
neither-follows origin happened = record { lines = λ label. refl; sendings = refl; parts = refl }

request-follows : (kind : Request) (octets : Fingerprint) (origin : CaptureOrigin) (happened : Happened) → Follows origin (Events.Requested kind origin.flow octets (moment_of origin) ∷ []) happened (request_heard kind octets origin happened)
request-follows kind octets origin happened = record { lines = λ label. missed-once label (moment_of origin) (requested kind origin.flow octets (moment_of origin) happened.sendings).told.missed; sendings = refl; parts = refl }

reply-follows : (reply : Reply) (origin : CaptureOrigin) (happened : Happened) → Follows origin (Events.Replied reply origin.flow (moment_of origin) ∷ []) happened (reply_heard reply origin happened)
reply-follows reply origin happened = record { lines = λ label. refl; sendings = refl; parts = refl }

-- ---- a message by its kind
kind-told : (kind : Option Kind) (octets : List ℕ) (origin : CaptureOrigin) (window : List Sending) → told_by (kind_tells kind) (kind_role kind octets) origin window ≡ message_told kind (first_told (Events.heard_from window (message_events kind octets origin))) (moment_of origin)
kind-told (Some kinds.AsReq) octets origin window = refl
kind-told (Some kinds.TgsReq) octets origin window = refl
kind-told (Some kinds.AsRep) octets origin window = refl
kind-told (Some kinds.TgsRep) octets origin window = refl
kind-told (Some kinds.KrbError) octets origin window = refl
kind-told kind octets origin window = refl

kind-follows : (kind : Option Kind) (octets : List ℕ) (origin : CaptureOrigin) (happened : Happened) → Follows origin (message_events kind octets origin) happened (role_heard (kind_role kind octets) origin happened)
kind-follows (Some kinds.AsReq) octets origin happened = request-follows requests.AsReq (fingerprint_of octets) origin happened
kind-follows (Some kinds.TgsReq) octets origin happened = request-follows requests.TgsReq (fingerprint_of octets) origin happened
kind-follows (Some kinds.AsRep) octets origin happened = reply-follows replies.AsRep origin happened
kind-follows (Some kinds.TgsRep) octets origin happened = reply-follows replies.TgsRep origin happened
kind-follows (Some kinds.KrbError) octets origin happened = reply-follows replies.Error origin happened
kind-follows kind octets origin happened = neither-follows origin happened

pub not-none : (n : ℕ) → (suc n == 0) ≡ false
not-none n = ne_eqb (suc n) 0 (λ e. omega arith)

-- a part of a message that changes a password tells nothing of an event
part-told : (kind : Option Kind) (octets : List ℕ) (n : ℕ) (origin : CaptureOrigin) (window : List Sending) → told_by (by_part (suc n) (record { tells = kind_tells kind; role = kind_role kind octets })).tells (by_part (suc n) (record { tells = kind_tells kind; role = kind_role kind octets })).role origin window ≡ message_told kind Events.nothing (moment_of origin)
part-told (Some kinds.AsReq) octets n origin window = rw (not-none n)
part-told (Some kinds.TgsReq) octets n origin window = rw (not-none n)
part-told (Some kinds.AsRep) octets n origin window = rw (not-none n)
part-told (Some kinds.TgsRep) octets n origin window = rw (not-none n)
part-told (Some kinds.KrbError) octets n origin window = rw (not-none n)
part-told kind octets n origin window = rw (not-none n)

whole-told : (parts : ℕ) (kind : Option Kind) (octets : List ℕ) (origin : CaptureOrigin) (window : List Sending) → told_by (by_part parts (record { tells = kind_tells kind; role = kind_role kind octets })).tells (by_part parts (record { tells = kind_tells kind; role = kind_role kind octets })).role origin window ≡ message_told kind (first_told (Events.heard_from window (unless_parts parts (message_events kind octets origin)))) (moment_of origin)
whole-told zero kind octets origin window = kind-told kind octets origin window
whole-told (suc n) kind octets origin window =
    let none : unless_parts (suc n) (message_events kind octets origin) ≡ [] = ap (λ b. if b then message_events kind octets origin else []) (not-none n) in
    part-told kind octets n origin window ∙ ap (λ events. message_told kind (first_told (Events.heard_from window events)) (moment_of origin)) (sym none)

whole-follows : (parts : ℕ) (kind : Option Kind) (octets : List ℕ) (origin : CaptureOrigin) (happened : Happened) → Follows origin (unless_parts parts (message_events kind octets origin)) happened (role_heard (by_part parts (record { tells = kind_tells kind; role = kind_role kind octets })).role origin happened)
whole-follows zero kind octets origin happened = kind-follows kind octets origin happened
whole-follows (suc n) kind octets origin happened = rw (not-none n) (neither-follows origin happened)

-- ---- a refusal, and octets that are lost
unread-told : (parts : ℕ) (origin : CaptureOrigin) (window : List Sending) → told_by (by_part parts unread_event).tells (by_part parts unread_event).role origin window ≡ told.Reply (answer_with (first_told (Events.heard_from window (unless_parts parts (Events.Replied replies.Unread origin.flow (moment_of origin) ∷ [])))).answers (moment_of origin))
unread-told zero origin window = refl
unread-told (suc n) origin window = rw (not-none n)

unread-follows : (parts : ℕ) (origin : CaptureOrigin) (happened : Happened) → Follows origin (unless_parts parts (Events.Replied replies.Unread origin.flow (moment_of origin) ∷ [])) happened (role_heard (by_part parts unread_event).role origin happened)
unread-follows zero origin happened = reply-follows replies.Unread origin happened
unread-follows (suc n) origin happened = rw (not-none n) (neither-follows origin happened)

-- ---- a message that changes a password
password-told : (b : Bool) (octets ap : List ℕ) (origin : CaptureOrigin) (window : List Sending) → told_by (password_event octets ap).tells (password_role b octets) origin window ≡ told.Either (first_told (Events.heard_from window (password_events b octets origin))).again (answer_with (first_told (Events.heard_from window (password_events b octets origin))).answers (moment_of origin))
password-told true octets ap origin window = refl
password-told false octets ap origin window = refl

password-follows : (b : Bool) (octets : List ℕ) (origin : CaptureOrigin) (happened : Happened) → Follows origin (password_events b octets origin) happened (role_heard (password_role b octets) origin happened)
password-follows true octets origin happened = request-follows requests.Kpasswd (fingerprint_of octets) origin happened
password-follows false octets origin happened = reply-follows replies.Kpasswd origin happened

-- ---- whatever is found
abbrev fewer : Happened → Happened
fewer happened = record happened { parts = happened.parts - 1 }

both : (label : Label) (origin : CaptureOrigin) (found : Found) (a b : Told) (xs ys : List ℕ) → a ≡ b → xs ≡ ys → found_line label (record origin { told = a }) found ++ xs ≡ found_line label (record origin { told = b }) found ++ ys
both label origin found a b xs ys e d = λ i. found_line label (record origin { told = e i }) found ++ d i

pub found-told : (origin : CaptureOrigin) (found : Found) (happened : Happened) → IsTold origin found happened
found-told origin (Whole octets) happened =
    let after = whole-follows happened.parts (kind_in octets) octets origin (fewer happened) in
    record { text = λ label. both label origin (Whole octets) _ _ _ _ (whole-told happened.parts (kind_in octets) octets origin happened.sendings) (after.lines label); sendings = after.sendings; parts = after.parts }
found-told origin (Faulty refusal path extent) happened =
    let after = unread-follows happened.parts origin (fewer happened) in
    record { text = λ label. both label origin (Faulty refusal path extent) _ _ _ _ (unread-told happened.parts origin happened.sendings) (after.lines label); sendings = after.sendings; parts = after.parts }
found-told origin Begun happened = record { text = λ label. missed-each label (moment_of origin) _ (news_lines label (moment_of origin)) refl (λ one others. refl) (begun origin.flow happened.sendings).told; sendings = refl; parts = refl }
found-told origin Joined happened = record { text = λ label. refl; sendings = refl; parts = refl }
found-told origin (Missing place octets path) happened =
    let after = unread-follows happened.parts origin (fewer happened) in
    record { text = λ label. both label origin (Missing place octets path) _ _ _ _ (unread-told happened.parts origin happened.sendings) (after.lines label); sendings = after.sendings; parts = after.parts }
found-told origin (Password octets version size rest) happened =
    let ap_req = take size (drop 6 octets) in
    let after = password-follows (begins_ap_req ap_req) octets origin (fewer happened) in
    record { text = λ label. both label origin (Password octets version size rest) _ _ _ _ (password-told (begins_ap_req ap_req) octets ap_req origin happened.sendings) (after.lines label); sendings = after.sendings; parts = refl }
found-told origin (Unread place octets why) happened = record { text = λ label. refl; sendings = refl; parts = refl }
found-told origin (Sent header) happened =
    let after = (segment_taken header origin.flow (moment_of origin) happened.sendings).told in
    record { text = λ label. segment-lines label (moment_of origin) after.reset after.silent after.missed; sendings = refl; parts = refl }
found-told origin (Failed error) happened = record { text = λ label. append-nil (failed_line label origin error (error_taken origin.flow happened.sendings).told); sendings = refl; parts = refl }

-- ---- one event after another
pub heard-append : (events others : List Events.Event) (window : List Sending) → Events.heard_from window (events ++ others) ≡ Events.heard_from window events ++ Events.heard_from (Events.window_from window events) others
heard-append [] others window = refl
heard-append (event ∷ events) others window = ap (λ told. record { event = event; told = (Events.taken event window).told } ∷ told) (heard-append events others (Events.taken event window).window)

window-append : (events others : List Events.Event) (window : List Sending) → Events.window_from window (events ++ others) ≡ Events.window_from (Events.window_from window events) others
window-append [] others window = refl
window-append (event ∷ events) others window = window-append events others (Events.taken event window).window

heard-length : (events : List Events.Event) (window : List Sending) → length (Events.heard_from window events) ≡ length events
heard-length [] window = refl
heard-length (event ∷ events) window = ap (λ n. suc n) (heard-length events (Events.taken event window).window)

take-first : (first others : List Events.Heard) (n : ℕ) → length first ≡ n → take n (first ++ others) ≡ first
take-first [] others n e = ap (λ k. take k others) (sym e)
take-first (x ∷ first) others n e = ap (λ k. take k (x ∷ first ++ others)) (sym e) ∙ ap (λ xs. x ∷ xs) (take-first first others (length first) refl)

drop-first : (first others : List Events.Heard) (n : ℕ) → length first ≡ n → drop n (first ++ others) ≡ others
drop-first [] others n e = ap (λ k. drop k others) (sym e)
drop-first (x ∷ first) others n e = ap (λ k. drop k (x ∷ first ++ others)) (sym e) ∙ drop-first first others (length first) refl

-- what is remembered after something that is found
abbrev pub then_told : CaptureOrigin → Found → Happened → Happened
then_told origin found happened = news_told (found_heard origin found happened)

lines-told : (label : Label) (found : List Finding) (happened : Happened) → lines_of label (Some happened) found ≡ lines_with label happened.parts found (Events.heard_from happened.sendings (events_from happened.parts found))
lines-told label [] happened = refl
lines-told label (one ∷ others) happened =
    let events = events_of happened.parts one.0 one.1 in
    let this = found-told one.0 one.1 happened in
    let next = then_told one.0 one.1 happened in
    let first = Events.heard_from happened.sendings events in
    let rest = Events.heard_from (Events.window_from happened.sendings events) (events_from (parts_after happened.parts one.1) others) in
    let all = Events.heard_from happened.sendings (events ++ events_from (parts_after happened.parts one.1) others) in
    let split : all ≡ first ++ rest = heard-append events (events_from (parts_after happened.parts one.1) others) happened.sendings in
    let taken : take (length events) all ≡ first = ap (λ xs. take (length events) xs) split ∙ take-first first rest (length events) (heard-length events happened.sendings) in
    let left : drop (length events) all ≡ rest = ap (λ xs. drop (length events) xs) split ∙ drop-first first rest (length events) (heard-length events happened.sendings) in
    let here : found_text label one.0 one.1 (Some happened) ≡ text_with label one.0 one.1 (first_told first) = this.text label in
    let others_told : lines_of label (Some next) others ≡ lines_with label (parts_after happened.parts one.1) others rest =
    lines-told label others next ∙ ap₂ (λ parts sendings. lines_with label parts others (Events.heard_from sendings (events_from parts others))) this.parts this.sendings in
    ap₂ (λ xs ys. xs ++ ys) (here ∙ ap (λ xs. text_with label one.0 one.1 (first_told xs)) (sym taken)) (others_told ∙ ap (λ xs. lines_with label (parts_after happened.parts one.1) others xs) (sym left))

pub lines_tell_of_events : LinesTellOfEvents
lines_tell_of_events label found = lines-told label found nothing_happened

-- ---- at the end
abbrev pub happened_from : List Finding → Happened → Happened
happened_from [] happened = happened
happened_from (one ∷ others) happened = happened_from others (then_told one.0 one.1 happened)

pub each-from : (found : List Finding) (happened : Happened) → happened_each found (Some happened) ≡ Some (happened_from found happened)
each-from [] happened = refl
each-from (one ∷ others) happened = each-from others (then_told one.0 one.1 happened)

pub sendings-from : (found : List Finding) (happened : Happened) → (happened_from found happened).sendings ≡ Events.window_from happened.sendings (events_from happened.parts found)
sendings-from [] happened = refl
sendings-from (one ∷ others) happened =
    let events = events_of happened.parts one.0 one.1 in
    let this = found-told one.0 one.1 happened in
    sendings-from others (then_told one.0 one.1 happened)
    ∙ ap₂ (λ parts sendings. Events.window_from sendings (events_from parts others)) this.parts this.sendings
    ∙ sym (window-append events (events_from (parts_after happened.parts one.1) others) happened.sendings)

pub end_tells_of_events : EndTellsOfEvents
end_tells_of_events label now found =
    ap (λ happened. end_lines label now happened) (each-from found nothing_happened)
    ∙ missed-each label now _ (news_lines label now) refl (λ one others. refl) (open_in (happened_from found nothing_happened).sendings)
    ∙ ap (λ window. missed_lines label now (open_in window)) (sendings-from found nothing_happened)
