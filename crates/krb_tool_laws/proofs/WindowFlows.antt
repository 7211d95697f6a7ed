-- What is told of an exchange is of flows between addresses and ports as their types have them, and of packets with small numbers.
use Rattle.std.proofs.Common.{ℕ, nat_lt, Bool, true, List, [], ◌∷◌, length, Option, Some, None, IfSome}
use Rattle.std.specs.Prelude.{slice_get}
use Rattle.std.specs.List.{AllByRecursion}
use Rattle.krb_record.specs.declared.flow.Flow.{Flow}
use Rattle.krb_record.specs.declared.told.Request.{Request}
use Rattle.krb_exchange.specs.Happened.{After, added, answered, at_place, before_of, begun, changed, ended_if, erred, error_taken, first_of, has_number, has_octets, in_state, is_asking, is_ended, is_open, is_open_request, is_syn, latest_place, latest_syn, open_in, open_syn, place_if, replaced, replied, request_of, requested, reversed, segment_taken, syn_after, syn_again, syn_anew, syn_answered, syn_of, syn_taken, told_of_reset, told_of_syn, with_room, with_state, with_syn, without_first}
use Rattle.krb_exchange.specs.declared.fingerprint.Fingerprint.{Fingerprint}
use Rattle.krb_exchange.specs.declared.parties.Header.{Header}
use Rattle.krb_exchange.specs.declared.parties.Reply.{Reply}
use Rattle.krb_exchange.specs.declared.sending.Moment.{Moment}
use Rattle.krb_exchange.specs.declared.sending.Sending.{Sending}
use Rattle.krb_exchange.specs.declared.sending.State.{State}
use Rattle.krb_exchange.specs.declared.sending.State.TheVariants as states
use Rattle.krb_exchange.specs.declared.sendings.RequestTold.{RequestTold}
use Rattle.krb_exchange.specs.declared.sendings.SegmentTold.{SegmentTold}
use Rattle.krb_laws.proofs.JsonStrings.{all-append}
use Rattle.krb_tool_laws.proofs.CaptureParts.{IsPort}
use Rattle.krb_tool_laws.proofs.FragmentOctets.{all_set, one_at}
use Rattle.krb_tool_laws.proofs.KeptEntries.{all_filtered, chosen}
use Rattle.krb_tool_laws.proofs.PacketOctets.{IsPacketNumber, IsTime}

abbrev pub IsRecordFlow : Flow → Type 0
IsRecordFlow flow = IsPort flow.source × IsPort flow.target

-- the number of a packet, and its time
pub record IsMoment (moment : Moment) : Type 0 where
  pub packet : IsPacketNumber moment.packet
  pub time : IsTime moment.time

pub record IsSending (sending : Sending) : Type 0 where
  pub flow : IsRecordFlow sending.flow
  pub sent : IsMoment sending.sent
  pub first : IsMoment sending.first

abbrev pub AreSendings : List Sending → Type 0
AreSendings window = AllByRecursion IsSending window

-- one that is told, if one is
abbrev pub IsTold : Option Sending → Type 0
IsTold told = IfSome told IsSending

pub place_is : (place : Option ℕ) (window : List Sending) → AreSendings window → IsTold (at_place place window)
place_is None window are = tt
place_is (Some place) window are = one_at IsSending window place are

state_kept : (state : State) (one : Sending) → IsSending one → IsSending (in_state state one)
state_kept state one is = record { flow = is.flow; sent = is.sent; first = is.first }

changed_is : (state : State) (window : List Sending) (place : ℕ) (one : Option Sending) → AreSendings window → IsTold one → AreSendings (changed state window place one)
changed_is state window place None are is = are
changed_is state window place (Some one) are is = all_set IsSending window place (in_state state one) are (state_kept state one is)

state_is : (state : State) (place : Option ℕ) (window : List Sending) → AreSendings window → AreSendings (with_state state place window)
state_is state None window are = are
state_is state (Some place) window are = changed_is state window place (slice_get window place) are (one_at IsSending window place are)

-- ---- a sending is added
abbrev pub IsAfter : After (Option Sending) → Type 0
IsAfter after = IsTold after.told × AreSendings after.window

first_is : (window : List Sending) → AreSendings window → IsAfter (without_first window)
first_is [] are = (tt, tt)
first_is (first ∷ others) are = (chosen IsTold (is_open first.state) (Some first) None are.0 tt, are.1)

room_is : (window : List Sending) → AreSendings window → IsAfter (with_room window)
room_is window are = chosen IsAfter (nat_lt (length window) 65536) (record { told = None; window = window }) (without_first window) (tt, are) (first_is window are)

added_is : (sending : Sending) (window : List Sending) → IsSending sending → AreSendings window → IsAfter (added sending window)
added_is sending window is are =
    let room : IsAfter (with_room window) = room_is window are in
    (room.0, all-append IsSending (with_room window).window (sending ∷ []) room.1 (is, tt))

-- ---- messages
abbrev pub IsRequested : After RequestTold → Type 0
IsRequested after = IsTold after.told.missed × AreSendings after.window

first_sent : (before : Option Sending) (sent : Moment) → IsTold before → IsMoment sent → IsMoment (first_of before sent)
first_sent None sent told is = is
first_sent (Some before) sent told is = told.first

pub before_is : (octets : Fingerprint) (window : List Sending) → AreSendings window → IsTold (before_of octets window)
before_is octets window are = place_is (latest_place (λ one. has_octets octets one.what) window) window are

pub requested_is : (kind : Request) (flow : Flow) (octets : Fingerprint) (sent : Moment) (window : List Sending) → IsRecordFlow flow → IsMoment sent → AreSendings window → IsRequested (requested kind flow octets sent window)
requested_is kind flow octets sent window is now are =
    added_is (request_of kind flow octets sent (before_of octets window)) (with_state states.Ended (replaced kind flow octets window) window)
    (record { flow = is; sent = now; first = first_sent (before_of octets window) sent (before_is octets window are) now })
    (state_is states.Ended (replaced kind flow octets window) window are)

pub replied_is : (reply : Reply) (flow : Flow) (window : List Sending) → AreSendings window → IsAfter (replied reply flow window)
replied_is reply flow window are = (place_is (answered reply flow window) window are, state_is states.Ended (answered reply flow window) window are)

-- ---- segments and errors
ended_is : (test : Sending → Bool) (window : List Sending) → AreSendings window → AreSendings (ended_if test window)
ended_is test [] are = tt
ended_is test (one ∷ others) are = (chosen IsSending (test one) (in_state states.Ended one) one (state_kept states.Ended one are.0) are.0, ended_is test others are.1)

abbrev pub AreTold : After (List Sending) → Type 0
AreTold after = AreSendings after.told × AreSendings after.window

pub begun_is : (flow : Flow) (window : List Sending) → AreSendings window → AreTold (begun flow window)
begun_is flow window are = (all_filtered IsSending (is_open_request flow (λ _. true)) window are, ended_is (is_open_request flow (λ _. true)) window are)

answered_is : (flow : Flow) (window : List Sending) → AreSendings window → IsAfter (syn_answered flow window)
answered_is flow window are = (place_is (open_syn flow window) window are, state_is states.Ended (open_syn flow window) window are)

abbrev pub IsSegmentTold : After SegmentTold → Type 0
IsSegmentTold after = (IsTold after.told.reset × IsTold after.told.silent × IsTold after.told.missed) × AreSendings after.window

with_syn_is : (silent : Option Sending) (syn : Sending) (window : List Sending) → IsTold silent → IsSending syn → AreSendings window → IsSegmentTold (with_syn silent syn window)
with_syn_is silent syn window told is are = let its : IsAfter (added syn window) = added_is syn window is are in ((tt, told, its.0), its.1)

anew_is : (number : ℕ) (flow : Flow) (sent : Moment) (window : List Sending) → IsRecordFlow flow → IsMoment sent → AreSendings window → IsSegmentTold (syn_anew number flow sent window)
anew_is number flow sent window is now are =
    let its : IsAfter (syn_answered flow window) = answered_is flow window are in
    with_syn_is (syn_answered flow window).told (syn_of number flow sent sent) (syn_answered flow window).window its.0 (record { flow = is; sent = now; first = now }) its.1

again_is : (number : ℕ) (flow : Flow) (sent : Moment) (before : Sending) (window : List Sending) → IsRecordFlow flow → IsMoment sent → IsSending before → AreSendings window → IsSegmentTold (syn_again number flow sent before window)
again_is number flow sent before window is now its are =
    chosen IsSegmentTold (is_ended before.state) (record { told = told_of_syn None None; window = window }) (with_syn None (syn_of number flow sent before.first) (with_state states.Ended (latest_syn flow window) window)) ((tt, tt, tt), are)
    (with_syn_is None (syn_of number flow sent before.first) (with_state states.Ended (latest_syn flow window) window) tt (record { flow = is; sent = now; first = its.first }) (state_is states.Ended (latest_syn flow window) window are))

syn_is : (number : ℕ) (flow : Flow) (sent : Moment) (before : Option Sending) (window : List Sending) → IsRecordFlow flow → IsMoment sent → IsTold before → AreSendings window → IsSegmentTold (syn_after number flow sent before window)
syn_is number flow sent None window is now told are = anew_is number flow sent window is now are
syn_is number flow sent (Some before) window is now told are =
    chosen IsSegmentTold (has_number number before.what) (syn_again number flow sent before window) (syn_anew number flow sent window) (again_is number flow sent before window is now told are) (anew_is number flow sent window is now are)

pub segment_is : (header : Header) (flow : Flow) (sent : Moment) (window : List Sending) → IsRecordFlow flow → IsMoment sent → AreSendings window → IsSegmentTold (segment_taken header flow sent window)
segment_is header flow sent window is now are =
    let back : After (Option Sending) = syn_answered (reversed flow) window in
    let back_is : IsAfter back = answered_is (reversed flow) window are in
    chosen IsSegmentTold (is_asking header) (syn_taken header.sequence flow sent back.window) (record { told = told_of_reset header back.told; window = (syn_answered flow back.window).window })
    (syn_is header.sequence flow sent (at_place (latest_syn flow back.window) back.window) back.window is now (place_is (latest_syn flow back.window) back.window back_is.1) back_is.1)
    ((chosen IsTold header.rst back.told None back_is.0 tt, tt, tt), (answered_is flow back.window back_is.1).1)

pub error_is : (flow : Flow) (window : List Sending) → AreSendings window → IsAfter (error_taken flow window)
error_is flow window are = (place_is (erred flow window) window are, state_is states.Erred (place_if (λ one. is_syn one.what) (erred flow window) window) window are)

pub open_is : (window : List Sending) → AreSendings window → AreSendings (open_in window)
open_is window are = all_filtered IsSending (λ one. is_open one.state) window are
