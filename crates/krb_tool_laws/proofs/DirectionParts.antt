-- What is found in the directions of connections, and what is kept of them.
use Rattle.std.proofs.Common.{ℕ, nat_lt, if◌then◌else◌, List, [], ◌∷◌, length, Option, Some, None, IfSome, arith}
use Rattle.std.specs.List.{AllByRecursion}
use Rattle.std.specs.Ordering.{nat_cmp}
use Rattle.std.specs.Map.{lookup, remove_entry}
use Rattle.std.specs.BTreeMap.{is_at}
use Rattle.krb_laws.proofs.JsonStrings.{all-append}
use Rattle.krb_packet.specs.declared.contents.Segment.{Segment}
use Rattle.krb_flow.specs.Directions.{had_of, step}
use Rattle.krb_flow.specs.Unread.{nothing, of_reset, untaken_of}
use Rattle.krb_flow.specs.declared.direction.State.{State}
use Rattle.krb_flow.specs.declared.direction.State.TheVariants as states
use Rattle.krb_flow.specs.declared.had.Had.{Had}
use Rattle.krb_capture.specs.Directions.{Followed, Table, active_with, after_found, begins, begun, by_number, copied, ended_with, flow_cmp, flow_of, followed, gone_on, in_flow, kept, last_of, nothing_found, of_ended, of_known, of_new, passed_over, with_one_less, with_room, without}
use Rattle.krb_capture.specs.Found.{Found}
use Rattle.krb_capture.specs.Recent.{still_kept}
use Rattle.krb_capture.specs.Sending.{Sent, after_segment, last_found, segment_found, sent_from, step_of, untaken_found}
use Rattle.krb_capture.specs.declared.directions.Gone.{Gone}
use Rattle.krb_capture.specs.declared.flow.Flow.{Flow}
use Rattle.krb_capture.specs.declared.flow.Service.{Service}
use Rattle.krb_capture.specs.declared.sending.Step.{Step}
use Rattle.krb_tool_laws.proofs.CaptureParts.{IsPort}
use Rattle.krb_tool_laws.proofs.ContentOctets.{IsSegment}
use Rattle.krb_tool_laws.proofs.FlowOctets.{IsHad, IsState, IsStream, step_is, stream_is}
use Rattle.krb_tool_laws.proofs.FoundParts.{AreFound, IsFound, Rules, last_found_is, segment_is, untaken_found_is}
use Rattle.krb_tool_laws.proofs.KeptEntries.{AreKept, chosen, kept_found, kept_inserted, kept_removed}
use Rattle.krb_tool_laws.proofs.UntakenPlaces.{reset_untaken, untaken_is}

-- ---- what is shown of each
abbrev pub IsFlow : Flow → Type 0
IsFlow flow = IsPort flow.source × IsPort flow.target

pub record IsDirection (sent : Sent) : Type 0 where
  pub flow : IsFlow sent.flow
  pub stream : IsStream sent.state sent.stream
  pub state_is : IsState sent.state

-- what one had that ended
abbrev pub IsGone : Gone → Type 0
IsGone gone = IsHad gone.had

pub record IsTable (table : Table) : Type 0 where
  pub active : AreKept {K = ℕ} IsDirection table.active
  pub ended : AreKept {K = ℕ} IsGone table.ended

abbrev pub IsInFlow : Flow × Found → Type 0
IsInFlow one = IsFlow one.0 × IsFound one.1

abbrev pub AreInFlows : List (Flow × Found) → Type 0
AreInFlows found = AllByRecursion IsInFlow found

abbrev pub IsFollowed : Followed → Type 0
IsFollowed f = AreInFlows f.found × IsTable f.table

in_flow_is : (flow : Flow) (found : List Found) → IsFlow flow → AreFound found → AreInFlows (in_flow flow found)
in_flow_is flow [] is are = tt
in_flow_is flow (first ∷ others) is are = ((is, are.0), in_flow_is flow others is are.1)

active_is : (had : Option Had) (number : ℕ) (sent : Sent) (active : List (ℕ × Sent)) → IsDirection sent → AreKept {K = ℕ} IsDirection active → AreKept {K = ℕ} IsDirection (active_with had number sent active)
active_is None number sent active is are = kept_inserted IsDirection nat_cmp active number sent are is
active_is (Some had) number sent active is are = are

ended_is : (had : Option Had) (number : ℕ) (flow : Flow) (nth : ℕ) (ended : List (ℕ × Gone)) → IfSome had IsHad → AreKept {K = ℕ} IsGone ended → AreKept {K = ℕ} IsGone (ended_with had number flow nth ended)
ended_is None number flow nth ended is are = are
ended_is (Some had) number flow nth ended is are = kept_inserted IsGone nat_cmp ended number (record { flow = flow; had = had; nth = nth }) are is

kept_is : (flow : Flow) (number : ℕ) (step : Step) (sent : Sent) (table : Table) → IfSome step.ended IsHad → IsDirection sent → IsTable table → IsTable (kept flow number step sent table)
kept_is flow number step sent table had is are = record { active = active_is step.ended number sent table.active is are.active; ended = ended_is step.ended number flow (length table.streams) table.ended had are.ended }

had_is : (state : State) → IsState state → IfSome (had_of state) IsHad
had_is states.Fresh are = tt
had_is (states.Open progress) are = tt
had_is (states.Ended gone) are = are

step_had : (state : State) (segment : Segment) → IsState state → IsSegment segment → IfSome (step_of state segment).ended IsHad
step_had state segment are its = had_is (step state segment).1 (step_is state segment are its.1).state_is

after_is : (sent : Sent) (segment : Segment) → IsDirection sent → IsSegment segment → IsDirection (after_segment sent segment)
after_is sent segment is its = record { flow = is.flow; stream = stream_is sent.state sent.stream segment is.stream is.state_is its.1; state_is = (step_is sent.state segment is.state_is its.1).state_is }

no_stream : (state : State) → IsStream state []
no_stream state = record { octets = tt; counted = omega arith }

module _ (p : Rules) (limit : ℕ) where
  begun_is : (packet : ℕ) (service : Service) (state : State) (segment : Segment) (table : Table) → IsState state → IsSegment segment → IsTable table → IsFollowed (begun limit packet service state segment table)
  begun_is packet service state segment table is its are =
      let sent : Sent = sent_from (flow_of segment) service state in (
        in_flow_is (flow_of segment) (segment_found limit sent segment) its.0 (segment_is p limit sent segment (no_stream state) is its.1),
        kept_is (flow_of segment) packet (step_of sent.state segment) (after_segment sent segment) table (step_had state segment is its) (after_is sent segment (record { flow = its.0; stream = no_stream state; state_is = is }) its) are,
      )

  gone_is : (packet number : ℕ) (sent : Sent) (segment : Segment) (table : Table) → IsDirection sent → IsSegment segment → IsTable table → IsFollowed (gone_on limit packet number sent segment table)
  gone_is packet number sent segment table is its are = (
    in_flow_is sent.flow (segment_found limit sent segment) is.flow (segment_is p limit sent segment is.stream is.state_is its.1),
    kept_is sent.flow (if (step_of sent.state segment).began then packet else number) (step_of sent.state segment) (after_segment sent segment) (without number table) (step_had sent.state segment is.state_is its) (after_is sent segment is its)
        (record { active = kept_removed IsDirection (is_at (nat_cmp number)) table.active are.active; ended = are.ended }),
  )

  less_is : (ended : List (ℕ × Gone)) (active : List (ℕ × Sent)) (table : Table) → AreKept {K = ℕ} IsGone ended → AreKept {K = ℕ} IsDirection active → IsTable table → IsFollowed (with_one_less limit ended active table)
  less_is (first ∷ others) active table gone_are kept_are are = (tt, record { active = are.active; ended = gone_are.1 })
  less_is [] (first ∷ others) table gone_are kept_are are =
      (in_flow_is first.1.flow (last_found limit first.1) kept_are.0.flow (last_found_is p limit first.1 kept_are.0.stream kept_are.0.state_is), record { active = kept_are.1; ended = are.ended })
  less_is [] [] table gone_are kept_are are = (tt, are)

  room_is : (table : Table) → IsTable table → IsFollowed (with_room limit table)
  room_is table are = chosen IsFollowed (nat_lt (length table.numbers) 65536) (nothing_found table) (with_one_less limit table.ended table.active table) (tt, are) (less_is table.ended table.active table are.ended are.active are)

  passed_is : (segment : Segment) (table : Table) → IsSegment segment → IsTable table → IsFollowed (passed_over segment table)
  passed_is segment table its are = (in_flow_is (flow_of segment) (untaken_found (record nothing { apart = of_reset segment })) its.0 (untaken_found_is p (record nothing { apart = of_reset segment }) (reset_untaken segment its.1)), are)

  new_is : (packet : ℕ) (service : Service) (segment : Segment) (table : Table) → IsSegment segment → IsTable table → IsFollowed (of_new limit packet service segment table)
  new_is packet service segment table its are =
      let room : Followed = with_room limit table in
      let has_room : IsFollowed room = room_is table are in
      let then_begun : IsFollowed (begun limit packet service states.Fresh segment room.table) = begun_is packet service states.Fresh segment room.table tt its has_room.1 in
      chosen IsFollowed (begins segment) (after_found room.found (begun limit packet service states.Fresh segment room.table)) (passed_over segment table)
      (all-append IsInFlow room.found (begun limit packet service states.Fresh segment room.table).found has_room.0 then_begun.0, then_begun.1)
      (passed_is segment table its are)

  copied_is : (gone : Gone) (segment : Segment) (table : Table) → IsGone gone → IsSegment segment → IsTable table → IsFollowed (copied gone segment table)
  copied_is gone segment table is its are =
      let untaken = untaken_of (states.Ended gone.had) (still_kept table.streams gone.nth) segment in (
        in_flow_is (flow_of segment) (untaken_found untaken) its.0 (untaken_found_is p untaken (untaken_is (states.Ended gone.had) (still_kept table.streams gone.nth) segment is its.1)),
        are,
      )

  gone_ended : (packet number : ℕ) (gone : Option Gone) (service : Service) (segment : Segment) (table : Table) → IfSome gone IsGone → IsSegment segment → IsTable table → IsFollowed (of_ended limit packet number gone service segment table)
  gone_ended packet number None service segment table is its are = passed_is segment table its are
  gone_ended packet number (Some gone) service segment table is its are =
      let left : Table = record table { ended = remove_entry (is_at (nat_cmp number)) table.ended } in
      chosen IsFollowed (step_of (states.Ended gone.had) segment).began (begun limit packet service (states.Ended gone.had) segment left) (copied gone segment table)
      (begun_is packet service (states.Ended gone.had) segment left is its (record { active = are.active; ended = kept_removed IsGone (is_at (nat_cmp number)) table.ended are.ended }))
      (copied_is gone segment table is its are)

  known_is : (packet number : ℕ) (sent : Option Sent) (service : Service) (segment : Segment) (table : Table) → IfSome sent IsDirection → IsSegment segment → IsTable table → IsFollowed (of_known limit packet number sent service segment table)
  known_is packet number (Some sent) service segment table is its are = gone_is packet number sent segment table is its are
  known_is packet number None service segment table is its are =
      gone_ended packet number (lookup (is_at (nat_cmp number)) table.ended) service segment table (kept_found IsGone (is_at (nat_cmp number)) table.ended are.ended) its are

  number_is : (packet : ℕ) (number : Option ℕ) (service : Service) (segment : Segment) (table : Table) → IsSegment segment → IsTable table → IsFollowed (by_number limit packet number service segment table)
  number_is packet (Some number) service segment table its are = known_is packet number (lookup (is_at (nat_cmp number)) table.active) service segment table (kept_found IsDirection (is_at (nat_cmp number)) table.active are.active) its are
  number_is packet None service segment table its are = new_is packet service segment table its are

  pub followed_is : (packet : ℕ) (service : Service) (segment : Segment) (table : Table) → IsSegment segment → IsTable table → IsFollowed (followed limit packet service segment table)
  unfolding followed
  followed_is packet service segment table its are = number_is packet (lookup (is_at (flow_cmp (flow_of segment))) table.numbers) service segment table its are

  pub last_is : (active : List (ℕ × Sent)) → AreKept {K = ℕ} IsDirection active → AreInFlows (last_of limit active)
  last_is [] are = tt
  last_is (first ∷ others) are =
      all-append IsInFlow (in_flow first.1.flow (last_found limit first.1)) (last_of limit others) (in_flow_is first.1.flow (last_found limit first.1) are.0.flow (last_found_is p limit first.1 are.0.stream are.0.state_is)) (last_is others are.1)
