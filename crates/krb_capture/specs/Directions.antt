-- The directions of TCP connections that are kept, by their flows. Each has the number of the packet that began it, so that they are in the order in which they began.
use Rattle.std.specs.Prelude.{ℕ, ◌≡◌, ◌&&◌, ◌||◌, not, nat_lt, Bool, true, false, if◌then◌else◌, List, [], ◌∷◌, ◌++◌, length, map, Option, Some, None, Box}
use Rattle.std.specs.Ordering.{nat_cmp}
use Rattle.std.specs.Map.{lookup, remove_entry}
use Rattle.std.specs.BTreeMap.{insert_entry, is_at}
use Rattle.std.specs.declared.alloc.Global.{Global}
use Rattle.std.specs.declared.cmp.Ordering.{Ordering}
use Rattle.krb_packet.specs.declared.contents.Segment.{Segment}
use Rattle.krb_flow.specs.declared.direction.State.{State}
use Rattle.krb_flow.specs.declared.direction.State.TheVariants as states
use Rattle.krb_flow.specs.declared.had.Had.{Had}
use Rattle.krb_flow.specs.Unread.{nothing, of_reset, untaken_of}
use Rattle.krb_capture.specs.contracts.flow.FlowOrd.TheImpl as flow_order
use Rattle.krb_capture.specs.Flows.{flow_between}
use Rattle.krb_capture.specs.Found.{Found}
use Rattle.krb_capture.specs.Sending.{Sent, Represents, after_segment, last_found, segment_found, sent_from, step_of, untaken_found}
use Rattle.krb_capture.specs.Recent.{Remembers, still_kept}
use Rattle.krb_capture.specs.declared.directions.Directions.{Directions}
use Rattle.krb_capture.specs.declared.directions.Gone.{Gone}
use Rattle.krb_capture.specs.declared.directions.Last.{Last}
use Rattle.krb_capture.specs.declared.flow.Flow.{Flow}
use Rattle.krb_capture.specs.declared.flow.Service.{Service}
use Rattle.krb_capture.specs.declared.sending.Sending.{Sending}
use Rattle.krb_capture.specs.declared.sending.Step.{Step}

-- flows are ordered by their ports, then by their source and then by their target
abbrev pub flow_cmp : Flow → Flow → Ordering
flow_cmp = flow_order.ghosts.cmp

-- the number of the direction of each flow; the directions that have not ended; of those that have the flows, what they had, and how many ended before each; and what each direction that ended took, in the order in which they ended
pub record Table : Type 0 where
  pub numbers : List (Flow × ℕ)
  pub active : List (ℕ × Sent)
  pub ended : List (ℕ × Gone)
  pub streams : List (List ℕ)

abbrev pub no_directions : Table
no_directions = record { numbers = []; active = []; ended = []; streams = [] }

-- what is found in flows, and what is kept then
pub record Followed : Type 0 where
  pub found : List (Flow × Found)
  pub table : Table

abbrev pub nothing_found : Table → Followed
nothing_found table = record { found = []; table = table }

abbrev pub in_flow : Flow → List Found → List (Flow × Found)
in_flow flow found = map (λ one. (flow, one)) found

abbrev pub flow_of : Segment → Flow
flow_of segment = flow_between segment.source segment.target

-- ---- a direction is kept by its number, or what it had if it ended
abbrev pub active_with : Option Had → ℕ → Sent → List (ℕ × Sent) → List (ℕ × Sent)
active_with None number sent active = insert_entry nat_cmp active number sent
active_with (Some had) number sent active = active

abbrev pub ended_with : Option Had → ℕ → Flow → ℕ → List (ℕ × Gone) → List (ℕ × Gone)
ended_with None number flow nth ended = ended
ended_with (Some had) number flow nth ended = insert_entry nat_cmp ended number (record { flow = flow; had = had; nth = nth })

abbrev pub streams_with : Option Had → List ℕ → List (List ℕ) → List (List ℕ)
streams_with None stream streams = streams
streams_with (Some had) stream streams = streams ++ stream ∷ []

abbrev pub kept : Flow → ℕ → Step → Sent → Table → Table
kept flow number step sent table = record {
  numbers = if step.began then insert_entry flow_cmp table.numbers flow number else table.numbers;
  active = active_with step.ended number sent table.active;
  ended = ended_with step.ended number flow (length table.streams) table.ended;
  streams = streams_with step.ended sent.stream table.streams;
}

-- what a direction came to that is not kept, by what it had if it ended
abbrev pub state_after : Option Had → State
state_after None = states.Fresh
state_after (Some had) = states.Ended had

-- one that came to a state and begins, with the packet
abbrev pub begun : ℕ → ℕ → Service → State → Segment → Table → Followed
begun limit packet service state segment table =
    let sent = sent_from (flow_of segment) service state in
    record {
      found = in_flow (flow_of segment) (segment_found limit sent segment);
      table = kept (flow_of segment) packet (step_of sent.state segment) (after_segment sent segment) table;
    }

abbrev pub without : ℕ → Table → Table
without number table = record table { active = remove_entry (is_at (nat_cmp number)) table.active }

-- one that has not ended: if it begins anew it is the last one from then on
abbrev pub gone_on : ℕ → ℕ → ℕ → Sent → Segment → Table → Followed
gone_on limit packet number sent segment table =
    let step = step_of sent.state segment in
    record {
      found = in_flow sent.flow (segment_found limit sent segment);
      table = kept sent.flow (if step.began then packet else number) step (after_segment sent segment) (without number table);
    }

-- ---- room for one more: of at most 65536 the one that began first is forgotten among those that ended; if none has ended the one that began first ends
abbrev pub forgotten : Flow → Table → Table
forgotten flow table = record table { numbers = remove_entry (is_at (flow_cmp flow)) table.numbers }

abbrev pub with_one_less : ℕ → List (ℕ × Gone) → List (ℕ × Sent) → Table → Followed
with_one_less limit (first ∷ others) active table = nothing_found (forgotten first.1.flow (record table { ended = others }))
with_one_less limit [] (first ∷ others) table = record { found = in_flow first.1.flow (last_found limit first.1); table = forgotten first.1.flow (record table { active = others }) }
with_one_less limit [] [] table = nothing_found table

abbrev pub with_room : ℕ → Table → Followed
with_room limit table = if nat_lt (length table.numbers) 65536 then nothing_found table else with_one_less limit table.ended table.active table

-- ---- a segment
-- a SYN begins a direction, and so do data if nothing came before
abbrev pub begins : Segment → Bool
begins segment = not segment.rst && (segment.syn || nat_lt 0 segment.payload.size)

abbrev pub after_found : List (Flow × Found) → Followed → Followed
after_found found followed = record followed { found = found ++ followed.found }

-- one that begins nothing: octets that it has are not taken
abbrev pub passed_over : Segment → Table → Followed
passed_over segment table = record { found = in_flow (flow_of segment) (untaken_found (record nothing { apart = of_reset segment })); table = table }

-- of a flow with no segments yet
abbrev pub of_new : ℕ → ℕ → Service → Segment → Table → Followed
of_new limit packet service segment table =
    if begins segment
    then (let room = with_room limit table in after_found room.found (begun limit packet service states.Fresh segment room.table))
    else passed_over segment table

-- of a direction that ended, if it begins nothing: octets that it has are not taken, and copies are compared with what that took as long as it is kept
abbrev pub copied : Gone → Segment → Table → Followed
copied gone segment table = record { found = in_flow (flow_of segment) (untaken_found (untaken_of (states.Ended gone.had) (still_kept table.streams gone.nth) segment)); table = table }

-- of one whose direction ended: a SYN begins it anew, and so do data, unless they are copies
abbrev pub of_ended : ℕ → ℕ → ℕ → Option Gone → Service → Segment → Table → Followed
of_ended limit packet number None service segment table = passed_over segment table
of_ended limit packet number (Some gone) service segment table =
    if (step_of (states.Ended gone.had) segment).began
    then begun limit packet service (states.Ended gone.had) segment (record table { ended = remove_entry (is_at (nat_cmp number)) table.ended })
    else copied gone segment table

abbrev pub of_known : ℕ → ℕ → ℕ → Option Sent → Service → Segment → Table → Followed
of_known limit packet number (Some sent) service segment table = gone_on limit packet number sent segment table
of_known limit packet number None service segment table = of_ended limit packet number (lookup (is_at (nat_cmp number)) table.ended) service segment table

abbrev pub by_number : ℕ → ℕ → Option ℕ → Service → Segment → Table → Followed
by_number limit packet (Some number) service segment table = of_known limit packet number (lookup (is_at (nat_cmp number)) table.active) service segment table
by_number limit packet None service segment table = of_new limit packet service segment table

-- what is found with a segment of a packet, in frames of at most n octets
unfoldable pub followed : ℕ → ℕ → Service → Segment → Table → Followed
followed limit packet service segment table = by_number limit packet (lookup (is_at (flow_cmp (flow_of segment))) table.numbers) service segment table

-- ---- at the end of the file
abbrev pub last_of : ℕ → List (ℕ × Sent) → List (Flow × Found)
last_of limit [] = []
last_of limit (first ∷ others) = in_flow first.1.flow (last_found limit first.1) ++ last_of limit others

-- ---- the directions that are kept represent a table, with frames of at most n octets
abbrev pub AllRepresented : ℕ → List (ℕ × Box Sending Global) → List (ℕ × Sent) → Type 0
AllRepresented limit [] [] = Unit {0}
AllRepresented limit [] (first ∷ others) = ⊥
AllRepresented limit (first ∷ others) [] = ⊥
AllRepresented limit (first ∷ others) (sent ∷ rest) = (first.0 ≡ sent.0) × Represents first.1.value limit sent.1 × AllRepresented limit others rest

-- The maps hold a table. The last direction is not in it, if it is not among them.
pub record HoldsMaps (directions : Directions) (limit : ℕ) (table : Table) : Type 0 where
  pub limit_is : directions.limit ≡ limit
  pub numbers : directions.numbers.entries ≡ table.numbers
  pub active : AllRepresented limit directions.active.entries table.active
  pub ended : directions.ended.entries ≡ table.ended
  pub recent : Remembers directions.recent table.streams

-- what is known of a direction that is to be kept: if it begins its number is that of its flow, and else it is found by a flow already
abbrev pub IsKnown : Bool → Flow → Last → List (Flow × ℕ) → Type 0
IsKnown true flow last numbers = last.flow ≡ flow
IsKnown false flow last numbers = lookup (is_at (flow_cmp last.flow)) numbers ≡ Some last.number

-- The last direction is in a table, and the maps hold the others; it is found by its flow, and has a number of its own.
pub record IsAmong (last : Last) (directions : Directions) (limit : ℕ) (table : Table) : Type 0 where
  pub sent : Sent
  pub others : List (ℕ × Sent)
  pub maps : HoldsMaps directions limit (record table { active = others })
  pub represents : Represents last.sending.value limit sent
  pub known : lookup (is_at (flow_cmp last.flow)) directions.numbers.entries ≡ Some last.number
  pub alone : lookup (is_at (nat_cmp last.number)) directions.active.entries ≡ None
  pub active : table.active ≡ insert_entry nat_cmp others last.number sent

abbrev pub HoldsWith : Option Last → Directions → ℕ → Table → Type 0
HoldsWith None directions limit table = HoldsMaps directions limit table
HoldsWith (Some last) directions limit table = IsAmong last directions limit table

abbrev pub HoldsTable : Directions → ℕ → Table → Type 0
HoldsTable directions limit table = HoldsWith directions.last directions limit table
