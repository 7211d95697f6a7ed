-- The numbers of directions, by their flows.
use Rattle.std.specs.Prelude.{ℕ, ◌≡◌, ◌+◌, ◌*◌, ◌%◌, nat_lt, if◌then◌else◌, List, slice_index_or, Option, Some, None}
use Rattle.std.specs.BTreeMap.{is_at}
use Rattle.std.specs.Map.{lookup}
use Rattle.krb_capture.specs.contracts.flow.FlowOrd.TheImpl as flow_order
use Rattle.krb_capture.specs.declared.flow.Flow.{Flow}
use Rattle.krb_capture.specs.declared.numbers.Numbered.{Numbered}

-- each flow that has a number, in the order of flows
pub record Numbers : Type 0 where
  pub entries : List (Flow × ℕ)

-- ---- flows whose numbers are kept beside the map, too, each at a place
-- the two flows of a connection have places of their own
abbrev pub place_of : Flow → ℕ
place_of flow = (flow.source_port + flow.target_port) % 32 * 2 + (if nat_lt flow.source_port flow.target_port then 1 else 0)

abbrev pub IsNoted : List (Flow × ℕ) → ℕ → Option Numbered → Type 0
IsNoted entries place None = Unit {0}
IsNoted entries place (Some one) = (place_of one.flow ≡ place) × (lookup (is_at (flow_order.ghosts.cmp one.flow)) entries ≡ Some one.number)

-- what is kept is in the map
pub record AreNoted (recent : List (Option Numbered)) (entries : List (Flow × ℕ)) : Type 0 where
  pub each : (place : ℕ) → IsNoted entries place (slice_index_or recent place None)
