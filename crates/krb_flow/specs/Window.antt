-- The last octets that a direction took, which are kept so that copies of them are compared.
use Rattle.std.specs.Prelude.{◌≡◌, ℕ, ◌-◌, List, [], ◌++◌, length, drop, Option, None, Some}
use Rattle.krb_packet.specs.declared.contents.Segment.{Segment}
use Rattle.krb_flow.specs.Directions.{step}
use Rattle.krb_flow.specs.declared.direction.Beginning.{Beginning}
use Rattle.krb_flow.specs.declared.direction.Direction.{Direction}
use Rattle.krb_flow.specs.declared.direction.State.{State}
use Rattle.krb_flow.specs.declared.direction.State.TheVariants.{Fresh, Open, Ended}
use Rattle.krb_flow.specs.declared.window.Window.{Window}

abbrev pub last : ℕ → List ℕ → List ℕ
last count octets = drop (length octets - count) octets

-- how many are kept
abbrev pub most_kept : State → ℕ
most_kept Fresh = 65536
most_kept (Open progress) = 65536
most_kept (Ended had) = 4096

-- those of a stream that are
abbrev pub recent : State → List ℕ → List ℕ
recent state stream = last (most_kept state) stream

-- ---- the octets that a direction took since it began
abbrev pub stream_at : Option Beginning → List ℕ → List ℕ
stream_at None stream = stream
stream_at (Some beginning) stream = []

abbrev pub stream_with : State → List ℕ → Segment → List ℕ
stream_with state stream segment = let outcome = (step state segment).0 in stream_at outcome.begins stream ++ outcome.octets

-- ---- what a direction keeps of them
abbrev pub kept_in : Window → List ℕ
kept_in window = last window.most window.octets.items

pub record Keeps (direction : Direction) (stream : List ℕ) : Type 0 where
  pub most : direction.window.most ≡ most_kept direction.state
  pub octets : kept_in direction.window ≡ recent direction.state stream
