-- The last octets of directions that ended.
use Rattle.std.specs.Prelude.{ℕ, ◌≡◌, ◌+◌, ◌%◌, ◌<◌, ◌≤◌, nat_lt, min, if◌then◌else◌, List, [], length, slice_index_or}
use Rattle.std.specs.Global.{Vec}
use Rattle.krb_flow.specs.Window.{last}
use Rattle.krb_capture.specs.declared.recent.Recent.{Recent}

-- of what each of some directions took, in the order in which they ended, what the one before which so many ended took: until 4096 more have ended, and then nothing
abbrev pub still_kept : List (List ℕ) → ℕ → List ℕ
still_kept streams nth = if nat_lt (length streams) (nth + 4097) then slice_index_or streams nth [] else []

-- the last 4096 octets of each of the 4096 directions that ended last, each at its number modulo 4096
pub record AreLast (slots : List (Vec ℕ)) (streams : List (List ℕ)) : Type 0 where
  pub room : length slots ≡ min (length streams) 4096
  pub each : (nth : ℕ) (none : Vec ℕ) → nth < length streams → length streams ≤ nth + 4096 → (slice_index_or slots (nth % 4096) none).items ≡ last 4096 (slice_index_or streams nth [])

pub record Remembers (recent : Recent) (streams : List (List ℕ)) : Type 0 where
  pub count : recent.count ≡ length streams
  pub slots : AreLast recent.slots.items streams
