-- Counts of a capture.
use Rattle.std.specs.Prelude.{ℕ, ◌+◌, ◌-◌, ◌^◌, ◌==◌, ◌&&◌, Bool, min}
use Rattle.krb_record.specs.declared.capture.CaptureCounts.{CaptureCounts}

-- they stop at the greatest number of 64 bits
abbrev pub and_more : ℕ → ℕ → ℕ
and_more count more = min (count + more) (2 ^ 64 - 1)

-- nothing is refused, lost or unread
abbrev pub is_clean : CaptureCounts → Bool
is_clean counts = (counts.refused == 0 && counts.lost == 0) && counts.unread == 0
