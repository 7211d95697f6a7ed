-- The texts of moments are ASCII.
use Rattle.std.proofs.Common.{ℕ, ◌<◌, ◌^◌}
use Rattle.std.specs.Str.{IsAscii}
use Rattle.krb_record.specs.Time.{moment_text, timestamp_text}
use Rattle.krb_record.proofs.Printable.{ascii}
use Rattle.krb_record.proofs.Times.{moment, timestamp}

-- of a file
pub moment_ascii : (seconds : ℕ) → seconds < 2 ^ 32 → IsAscii (moment_text seconds)
moment_ascii seconds h = ascii (moment_text seconds) (moment seconds h).all

-- of a packet
pub timestamp_ascii : (seconds nanoseconds : ℕ) → seconds < 2 ^ 32 → IsAscii (timestamp_text seconds nanoseconds)
timestamp_ascii seconds nanoseconds h = ascii (timestamp_text seconds nanoseconds) (timestamp seconds nanoseconds h).all
