use Rattle.std.proofs.Common.{◌-◌, ◌≤◌, length, take}
use Rattle.krb_capture.specs.Passed.{TakesPasswords}
use Rattle.krb_capture.proofs.password_frames.PasswordFrames.take.Given as goal

abbrev pub invariant-loop-count : goal.invariant-loop-count
invariant-loop-count l = (l.count ≤ length l.octets) × TakesPasswords l.initial.self l.self (take l.count l.octets) l.origin l.initial.listing l.listing

abbrev pub decreases-loop-count : goal.decreases-loop-count
decreases-loop-count l = length l.octets - l.count
