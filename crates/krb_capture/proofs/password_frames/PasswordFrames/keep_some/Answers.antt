use Rattle.std.proofs.Common.{ℕ, ◌+◌, ◌-◌, ◌≤◌, List, length, take, refl, arith, length-take}
use Rattle.krb_capture.specs.Passed.{frame_end}
use Rattle.krb_capture.specs.declared.password_frames.PasswordFrames.{PasswordFrames}
use Rattle.krb_capture.proofs.Octets.{takes-kept}
use Rattle.krb_capture.proofs.password_frames.PasswordFrames.keep_some.Goals as goal

pub returns-clause-took : goal.returns-clause-took
returns-clause-took c =
    let old : PasswordFrames = c.args.self.now in
    let some : List ℕ = take c.min-count.result c.args.octets.now in
    let kept : PasswordFrames = record { limit = old.limit; profile = old.profile; octets = c.extend_from_slice.new.self; skipped = old.skipped; is_over = old.is_over; offset = old.offset } in
    let few : length some ≤ 1 + (frame_end c.args.self.now.octets.items - length c.args.self.now.octets.items - 1) = omega (arith, c.end.ensures, length-take c.min-count.result c.args.octets.now) in
    takes-kept old kept c.list_whole.new.self some c.args.origin.now c.args.listing.now c.list_whole.new.listing c.requires.goes c.requires.none_skipped refl refl refl refl c.in_ok-extend_from_slice.ensures.items refl few c.in_ok-list_whole.ensures.listed c.in_ok-list_whole.ensures.profile
