use Rattle.std.proofs.Common.{rules, ◌≡◌, ◌<◌, length}
use Rattle.krb_capture.proofs.PasswordEnds.{cut-none, cut-some}
use Rattle.krb_capture.proofs.password_frames.PasswordFrames.finish.Goals as goal

pub returns-then-is_empty : goal.returns-then-is_empty
returns-then-is_empty c =
    let none : length c.args.self.now.octets.items ≡ 0 = search rules in
    λ profile limit stream t e. cut-none c.args.self.now.octets.items none

pub returns : goal.returns
returns c =
    let size : c.in_ok-place.place ≡ length c.args.self.now.octets.items = search rules in
    let some : 0 < length c.args.self.now.octets.items = search rules in
    λ profile limit stream t e. cut-some c.args.self.now.octets.items c.in_ok-place.place size some
