use Rattle.std.proofs.Common.{◌≡◌, ◌-◌, length, min, refl, arith}
use Rattle.krb_tool.specs.inner.MessageLines.{kept_octets}
use Rattle.krb_tool.proofs.MessageLines.{adds-octets}
use Rattle.krb_tool.proofs.lines_run.LineListerReadLines.add.Goals as goal

pub returns-clause-added : goal.returns-clause-added
returns-clause-added c =
    let line = c.args.self.now.line.items in
    let octets = c.args.octets.now in
    let kept : c.min-kept.result ≡ min (length octets) (kept_octets - length line) = omega (arith, c.min-kept.ensures, c.saturating_sub-room.ensures, c.len.ensures) in
    adds-octets c.args.self.now _ octets c.min-kept.result c.in_ok-extend_from_slice.ensures.items kept refl refl refl refl
