use Rattle.std.proofs.Common.{◌+◌, ◌<◌, ℕ, Option, length, arith, subst}
use Rattle.krb_c.proofs.Framed.{AreFramed, next-framed, none-framed}
use Rattle.krb_c.proofs.frame_spans.put_stream.Goals as goal

pub frames-init : goal.frames-init
frames-init c = none-framed c.args.profile c.args.limit c.args.goes_on c.args.stream.now c.args.spans.now

pub frames-preserved : goal.frames-preserved
frames-preserved c =
    let stream = c.args.stream.now in
    let was = subst (λ (p : Option ℕ). AreFramed c.args.profile c.args.limit c.args.goes_on stream c.frames._index p c.args.spans.now c.frames.spans) c.in-Some.is c.frames.invariant in
    let more : c.frames._index < length stream + 1 = omega (arith, c.frames-test.true) in
    next-framed c.args.profile c.args.limit c.args.goes_on stream c.frames._index c.in-Some.begin c.args.spans.now c.frames.spans c.put_frame.new.spans c.in_ok-place.place more was c.in_ok-place.ensures.added c.in_ok-place.ensures.within
