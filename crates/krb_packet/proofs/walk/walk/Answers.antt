use Rattle.std.proofs.Common.{◌≡◌, Some, sym, ap, ◌∙◌}
use Rattle.krb_packet.specs.Contents.{step}
use Rattle.krb_packet.specs.declared.header.Step.TheVariants as steps
use Rattle.krb_packet.proofs.Skipping.{walk-step}
use Rattle.krb_packet.proofs.walk.walk.Goals as goal

pub loop-preserved : goal.loop-preserved
loop-preserved c =
    let went : step c.args.port c.loop.header c.loop.packet ≡ Some (steps.Next c.in-Next.next c.in-Next.rest) = sym c.in_ok-contents.ensures ∙ ap Some c.in-Next.is in
    sym (walk-step c.args.port c.args.most c.loop.counter c.loop.header c.in-Next.next c.loop.packet c.in-Next.rest c.loop-test.true went) ∙ c.loop.invariant
