use Rattle.std.proofs.Common.{sym, ◌∙◌}
use Rattle.krb_packet.specs.Contents.{is_skipped, extension}
use Rattle.krb_packet.proofs.Skipping.{skip_headers-step}
use Rattle.krb_packet.proofs.internet.extensions.Goals as goal

pub loop-preserved : goal.loop-preserved
loop-preserved c =
    sym (skip_headers-step is_skipped extension c.args.most c.loop.counter c.loop.kind c.in_ok-next.next c.loop.packet c.in_ok-next.rest c.loop-test.true (sym c.is_skipped.ensures ∙ c.if-not-is_skipped.false) (sym c.in_ok-next.ensures))
    ∙ c.loop.invariant
