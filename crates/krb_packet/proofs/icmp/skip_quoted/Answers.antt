use Rattle.std.proofs.Common.{sym, ◌∙◌}
use Rattle.krb_packet.specs.Headers.{extension}
use Rattle.krb_packet.specs.Icmp.{is_passed_in_quote}
use Rattle.krb_packet.proofs.Skipping.{skip_headers-step}
use Rattle.krb_packet.proofs.icmp.skip_quoted.Goals as goal

pub loop-preserved : goal.loop-preserved
loop-preserved c =
    sym (skip_headers-step is_passed_in_quote extension c.args.most c.loop.counter c.loop.kind c.in_ok-next.next c.loop.packet c.in_ok-next.rest c.loop-test.true (sym c.is_passed_in_quote.ensures ∙ c.if-not-is_passed_in_quote.false) (sym c.in_ok-next.ensures))
    ∙ c.loop.invariant
