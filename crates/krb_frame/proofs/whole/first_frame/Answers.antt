use Rattle.std.proofs.Common.{sym, ◌∙◌, ap}
use Rattle.std.specs.Prelude.{is_some}
use Rattle.krb_der.specs.inner.Numbers.{AreOctets-slice}
use Rattle.krb_frame.proofs.Wholes.{begins}
use Rattle.krb_frame.proofs.whole.first_frame.Goals as goal

pub returns : goal.returns
returns c =
    let first = c.in_ok-announced.ensures.cases in
    let unfaulty = ap is_some (sym c.length_fault.ensures) ∙ sym c.is_some.ensures ∙ c.if-is_some.false in
    begins c.args.limit c.from_be_bytes-size.result c.args.octets.now c.in_ok-announced.announced.now c.in_ok-announced.after.now c.in_ok-contents.contents.now c.in_ok-contents.rest.now (AreOctets-slice c.args.octets.now c.type_inv.octets) first.0 first.1 first.2 c.from_be_bytes-size.ensures unfaulty c.in_ok-contents.ensures.cases
