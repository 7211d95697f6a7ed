use Rattle.std.proofs.Common.{refl}
use Rattle.std.proofs.lemmas.Result.{IfOk-weaker}
use Rattle.krb_der.specs.inner.Numbers.{AreOctets-slice}
use Rattle.krb_judge.proofs.Values.{if_ok_both, ticket_viewed}
use Rattle.krb_judge.proofs.reading.read_ticket_in.Goals as goal

pub returns-clause-ticket : goal.returns-clause-ticket
returns-clause-ticket c =
    let octets = c.args.octets.now in
    IfOk-weaker c.read_item.result _ _ (λ seen v. ticket_viewed c.args.profile octets seen (AreOctets-slice octets c.type_inv.octets) v.1 v.0.0 refl) (if_ok_both _ _ c.read_item.result c.read_item.ensures.item c.read_item.ensures.whole)
