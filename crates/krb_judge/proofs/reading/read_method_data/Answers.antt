use Rattle.std.proofs.Common.{refl, arith}
use Rattle.std.proofs.lemmas.Result.{IfOk-weaker}
use Rattle.krb_der.specs.inner.Numbers.{AreOctets-slice}
use Rattle.krb_judge.proofs.Values.{if_ok_both, method_data_node, method_data_viewed}
use Rattle.krb_judge.proofs.reading.read_method_data.Goals as goal

pub read_item-requires : goal.read_item-requires
read_item-requires c = λ k. ((refl, tt), (omega arith, (method_data_node, (refl, refl))))

pub returns-clause-items : goal.returns-clause-items
returns-clause-items c =
    let octets = c.args.octets.now in
    IfOk-weaker c.read_item.result _ _ (λ seen v. method_data_viewed octets (AreOctets-slice octets c.type_inv.octets) v.1 v.0.0 refl) (if_ok_both _ _ c.read_item.result c.read_item.ensures.item c.read_item.ensures.whole)

pub returns-clause-lists : goal.returns-clause-lists
returns-clause-lists c = IfOk-weaker c.read_item.result _ _ (λ seen v. v.1) c.read_item.ensures.item
