use Rattle.krb_registry.proofs.Orders.{in_order}
use Rattle.krb_registry.proofs.law.rows_are_in_order.Goals as goal

pub returns : goal.returns
returns c = in_order
