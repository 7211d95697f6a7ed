use Rattle.std.proofs.Common.{ap, map}
use Rattle.std.specs.List.{flat_map}
use Rattle.krb_msg.specs.Grammar.{pa_data}
use Rattle.krb_msg.specs.Types.{pa_data_of, pa_data_of_view}
use Rattle.krb_msg.specs.Viewed.{items_of}
use Rattle.krb_text.specs.Inside.{item_parts}
use Rattle.krb_text.proofs.Parts.{leaves_more}
use Rattle.krb_text.proofs.padata.put_padata.Goals as goal

-- the parts of the first item, and then those of the others
pub others-preserved : goal.others-preserved
others-preserved c = (
  c.in-Some.ensures.0.viewed,
  leaves_more
      (item_parts c.args.carrier (pa_data_of_view c.in-Some.seen))
      (flat_map (item_parts c.args.carrier) (map pa_data_of (items_of pa_data c.in-Some.rest.octets.now)))
      c.others.invariant.1
      (ap (λ items. flat_map (item_parts c.args.carrier) (map pa_data_of items)) c.in-Some.ensures.0.items)
      (rw c.of-kind.ensures at c.in_ok-by_now.ensures),
)
