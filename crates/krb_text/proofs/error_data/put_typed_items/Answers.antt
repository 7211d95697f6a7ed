use Rattle.std.proofs.Common.{ap, map, w64, FitsSigned, rules}
use Rattle.std.proofs.lemmas.Int.{to_z-of_z}
use Rattle.std.specs.List.{flat_map}
use Rattle.krb_msg.specs.Viewed.{items_of}
use Rattle.krb_padata.specs.Grammar.{typed_data_item}
use Rattle.krb_padata.specs.Types.{typed_data_item_of, typed_data_item_of_view}
use Rattle.krb_text.specs.Inside.{typed_item_parts}
use Rattle.krb_text.proofs.Parts.{leaves_more}
use Rattle.krb_text.proofs.error_data.put_typed_items.Goals as goal

-- the parts of the first item, and then those of the others
pub others-preserved : goal.others-preserved
others-preserved c =
    let fits : FitsSigned w64 c.in-Some.seen.data_type = search rules in (
      c.in-Some.ensures.0.viewed,
      leaves_more
          (typed_item_parts (typed_data_item_of_view c.in-Some.seen))
          (flat_map typed_item_parts (map typed_data_item_of (items_of typed_data_item c.in-Some.rest.octets.now)))
          c.others.invariant.1
          (ap (λ items. flat_map typed_item_parts (map typed_data_item_of items)) c.in-Some.ensures.0.items)
          (rw (to_z-of_z w64 c.in-Some.seen.data_type fits) at (rw c.ext_error_in-error.ensures at c.in_ok-by_now.ensures)),
    )
