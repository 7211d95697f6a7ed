use Rattle.std.proofs.Common.{length, map}
use Rattle.std.specs.List.{flat_map}
use Rattle.krb_msg.specs.Viewed.{AreViewed, items_of}
use Rattle.krb_padata.specs.Grammar.{typed_data_item}
use Rattle.krb_padata.specs.Types.{typed_data_item_of}
use Rattle.krb_text.specs.Inside.{typed_item_parts}
use Rattle.krb_text.proofs.Parts.{Leaves}
use Rattle.krb_text.proofs.error_data.put_typed_items.Given as goal

-- the parts so far, and those of the items that are left
abbrev pub invariant-others : goal.invariant-others
invariant-others l =
    AreViewed typed_data_item l.others.octets.now
    × Leaves l.form (flat_map typed_item_parts (map typed_data_item_of (items_of typed_data_item l.initial.others.octets.now))) (flat_map typed_item_parts (map typed_data_item_of (items_of typed_data_item l.others.octets.now))) l.initial.by_now l.initial.text l.by_now l.text

abbrev pub decreases-others : goal.decreases-others
decreases-others l = length l.others.octets.now
