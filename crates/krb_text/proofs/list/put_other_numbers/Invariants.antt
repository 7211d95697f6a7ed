use Rattle.std.proofs.Common.{◌≡◌, ◌++◌, codes, length}
use Rattle.std.specs.List.{flat_map}
use Rattle.krb_msg.specs.Viewed.{AreViewed, items_of}
use Rattle.krb_record.specs.Items.{number_item}
use Rattle.krb_text.specs.inner.Items.{item_number}
use Rattle.krb_text.proofs.list.put_other_numbers.Given as goal

-- the text so far, and that of the items that are left
abbrev pub invariant-others : goal.invariant-others
invariant-others g l =
    AreViewed g.T.View.term l.others.octets.now
    × (l.text ++ flat_map (λ item. codes "," ++ number_item l.form (item_number g.T.View.term item)) (items_of g.T.View.term l.others.octets.now)
    ≡ l.initial.text ++ flat_map (λ item. codes "," ++ number_item l.form (item_number g.T.View.term item)) (items_of g.T.View.term l.initial.others.octets.now))

abbrev pub decreases-others : goal.decreases-others
decreases-others g l = length l.others.octets.now
