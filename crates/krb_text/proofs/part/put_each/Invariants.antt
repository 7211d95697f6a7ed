use Rattle.std.proofs.Common.{◌≡◌, length, map}
use Rattle.krb_msg.specs.Term.{Value}
use Rattle.krb_msg.specs.Viewed.{AreViewed, items_of}
use Rattle.krb_record.specs.Values.{Part}
use Rattle.krb_text.proofs.Parts.{Leaves}
use Rattle.krb_text.proofs.part.put_each.Given as goal

-- the parts so far, and those of the items that are left
abbrev pub invariant-others : goal.invariant-others
invariant-others g l =
    AreViewed g.T.View.term l.others.octets.now
    × ((part : Value g.T.View.term → Part) → ((seen : g.row.T-Of.Denot) → part (g.T.View.value seen) ≡ g.T.Clear.part seen)
    → Leaves l.form (map part (items_of g.T.View.term l.initial.others.octets.now)) (map part (items_of g.T.View.term l.others.octets.now)) l.initial.by_now l.initial.text l.by_now l.text)

abbrev pub decreases-others : goal.decreases-others
decreases-others g l = length l.others.octets.now
