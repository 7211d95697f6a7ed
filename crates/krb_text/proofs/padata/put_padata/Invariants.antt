use Rattle.std.proofs.Common.{length, map}
use Rattle.std.specs.List.{flat_map}
use Rattle.krb_msg.specs.Grammar.{pa_data}
use Rattle.krb_msg.specs.Types.{pa_data_of}
use Rattle.krb_msg.specs.Viewed.{AreViewed, items_of}
use Rattle.krb_text.specs.Inside.{item_parts}
use Rattle.krb_text.proofs.Parts.{Leaves}
use Rattle.krb_text.proofs.padata.put_padata.Given as goal

-- the parts so far, and those of the items that are left
abbrev pub invariant-others : goal.invariant-others
invariant-others l =
    AreViewed pa_data l.others.octets.now
    × Leaves l.form (flat_map (item_parts l.carrier) (map pa_data_of (items_of pa_data l.initial.others.octets.now))) (flat_map (item_parts l.carrier) (map pa_data_of (items_of pa_data l.others.octets.now))) l.initial.by_now l.initial.text l.by_now l.text

abbrev pub decreases-others : goal.decreases-others
decreases-others l = length l.others.octets.now
