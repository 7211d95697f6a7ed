use Rattle.std.proofs.Common.{◌∙◌, sym, false}
use Rattle.krb_der.specs.inner.Numbers.{AreOctets-slice}
use Rattle.krb_msg.specs.Profiles.{profile_term}
use Rattle.krb_judge.proofs.Slices.{is_viewed, lenient_item}
use Rattle.krb_judge.proofs.Values.{refused_as}
use Rattle.krb_judge.proofs.reading.read_item.Goals as goal

pub accepted-requires-clause-seen : goal.accepted-requires-clause-seen
accepted-requires-clause-seen g c =
    let octets = c.args.octets.now in
    λ none. is_viewed _ c.viewed_item.result c.viewed_item.ensures (lenient_item c.args.profile g.T.View.term octets c.requires.unambiguous (AreOctets-slice octets c.type_inv.octets) (sym (refused_as (profile_term c.args.profile false g.T.View.term) octets c.args.node c.requires.term) ∙ none))

pub returns-clause-refused : goal.returns-clause-refused
returns-clause-refused g c =
    let as_term = refused_as (profile_term c.args.profile false g.T.View.term) c.args.octets.now c.args.node c.requires.term in
    λ r. (λ e. sym as_term ∙ (c.accepted.ensures.refused r).0 e, λ e. (c.accepted.ensures.refused r).1 (as_term ∙ e))
