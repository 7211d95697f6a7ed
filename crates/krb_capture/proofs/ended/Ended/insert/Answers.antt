use Rattle.std.proofs.Common.{◌∙◌, ap, sym}
use Rattle.std.specs.BTreeMap.{insert_entry}
use Rattle.std.specs.Ordering.{nat_cmp}
use Rattle.krb_capture.specs.Ended.{forward}
use Rattle.krb_capture.proofs.Newest.{forward-insert}
use Rattle.krb_capture.proofs.ended.Ended.insert.Goals as goal

pub returns : goal.returns
returns c =
    let inserted = ap (λ es. forward es) c.in_ok-insert.ensures.entries ∙ sym (forward-insert c.args.number c.args.gone c.self.inside.map.entries c.self.invariant) in
    cc (inserted, ap (λ x. insert_entry nat_cmp x.entries c.args.number c.args.gone) c.self.view_is)
