use Rattle.std.proofs.Common.{◌∙◌, ap, sym}
use Rattle.std.specs.BTreeMap.{is_at}
use Rattle.std.specs.Map.{remove_entry}
use Rattle.std.specs.Ordering.{nat_cmp}
use Rattle.krb_capture.specs.Ended.{forward}
use Rattle.krb_capture.proofs.Newest.{forward-remove}
use Rattle.krb_capture.proofs.ended.Ended.remove.Goals as goal

pub returns : goal.returns
returns c =
    let removed = ap (λ es. forward es) c.remove.ensures.entries ∙ sym (forward-remove c.args.number c.self.inside.map.entries c.self.invariant) in
    cc (removed, ap (λ x. remove_entry (is_at (nat_cmp c.args.number)) x.entries) c.self.view_is)
