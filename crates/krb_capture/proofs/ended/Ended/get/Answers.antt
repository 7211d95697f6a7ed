use Rattle.std.proofs.Common.{◌∙◌, ap, sym}
use Rattle.std.specs.BTreeMap.{is_at}
use Rattle.std.specs.Map.{lookup}
use Rattle.std.specs.Ordering.{nat_cmp}
use Rattle.krb_capture.proofs.Newest.{forward-lookup}
use Rattle.krb_capture.proofs.ended.Ended.get.Goals as goal

pub returns : goal.returns
returns c =
    let found = c.copied.ensures ∙ c.get.ensures.value ∙ sym (forward-lookup c.args.number c.self.inside.map.entries c.self.invariant) in
    cc (found, ap (λ x. lookup (is_at (nat_cmp c.args.number)) x.entries) c.self.view_is)
