use Rattle.std.proofs.Common.{length, ap, ◌∙◌}
use Rattle.std.specs.List.{flat_map}
use Rattle.krb_der.specs.Sizes.{saturated}
use Rattle.krb_der.proofs.Sizes.{saturated-item}
use Rattle.krb_der.proofs.many.ManyDer.size.Goals as goal

pub returns-clause-octets : goal.returns-clause-octets
returns-clause-octets g c =
    saturated-item 0x30 c.size_of_values.result c.item_size.result (flat_map g.T.Der.der c.args.self.now)
    (c.size_of_values.ensures.octets ∙ ap (λ values. saturated (length (flat_map g.T.Der.der values))) c.as_slice.ensures)
    c.item_size.ensures
