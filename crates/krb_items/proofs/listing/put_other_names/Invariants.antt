use Rattle.std.proofs.Common.{◌≡◌, ◌++◌, codes, take}
use Rattle.std.specs.List.{flat_map}
use Rattle.krb_source.specs.Layers.{layer_name}
use Rattle.krb_items.proofs.listing.put_other_names.Given as goal

-- the commas and names so far
abbrev pub invariant-loop-layer : goal.invariant-loop-layer
invariant-loop-layer l = l.text ≡ l.initial.text ++ flat_map (λ layer. codes "," ++ layer_name layer) (take l.layer-index l.layers)
