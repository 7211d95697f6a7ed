use Rattle.std.proofs.Common.{◌≡◌, ◌++◌, codes, take}
use Rattle.std.specs.List.{flat_map}
use Rattle.krb_source.specs.Layers.{layer_name}
use Rattle.krb_record.specs.Forms.{json_string}
use Rattle.krb_record.proofs.message_origin.put_other_strings.Given as goal

-- the commas and strings so far
abbrev pub invariant-loop-layer : goal.invariant-loop-layer
invariant-loop-layer l = l.object ≡ l.initial.object ++ flat_map (λ layer. codes "," ++ json_string (layer_name layer)) (take l.layer-index l.layers)
