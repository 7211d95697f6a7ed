-- The names of what a message lies in.
use Rattle.std.specs.Prelude.{List, ℕ, codes}
use Rattle.krb_source.specs.declared.layer.Layer.{Layer}
use Rattle.krb_source.specs.declared.layer.Layer.TheVariants as layers

abbrev pub layer_name : Layer → List ℕ
layer_name layers.Frame = codes "frame"
layer_name layers.Gss = codes "GSS"
layer_name layers.Spnego = codes "SPNEGO"
