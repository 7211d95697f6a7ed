-- The origin of a message that does not lie in an input by itself, as fields.
use Rattle.std.specs.Prelude.{ℕ, pos, List, [], ◌∷◌, ◌++◌, Option, Some, None, codes}
use Rattle.krb_source.specs.declared.layer.Layer.{Layer}
use Rattle.krb_record.specs.Values.{Number, Layers, Field, the}

-- the number of the line, if the input is one of several lines
abbrev pub line_origin : Option ℕ → List Field
line_origin None = []
line_origin (Some line) = the (codes "line") (Number (pos line)) ∷ []

-- what the message lies in, if it does not lie there by itself
abbrev pub layers_origin : List Layer → List Field
layers_origin [] = []
layers_origin (first ∷ others) = the (codes "via") (Layers (first ∷ others)) ∷ []

abbrev pub message_origin : Option ℕ → List Layer → List Field
message_origin line layers = line_origin line ++ layers_origin layers
