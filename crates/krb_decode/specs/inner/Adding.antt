-- What is added to the lines of a source.
use Rattle.std.specs.Prelude.{◌≡◌, ◌++◌}
use Rattle.krb_decode.specs.Decoded.{Added}
use Rattle.krb_decode.specs.declared.parts.Parts.{Parts}

pub record Adds (added : Added) (old new : Parts) : Type 0 where
  pub lines : new.lines.items ≡ old.lines.items ++ added.lines
  pub said : new.said ≡ old.said ++ added.said
