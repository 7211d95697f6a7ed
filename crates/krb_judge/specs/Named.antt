-- A field with its name.
use Rattle.std.specs.Prelude.{ℕ, List, codes}
use Prim.Native.String.{String}
use Rattle.krb_judge.specs.declared.locating.field.Field.{Field}
use Rattle.krb_judge.specs.declared.locating.names.Names.{Names}
use Rattle.krb_judge.specs.declared.locating.names.Names.TheVariants.{Basic}

-- the name of a field, and by which type the fields in it have theirs: a tag has that of what is in it, a SEQUENCE OF that of its items
pub record Named : Type 0 where
  pub name : List ℕ
  pub inside : Names

-- a field of the code as one of these
abbrev pub named : Field → Named
named it = record { name = it.name.now; inside = it.inside }

abbrev pub field : String → Names → Named
field name inside = record { name = codes name; inside = inside }

abbrev pub basic : String → Named
basic name = field name Basic
