-- The names of the fields of each type, and that they are those of the grammar's fields.
use Rattle.std.specs.Prelude.{ℕ, ◌+◌, Bool, ◌&&◌, ◌==◌, [], length, get_or}
use Rattle.krb_msg.specs.Term.{Term, Fields, Sequence, SequenceOf, Tagged, Application, End, Required, Optional}
use Rattle.krb_judge.specs.declared.locating.names.Names.{Names}
use Rattle.krb_judge.specs.declared.locating.names.Names.TheVariants.{Basic}
pub use Rattle.krb_judge.specs.Named.{Named, named}
pub use Rattle.krb_judge.specs.FieldTables.{fields_of, names_of_kind}

-- the field at an index, or one without a name
abbrev pub no_field : Named
no_field = record { name = []; inside = Basic }

abbrev pub field_at : Names → ℕ → Named
field_at names index = get_or (fields_of names) index no_field

-- ---- the names and the grammar
abbrev mutual
  -- each SEQUENCE in a term has a name for each of its fields and no other, and what has no fields has none
  pub are_named : Term → Names → Bool
  are_named (Sequence fields) names = have_names fields names 0
  are_named (SequenceOf empty term) names = are_named term names
  are_named (Tagged index term) names = are_named term names
  are_named (Application number term) names = are_named term names
  are_named term names = length (fields_of names) == 0

  -- the fields from the one at an index on
  pub have_names : Fields → Names → ℕ → Bool
  have_names End names index = length (fields_of names) == index
  have_names (Required term fields) names index = are_named term (field_at names index).inside && have_names fields names (index + 1)
  have_names (Optional term fields) names index = are_named term (field_at names index).inside && have_names fields names (index + 1)
