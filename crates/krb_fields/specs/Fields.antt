-- Kinds of records and their fields.
use Rattle.std.specs.Prelude.{ℕ, List, codes, map}
use Prim.Native.String.{String}
use Rattle.krb_fields.specs.declared.shape.Value.{Value}
use Rattle.krb_fields.specs.declared.shape.Field.{Field as RustField}
use Rattle.krb_fields.specs.declared.shape.Shape.{Shape as RustShape}

-- a field by its name, and of which members its value is
pub record Field : Type 0 where
  pub name : List ℕ
  pub value : Value

-- what records of a kind have, and what their origin tells
pub record Shape : Type 0 where
  pub kind : List ℕ
  pub fields : List Field
  pub told : List Field

abbrev pub the : String → Value → Field
the name value = record { name = codes name; value = value }

abbrev pub shape : String → List Field → List Field → Shape
shape kind fields told = record { kind = codes kind; fields = fields; told = told }

-- those of the code as one of these
abbrev pub field_of : RustField → Field
field_of field = record { name = field.name.now; value = field.value }

abbrev pub shape_of : RustShape → Shape
shape_of s = record { kind = s.kind.now; fields = map field_of s.fields.now; told = map field_of s.told.now }
