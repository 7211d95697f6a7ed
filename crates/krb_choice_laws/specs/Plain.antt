-- Records whose texts are printable: blanks and graphic characters of ASCII, none of which is a mark.
use Rattle.std.specs.Prelude.{ℕ, ◌≡◌, Bool, true, List, ◌++◌, IfSome, codes}
use Rattle.std.specs.List.{AllByRecursion}
use Rattle.krb_record.specs.Forms.{cell, fields_text, heading, members, value_text}
use Rattle.krb_record.specs.Text.{IsPrintable}
use Rattle.krb_record.specs.Values.{Field, LastLine, Part, Printed}
use Rattle.krb_record.specs.declared.form.Form.TheVariants.{NamedLines}
use Rattle.krb_record.specs.declared.path.Path.{Path}
use Rattle.krb_choice.specs.Choices.{kind_alone}
use Rattle.krb_choice.specs.Wanted.{may_be_inside}

-- a field: its name, what lines and objects have of it, and each of its cells
pub record IsPlainField (field : Field) : Type 0 where
  pub name : IsPrintable field.name
  pub line : (names : Bool) → IsPrintable (value_text names field.value)
  pub object : IsPrintable (members (codes ",\"" ++ field.name) field.value)
  pub cells : (path : Path) → IsPrintable (cell path field.value)

abbrev pub ArePlain : List Field → Type 0
ArePlain fields = AllByRecursion IsPlainField fields

-- what is inside of a record: its kind is a word that what is inside may have as its kind
pub record IsPlainPart (part : Part) : Type 0 where
  pub kind : IsPrintable part.kind
  pub word : kind_alone part.kind ≡ part.kind
  pub is_inside : may_be_inside part.kind ≡ true
  pub fields : ArePlain part.fields

-- the line that tells of it
abbrev pub line_text : LastLine → List ℕ
line_text line = heading NamedLines line.origin line.kind ++ fields_text NamedLines line.fields

pub record IsPlain (r : Printed) : Type 0 where
  pub kind : IsPrintable r.kind
  pub origin : ArePlain r.origin
  pub fields : ArePlain r.fields
  pub inside : IfSome r.inside (λ parts. AllByRecursion IsPlainPart parts)
  pub last : ArePlain r.last
  pub aside : IfSome r.aside (λ line. IsPrintable (line_text line))
