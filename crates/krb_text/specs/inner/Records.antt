-- Records of messages by the views of their kinds.
use Rattle.std.specs.Prelude.{◌≡◌, Bool, true, false, List, [], ◌++◌, codes, ℕ, Option}
use Rattle.krb_der.specs.declared.profile.Profile.{Profile}
use Rattle.krb_der.specs.declared.profile.Profile.TheVariants as profiles
use Rattle.krb_msg.specs.Notes.{are_none}
use Rattle.krb_msg.specs.ViewValues.{IsValidMessage, message_of_view}
use Rattle.krb_msg.specs.Views.{kind_of}
use Rattle.krb_msg.specs.declared.message.Kind.{Kind}
use Rattle.krb_msg.specs.declared.message.Message.{Message}
use Rattle.krb_msg.specs.declared.message_view.MessageView.{MessageView}
use Rattle.krb_msg.specs.declared.notes.Notes.{Notes}
use Rattle.krb_record.specs.declared.form.Form.{Form}
use Rattle.krb_text.specs.declared.record.Heading.{Heading}
use Rattle.krb_text.specs.declared.record.Heading.TheVariants as headings
use Rattle.krb_record.specs.Captures.{captured, last_fields, origin_fields}
use Rattle.krb_record.specs.Forms.{field, fields_text, parts_text, record_text}
use Rattle.krb_record.specs.Text.{line_feed}
use Rattle.krb_text.specs.Inside.{inside_of}
use Rattle.krb_record.specs.Origins.{message_origin}
use Rattle.krb_text.specs.Messages.{fields_of, notes, shown_record}
use Rattle.krb_record.specs.Values.{Field, Part, Printed, with_origin}

-- what is recorded of a view of a kind is what is recorded of its message
pub record IsRecordedAs (kind : Kind) (IsValid : Type 0) (fields : List Field) (inside : Option (List Part)) (view : MessageView) : Type 0 where
  pub same_kind : kind_of (message_of_view view) ≡ kind
  pub valid : IsValidMessage view → IsValid
  pub same_fields : fields_of (message_of_view view) ≡ fields
  pub same_inside : inside_of (message_of_view view) ≡ inside

abbrev pub heading_origin : Form → Heading → List Field
heading_origin form headings.Alone = []
heading_origin form (headings.Captured origin) = origin_fields form origin.now
heading_origin form (headings.From origin) = message_origin origin.now.line origin.now.layers.now

abbrev pub heading_last : Heading → List Field
heading_last headings.Alone = []
heading_last (headings.Captured origin) = last_fields origin.now
heading_last (headings.From origin) = []

-- the fields of a message, with its notes, and what is inside of it, if that is shown
abbrev pub shown_text : (is_shown : Bool) → Form → List Field → Notes → Option (List Part) → List ℕ
shown_text false form fields n inside = []
shown_text true form fields n inside = fields_text form fields ++ field form (codes "notes") (notes n) ++ parts_text form inside

-- a record from its origin
abbrev pub headed : Form → Heading → Printed → Printed
headed form headings.Alone r = r
headed form (headings.Captured origin) r = captured form origin.now r
headed form (headings.From origin) r = with_origin (message_origin origin.now.line origin.now.layers.now) r

-- that of a message, without its line feed, and with it
abbrev pub text_after : Form → Heading → Message → List ℕ
text_after form from m = record_text form (headed form from (shown_record form m))

abbrev pub line_after : Form → Heading → Message → List ℕ
line_after form from m = text_after form from m ++ line_feed

-- whether a message in which these notes hold is one of a profile
abbrev pub is_kept : Profile → Notes → Bool
is_kept profiles.Lenient notes = true
is_kept profiles.Strict notes = are_none notes
