-- Laws of choosing messages: their texts are printable, so that the laws of records hold of theirs; and keys, ciphers and checksums have no part in what is written.
use Rattle.std.specs.Prelude.{ℕ, ◌≡◌, ◌++◌, Bool, List, Option, Some, IfSome}
use Rattle.std.specs.List.{AllByRecursion, Contains}
use Rattle.krb_der.specs.declared.profile.Profile.TheVariants as profiles
use Rattle.krb_keytab.specs.Spelling.{masked as masked_keytab}
use Rattle.krb_keytab.specs.declared.value.Keytab.{Keytab}
use Rattle.krb_ccache.specs.Spelling.{masked as masked_cache}
use Rattle.krb_ccache.specs.declared.value.Ccache.{Ccache}
use Rattle.krb_msg.specs.Views.{IsInProfile}
use Rattle.krb_msg.specs.declared.message.Message.{Message}
use Rattle.krb_record.specs.Captures.{captured}
use Rattle.krb_record.specs.Laws.{OriginIsInRange}
use Rattle.krb_record.specs.Origins.{message_origin}
use Rattle.krb_record.specs.Values.{Field, Part, Printed, with_origin}
use Rattle.krb_record.specs.declared.capture_origin.CaptureOrigin.{CaptureOrigin}
use Rattle.krb_record.specs.declared.form.Form.{Form}
use Rattle.krb_record.specs.declared.form.Form.TheVariants as forms
use Rattle.krb_record.specs.declared.path.Path.{Path}
use Rattle.krb_laws.specs.Json.{json_of, part_json}
use Rattle.krb_source.specs.declared.layer.Layer.{Layer}
use Rattle.krb_text.specs.Inside.{inside_of}
use Rattle.krb_text.specs.Masks.{masked}
use Rattle.krb_text.specs.Messages.{captured_message_line, message_line_from, message_record, shown_record}
use Rattle.krb_list.specs.Ccaches.{ccache_lines}
use Rattle.krb_list.specs.Keytabs.{keytab_lines}
use Rattle.krb_choice.specs.Choices.{Choice, Member, chosen_text, own_cell, part_cell, shown, shown_part}
use Rattle.krb_choice.specs.Wanted.{choice_form}
use Rattle.krb_choosing.specs.Listings.{chosen_listing}
use Rattle.krb_choice_laws.specs.Cells.{member_at, said_of}
use Rattle.krb_choice_laws.specs.Plain.{IsPlain}

-- ---- printable
abbrev pub MessagesArePlain : Type 0
MessagesArePlain = (line : Option ℕ) (layers : List Layer) (m : Message) → IsInProfile profiles.Lenient m → IsPlain (with_origin (message_origin line layers) (message_record m))

abbrev pub CapturedMessagesArePlain : Type 0
CapturedMessagesArePlain = (form : Form) (origin : CaptureOrigin) (m : Message) → OriginIsInRange origin → IsInProfile profiles.Lenient m → IsPlain (captured form origin (message_record m))

-- as they are listed, too: a form has no field of a message of a kind that it does not show
pub record ListedMessagesArePlain : Type 0 where
  pub message : (form : Form) (line : Option ℕ) (layers : List Layer) (m : Message) → IsInProfile profiles.Lenient m → IsPlain (with_origin (message_origin line layers) (shown_record form m))
  pub capture : (form : Form) (origin : CaptureOrigin) (m : Message) → OriginIsInRange origin → IsInProfile profiles.Lenient m → IsPlain (captured form origin (shown_record form m))

-- What a choice has of a message as it is listed is what it has of the whole message.
pub record ListedMessagesAreWhole : Type 0 where
  pub message : (c : Choice) (is_last : Bool) (line : Option ℕ) (layers : List Layer) (m : Message) → IsInProfile profiles.Lenient m
      → chosen_text c is_last (with_origin (message_origin line layers) (shown_record (choice_form c) m)) ≡ chosen_text c is_last (with_origin (message_origin line layers) (message_record m))
  pub capture : (c : Choice) (is_last : Bool) (origin : CaptureOrigin) (m : Message) → OriginIsInRange origin → IsInProfile profiles.Lenient m
      → chosen_text c is_last (captured (choice_form c) origin (shown_record (choice_form c) m)) ≡ chosen_text c is_last (captured (choice_form c) origin (message_record m))

-- ---- no octet of a key, a cipher or a checksum has a part in what is written
abbrev pub CiphersAreNotChosen : Type 0
CiphersAreNotChosen = (c : Choice) (goes_on : Bool) (origin : List Field) (m : Message) → chosen_listing c goes_on (message_line_from (choice_form c) origin (masked m)) ≡ chosen_listing c goes_on (message_line_from (choice_form c) origin m)

abbrev pub CapturedCiphersAreNotChosen : Type 0
CapturedCiphersAreNotChosen = (c : Choice) (goes_on : Bool) (origin : CaptureOrigin) (m : Message) → chosen_listing c goes_on (captured_message_line (choice_form c) origin (masked m)) ≡ chosen_listing c goes_on (captured_message_line (choice_form c) origin m)

abbrev pub KeysAreNotChosen : Type 0
KeysAreNotChosen = (c : Choice) (goes_on : Bool) (v : Keytab) → chosen_listing c goes_on (keytab_lines (choice_form c) (masked_keytab v)) ≡ chosen_listing c goes_on (keytab_lines (choice_form c) v)

abbrev pub SessionKeysAreNotChosen : Type 0
SessionKeysAreNotChosen = (c : Choice) (goes_on : Bool) (now : Option ℕ) (v : Ccache) → chosen_listing c goes_on (ccache_lines (choice_form c) now (masked_cache v)) ≡ chosen_listing c goes_on (ccache_lines (choice_form c) now v)

-- ---- a cell of a message, and of what is inside of it, says what the object says
abbrev pub SaysAll : Printed → Type 0
SaysAll r =
    (path : Path) (field : Field) → Contains (r.origin ++ r.fields ++ r.last) field
    → own_cell (Member field.name path) (shown r) ≡ said_of field.value path (member_at path field.name (json_of r))

abbrev pub PartSaysAll : Part → Type 0
PartSaysAll part =
    (path : Path) (field : Field) → Contains part.fields field
    → part_cell (Member field.name path) (Some (shown_part part)) ≡ said_of field.value path (member_at path field.name (part_json part))

abbrev pub MessagesSayObjects : Type 0
MessagesSayObjects = (line : Option ℕ) (layers : List Layer) (m : Message) → IsInProfile profiles.Lenient m → SaysAll (with_origin (message_origin line layers) (message_record m))

-- of a capture, where rows and objects are made of the same record
abbrev pub CapturedMessagesSayObjects : Type 0
CapturedMessagesSayObjects = (origin : CaptureOrigin) (m : Message) → OriginIsInRange origin → IsInProfile profiles.Lenient m → SaysAll (captured forms.Json origin (message_record m))

abbrev pub MessagesSayParts : Type 0
MessagesSayParts = (m : Message) → IsInProfile profiles.Lenient m → IfSome (inside_of m) (AllByRecursion PartSaysAll)
