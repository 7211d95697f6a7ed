-- Laws of what is printed of messages.
use Rattle.std.specs.Prelude.{ℕ, ◌≡◌, Option, IfSome, List}
use Rattle.krb_der.specs.declared.profile.Profile.TheVariants as profiles
use Rattle.krb_der.specs.Octets.{AreOctets}
use Rattle.krb_msg.specs.Stream.{End}
use Rattle.krb_msg.specs.declared.message.Message.{Message}
use Rattle.krb_msg.specs.Grammar.{ticket}
use Rattle.krb_msg.specs.Types.{ticket_value}
use Rattle.krb_msg.specs.declared.ticket.Ticket.{Ticket}
use Rattle.krb_msg.specs.Term.{Fits}
use Rattle.krb_msg.specs.Views.{IsInProfile}
use Rattle.krb_record.specs.Laws.{IsOneLine, OriginIsInRange}
use Rattle.krb_record.specs.declared.form.Base.{Base}
use Rattle.krb_record.specs.Forms.{form_of}
use Rattle.krb_record.specs.declared.form.Form.{Form}
use Rattle.krb_record.specs.declared.capture_origin.CaptureOrigin.{CaptureOrigin}
use Rattle.krb_record.specs.declared.extent.Extent.{Extent}
use Rattle.krb_text.specs.StreamEnds.{end_line}
use Rattle.krb_record.specs.Origins.{message_origin}
use Rattle.krb_text.specs.Messages.{captured_message_line, message_record, message_line, message_line_from, ticket_line}
use Rattle.krb_text.specs.Masks.{masked, masked_ticket}
use Rattle.krb_record.specs.Values.{Field}
use Rattle.krb_source.specs.declared.layer.Layer.{Layer}

-- a message's
abbrev pub MessageIsOneLine : Type 0
MessageIsOneLine = (base : Base) (m : Message) → IsInProfile profiles.Lenient m → IsOneLine (message_line (form_of base) m)

-- that of one that comes from a line, or lies in something
abbrev pub MessageFromIsOneLine : Type 0
MessageFromIsOneLine = (base : Base) (line : Option ℕ) (layers : List Layer) (m : Message) → IsInProfile profiles.Lenient m → IsOneLine (message_line_from (form_of base) (message_origin line layers) m)

-- a Ticket's
abbrev pub TicketIsOneLine : Type 0
TicketIsOneLine = (base : Base) (line : Option ℕ) (layers : List Layer) (t : Ticket) → Fits ticket (ticket_value t) → IsOneLine (ticket_line (form_of base) (message_origin line layers) t)

-- the last of a stream, which may be that of its refusal
abbrev pub StreamEndIsOneLine : Type 0
StreamEndIsOneLine = (base : Base) (messages : ℕ) (end : End) (path : Option (List ℕ)) (extent : Extent) → IfSome path AreOctets → IsOneLine (end_line (form_of base) messages end path extent)

-- that of a message of a capture
abbrev pub CapturedMessageIsOneLine : Type 0
CapturedMessageIsOneLine = (base : Base) (origin : CaptureOrigin) (m : Message) → OriginIsInRange origin → IsInProfile profiles.Lenient m → IsOneLine (captured_message_line (form_of base) origin m)

-- ---- no octet of what is encrypted or opaque has a part in what is printed
-- the record of a message, of which its line in each form is made
abbrev pub CiphersAreNotInRecords : Type 0
CiphersAreNotInRecords = (m : Message) → message_record (masked m) ≡ message_record m

-- its line
abbrev pub CiphersAreNotInLines : Type 0
CiphersAreNotInLines = (form : Form) (m : Message) → message_line form (masked m) ≡ message_line form m

-- its line from an origin
abbrev pub CiphersAreNotInLinesFrom : Type 0
CiphersAreNotInLinesFrom = (form : Form) (origin : List Field) (m : Message) → message_line_from form origin (masked m) ≡ message_line_from form origin m

-- that of a Ticket
abbrev pub CiphersAreNotInTickets : Type 0
CiphersAreNotInTickets = (form : Form) (origin : List Field) (t : Ticket) → ticket_line form origin (masked_ticket t) ≡ ticket_line form origin t

-- its line in a capture
abbrev pub CiphersAreNotInCaptures : Type 0
CiphersAreNotInCaptures = (form : Form) (origin : CaptureOrigin) (m : Message) → captured_message_line form origin (masked m) ≡ captured_message_line form origin m
