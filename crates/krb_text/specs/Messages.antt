-- What is printed of messages: the name of the message, its fields and its notes, and what is inside of it.
use Rattle.std.specs.Prelude.{ℕ, ◌≡◌, ◌^◌, ◌<◌, Bool, true, false, List, [], ◌∷◌, ◌++◌, length, codes}
use Rattle.krb_der.specs.declared.profile.Profile.{Profile}
use Rattle.krb_der.specs.declared.verdict.Verdict.TheVariants.{Whole}
use Rattle.krb_msg.specs.Judgement.{judgement}
use Rattle.krb_msg.specs.Notes.{notes_of, notes_of_ticket}
use Rattle.krb_msg.specs.declared.message.Message.{Message}
use Rattle.krb_msg.specs.declared.ticket.Ticket.{Ticket}
use Rattle.krb_msg.specs.Views.{kind_name, kind_of, message_of_der}
use Rattle.krb_record.specs.declared.capture_origin.CaptureOrigin.{CaptureOrigin}
use Rattle.krb_record.specs.declared.form.Form.{Form}
use Rattle.krb_record.specs.Captures.{captured_line}
use Rattle.krb_record.specs.Forms.{record_text, record_line, shows_kind}
use Rattle.krb_text.specs.Inside.{inside_of}
use Rattle.krb_text.specs.MessageValues.{encrypted, principal}
use Rattle.krb_record.specs.Values.{Field, Printed, the, printed, with_inside, with_origin}
pub use Rattle.krb_text.specs.MessageFields.{padata, notes, methods, kdc_req_fields, kdc_rep_fields, ap_req_fields, ap_rep_fields, krb_safe_fields, krb_priv_fields, krb_cred_fields, krb_error_fields, fields_of}

unfoldable pub message_record : Message → Printed
message_record m = with_inside (inside_of m) (printed (kind_name (kind_of m)) (fields_of m ++ the (codes "notes") (notes (notes_of m)) ∷ []))

-- what a form shows of a message: rows have no fields of one whose kind they do not want
abbrev pub unless_hidden : (is_shown : Bool) → Printed → Printed
unless_hidden true r = r
unless_hidden false r = printed r.kind []

abbrev pub shown_record : Form → Message → Printed
shown_record form m = unless_hidden (shows_kind form (kind_name (kind_of m))) (message_record m)

-- a message in a form, without its line feed, and with it
abbrev pub message_text : Form → Message → List ℕ
message_text form m = record_text form (shown_record form m)

unfoldable pub message_line : Form → Message → List ℕ
message_line form m = record_line form (shown_record form m)

-- ---- a Ticket alone
unfoldable pub ticket_record : Ticket → Printed
ticket_record t =
    printed (codes "Ticket") (the (codes "server") (principal t.realm t.sname)
    ∷ the (codes "ticket") (encrypted t.enc_part)
    ∷ the (codes "notes") (notes (notes_of_ticket t))
    ∷ [])

-- ---- with an origin
abbrev pub message_line_from : Form → List Field → Message → List ℕ
message_line_from form origin m = record_line form (with_origin origin (shown_record form m))

abbrev pub captured_message_line : Form → CaptureOrigin → Message → List ℕ
captured_message_line form origin m = captured_line form origin (shown_record form m)

abbrev pub ticket_line : Form → List Field → Ticket → List ℕ
ticket_line form origin t = record_line form (with_origin origin (ticket_record t))

-- ---- octets that are a message
-- The line of a message was appended, if octets are one of a profile, and else nothing. More than 2147483647 octets are none.
abbrev pub PutsMessage : Profile → List ℕ → (Message → List ℕ) → List ℕ → List ℕ → Bool → Type 0
PutsMessage profile octets line old new true = (judgement profile (length octets) octets ≡ Whole) × (new ≡ old ++ line (message_of_der octets))
PutsMessage profile octets line old new false = (length octets < 2 ^ 31 → judgement profile (length octets) octets ≡ Whole → ⊥) × (new ≡ old)
