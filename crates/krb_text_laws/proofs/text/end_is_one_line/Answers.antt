use Rattle.std.proofs.Common.{ℕ, Option, List, IfSome, refl}
use Rattle.krb_der.specs.Octets.{AreOctets}
use Rattle.krb_der.specs.declared.why.Why.{Why}
use Rattle.krb_der.specs.declared.why.Why.TheVariants as whys
use Rattle.krb_msg.specs.Stream.{End, Boundary, Within, Refused}
use Rattle.krb_record.specs.Files.{file_line, file_record}
use Rattle.krb_record.specs.Forms.{form_of}
use Rattle.krb_record.specs.Inputs.{input_refused_record}
use Rattle.krb_record.specs.Laws.{IsOneLine}
use Rattle.krb_record.specs.Refusals.{file_refused_record, known_path, message_refused_record, path_in, refusal_record}
use Rattle.krb_text.specs.StreamEnds.{end_line, end_record}
use Rattle.krb_record.specs.Streams.{counted_end_record, refused_frame, refused_line, refused_record}
use Rattle.krb_record.specs.declared.extent.Extent.{Extent}
use Rattle.krb_record.specs.declared.form.Base.{Base}
use Rattle.krb_record.specs.declared.form.Base.TheVariants as bases
use Rattle.krb_text_laws.proofs.EndOneLine.{input_is_plain, input_shown, kind_is_plain, known_octets, located_is_plain, located_shown, message_line_from, one_line, path_is_plain, path_shown, spelled_is_plain, spelled_shown}
use Rattle.krb_record.proofs.Reasons as reasons
use Rattle.krb_text_laws.proofs.Tuples.{◌&◌}
use Rattle.krb_text_laws.proofs.text.end_is_one_line.Goals as goal

pub returns-clause-file : goal.returns-clause-file
returns-clause-file c =
    λ base place reason path extent h. one_line base (file_refused_record (form_of base) place reason path extent) refl (located_is_plain base (known_path (form_of base) path) extent)
    (tt & (reasons.file_name reason).all & located_shown base (known_path (form_of base) path) extent (known_octets base path h))

pub returns-clause-message : goal.returns-clause-message
returns-clause-message c = λ base line layers refusal path extent spelling h.
    message_line_from base line layers (message_refused_record (form_of base) refusal path extent spelling) refl (spelled_is_plain base (known_path (form_of base) path) extent spelling)
    (tt & (reasons.name refusal.why).all & spelled_shown base (known_path (form_of base) path) extent spelling (known_octets base path h)) tt

pub returns-clause-untold_message : goal.returns-clause-untold_message
returns-clause-untold_message c =
    λ base refusal path h. one_line base (refusal_record refusal (path_in (form_of base) path)) refl (path_is_plain base path) (tt & (reasons.name refusal.why).all & path_shown base path h)

pub returns-clause-input : goal.returns-clause-input
returns-clause-input c = λ base line layers fault place extent spelling.
    message_line_from base line layers (input_refused_record (form_of base) fault place extent spelling) (kind_is_plain base fault) (input_is_plain base fault place extent spelling) (input_shown base fault place extent spelling) tt

refused : (base : Base) (messages place : ℕ) (reason : Why) (path : Option (List ℕ)) (extent : Extent) → IfSome path AreOctets → IsOneLine (refused_line (form_of base) messages place reason path extent)
refused base messages place reason path extent h =
    one_line base (refused_record (form_of base) messages place reason path extent) refl (located_is_plain base (known_path (form_of base) path) extent)
    (tt & tt & (reasons.name reason).all & located_shown base (known_path (form_of base) path) extent (known_octets base path h))

by_end : (base : Base) (messages : ℕ) (end : End) (path : Option (List ℕ)) (extent : Extent) → IfSome path AreOctets → IsOneLine (end_line (form_of base) messages end path extent)
by_end base messages Boundary path extent h = one_line base (end_record (form_of base) messages Boundary path extent) refl refl (tt & tt)
by_end base messages (Within present) path extent h = refused base messages present whys.Truncated path extent h
by_end base messages (Refused place reason) path extent h = refused base messages place reason path extent h

pub returns-clause-stream : goal.returns-clause-stream
returns-clause-stream c = by_end

pub returns-clause-untold_stream : goal.returns-clause-untold_stream
returns-clause-untold_stream c =
    λ base messages place reason path h. one_line base (refused_frame messages place reason (path_in (form_of base) path)) refl (path_is_plain base path) (tt & tt & (reasons.name reason).all & path_shown base path h)

pub returns-clause-counted : goal.returns-clause-counted
returns-clause-counted c = λ base messages refused. one_line base (counted_end_record messages refused) refl refl (tt & tt & tt)

name_line : (base : Base) (name : List ℕ) → AreOctets name → IsOneLine (file_line (form_of base) name)
name_line bases.Lines name h = one_line bases.Lines (file_record name) refl refl (h & tt)
name_line bases.NamedLines name h = one_line bases.NamedLines (file_record name) refl refl (h & tt)
name_line bases.Json name h = one_line bases.Json (file_record name) refl refl (h & tt)

pub returns-clause-name : goal.returns-clause-name
returns-clause-name c = name_line
