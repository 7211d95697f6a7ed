-- The ends of listings of streams, and their refusals.
use Rattle.std.specs.Prelude.{ℕ, pos, List, [], ◌∷◌, ◌++◌, Option, codes}
use Rattle.krb_der.specs.Reasons.{reason_number, reason_name}
use Rattle.krb_der.specs.declared.why.Why.{Why}
use Rattle.krb_record.specs.declared.extent.Extent.{Extent}
use Rattle.krb_record.specs.declared.form.Form.{Form}
use Rattle.krb_record.specs.declared.form.Form.TheVariants.{NamedLines}
use Rattle.krb_record.specs.Forms.{record_line}
use Rattle.krb_record.specs.Refusals.{extent_in, known_path, path_in}
use Rattle.krb_record.specs.Values.{Number, Reason, Field, Printed, the, printed, told_by}

-- a frame that is refused, after n messages, and what is told of it
abbrev pub refused_frame : ℕ → ℕ → Why → List Field → Printed
refused_frame messages place reason fields =
    printed (codes "refused") (the (codes "messages") (Number (pos messages))
    ∷ the (codes "place") (Number (pos place))
    ∷ the (codes "why") (Reason (reason_number reason) (reason_name reason))
    ∷ fields)

-- with the path of the field at fault, if it has one, where the frame begins, and the length that it says
abbrev pub refused_in : Form → ℕ → ℕ → Why → Option (List ℕ) → Extent → Printed
refused_in form messages place reason path extent = refused_frame messages place reason (path_in form path ++ extent_in form extent)

abbrev pub frame_refused : Form → ℕ → ℕ → Why → Option (List ℕ) → Extent → Printed
frame_refused form messages place reason path extent = told_by (refused_in NamedLines messages place reason path extent) (refused_in form messages place reason path extent)

abbrev pub refused_record : Form → ℕ → ℕ → Why → Option (List ℕ) → Extent → Printed
refused_record form messages place reason path extent = frame_refused form messages place reason (known_path form path) extent

-- how a listing ends that goes on after refusals, after n messages
abbrev pub counted_end : ℕ → ℕ → Printed
counted_end messages refused =
    printed (codes "end") (the (codes "messages") (Number (pos messages)) ∷ the (codes "refused") (Number (pos refused)) ∷ [])

abbrev pub counted_end_record : ℕ → ℕ → Printed
counted_end_record messages refused = told_by (counted_end messages refused) (counted_end messages refused)

abbrev pub refused_line : Form → ℕ → ℕ → Why → Option (List ℕ) → Extent → List ℕ
refused_line form messages place reason path extent = record_line form (refused_record form messages place reason path extent)

-- the same with the path alone
abbrev pub untold_refused_line : Form → ℕ → ℕ → Why → Option (List ℕ) → List ℕ
untold_refused_line form messages place reason path = record_line form (refused_frame messages place reason (path_in form path))

-- a listing that ends between frames
abbrev pub stream_end_record : ℕ → Printed
stream_end_record messages = printed (codes "end") (the (codes "messages") (Number (pos messages)) ∷ [])

abbrev pub stream_end_line : Form → ℕ → List ℕ
stream_end_line form messages = record_line form (stream_end_record messages)

abbrev pub counted_end_line : Form → ℕ → ℕ → List ℕ
counted_end_line form messages refused = record_line form (counted_end_record messages refused)
