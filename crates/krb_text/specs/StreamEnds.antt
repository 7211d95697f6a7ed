-- How listings of streams end.
use Rattle.std.specs.Prelude.{ℕ, pos, List, [], ◌∷◌, Option, codes}
use Rattle.krb_der.specs.declared.why.Why.TheVariants.{Truncated}
use Rattle.krb_msg.specs.Stream.{End, Boundary, Within, Refused}
use Rattle.krb_record.specs.declared.extent.Extent.{Extent}
use Rattle.krb_record.specs.declared.form.Form.{Form}
use Rattle.krb_record.specs.Forms.{record_line}
use Rattle.krb_record.specs.Streams.{refused_record}
use Rattle.krb_record.specs.Values.{Number, Printed, the, printed}

-- how a listing ends, after n messages, and where the frame begins that it may end in
abbrev pub end_record : Form → ℕ → End → Option (List ℕ) → Extent → Printed
end_record form messages Boundary path extent = printed (codes "end") (the (codes "messages") (Number (pos messages)) ∷ [])
end_record form messages (Within present) path extent = refused_record form messages present Truncated path extent
end_record form messages (Refused place reason) path extent = refused_record form messages place reason path extent

abbrev pub end_line : Form → ℕ → End → Option (List ℕ) → Extent → List ℕ
end_line form messages end path extent = record_line form (end_record form messages end path extent)
