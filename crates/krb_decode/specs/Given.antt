-- What is decoded of octets that are never read as text.
use Rattle.std.specs.Prelude.{ℕ, List}
use Rattle.krb_der.specs.declared.profile.Profile.{Profile}
use Rattle.krb_record.specs.declared.form.Form.TheVariants as form
use Rattle.krb_tool.specs.Messages.{octets_listing}
use Rattle.krb_decode.specs.Decoded.{Decoded, decoded_by, decoded_octets}
use Rattle.krb_decode.specs.declared.input.DecodedInput.{DecodedInput}

-- as the code has it
abbrev pub decoded_of : DecodedInput → Decoded
decoded_of made = record { lines = made.lines.items; said = made.end.said.items; end = made.end.end }

-- what their listing says if they are refused, and else what they are
unfoldable pub decoded_given : Profile → List ℕ → Decoded
decoded_given profile octets =
    let listing = octets_listing form.NamedLines profile octets in decoded_by listing.end listing.text (decoded_octets profile octets)
