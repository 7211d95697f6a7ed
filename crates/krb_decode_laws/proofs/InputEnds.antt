-- How the decoding of an input ends.
use Rattle.std.proofs.Common.{◌≡◌, ℕ, List, [], ◌∷◌, ◌++◌, ap}
use Rattle.krb_input.specs.Inputs.{spelled}
use Rattle.krb_record.specs.Forms.{record_text}
use Rattle.krb_record.specs.Labels.{no_label}
use Rattle.krb_record.specs.Text.{line_feed}
use Rattle.krb_record.specs.declared.form.Form.TheVariants.{NamedLines}
use Rattle.krb_run.specs.declared.run.RunEnd.{RunEnd}
use Rattle.krb_run.specs.declared.run.RunEnd.TheVariants as run
use Rattle.krb_source.specs.declared.spelling.Spelling.TheVariants.{Octets}
use Rattle.krb_tool.specs.Messages.{OneRecord, input_listing, input_octets_listing, listing_with, message_listing, whole_input}
use Rattle.krb_decode.specs.Decoded.{Added, decoded_by, decoded_input, decoded_octets, decoded_spelled, end_of}
use Rattle.krb_decode.specs.Given.{decoded_given}
use Rattle.krb_decode_laws.specs.Inputs.{EndsAsSaid, InputsEndAsSaid}
use Rattle.krb_decode_laws.proofs.CacheTickets.{silent-end}

not-empty : (text : List ℕ) → text ++ line_feed ≡ [] → ⊥
not-empty [] e = cc
not-empty (octet ∷ text) e = cc

-- what is listed is a line
by-end : (end : RunEnd) (line : List ℕ) (added : Added) → EndsAsSaid (decoded_by end (line ++ line_feed) added)
by-end run.Clean line added = record { clean = λ e. ap end_of e; silent = silent-end added.said }
by-end run.Refused line added = record { clean = λ e. absurd (not-empty line e); silent = λ e. absurd cc }
by-end run.RefusedAtOnce line added = record { clean = λ e. absurd (not-empty line e); silent = λ e. absurd cc }

by-record : (one : OneRecord) (added : Added) → EndsAsSaid (decoded_by one.end (listing_with (no_label NamedLines) one).text added)
by-record one added = by-end one.end (record_text NamedLines one.shown) added

pub inputs_end_as_said : InputsEndAsSaid
unfolding decoded_input decoded_given message_listing
inputs_end_as_said = record {
  of_input = λ profile input. by-record (input_listing (whole_input NamedLines profile) input) (decoded_spelled profile (spelled input));
  of_octets = λ profile octets. by-record (input_octets_listing (whole_input NamedLines profile) Octets octets) (decoded_octets profile octets);
}
