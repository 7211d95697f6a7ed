-- A run that decodes an input.
use Rattle.std.proofs.Common.{◌≡◌, ℕ, ◌≤◌, List, [], ◌++◌, length, Option, Some, Result, Ok, Err, inl, inr, OnErr, refl, sym, ◌∙◌, ap, subst, append-nil}
use Rattle.std.proofs.KnownBytes.{Appends-nil}
use Rattle.std.proofs.lemmas.Result.{IfOk-weaker}
use Rattle.std.specs.Io.KnownBytes.{Appends, Consumes, IsAtEnd}
use Rattle.std.specs.Prelude.{◌⊎◌}
use Rattle.krb_der.specs.declared.profile.Profile.{Profile}
use Rattle.krb_input.specs.Inputs.{spelled}
use Rattle.krb_record.specs.Labels.{Label, no_label}
use Rattle.krb_record.specs.declared.form.Form.TheVariants as form
use Rattle.krb_run.specs.Files.{FileListing, IsSettled, ListsFile, ReadsSome}
use Rattle.krb_run.specs.Records.{AppendsPrefix}
use Rattle.krb_run.specs.declared.run.RunEnd.{RunEnd}
use Rattle.krb_run.specs.declared.run.RunEnd.TheVariants as run
use Rattle.krb_tool.specs.Messages.{IsMessageListing, message_listing, octets_listing}
use Rattle.krb_convert.specs.Decoding.{ReadsMost}
use Rattle.krb_decode.specs.Decoded.{Added, decoded_by, decoded_input, decoded_octets, decoded_spelled, refused}
use Rattle.krb_decode.specs.Runs.{DecodesInput, FailsToDecodeInput}
use Rattle.krb_decode.specs.Given.{decoded_given, decoded_of}
use Rattle.krb_decode.specs.declared.input.DecodedInput.{DecodedInput}

-- ---- the listing of an input
whole-of : (label : Label) (profile : Profile) (input left file : List ℕ) (listing : FileListing) → input ≡ file ++ left → listing ≡ message_listing label profile file
    → IsAtEnd (Some left) ⊎ IsSettled (IsMessageListing label profile) file listing → listing ≡ message_listing label profile input
whole-of label profile input left file listing taken listed (inl end) =
    listed ∙ ap (message_listing label profile) (sym (taken ∙ ap (λ l. file ++ l) end ∙ append-nil file))
whole-of label profile input left file listing taken listed (inr settled) = settled left ∙ ap (message_listing label profile) (sym taken)

pub input-by : (profile : Profile) (label : Label) (input left before said : List ℕ) (ended : RunEnd) → label ≡ no_label form.NamedLines → before ≡ [] → ListsFile (IsMessageListing label profile) (Some input) (Some left) (Some before) (Some said) ended
    → decoded_input profile input ≡ decoded_by ended said (decoded_spelled profile (spelled input))
unfolding decoded_input
input-by profile label input left before said ended none empty l =
    let whole : l.listing ≡ message_listing label profile input = whole-of label profile input left l.file l.listing l.read.taken l.read.listed l.read.enough in
    let is : message_listing (no_label form.NamedLines) profile input ≡ l.listing = ap (λ x. message_listing x profile input) (sym none) ∙ sym whole in
    ap (λ (x : FileListing). decoded_by x.end x.text (decoded_spelled profile (spelled input))) is
    ∙ ap (λ e. decoded_by e l.listing.text (decoded_spelled profile (spelled input))) (sym l.ended_so)
    ∙ ap (λ t. decoded_by ended t (decoded_spelled profile (spelled input))) (sym (l.added ∙ ap (λ (b : List ℕ). b ++ l.listing.text) empty))

-- octets that are never read as text
pub given-by : (profile : Profile) (octets : List ℕ) (listing : FileListing) → listing ≡ octets_listing form.NamedLines profile octets → decoded_given profile octets ≡ decoded_by listing.end listing.text (decoded_octets profile octets)
unfolding decoded_given
given-by profile octets listing is = ap (λ (x : FileListing). decoded_by x.end x.text (decoded_octets profile octets)) (sym is)

-- one that is refused
pub refused-by : (ended : RunEnd) (listed : List ℕ) (added : Added) → (ended ≡ run.Refused) ⊎ (ended ≡ run.RefusedAtOnce) → decoded_by ended listed added ≡ refused listed
refused-by ended listed added (inl is) = ap (λ e. decoded_by e listed added) is
refused-by ended listed added (inr is) = ap (λ e. decoded_by e listed added) is

-- ---- what a run did
pub DecodesInput-made : (profile : Profile) (had left written_before written_after : Option (List ℕ)) (octets : List ℕ) (made : DecodedInput) → ReadsMost had left 16777217 octets → Appends written_before written_after made.lines.items → decoded_of made ≡ decoded_input profile octets
    → DecodesInput profile had left written_before written_after made.end
DecodesInput-made profile had left written_before written_after octets made r a e = record {
  read = octets;
  taken = r.taken;
  few = r.few;
  all = r.ended;
  written = subst (Appends written_before written_after) (ap (λ d. d.lines) e) a;
  said = ap (λ d. d.said) e;
  ended = ap (λ d. d.end) e;
}

-- nothing was written
pub input-unwritten : {T E : Type 0} (r : Result T E) (profile : Profile) (had left written : Option (List ℕ)) → ReadsSome had left → OnErr r (FailsToDecodeInput profile had left written written)
input-unwritten (Ok x) profile had left written some = tt
input-unwritten (Err e) profile had left written some = record {
  read = some.0;
  taken = some.1;
  written = record { prefix = []; rest = (decoded_input profile some.0).lines; added = Appends-nil written; whole = refl };
}

-- a write failed
pub input-written : {T E : Type 0} (r : Result T E) (profile : Profile) (had left written_before written_after : Option (List ℕ)) (octets : List ℕ) (made : DecodedInput) → Consumes had left octets → AppendsPrefix written_before written_after made.lines.items → decoded_of made ≡ decoded_input profile octets
    → OnErr r (FailsToDecodeInput profile had left written_before written_after)
input-written (Ok x) profile had left written_before written_after octets made taken f e = tt
input-written (Err x) profile had left written_before written_after octets made taken f e = record {
  read = octets;
  taken = taken;
  written = subst (AppendsPrefix written_before written_after) (ap (λ d. d.lines) e) f;
}
