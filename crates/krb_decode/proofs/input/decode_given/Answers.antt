use Rattle.std.proofs.Common.{sym, ◌∙◌, ap}
use Rattle.std.proofs.lemmas.Result.{IfOk-weaker}
use Rattle.krb_run.specs.Files.{shown}
use Rattle.krb_decode.specs.Decoded.{decoded_by, decoded_octets, refused}
use Rattle.krb_decode.proofs.InputRuns.{given-by, refused-by}
use Rattle.krb_decode.proofs.input.decode_given.Goals as goal

pub returns-in-Clean : goal.returns-in-Clean
returns-in-Clean c =
    let listing = shown c.in_ok-listed.listed in
    let found = decoded_octets c.args.profile c.args.octets.now in
    let by = given-by c.args.profile c.args.octets.now listing c.in_ok-listed.ensures.listed ∙ ap (λ e. decoded_by e listing.text found) c.in-Clean.is in
    IfOk-weaker c.decode_octets.result _ _ (λ made e. e ∙ sym by) c.decode_octets.ensures

pub returns-in-Refused : goal.returns-in-Refused
returns-in-Refused c =
    let listing = shown c.in_ok-listed.listed in
    let by = given-by c.args.profile c.args.octets.now listing c.in_ok-listed.ensures.listed in
    c.refused.ensures ∙ ap refused (ap (λ v. v.items) c.into_bytes.ensures.value ∙ c.into_string.ensures) ∙ sym (by ∙ refused-by _ _ (decoded_octets c.args.profile c.args.octets.now) c.in-Refused.is)
