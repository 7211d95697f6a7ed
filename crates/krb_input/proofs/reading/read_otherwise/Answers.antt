use Rattle.std.proofs.Common.{◌≡◌, true, refl}
use Rattle.krb_input.specs.Base64.{base64, first_octet}
use Rattle.krb_input.specs.Inputs.{is_first_of, spelled_otherwise}
use Rattle.krb_source.specs.declared.spelling.Spelling.TheVariants as form
use Rattle.krb_input.proofs.Told.{told_is}
use Rattle.krb_input.proofs.reading.read_otherwise.Goals as goal

pub returns-then-begins_base64 : goal.returns-then-begins_base64
returns-then-begins_base64 c =
    told_is (spelled_otherwise c.args.size c.args.unfit c.args.text.now) (base64 c.args.text.now) c.args.size form.Base64 c.read_base64.result c.told.result
    (let e : is_first_of (first_octet c.args.text.now) ≡ true = cc (c.begins_base64.ensures, c.if-begins_base64.true) in rw e refl)
    c.read_base64.ensures.octets c.read_base64.ensures.fault c.told.ensures
