use Rattle.std.proofs.Common.{◌≡◌, None, true, false, refl}
use Rattle.krb_input.specs.Comments.{text_left}
use Rattle.krb_input.specs.Tokens.{first_unfit, tokens}
use Rattle.krb_input.specs.Inputs.{spelled_in_field}
use Rattle.krb_source.specs.declared.spelling.Spelling.TheVariants as form
use Rattle.krb_input.proofs.Told.{told_is}
use Rattle.krb_input.proofs.reading.read_bare.Goals as goal

pub returns-in-None : goal.returns-in-None
returns-in-None c =
    told_is (spelled_in_field c.args.size None c.args.text.now) (tokens true (text_left c.new-in-None.result)) c.args.size form.Hex c.read_tokens.result c.told.result
    (let n : text_left c.new-in-None.result ≡ c.args.text.now = c.new-in-None.ensures in let e : first_unfit false c.args.text.now ≡ None = cc (c.new.ensures, c.in-None.ensures) in rw (e, n) refl)
    c.read_tokens.ensures.octets c.read_tokens.ensures.fault c.told.ensures
