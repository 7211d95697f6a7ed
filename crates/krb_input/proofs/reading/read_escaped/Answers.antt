use Rattle.std.proofs.Common.{◌≡◌, Some, None, true, false, refl}
use Rattle.krb_input.specs.Comments.{text_left}
use Rattle.krb_input.specs.Escapes.{has_escape, escapes}
use Rattle.krb_input.specs.Headers.{token_of}
use Rattle.krb_input.specs.Base64.{base64}
use Rattle.krb_input.specs.Inputs.{spelled_in_braces}
use Rattle.krb_source.specs.declared.spelling.Spelling.TheVariants as form
use Rattle.krb_input.proofs.Told.{told_is}
use Rattle.krb_input.proofs.reading.read_escaped.Goals as goal

pub returns-then-has_plain_escape : goal.returns-then-has_plain_escape
returns-then-has_plain_escape c =
    told_is (spelled_in_braces c.args.size None c.args.text.now) (escapes (text_left c.new.result)) c.args.size form.Hex c.read_escapes.result c.told.result
    (let n : text_left c.new.result ≡ c.args.text.now = c.new.ensures in let e : has_escape c.args.text.now ≡ true = cc (c.has_plain_escape.ensures, c.if-has_plain_escape.true) in rw (e, n) refl)
    c.read_escapes.ensures.octets c.read_escapes.ensures.fault c.told.ensures

pub returns-in-Some : goal.returns-in-Some
returns-in-Some c =
    told_is (spelled_in_braces c.args.size None c.args.text.now) (base64 c.in-Some.token.now) c.args.size form.Base64 c.read_base64.result c.told-in-Some.result
    (let e : has_escape c.args.text.now ≡ false = cc (c.has_plain_escape.ensures, c.if-has_plain_escape.false) in let f : token_of c.args.text.now ≡ Some c.in-Some.token.now = c.in-Some.ensures in rw (e, f) refl)
    c.read_base64.ensures.octets c.read_base64.ensures.fault c.told-in-Some.ensures
