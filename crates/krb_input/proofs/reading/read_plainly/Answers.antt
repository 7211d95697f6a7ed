use Rattle.std.proofs.Common.{◌≡◌, Some, true, false, refl}
use Rattle.krb_input.specs.Digits.{are_digits, digits}
use Rattle.krb_input.specs.Braces.{after_first, braces}
use Rattle.krb_input.specs.Inputs.{spelled_plainly}
use Rattle.krb_source.specs.declared.spelling.Spelling.TheVariants as form
use Rattle.krb_input.proofs.Told.{told_is}
use Rattle.krb_input.proofs.reading.read_plainly.Goals as goal

pub returns-then-are_digits : goal.returns-then-are_digits
returns-then-are_digits c =
    told_is (spelled_plainly c.args.size c.args.text.now) (digits c.args.text.now) c.args.size form.Hex c.read_digits.result c.told.result
    (let e : are_digits c.args.text.now ≡ true = cc (c.are_digits.ensures, c.if-are_digits.true) in rw e refl)
    c.read_digits.ensures.octets c.read_digits.ensures.fault c.told.ensures

pub returns-in-Some : goal.returns-in-Some
returns-in-Some c =
    told_is (spelled_plainly c.args.size c.args.text.now) (braces c.in-Some.block.now) c.args.size form.Hex c.read_braces.result c.told-in-Some.result
    (let e : are_digits c.args.text.now ≡ false = cc (c.are_digits.ensures, c.if-are_digits.false) in let f : after_first 0x7B c.args.text.now ≡ Some c.in-Some.block.now = c.in-Some.ensures in rw (e, f) refl)
    c.read_braces.ensures.octets c.read_braces.ensures.fault c.told-in-Some.ensures
