use Rattle.std.proofs.Common.{arith}
use Rattle.std.proofs.lemmas.Bool.Decides.{nat_tests}
use Rattle.krb_json.proofs.Digits.{even-digits}
use Rattle.krb_json.proofs.hexadecimal.push_decoded.Goals as goal
use Rattle.krb_json.proofs.hexadecimal.push_decoded.Goals.{then-text-ne0-via-then-text-ne0, then-text-ne0-via-else-text-ne0+then-not-are_digits}

pub returns-then-text-ne0 : goal.returns-then-text-ne0
returns-then-text-ne0 c octets e =
    let d = even-digits c.args.text.now octets e in
    elim c.then-text-ne0.branch [
      | then-text-ne0-via-then-text-ne0 w ↦ grind (arith, nat_tests, d.0, d.1, w.if-text-ne0.true)
      | then-text-ne0-via-else-text-ne0+then-not-are_digits w ↦ grind (arith, nat_tests, d.0, d.1, w.are_digits.ensures, w.if-not-are_digits.true)
    ]
