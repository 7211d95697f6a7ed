use Rattle.std.proofs.Common.{◌++◌, ◌∷◌, [], ap, sym, subst, ◌∙◌}
use Rattle.std.specs.Str.{IsAscii}
use Rattle.hex.specs.Hex.{encode_lower}
use Rattle.json.specs.Token.{string}
use Rattle.krb_der.specs.inner.Numbers.{AreOctets-slice}
use Rattle.krb_json.proofs.Printable.{printable-ascii, printable-hex}
use Rattle.krb_json.proofs.Walks.{on-ok}
use Rattle.krb_json.proofs.writing.put_hex.Goals as goal

pub returns-clause-written : goal.returns-clause-written
returns-clause-written c =
    on-ok c.put_ascii.result (λ written. written ∙ ap (λ l. c.args.out.now.tokens ++ string l ∷ []) c.fill_digits.ensures)
    (c.put_ascii.ensures.written (subst IsAscii (sym c.fill_digits.ensures) (printable-ascii (encode_lower c.args.octets.now) (printable-hex c.args.octets.now (AreOctets-slice c.args.octets.now c.type_inv.octets)))))
