use Rattle.std.proofs.Common.{◌++◌, ◌∷◌, [], ap, sym, subst, ◌∙◌}
use Rattle.std.specs.Str.{IsAscii, IsUtf8}
use Rattle.std.proofs.lemmas.Str.{IsUtf8-from_ascii}
use Rattle.krb_der.specs.inner.Numbers.{AreOctets-slice}
use Rattle.krb_json.specs.Spelling.{shown}
use Rattle.krb_json.proofs.Printable.{plain-shown, printable-ascii, printable-shown}
use Rattle.json.specs.Token.{string}
use Rattle.krb_json.proofs.Walks.{on-ok}
use Rattle.krb_json.proofs.writing.put_shown.Goals as goal

pub unreachable-requires : goal.unreachable-requires
unreachable-requires c =
    absurd (c.in-Err.ensures.cases.0 (subst IsUtf8 (sym (c.as_slice.ensures.value ∙ c.in_ok-text.ensures))
    (IsUtf8-from_ascii (shown c.args.octets.now) (printable-ascii (shown c.args.octets.now) (printable-shown c.args.octets.now (AreOctets-slice c.args.octets.now c.type_inv.octets))))))

pub returns-then-are_plain-clause-written : goal.returns-then-are_plain-clause-written
returns-then-are_plain-clause-written c =
    let same = plain-shown c.args.octets.now (sym c.are_plain.ensures ∙ c.if-are_plain.true) in
    on-ok c.put_ascii.result (λ written. written ∙ ap (λ l. c.args.out.now.tokens ++ string l ∷ []) (sym same))
    (c.put_ascii.ensures.written (subst IsAscii same (printable-ascii (shown c.args.octets.now) (printable-shown c.args.octets.now (AreOctets-slice c.args.octets.now c.type_inv.octets)))))
