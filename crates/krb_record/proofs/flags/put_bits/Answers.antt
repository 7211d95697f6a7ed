use Rattle.std.proofs.Common.{◌≡◌, ◌++◌, ◌-◌, ◌*◌, ◌∙◌, OnOk, ap, append_assoc, arith, codes, decimal, length, subst, sym}
use Rattle.std.proofs.lemmas.List.{take_all}
use Rattle.itoa.proofs.Decimal.{decimal_two}
use Rattle.krb_record.specs.Text.{hex}
use Rattle.krb_record.proofs.flags.put_bits.Goals as goal

pub returns-in-Some-default-empty : goal.returns-in-Some-default-empty
returns-in-Some-default-empty c =
    let cut = c.in-Some-default-empty.ensures.cases in
    let count : length c.args.octets.now ≡ 4 = omega (arith, cut.2, c.in-Some-default-empty.len_below) in
    let all : c.in-Some-default-empty.four.now ≡ c.args.octets.now = cut.0 ∙ take_all 4 c.args.octets.now (omega (arith, count)) in
    let bits : 8 * length c.args.octets.now - c.args.unused ≡ 32 = omega (arith, count, c.if-unused-eq0.true) in
    let size : decimal (8 * length c.args.octets.now - c.args.unused) ≡ codes "32" = ap decimal bits ∙ decimal_two 32 (omega arith) (omega arith) in
    subst
    (λ text. OnOk c.put_32_bits.result (c.put_32_bits.new.line ≡ text))
    (ap (λ octets. (c.args.line.now ++ codes "32:") ++ hex octets) all
    ∙ ap (λ text. text ++ hex c.args.octets.now) (sym (append_assoc c.args.line.now (codes "32") (codes ":")) ∙ ap (λ digits. (c.args.line.now ++ digits) ++ codes ":") (sym size)))
    c.put_32_bits.ensures
