use Rattle.std.proofs.Common.{◌≡◌, ◌++◌, ◌-◌, ◌*◌, ◌∙◌, ap, append_assoc, arith, codes, decimal, length, sym}
use Rattle.std.proofs.lemmas.List.{take_all}
use Rattle.itoa.proofs.Decimal.{decimal_two}
use Rattle.krb_record.proofs.flags.put_bits_start.Goals as goal

pub returns-in-Some-default-empty : goal.returns-in-Some-default-empty
returns-in-Some-default-empty c =
    let cut = c.in-Some-default-empty.ensures.cases in
    let count : length c.args.octets.now ≡ 4 = omega (arith, cut.2, c.in-Some-default-empty.len_below) in
    let all : c.in-Some-default-empty.four.now ≡ c.args.octets.now = cut.0 ∙ take_all 4 c.args.octets.now (omega (arith, count)) in
    let bits : 8 * length c.args.octets.now - c.args.unused ≡ 32 = omega (arith, count, c.if-unused-eq0.true) in
    let size : decimal (8 * length c.args.octets.now - c.args.unused) ≡ codes "32" = ap decimal bits ∙ decimal_two 32 (omega arith) (omega arith) in
    let digits : codes "{\"bits\":32,\"hex\":\"" ≡ codes "{\"bits\":" ++ decimal (8 * length c.args.octets.now - c.args.unused) ++ codes ",\"hex\":\"" = sym (ap (λ digits. codes "{\"bits\":" ++ digits ++ codes ",\"hex\":\"") size) in
    simp append_assoc (simp append_assoc at (rw (all, digits) at c.put_32_bits_start.ensures))
