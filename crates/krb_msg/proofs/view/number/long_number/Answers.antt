use Rattle.std.proofs.Common.{◌≡◌, ◌<◌, length, sym, ap, ◌∙◌, arith, eqb-true, true, false, rules, ◌&&◌, w64, FitsSigned, subst}
use Rattle.std.proofs.lemmas.Int.{to_z-of_z}
use Rattle.std.proofs.lemmas.Bool.{true≢false, and_parts, and_from}
use Rattle.krb_der.specs.inner.Numbers.{AreOctets-slice}
use Rattle.krb_msg.specs.Judgement.{int_le}
use Rattle.krb_msg.proofs.Integers.{int_le-true, int_le-from}
use Rattle.krb_msg.specs.Viewed.{IsNumberIn}
use Rattle.krb_msg.proofs.FieldViews.{number_shape, number_some}
use Rattle.krb_msg.proofs.view.number.long_number.Goals.{then-is_empty-via-then-is_empty, then-is_empty-via-else-is_empty+then-contents-gt5, then-is_empty-via-else-is_empty+else-contents-gt5+then-is_padded}
use Rattle.krb_msg.proofs.view.number.long_number.Goals as goal

pub returns-then-is_empty : goal.returns-then-is_empty
returns-then-is_empty c = λ number n.
    let s = number_shape c.args.low c.args.high c.args.contents.now number c.requires.low c.requires.high (AreOctets-slice c.args.contents.now c.type_inv.contents) n in
    elim c.then-is_empty.branch [
      | then-is_empty-via-then-is_empty w ↦ omega (arith, s.some, eqb-true (length c.args.contents.now) 0 (sym c.is_empty.ensures ∙ w.if-is_empty.true))
      | then-is_empty-via-else-is_empty+then-contents-gt5 w ↦ omega (arith, s.few, w.if-contents-gt5.true)
      | then-is_empty-via-else-is_empty+else-contents-gt5+then-is_padded w ↦ true≢false (sym w.if-is_padded.true ∙ w.is_padded.ensures ∙ s.unpadded)
    ]

pub returns-then-is_between : goal.returns-then-is_between
returns-then-is_between c =
    let some : 0 < length c.args.contents.now = search rules in
    let fits : FitsSigned w64 c.value-number.result = search rules in
    let between : (int_le c.args.low c.value-number.result && int_le c.value-number.result c.args.high) ≡ true =
    rw (to_z-of_z w64 c.args.low c.ranges.low, to_z-of_z w64 c.args.high c.ranges.high, to_z-of_z w64 c.value-number.result fits) at (sym c.is_between.ensures ∙ c.if-is_between.true) in
    let r = and_parts (int_le c.args.low c.value-number.result) (int_le c.value-number.result c.args.high) between in
    subst (IsNumberIn c.args.low c.args.high c.args.contents.now) (sym (to_z-of_z w64 c.value-number.result fits))
    (number_some c.args.low c.args.high c.args.contents.now c.value-number.result (AreOctets-slice c.args.contents.now c.type_inv.contents) some (sym c.is_padded.ensures ∙ c.if-is_padded.false) c.value-number.ensures (int_le-true _ _ r.0) (int_le-true _ _ r.1))

pub returns-else-is_between : goal.returns-else-is_between
returns-else-is_between c = λ number n.
    let s = number_shape c.args.low c.args.high c.args.contents.now number c.requires.low c.requires.high (AreOctets-slice c.args.contents.now c.type_inv.contents) n in
    let same : c.value-number.result ≡ number = c.value-number.ensures ∙ s.value in
    let fits : FitsSigned w64 c.value-number.result = search rules in
    let between : (int_le c.args.low c.value-number.result && int_le c.value-number.result c.args.high) ≡ false =
    rw (to_z-of_z w64 c.args.low c.ranges.low, to_z-of_z w64 c.args.high c.ranges.high, to_z-of_z w64 c.value-number.result fits) at (sym c.is_between.ensures ∙ c.if-is_between.false) in
    let within : (int_le c.args.low number && int_le number c.args.high) ≡ true = and_from _ _ (int_le-from c.args.low number n.low_le) (int_le-from number c.args.high n.le_high) in
    true≢false (sym within ∙ ap (λ m. int_le c.args.low m && int_le m c.args.high) (sym same) ∙ between)
