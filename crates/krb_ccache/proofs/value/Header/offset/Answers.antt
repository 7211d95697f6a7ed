use Rattle.std.proofs.Common.{◌≡◌, Some, ℤ, take, drop, length, to_z, FitsSigned, sym, ap, ap₂, ◌∙◌, rules, arith}
use Rattle.std.proofs.lemmas.Int.{to_z-of_z}
use Rattle.std.specs.Int.{w32, from_be_bytes}
use Rattle.krb_ccache.proofs.Offsets.{number-prefix, number-suffix, offset-found}
use Rattle.krb_ccache.proofs.value.Header.offset.Goals as goal

pub returns-in-len8 : goal.returns-in-len8
returns-in-len8 c =
    let value = c.field-item.result.value in
    let len : length c.field-item.result.value ≡ 8 = omega (arith, ap length c.as_slice.ensures, c.in-len8.len_at_least, c.in-len8.len_below) in
    let seconds : c.from_be_bytes-seconds.result ≡ to_z w32 (from_be_bytes w32 (take 4 c.field-item.result.value)) = rw c.as_slice.ensures at c.from_be_bytes-seconds.ensures ∙ ap (to_z w32) (sym (number-prefix c.field-item.result.value)) in
    let microseconds : c.from_be_bytes-microseconds.result ≡ to_z w32 (from_be_bytes w32 (drop 4 c.field-item.result.value)) = rw c.as_slice.ensures at c.from_be_bytes-microseconds.ensures ∙ ap (to_z w32) (sym (number-suffix c.field-item.result.value)) in
    let found = offset-found c.args.self.now.fields c.loop-field.field-index c.field-item.result (search rules) (search rules) c.if-field-eq1.true len in
    let first : FitsSigned w32 c.from_be_bytes-seconds.result = record { sfits = search rules } in
    let second : FitsSigned w32 c.from_be_bytes-microseconds.result = record { sfits = search rules } in
    ap₂ (λ (a b : ℤ). Some (a, b)) (to_z-of_z w32 c.from_be_bytes-seconds.result first ∙ seconds) (to_z-of_z w32 c.from_be_bytes-microseconds.result second ∙ microseconds)
    ∙ sym found ∙ c.loop-field.invariant
