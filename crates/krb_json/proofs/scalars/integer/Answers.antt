use Rattle.std.proofs.Common.{◌≡◌, ℤ, Some, sym, subst, rules}
use Rattle.json.specs.Find.{as_number}
use Rattle.json.specs.Value.{value_view}
use Rattle.krb_json.specs.Spelled.{integer_spelled}
use Rattle.krb_json.specs.declared.wrong.Wrong.TheVariants.{Outside}
use Rattle.krb_json.proofs.NumberTexts.{IsNotWithin, NoMark, outside-spelled, same-range}
use Rattle.krb_json.proofs.ScalarLemmas.{gives-fault-here}
use Rattle.krb_json.proofs.scalars.integer.Goals as goal
use Rattle.krb_json.proofs.scalars.integer.Goals.{in_default-as_i64-via-in-Some-as_i64+else-low-number, in_default-as_i64-via-in-Some-as_i64+then-low-number+else-number-high, in_default-as_i64-via-in_default-as_i64}

pub returns-in_default-as_i64 : goal.returns-in_default-as_i64
returns-in_default-as_i64 c =
    let j = value_view c.args.value.now in
    let text : as_number j ≡ Some c.in-Some.text.now = search rules in
    let none : NoMark c.in-Some.text.now = search rules in
    let not_within : IsNotWithin c.args.low c.args.high c.as_i64.result = elim c.in_default-as_i64.branch [
      | in_default-as_i64-via-in-Some-as_i64+else-low-number w ↦ subst (IsNotWithin c.args.low c.args.high) (sym w.in-Some-as_i64.is) (let h = w.if-low-number.false in search rules)
      | in_default-as_i64-via-in-Some-as_i64+then-low-number+else-number-high w ↦ subst (IsNotWithin c.args.low c.args.high) (sym w.in-Some-as_i64.is) (let h = w.if-number-high.false in search rules)
      | in_default-as_i64-via-in_default-as_i64 w ↦ subst (IsNotWithin c.args.low c.args.high) (sym w.in_default-as_i64.is) tt
    ] in
    gives-fault-here (λ (n : ℤ). n) (λ path. integer_spelled c.args.low c.args.high path j) (Outside c.args.low c.args.high) c.fault_here-in_default-as_i64.result
    (outside-spelled c.args.low c.args.high j c.in-Some.text.now c.as_i64.result c.requires text none c.as_i64.ensures c.ranges.low c.ranges.high not_within)
    (same-range c.args.low c.args.high c.fault_here-in_default-as_i64.result c.ranges.low c.ranges.high c.fault_here-in_default-as_i64.ensures)
