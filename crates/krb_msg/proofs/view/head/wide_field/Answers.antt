use Rattle.std.proofs.Common.{◌≡◌, ◌+◌, ◌*◌, ◌≤◌, length, get_or, arith, rules, Bor, List, ℕ}
use Rattle.krb_der.specs.Octets.{item}
use Rattle.krb_der.specs.inner.Numbers.{AreOctets-slice}
use Rattle.krb_msg.proofs.FieldViews.{match_some_more}
use Rattle.krb_msg.proofs.Lengths.{is_wide, is_less_wide}
use Rattle.krb_msg.proofs.view.head.wide_field.Goals as goal

pub returns-in-len4-up : goal.returns-in-len4-up
returns-in-len4-up c =
    let tag : get_or c.args.octets.now 0 0 ≡ c.args.outer = search rules in
    let form : get_or c.args.octets.now 1 0 ≡ 130 = search rules in
    match_some_more _ _ _
    (λ (x : Bor (List ℕ) × Bor (List ℕ)) p. is_wide c.args.outer (c.from.result * 256 + c.from-in-len4-up.result) c.args.octets.now (AreOctets-slice c.args.octets.now c.type_inv.octets) c.in-len4-up.len_at_least tag form c.if-high-ne0.true (omega (arith, c.from.ensures, c.from-in-len4-up.ensures)) (item c.args.tag x.0.now) x.1.now p.0 p.1)
    c.sized_item.ensures

pub returns-in-len3-up : goal.returns-in-len3-up
returns-in-len3-up c =
    let some : 3 ≤ length c.args.octets.now = search rules in
    let tag : get_or c.args.octets.now 0 0 ≡ c.args.outer = search rules in
    let form : get_or c.args.octets.now 1 0 ≡ 129 = search rules in
    match_some_more _ _ _
    (λ (x : Bor (List ℕ) × Bor (List ℕ)) p. is_less_wide c.args.outer c.from-in-len3-up.result c.args.octets.now (AreOctets-slice c.args.octets.now c.type_inv.octets) some tag form (omega (arith, c.from-in-len3-up.ensures, c.if-size-ge128.true)) c.from-in-len3-up.ensures (item c.args.tag x.0.now) x.1.now p.0 p.1)
    c.sized_item-in-len3-up.ensures
