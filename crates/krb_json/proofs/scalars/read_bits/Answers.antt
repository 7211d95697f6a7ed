use Rattle.std.proofs.Common.{◌≡◌, ℕ, ◌-◌, ◌*◌, ◌++◌, ◌∷◌, List, pos, length, Err, rules, subst, sym, ap, ◌∙◌}
use Rattle.std.specs.Int.{w64}
use mir.Val.{to_z, of_z}
use Rattle.json.specs.Value.{value_view}
use Rattle.krb_json.specs.Spelled.{bits_spelled}
use Rattle.krb_json.specs.inner.Reading.{Reads}
use Rattle.krb_json.proofs.BitStrings.{SpellsCount, SpellsOctets, bits-read, count-fault, count-range, unused-fault}
use Rattle.krb_json.proofs.scalars.read_bits.Goals as goal

pub returns-in_err-count : goal.returns-in_err-count
returns-in_err-count c =
    let low : to_z w64 (of_z w64 c.in-Some.low) ≡ pos (8 * length c.in_ok-octets.octets.items - 7) = search rules in
    let high : to_z w64 (of_z w64 c.in-Some.high) ≡ pos (8 * length c.in_ok-octets.octets.items) = search rules in
    let found : Reads (λ path. bits_spelled c.args.least path (value_view c.args.value.now)) (λ (bits : ℕ × List ℕ). bits.0 ∷ bits.1) c.args.out.now.items c.args.out.now.items (Err c.in_err-count.field-0.0) =
    count-fault c.args.least (value_view c.args.value.now) c.in_ok-octets.octets.items (to_z w64 (of_z w64 c.in-Some.low)) (to_z w64 (of_z w64 c.in-Some.high)) c.args.out.now.items c.args.out.now.items c.in_err-count.field-0.0 c.in_ok-check_members.ensures c.in_ok-octets.ensures low high c.in_err-count.ensures in
    search rules

pub unused_bits-requires-clause-high : goal.unused_bits-requires-clause-high
unused_bits-requires-clause-high c =
    let range = count-range (to_z w64 (of_z w64 c.in-Some.low)) (to_z w64 (of_z w64 c.in-Some.high)) (value_view c.args.value.now) c.in_ok-count.count c.in_ok-count.ensures in
    search rules

pub unused_bits-requires-clause-low : goal.unused_bits-requires-clause-low
unused_bits-requires-clause-low c =
    let low : to_z w64 (of_z w64 c.in-Some.low) ≡ pos (8 * length c.in_ok-octets.octets.items - 7) = search rules in
    let range = count-range (to_z w64 (of_z w64 c.in-Some.low)) (to_z w64 (of_z w64 c.in-Some.high)) (value_view c.args.value.now) c.in_ok-count.count c.in_ok-count.ensures in
    search rules

pub returns-in_err-unused : goal.returns-in_err-unused
returns-in_err-unused c =
    let j = value_view c.args.value.now in
    let octets = c.as_slice.result.now in
    let from = to_z w64 (of_z w64 c.in-Some.low) in
    let to = to_z w64 (of_z w64 c.in-Some.high) in
    let number = to_z w64 (of_z w64 c.in_ok-count.count) in
    let low : from ≡ pos (8 * length octets - 7) = search rules in
    let high : to ≡ pos (8 * length octets) = search rules in
    let count : number ≡ c.in_ok-count.count = search rules in
    let found : Reads (λ path. bits_spelled c.args.least path j) (λ (bits : ℕ × List ℕ). bits.0 ∷ bits.1) c.args.out.now.items c.args.out.now.items (Err c.in_err-unused.field-0.0) =
    unused-fault c.args.least j octets from to number c.args.out.now.items c.args.out.now.items c.in_err-unused.field-0.0 c.in_ok-check_members.ensures (subst (SpellsOctets j) (sym c.as_slice.ensures.value) c.in_ok-octets.ensures) low high (subst (SpellsCount from to j) (sym count) c.in_ok-count.ensures) c.in_err-unused.ensures in
    search rules

pub returns : goal.returns
returns c =
    let j = value_view c.args.value.now in
    let octets = c.as_slice.result.now in
    let from = to_z w64 (of_z w64 c.in-Some.low) in
    let to = to_z w64 (of_z w64 c.in-Some.high) in
    let number = to_z w64 (of_z w64 c.in_ok-count.count) in
    let low : from ≡ pos (8 * length octets - 7) = search rules in
    let high : to ≡ pos (8 * length octets) = search rules in
    let count : number ≡ c.in_ok-count.count = search rules in
    bits-read c.args.least j octets from to number c.in_ok-unused.unused c.args.out.now.items c.push.new.self.items c.extend_from_slice.new.self.items c.in_ok-check_members.ensures (subst (SpellsOctets j) (sym c.as_slice.ensures.value) c.in_ok-octets.ensures) low high (subst (SpellsCount from to j) (sym count) c.in_ok-count.ensures) c.in_ok-unused.ensures
    c.in_ok-push.ensures.items (c.in_ok-extend_from_slice.ensures.items ∙ ap (λ l. c.push.new.self.items ++ l) (c.as_slice-2.ensures.value ∙ sym c.as_slice.ensures.value))
