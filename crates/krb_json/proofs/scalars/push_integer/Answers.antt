use Rattle.std.proofs.Common.{◌≡◌, ◌-◌, take, drop, ap, ◌∙◌}
use Rattle.std.proofs.lemmas.Int.{to_z-of_z}
use Rattle.std.specs.Int.{to_be_bytes, cast_unsigned, w64}
use Rattle.krb_der.specs.Octets.{integer_octets}
use Rattle.krb_json.proofs.ScalarLemmas.{begins, extended}
use Rattle.krb_json.proofs.scalars.push_integer.Goals as goal

pub overflow_sub-passed : goal.overflow_sub-passed
overflow_sub-passed c = (begins c.args.number c.integer_size.result c.ranges.number c.integer_size.ensures.value).within

pub returns : goal.returns
returns c =
    let size = c.integer_size.result in
    let bytes : c.to_be_bytes-octets.result ≡ to_be_bytes w64 (cast_unsigned w64 c.args.number) = c.to_be_bytes-octets.ensures ∙ ap (λ z. to_be_bytes w64 (cast_unsigned w64 z)) (to_z-of_z w64 c.args.number c.ranges.number) in
    extended c.extend_from_slice.result c.args.out.now.items c.extend_from_slice.new.self.items (take (8 - (10 - size)) (drop (10 - size) c.to_be_bytes-octets.result)) (integer_octets c.args.number) c.extend_from_slice.ensures.items
    (ap (λ octets. take (8 - (10 - size)) (drop (10 - size) octets)) bytes ∙ (begins c.args.number size c.ranges.number c.integer_size.ensures.value).octets)
