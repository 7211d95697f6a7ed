use Rattle.std.proofs.Common.{◌≡◌, ◌+◌, pos, length, arith}
use Rattle.std.proofs.lemmas.Grind.{common_steps}
use Rattle.std.proofs.lemmas.Int.{ints}
use Rattle.krb_der.specs.Octets.{item, integer_octets}
use Rattle.krb_der.proofs.Sizes.{exact-item, saturated-append}
use Rattle.krb_msg.specs.Term.{der_of_fields}
use Rattle.krb_codec.proofs.fields.FixedEncodeFields.size.Goals as goal

pub returns-clause-octets : goal.returns-clause-octets
returns-clause-octets g c =
    let octets = item 0x02 (integer_octets (pos g.row.NUMBER)) in
    let number : c.integer_size.result ≡ length octets = grind (arith, common_steps) in
    saturated-append c.add_sizes.result c.item_size.result c.size.result (item (0xA0 + g.row.INDEX) octets) (der_of_fields g.F.EncodeFields.fields (g.F.EncodeFields.values c.args.self.now.0)) c.add_sizes.ensures
    (exact-item (0xA0 + g.row.INDEX) c.integer_size.result c.item_size.result octets number c.item_size.ensures)
    c.size.ensures.octets

pub returns-clause-fit : goal.returns-clause-fit
returns-clause-fit g c = ((omega (arith, ints), omega (arith, ints)), c.size.ensures.fit)
