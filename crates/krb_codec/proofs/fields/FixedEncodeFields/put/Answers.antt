-- A header, a number and the fields after it are put.
use Rattle.std.proofs.Common.{◌≡◌, ℕ, pos, ◌+◌, List, ◌∷◌, ◌++◌, length, FitsSigned, to_z, of_z, w64, ap, subst, ◌∙◌, rules}
use Rattle.std.proofs.lemmas.Int.{to_z-of_z}
use Rattle.std.specs.Global.{Vec}
use Rattle.krb_der.specs.Octets.{item, integer_octets, length_octets}
use Rattle.krb_der.specs.Puts.{Puts}
use Rattle.krb_msg.specs.Term.{der_of_fields}
use Rattle.krb_codec.proofs.Puts.{puts_both}
use Rattle.krb_codec.proofs.fields.FixedEncodeFields.put.Goals as goal

put_all : (tag size : ℕ) (octets more : List ℕ) {out new newer newest : Vec ℕ} → size ≡ length octets → Puts (tag ∷ length_octets size) out new → Puts octets new newer → Puts more newer newest → Puts (item tag octets ++ more) out newest
put_all tag size octets more {out = out} {new = new} s header contents rest =
    puts_both (item tag octets) more (puts_both (tag ∷ length_octets (length octets)) octets (subst (λ n. Puts (tag ∷ length_octets n) out new) s header) contents) rest

pub returns : goal.returns
returns g c =
    let more = der_of_fields g.F.EncodeFields.fields (g.F.EncodeFields.values c.args.self.now.0) in
    let octets = item 0x02 (integer_octets (pos g.row.NUMBER)) in
    let fits : FitsSigned w64 c.from-number.result = search rules in
    let same : to_z w64 (of_z w64 c.from-number.result) ≡ pos g.row.NUMBER = to_z-of_z w64 c.from-number.result fits ∙ c.from-number.ensures in
    let size : c.integer_size.result ≡ length octets = c.integer_size.ensures.value ∙ ap (λ z. length (item 0x02 (integer_octets z))) same in
    let number : Puts octets c.put_header.new.out c.put_integer.new.out = subst (λ z. Puts (item 0x02 (integer_octets z)) c.put_header.new.out c.put_integer.new.out) same c.put_integer.ensures in
    put_all (0xA0 + g.row.INDEX) c.integer_size.result octets more size c.put_header.ensures number c.put.ensures
