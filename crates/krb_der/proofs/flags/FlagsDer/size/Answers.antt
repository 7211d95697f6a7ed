use Rattle.std.proofs.Common.{ℕ, List, ◌∷◌, ◌∙◌, length, ap, subst, arith}
use Rattle.krb_der.proofs.Sizes.{exact-item}
use Rattle.krb_der.specs.Octets.{AreOctets, AreBits}
use Rattle.krb_der.proofs.flags.FlagsDer.size.Goals as goal

pub returns-clause-octets : goal.returns-clause-octets
returns-clause-octets c =
    let octets = ap length (c.as_slice.ensures.value ∙ ap (λ (bits : ℕ × List ℕ). bits.1) c.self.view_is) in
    exact-item 0x03 _ c.item_size.result (c.args.self.now.0 ∷ c.args.self.now.1) (omega (arith, c.size_of.ensures.value, octets)) c.item_size.ensures

pub returns-clause-fits : goal.returns-clause-fits
returns-clause-fits c =
    subst (λ (bits : ℕ × List ℕ). AreBits bits.0 bits.1 × AreOctets bits.1) c.self.view_is (c.self.invariant, subst AreOctets c.as_slice.ensures.value c.size_of.ensures.octets)
