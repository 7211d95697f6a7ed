-- Times and bit strings, as they are viewed.
use Rattle.std.proofs.Common.{◌≡◌, ℕ, suc, ◌-◌, ◌≤◌, List, [], ◌∷◌, length, get_or, take, drop, sym, ap, ◌∙◌, subst, arith}
use Rattle.std.proofs.lemmas.List.{take_all}
use Rattle.krb_der.specs.Octets.{AreBits}
use Rattle.krb_der.specs.inner.Items.{same_from_cons}
use Rattle.krb_msg.specs.Grammar.{kerberos_flags}
use Rattle.krb_msg.specs.Viewed.{AreNoContents}
use Rattle.krb_msg.proofs.FieldViews.{same_contents}

pub one_first : (octets : List ℕ) → 1 ≤ length octets → octets ≡ get_or octets 0 0 ∷ take (length octets - 1) (drop 1 octets)
one_first [] h = absurd (omega (arith, h))
one_first (first ∷ octets) h =
    let n : suc (length octets) - 1 ≡ length octets = omega arith in
    ap (λ l. first ∷ l) (sym (ap (λ k. take k octets) n ∙ take_all (length octets) octets (omega arith)))

pub bits_none : (unused : ℕ) (bits octets : List ℕ) → octets ≡ unused ∷ bits → (AreBits unused bits → ⊥) → AreNoContents kerberos_flags octets
bits_none unused bits octets e none value a =
    let p = same_from_cons _ _ _ _ (sym e ∙ same_contents 0x03 octets (value.0 ∷ value.1) a.form) in
    none (subst (λ n. AreBits n bits) (sym p.0) (subst (AreBits value.0) (sym p.1) a.fits.0))
