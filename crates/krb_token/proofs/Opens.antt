-- What octets are opened to that begin as a token of SPNEGO.
use Rattle.std.proofs.Common.{◌≡◌, ℕ, ◌≤◌, List, [], ◌∷◌, length, get_or, refl, arith}
use Rattle.krb_token.specs.Tokens.{opened, spnego_opened, whole}
use Rattle.krb_token.specs.declared.fields.NegToken.TheVariants as neg
use Rattle.krb_source.specs.declared.layer.Layer.TheVariants.{Spnego}

pub opens_init : (octets : List ℕ) → 1 ≤ length octets → get_or octets 0 0 ≡ 160 → opened octets ≡ spnego_opened (Spnego ∷ []) neg.Init (whole octets)
opens_init [] h e = absurd (omega (arith, h))
opens_init (first ∷ octets) h e = rw e refl

pub opens_response : (octets : List ℕ) → 1 ≤ length octets → get_or octets 0 0 ≡ 161 → opened octets ≡ spnego_opened (Spnego ∷ []) neg.Response (whole octets)
opens_response [] h e = absurd (omega (arith, h))
opens_response (first ∷ octets) h e = rw e refl
