-- What the frames of messages that change passwords answer at the end.
use Rattle.std.proofs.Common.{◌≡◌, ℕ, ◌<◌, false, List, [], ◌∷◌, length, Some, None, refl, ap, subst, arith}
use Rattle.krb_der.specs.declared.profile.Profile.{Profile}
use Rattle.krb_der.specs.declared.why.Why.TheVariants as why
use Rattle.krb_capture.specs.Streams.{cut_refusal}
use Rattle.krb_capture.specs.Taken.{Keeps, KeepsUnless, TookPasswords}
use Rattle.krb_capture.specs.declared.password_frames.PasswordFrames.{PasswordFrames}

pub keeps-of : (profile : Profile) (taker : PasswordFrames) (limit : ℕ) (stream : List ℕ) → TookPasswords profile taker limit stream → taker.is_over ≡ false → Keeps taker stream
keeps-of profile taker limit stream t e = subst (λ b. KeepsUnless b taker stream) e t.state

-- why a frame is refused that is not whole
pub cut-none : (items : List ℕ) → length items ≡ 0 → None ≡ cut_refusal items
cut-none [] e = refl
cut-none (octet ∷ octets) e = absurd (omega (arith, e))

pub cut-some : (items : List ℕ) (place : ℕ) → place ≡ length items → 0 < length items → Some (record { place = place; why = why.Truncated }) ≡ cut_refusal items
cut-some [] place e h = absurd (omega (arith, h))
cut-some (octet ∷ octets) place e h = ap (λ n. Some (record { place = n; why = why.Truncated })) e
