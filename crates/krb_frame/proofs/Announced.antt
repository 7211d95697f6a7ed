-- The octets of a frame's length, of one that is whole or refused.
use Rattle.std.proofs.Common.{◌≡◌, ℕ, zero, suc, ◌+◌, ◌≤◌, inl, inr, List, [], ◌∷◌, length, take, Some, refl, sym, ◌∙◌, ap, arith, length-drop}
use Rattle.std.specs.Option.{unwrap_or}
use Rattle.std.proofs.lemmas.Bool.{cases_lt, le-ltb}
use Rattle.krb_der.specs.Octets.{number}
use Rattle.krb_der.specs.declared.profile.Profile.TheVariants.{Lenient}
use Rattle.krb_der.specs.declared.verdict.Refusal.{Refusal}
use Rattle.krb_msg.specs.Term.{Term}
use Rattle.krb_msg.specs.Stream.{Frames, End, Boundary, Within, Refused, frames}
use Rattle.krb_frame.specs.Decoding.{Decoding, AreOfOne, IsOfOneFrame, announced, borrowed, first_of, found, status_at, status_of}
use Rattle.krb_frame.specs.inner.Phases.{end_after}
use Rattle.krb_frame.specs.declared.decoder.Status.TheVariants as status
use Rattle.krb_frame.proofs.DecoderFrames.{found-short}

-- they say how many octets follow
pub announced-size : (octets : List ℕ) → 4 ≤ length octets → unwrap_or (announced octets) 0 ≡ number (take 4 octets)
announced-size octets four = rw (le-ltb (length octets) 4 four) refl

-- a frame is refused once they came
pub refused-four : (messages : List Term) (d : Decoding) (refusal : Refusal) → status_of messages d ≡ status.Refused refusal → 4 ≤ length d.octets
unfolding found
refused-four messages d refusal st = elim (cases_lt (length d.octets) 4) [
  | inl h ↦ absurd (not_cut (length d.octets) (ap (λ (f : Frames). status_at f.contents f.end) (sym (found-short messages Lenient d.limit d.octets h)) ∙ st))
  | inr h ↦ h
]
  where
    not_cut : (n : ℕ) → status_at [] (end_after n) ≡ status.Refused refusal → ⊥
    not_cut zero e = cc
    not_cut (suc n) e = cc

-- a frame that is ready has these and its contents
pub ready-size : (messages : List Term) (d : Decoding) (contents : List ℕ) → borrowed messages d ≡ Some contents → IsOfOneFrame messages d → length d.octets ≡ 4 + length contents
unfolding found
ready-size messages d contents m one = elim (cases_lt (length octets) 4) [
  | inl h ↦ absurd (not_cut (length octets) (ap (λ (f : Frames). first_of f.contents) (sym (found-short messages Lenient d.limit octets h)) ∙ m))
  | inr h ↦ by f.contents f.end h m one
]
  where
    octets : List ℕ
    octets = d.octets

    f : Frames
    f = frames messages d.limit d.octets

    not_cut : (n : ℕ) → first_of [] ≡ Some contents → ⊥
    not_cut n e = cc

    by : (all : List (List ℕ)) (end : End) → 4 ≤ length octets → first_of all ≡ Some contents → AreOfOne octets all end → length octets ≡ 4 + length contents
    by [] end h m one = absurd cc
    by (first ∷ []) Boundary h m one = let c : first ≡ contents = cc in omega (arith, h, ap length one, ap length c, length-drop 4 octets)
    by (first ∷ []) (Within present) h m one = absurd one
    by (first ∷ []) (Refused place reason) h m one = absurd one
    by (first ∷ second ∷ others) end h m one = absurd one
