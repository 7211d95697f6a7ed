-- The path in octets that are refused as a message.
use Rattle.std.proofs.Common.{◌≡◌, ℕ, ◌+◌, ◌≤◌, min, List, length, take, refl, ◌∙◌, ap, ap₂}
use Rattle.std.proofs.lemmas.Bool.{le-ltb}
use Rattle.krb_der.specs.declared.profile.Profile.{Profile}
use Rattle.krb_der.specs.declared.verdict.Refusal.{Refusal}
use Rattle.krb_judge.specs.Paths.{message_path}
use Rattle.krb_run.proofs.FirstOctets.{take-few}
use Rattle.krb_tool.specs.Paths.{refused_path}

pub short_path : (profile : Profile) (octets : List ℕ) (refusal : Refusal) (size count : ℕ) → length octets ≤ 2147483647 → size ≡ length octets → count ≡ min (refusal.place + 1) (length octets) → message_path profile size (take count octets) ≡ refused_path profile octets refusal
unfolding refused_path
short_path profile octets refusal size count few s c =
    ap₂ (message_path profile) s (ap (λ n. take n octets) c ∙ take-few (refusal.place + 1) octets)
    ∙ rw (le-ltb 2147483647 (length octets) few) refl
