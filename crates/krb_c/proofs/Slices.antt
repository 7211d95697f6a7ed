-- The judgement of octets that are all there, by why they are refused.
use Rattle.std.proofs.Common.{◌≡◌, ℕ, ◌<◌, ◌^◌, false, List, length, refl, ◌∙◌, ap, arith}
use Rattle.std.specs.Prelude.{nat_lt, ◌==◌}
use Rattle.std.proofs.lemmas.Bool.Decides.{nat_tests}
use Rattle.krb_der.specs.declared.profile.Profile.{Profile}
use Rattle.krb_der.specs.declared.verdict.Verdict.{Verdict}
use Rattle.krb_der.specs.declared.verdict.Verdict.TheVariants as verdict
use Rattle.krb_msg.specs.Grammar.{messages}
use Rattle.krb_msg.specs.Judgement.{judgement}
use Rattle.krb_msg.proofs.Grammars.{all_is_decided}
use Rattle.krb_judge.specs.Parses.{refused, refusal_of}
use Rattle.krb_c.specs.Judged.{whole_unless}

decided : (v : Verdict) → (v ≡ verdict.Open → ⊥) → whole_unless (refused v) ≡ v
decided verdict.Open known = absurd (known refl)
decided verdict.Whole known = refl
decided (verdict.Refused refusal) known = refl

pub whole-judged : (profile : Profile) (octets : List ℕ) → 0 < length octets → length octets < 2 ^ 31 → whole_unless (refusal_of profile octets) ≡ judgement profile (length octets) octets
whole-judged profile octets some short =
    let long : nat_lt 2147483647 (length octets) ≡ false = grind (arith, nat_tests, short) in
    let empty : (length octets == 0) ≡ false = grind (arith, nat_tests, some) in
    ap whole_unless (rw (long, empty) refl) ∙ decided (judgement profile (length octets) octets) (all_is_decided (messages profile) (length octets) octets some refl)
