-- What octets decide, all of them do, and what the only term decides.
use Rattle.std.proofs.Common.{◌≡◌, ℕ, suc, ◌≤◌, ◌==◌, Bool, true, false, List, [], ◌∷◌, length, take, refl, sym, ap, ◌∙◌, take-take, take_all, arith}
use Rattle.std.proofs.lemmas.List.{length-take}
use Rattle.krb_der.specs.Octets.{AreOctets, when}
use Rattle.krb_der.specs.inner.Numbers.{AreOctets-take}
use Rattle.krb_der.specs.declared.verdict.Verdict.{Verdict}
use Rattle.krb_der.specs.declared.verdict.Verdict.TheVariants as verdict
use Rattle.krb_msg.specs.Term.{Term, tag_of}
use Rattle.krb_msg.specs.Laws.{AreOneOf, IsFinal}
use Rattle.krb_msg.specs.Judgement.{judgement_by, term_judgement, verdict_of}
use Rattle.krb_msg.proofs.Grammars.{whole_is_one_of, refusal_is_final}

-- the verdict on some of the octets is that on all of them, unless more are expected
pub all_decided : (terms : List Term) (n : ℕ) (octets : List ℕ) (used : ℕ) (decided : Verdict) → AreOctets octets → length octets ≤ n → (decided ≡ verdict.Open → used ≡ length octets) → decided ≡ judgement_by terms n (take used octets) → decided ≡ judgement_by terms n octets
all_decided terms n octets used verdict.Open are fits all e = e ∙ ap (judgement_by terms n) (take_all used octets (omega (arith, all refl)))
all_decided terms n octets used verdict.Whole are fits all e =
    let one : AreOneOf terms n (take used octets) = whole_is_one_of terms n (take used octets) (AreOctets-take used octets are) (omega (arith, length-take used octets, fits)) (sym e) in
    e ∙ ap (judgement_by terms n) (take_all used octets (omega (arith, length-take used octets, one.all, fits)))
all_decided terms n octets used (verdict.Refused refusal) are fits all e =
    let final : IsFinal terms n (take used octets) refusal.place refusal.why = refusal_is_final terms n (take used octets) refusal.place refusal.why (omega (arith, length-take used octets, fits)) (sym e) in
    sym (final.same octets fits (sym (take-take (suc refusal.place) used octets (omega (arith, final.within, length-take used octets)))))

same_other : {A : Type 0} (b : Bool) (chosen other : Unit {0} → A) → when b (λ _. when b chosen other) other ≡ when b chosen other
same_other true chosen other = refl
same_other false chosen other = refl

-- a message that is of one term alone is an item of it
pub one_term : (term : Term) (n : ℕ) (octets : List ℕ) → judgement_by (term ∷ []) n octets ≡ term_judgement term n octets
one_term term n [] = refl
one_term term n (octet ∷ octets) = ap verdict_of (same_other (octet == tag_of term) _ _)
