-- A refusal of octets is at one of them.
use Rattle.std.proofs.Common.{◌≡◌, ℕ, ◌<◌, Bool, true, false, if◌then◌else◌, eqb, ltb, List, length, Some, refl, ap, arith}
use Rattle.krb_der.specs.declared.verdict.Refusal.{Refusal}
use Rattle.krb_der.specs.declared.verdict.Verdict.{Verdict}
use Rattle.krb_der.specs.declared.verdict.Verdict.TheVariants as verdict
use Rattle.krb_der.specs.declared.why.Why.TheVariants as why
use Rattle.krb_msg.specs.Term.{Term}
use Rattle.krb_msg.specs.Profiles.{profile_term}
use Rattle.krb_msg.specs.Grammar.{messages, ticket, method_data}
use Rattle.krb_msg.specs.Judgement.{item_outcome, judgement, term_judgement}
use Rattle.krb_msg.proofs.Grammars.{refused_outcome, refusal_is_final}
use Rattle.krb_msg.proofs.Laws.{bad_within}
use Rattle.krb_judge.specs.Parses.{refused, refusal_by}
use Rattle.krb_judge.specs.Laws.{IsInside, RefusalsAreInside}

chosen : (long empty : Bool) (first second : Refusal) (v : Verdict) (r : Refusal) (n : ℕ) → first.place ≡ 0 → second.place ≡ 0 → 0 < n → ((p : Refusal) → v ≡ verdict.Refused p → p.place < n) → (if long then Some first else if empty then Some second else refused v) ≡ Some r → r.place < n
chosen true empty first second v r n f s some within e = let same : first ≡ r = cc in omega (arith, f, some, ap (λ (x : Refusal). x.place) same)
chosen false true first second v r n f s some within e = let same : second ≡ r = cc in omega (arith, s, some, ap (λ (x : Refusal). x.place) same)
chosen false false first second (verdict.Refused p) r n f s some within e = let same : p ≡ r = cc in omega (arith, within p refl, ap (λ (x : Refusal). x.place) same)
chosen false false first second other r n f s some within e = absurd cc

inside : (judge : ℕ → List ℕ → Verdict) → ((octets : List ℕ) (p : Refusal) → judge (length octets) octets ≡ verdict.Refused p → p.place < length octets) → IsInside (refusal_by judge)
inside judge within octets r some e =
    chosen (ltb 2147483647 (length octets)) (eqb (length octets) 0) (record { place = 0; why = why.TooLong }) (record { place = 0; why = why.Empty })
    (judge (length octets) octets) r (length octets) refl refl some (within octets) e

of_term : (term : Term) → IsInside (refusal_by (term_judgement term))
of_term term = inside (term_judgement term) (λ octets p e. bad_within term (length octets) true octets p.place p.why (omega arith) (refused_outcome (item_outcome term (length octets) true octets) p.place p.why e))

pub refusals_are_inside : RefusalsAreInside
refusals_are_inside = record {
  of_message = λ profile. inside (judgement profile) (λ octets p e. (refusal_is_final (messages profile) (length octets) octets p.place p.why (omega arith) e).within);
  of_ticket = λ profile. of_term (profile_term profile false ticket);
  of_method_data = of_term method_data;
}
