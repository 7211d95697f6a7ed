-- The laws of the judgement by any messages, and by any grammar.
use Rattle.std.proofs.Common.{◌≡◌, ℕ, suc, ◌^◌, ◌<◌, ◌≤◌, true, List, [], ◌++◌, length, take, refl, sym, ◌∙◌, ap, subst, arith, append-nil}
use Rattle.std.proofs.lemmas.List.{take_all}
use Rattle.krb_der.specs.Octets.{AreOctets}
use Rattle.krb_der.specs.declared.why.Why.{Why}
use Rattle.krb_der.specs.declared.verdict.Refusal.{Refusal}
use Rattle.krb_der.specs.declared.verdict.Verdict.TheVariants as verdict
use Rattle.krb_msg.specs.Term.{Term, Value, der, Fits}
use Rattle.krb_msg.specs.Shape.{is_unambiguous, has_octet_tags, IsOneOf, IsGrammar}
use Rattle.krb_msg.specs.Judgement.{Outcome, Open, Bad, Done, item_outcome, message_outcome, judgement_by, term_judgement, verdict_of}
use Rattle.krb_msg.specs.Der.{IsDer}
use Rattle.krb_msg.specs.Laws.{AreOneOf, IsFinal, AreSame}
use Rattle.krb_msg.proofs.Encoded.{AreOctets-der}
use Rattle.krb_msg.proofs.Accepts.{item-accepted}
use Rattle.krb_msg.proofs.TermsDecided.{item_outcome-decided}
use Rattle.krb_msg.proofs.Laws.{IsWhole, IsWhole-done, Settles}
use Rattle.krb_msg.proofs.Messages.{IsChosen, one_of_chosen, one_of_passes, chosen_one_of, message_outcome-der, IsWhole-message, Settles-message_outcome, message_outcome-decided, same_message}

-- ---- the verdict and the outcome
pub whole_outcome : (outcome : Outcome) → verdict_of outcome ≡ verdict.Whole → (count : ℕ) × (outcome ≡ Done count)
whole_outcome (Done count) e = (count, refl)
whole_outcome other e = absurd cc

pub refused_outcome : (outcome : Outcome) (place : ℕ) (reason : Why) → verdict_of outcome ≡ verdict.Refused (record { place = place; why = reason }) → outcome ≡ Bad place reason
refused_outcome (Bad offset other) place reason e =
    let there : Refusal = record { place = offset; why = other } in
    let here : Refusal = record { place = place; why = reason } in
    let same : there ≡ here = cc in
    λ i. Bad ((same i).place) ((same i).why)
refused_outcome other place reason e = absurd cc

pub open_outcome : (outcome : Outcome) → verdict_of outcome ≡ verdict.Open → outcome ≡ Open
open_outcome Open e = refl
open_outcome other e = absurd cc

-- ---- any term
pub whole_is_value : (term : Term) (octets : List ℕ) → AreOctets octets → term_judgement term (length octets) octets ≡ verdict.Whole → IsDer term octets
whole_is_value term octets a e = by (whole_outcome (item_outcome term (length octets) true octets) e)
  where
    by : (count : ℕ) × (item_outcome term (length octets) true octets ≡ Done count) → IsDer term octets
    by (count, d) =
        let w : IsWhole term (length octets) true octets count = IsWhole-done term (length octets) true octets count a d in
        record { value = w.value; fits = w.fits; form = sym (take_all count octets (omega (arith, w.fills refl))) ∙ w.form }

pub value_is_whole : (term : Term) (value : Value term) → is_unambiguous term ≡ true → Fits term value → length (der term value) < 2 ^ 31 → term_judgement term (length (der term value)) (der term value) ≡ verdict.Whole
value_is_whole term value u f small =
    let e : item_outcome term (length (der term value)) true (der term value ++ []) ≡ Done (length (der term value)) =
    item-accepted term u value f (omega arith) (length (der term value)) true [] (omega arith) (λ t. refl) in
    ap verdict_of (ap (item_outcome term (length (der term value)) true) (sym (append-nil (der term value))) ∙ e)

pub value_is_decided : (term : Term) (octets : List ℕ) → 0 < length octets → term_judgement term (length octets) octets ≡ verdict.Open → ⊥
value_is_decided term octets some e = item_outcome-decided term (length octets) true octets some refl (open_outcome (item_outcome term (length octets) true octets) e)

-- ---- any messages
pub whole_is_one_of : (messages : List Term) (n : ℕ) (octets : List ℕ) → AreOctets octets → length octets ≤ n → judgement_by messages n octets ≡ verdict.Whole → AreOneOf messages n octets
whole_is_one_of messages n octets a l e = by (whole_outcome (message_outcome messages n octets) e)
  where
    of_whole : (count : ℕ) → (term : Term) × (IsChosen term messages) × (IsWhole term n true octets count) → AreOneOf messages n octets
    of_whole count (term, c, w) =
        let fills : count ≡ n = w.fills refl in
        record {
          term = term;
          one_of = one_of_chosen messages term c;
          is_der = record { value = w.value; fits = w.fits; form = sym (take_all count octets (omega arith)) ∙ w.form };
          all = omega (arith, w.within);
        }

    by : (count : ℕ) × (message_outcome messages n octets ≡ Done count) → AreOneOf messages n octets
    by (count, d) = of_whole count (IsWhole-message messages n octets count a d)

pub refusal_is_final : (messages : List Term) (n : ℕ) (octets : List ℕ) (place : ℕ) (reason : Why) → length octets ≤ n → judgement_by messages n octets ≡ verdict.Refused (record { place = place; why = reason }) → IsFinal messages n octets place reason
refusal_is_final messages n octets place reason l e =
    let s : Settles n (message_outcome messages n) octets (Bad place reason) = Settles-message_outcome messages n octets (Bad place reason) l (refused_outcome (message_outcome messages n octets) place reason e) tt in
    record {
      within = s.within;
      same = λ other k t. ap verdict_of (s.same other k t);
      sooner = λ k h. ap verdict_of (s.sooner k (omega arith));
    }

pub all_is_decided : (messages : List Term) (n : ℕ) (octets : List ℕ) → 0 < n → length octets ≡ n → judgement_by messages n octets ≡ verdict.Open → ⊥
all_is_decided messages n octets p l e = message_outcome-decided messages n octets p l (open_outcome (message_outcome messages n octets) e)

-- ---- any grammar
module _ (messages : List Term) (grammar : IsGrammar messages) where
  pub unambiguous_message : (term : Term) → IsOneOf term messages → is_unambiguous term ≡ true
  unambiguous_message term o = one_of_passes is_unambiguous messages term grammar.unambiguous o

  chosen : (term : Term) → IsOneOf term messages → IsChosen term messages
  chosen term o = chosen_one_of messages term grammar.own_tags o

  pub one_of_is_whole : (term : Term) → IsOneOf term messages → (value : Value term) → Fits term value → length (der term value) < 2 ^ 31 → judgement_by messages (length (der term value)) (der term value) ≡ verdict.Whole
  one_of_is_whole term o value f small =
      let e : message_outcome messages (length (der term value)) (der term value ++ []) ≡ Done (length (der term value)) =
      message_outcome-der messages term (chosen term o) (unambiguous_message term o) value f (omega arith) [] in
      ap verdict_of (ap (message_outcome messages (length (der term value))) (sym (append-nil (der term value))) ∙ e)

  pub one_of_is_octets : (term : Term) → IsOneOf term messages → (value : Value term) → Fits term value → length (der term value) < 2 ^ 31 → AreOctets (der term value)
  one_of_is_octets term o value f small = AreOctets-der term (one_of_passes has_octet_tags messages term grammar.octet_tags o) value f (omega arith)

  pub refusal_is_none_of : (n : ℕ) (octets : List ℕ) (place : ℕ) (reason : Why) → length octets ≤ n → judgement_by messages n octets ≡ verdict.Refused (record { place = place; why = reason }) → (term : Term) → IsOneOf term messages → (value : Value term) → Fits term value → length (der term value) < 2 ^ 31 → length (der term value) ≡ n → take (suc place) (der term value) ≡ take (suc place) octets → ⊥
  refusal_is_none_of n octets place reason l e term o value f small same begins =
      let whole : judgement_by messages n (der term value) ≡ verdict.Whole = subst (λ k. judgement_by messages k (der term value) ≡ verdict.Whole) same (one_of_is_whole term o value f small) in
      let refused : judgement_by messages n (der term value) ≡ verdict.Refused (record { place = place; why = reason }) = (refusal_is_final messages n octets place reason l e).same (der term value) (omega arith) begins in
      cc

  pub one_of_is_prefix_free : (term other : Term) → IsOneOf term messages → IsOneOf other messages → (v : Value term) (w : Value other) (x y : List ℕ) → der term v ++ x ≡ der other w ++ y → AreSame (term, v) (other, w) × (x ≡ y)
  one_of_is_prefix_free term other o p v w x y e = same_message messages term other (chosen term o) (chosen other p) (unambiguous_message term o) v w x y e
