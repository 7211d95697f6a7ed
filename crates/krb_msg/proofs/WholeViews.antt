-- Octets have a view exactly if they are judged whole.
use Rattle.std.proofs.Common.{◌≡◌, ℕ, ◌^◌, ◌<◌, true, List, [], length, refl, sym, ap, ◌∙◌, arith, append-nil}
use Rattle.std.proofs.lemmas.List.{take_all}
use Rattle.krb_der.specs.Octets.{item, AreOctets}
use Rattle.krb_der.specs.declared.verdict.Verdict.TheVariants as verdict
use Rattle.krb_msg.specs.Term.{Term, tag_of, Value, der, Fits}
use Rattle.krb_msg.specs.Shape.{is_unambiguous}
use Rattle.krb_msg.specs.Judgement.{Done, item_outcome, verdict_of, term_judgement}
use Rattle.krb_msg.specs.ValueOfDer.{value_of_der}
use Rattle.krb_msg.specs.inner.Values.{contents, der_is}
use Rattle.krb_msg.proofs.Accepts.{item-accepted}
use Rattle.krb_msg.proofs.Grammars.{whole_outcome}
use Rattle.krb_msg.proofs.Laws.{IsWhole, IsWhole-done}
use Rattle.krb_msg.proofs.ValueOfDer.{value_of_der_is_value}
use Rattle.krb_msg.specs.Viewed.{IsNoItem, AreContents, AreNoContents, IsViewOf, IsNotWhole}

-- ---- what is judged whole is the DER of a value
record WholeValue (term : Term) (octets : List ℕ) : Type 0 where
  value : Value term
  fits : Fits term value
  form : octets ≡ der term value

whole_value : (term : Term) (octets : List ℕ) → AreOctets octets → term_judgement term (length octets) octets ≡ verdict.Whole → WholeValue term octets
whole_value term octets a e =
    let d : (count : ℕ) × (item_outcome term (length octets) true octets ≡ Done count) = whole_outcome (item_outcome term (length octets) true octets) e in
    let w : IsWhole term (length octets) true octets d.0 = IsWhole-done term (length octets) true octets d.0 a d.1 in
    record { value = w.value; fits = w.fits; form = sym (take_all d.0 octets (omega (arith, w.fills refl))) ∙ w.form }

pub no_item_whole : (term : Term) (tag : ℕ) (octets : List ℕ) → AreOctets octets → tag ≡ tag_of term → IsNoItem tag octets → IsNotWhole term octets
no_item_whole term tag octets a t none e =
    let w = whole_value term octets a e in
    none (contents term w.value) (w.form ∙ der_is term w.value ∙ ap (λ n. item n (contents term w.value)) (sym t))

pub no_contents_whole : (term : Term) (tag : ℕ) (octets own : List ℕ) → AreOctets octets → tag ≡ tag_of term → octets ≡ item tag own → AreNoContents term own → IsNotWhole term octets
no_contents_whole term tag octets own a t i none e =
    let w = whole_value term octets a e in
    none w.value (record { fits = w.fits; form = ap (λ n. item n own) (sym t) ∙ sym i ∙ w.form })

-- ---- and the DER of a value is judged whole
pub is_view_of : (term : Term) (tag : ℕ) (octets own : List ℕ) (value : Value term) → is_unambiguous term ≡ true → length octets < 2 ^ 31 → tag ≡ tag_of term → octets ≡ item tag own → AreContents term own value → IsViewOf term octets value
is_view_of term tag octets own value u small t i a =
    let f : octets ≡ der term value = i ∙ ap (λ n. item n own) t ∙ a.form in
    let n : length octets ≡ length (der term value) = ap length f in
    record {
      whole = ap verdict_of (ap (item_outcome term (length octets) true) (f ∙ sym (append-nil (der term value)))
          ∙ item-accepted term u value a.fits (omega (arith, n, small)) (length octets) true [] (omega (arith, n)) (λ s. sym n));
      fits = a.fits;
      form = sym f;
      read = sym (ap (value_of_der term) f ∙ value_of_der_is_value term value u (omega (arith, n, small)));
    }
