-- Flows whose numbers are kept beside the map.
use Rattle.std.proofs.Common.{◌≡◌, ℕ, zero, suc, ◌<◌, Bool, true, false, List, [], ◌∷◌, ◌⊎◌, length, get_or, Option, Some, None, inl, inr, refl, sym, ◌∙◌, ap, subst, arith, get_or-set_other, get_or-set_same}
use Rattle.std.specs.Prelude.{cond}
use Rattle.std.proofs.Math.ListN.{replicate, set}
use Rattle.std.proofs.lemmas.Bool.{cases_eq}
use Rattle.std.proofs.lemmas.Map.Lookups.{exact_unsigned}
use Rattle.std.specs.Cmp.{Equal-is}
use Rattle.std.specs.declared.cmp.Ordering.{Ordering}
use Rattle.std.specs.declared.cmp.Ordering.TheVariants.{Less, Equal, Greater}
use Rattle.std.specs.Ordering.{is_eq, match_ordering, nat_cmp, ordering_then}
use Rattle.std.specs.Map.{keys_of, lookup}
use Rattle.std.specs.BTreeMap.{insert_entry, is_at}
use Rattle.krb_capture.specs.Directions.{flow_cmp}
use Rattle.krb_capture.specs.Numbers.{AreNoted, IsNoted, place_of}
use Rattle.krb_capture.specs.declared.flow.Flow.{Flow}
use Rattle.krb_capture.specs.declared.numbers.Numbered.{Numbered}

-- ---- equal flows have one place
first-equal : (a b : Ordering) → ordering_then a b ≡ Equal → a ≡ Equal
first-equal Less b e = e
first-equal Equal b e = refl
first-equal Greater b e = e

then-equal : (a b : Ordering) → ordering_then a b ≡ Equal → b ≡ Equal
then-equal Less b e = absurd cc
then-equal Equal b e = e
then-equal Greater b e = absurd cc

same-sources : (f g : Flow) → flow_cmp f g ≡ Equal → f.source_port ≡ g.source_port
same-sources f g e = exact_unsigned _ _ (first-equal (nat_cmp f.source_port g.source_port) _ e)

same-targets : (f g : Flow) → flow_cmp f g ≡ Equal → f.target_port ≡ g.target_port
same-targets f g e = exact_unsigned _ _ (first-equal (nat_cmp f.target_port g.target_port) _ (then-equal (nat_cmp f.source_port g.source_port) _ e))

same-place : (f g : Flow) → flow_cmp f g ≡ Equal → place_of f ≡ place_of g
same-place f g e = rw (same-sources f g e, same-targets f g e) refl

-- ---- one is kept at a place, or none
module _ (entries entries' : List (Flow × ℕ)) (flow : Flow) (others : (q : Flow) → is_at (flow_cmp flow) q ≡ false → lookup (is_at (flow_cmp q)) entries' ≡ lookup (is_at (flow_cmp q)) entries) where
  stays : (place : ℕ) (one : Option Numbered) → (place_of flow ≡ place → ⊥) → IsNoted entries place one → IsNoted entries' place one
  stays place None apart n = tt
  stays place (Some one) apart n = (n.0, others one.flow (by (is_at (flow_cmp flow) one.flow) refl) ∙ n.1)
    where
      by : (b : Bool) → is_at (flow_cmp flow) one.flow ≡ b → is_at (flow_cmp flow) one.flow ≡ false
      by false e = e
      by true e = absurd (apart (same-place flow one.flow ((Equal-is (flow_cmp flow one.flow)).0 e) ∙ n.0))

  pub noted-set : (recent : List (Option Numbered)) (place : ℕ) (one : Option Numbered) → AreNoted recent entries → place ≡ place_of flow → place < length recent → IsNoted entries' place one → AreNoted (set recent place one) entries'
  noted-set recent place one h p few n = record { each = λ q. by q (cases_eq q place) }
    where
      by : (q : ℕ) → (q ≡ place) ⊎ (q ≡ place → ⊥) → IsNoted entries' q (get_or (set recent place one) q None)
      by q (inl e) = subst (λ x. IsNoted entries' x (get_or (set recent place one) x None)) (sym e) (subst (IsNoted entries' place) (sym (get_or-set_same recent place one None few)) n)
      by q (inr ne) = subst (IsNoted entries' q) (sym (get_or-set_other recent place q one None ne)) (stays q (get_or recent q None) (λ e. ne (sym (p ∙ e))) (h.each q))

-- there is none at any place
pub none-noted : (recent : List (Option Numbered)) (entries : List (Flow × ℕ)) → ((place : ℕ) → get_or recent place None ≡ None) → AreNoted recent entries
none-noted recent entries h = record { each = λ place. subst (IsNoted entries place) (sym (h place)) tt }

-- ---- a number that is given and taken back
module _ {K X : Type 0} (cmp : K → K → Ordering) (k : K) (v old : X) where
  abbrev put : List (K × X) → X → List (K × X)
  put es x = insert_entry cmp es k x

  pub put-back : (es : List (K × X)) → lookup (is_at (cmp k)) es ≡ Some old → keys_of (put es v) ≡ keys_of es → put (put es v) old ≡ es
  put-back [] h s = absurd cc
  put-back (e ∷ es) h s = by (cmp k e.0) refl h s (put-back es)
    where
      by : (o : Ordering) → cmp k e.0 ≡ o → cond (is_eq o) (Some e.1) (lookup (is_at (cmp k)) es) ≡ Some old → keys_of (match_ordering o ((k, v) ∷ e ∷ es) ((e.0, v) ∷ es) (e ∷ put es v)) ≡ e.0 ∷ keys_of es → (lookup (is_at (cmp k)) es ≡ Some old → keys_of (put es v) ≡ keys_of es → put (put es v) old ≡ es) → put (match_ordering o ((k, v) ∷ e ∷ es) ((e.0, v) ∷ es) (e ∷ put es v)) old ≡ e ∷ es
      by Less q h s rest = absurd (omega (arith, ap (λ l. length l) s))
      by Equal q h s rest =
          let same : e.1 ≡ old = cc in
          ap (λ o. match_ordering o ((k, old) ∷ (e.0, v) ∷ es) ((e.0, old) ∷ es) ((e.0, v) ∷ put es old)) q ∙ ap (λ x. (e.0, x) ∷ es) (sym same)
      by Greater q h s rest =
          let tail : keys_of (put es v) ≡ keys_of es = cc in
          ap (λ o. match_ordering o ((k, old) ∷ e ∷ put es v) ((e.0, old) ∷ put es v) (e ∷ put (put es v) old)) q ∙ ap (λ l. e ∷ l) (rest h tail)

-- ---- there is none at first
abbrev no_one : Option Numbered
no_one = None

pub none-at : (n place : ℕ) → get_or (replicate n no_one) place None ≡ None
none-at zero place = refl
none-at (suc n) zero = refl
none-at (suc n) (suc place) = none-at n place
