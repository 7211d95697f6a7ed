-- Before octets that decide nothing there are none that decide; and octets that are scanned after others.
use Rattle.std.proofs.Common.{◌≡◌, ℕ, ◌⊎◌, inl, inr, Result, OnErr, ◌+◌, ◌-◌, ◌<◌, ◌≤◌, List, [], ◌∷◌, ◌++◌, get_or, length, take, drop, refl, sym, ap, ◌∙◌, subst, arith}
use Rattle.std.proofs.Common.{append_assoc, take-take}
use Rattle.std.proofs.Math.Seq.{take-add, take-append_seam}
use Rattle.std.proofs.lemmas.List.{length-append, length-take, length-drop, take-append-drop}
use Rattle.std.proofs.lemmas.Bool.{cases_lt}
use Rattle.krb_der.specs.declared.profile.Profile.{Profile}
use Rattle.krb_der.specs.Octets.{AreOctets}
use Rattle.krb_der.specs.inner.Numbers.{AreOctets-take}
use Rattle.krb_der.specs.declared.why.Why.{Why}
use Rattle.krb_der.specs.declared.verdict.Refusal.{Refusal}
use Rattle.krb_der.specs.declared.verdict.Verdict.{Verdict}
use Rattle.krb_der.specs.declared.verdict.Verdict.TheVariants as verdict
use Rattle.krb_msg.specs.Judgement.{judgement_by}
use Rattle.krb_msg.specs.Laws.{AreOneOf}
use Rattle.krb_msg.proofs.Grammars.{whole_is_one_of}
use Rattle.krb_msg.specs.Term.{Term}
use Rattle.krb_scan.specs.Scan as scan
use Rattle.krb_scan.specs.Scan.{Answer, Ongoing, Refusing, Whole}
use Rattle.krb_scan.specs.inner.Machine.{go_on}
use Rattle.krb_scan.specs.Scanned.{IsScanOf, Marks}
use Rattle.krb_scan.specs.declared.path.Path.{Path}
use Rattle.krb_scan.proofs.Prefix.{scan_append}
use Rattle.krb_scan.proofs.ScannerSteps.{judged}
use Rattle.krb_scan.proofs.Resume.{run}

-- ---- nothing is decided sooner
prefix_open : (terms : List Term) (n : ℕ) (prefix more : List ℕ) → 0 < n → AreOctets prefix → length prefix + length more ≤ n → 0 < length more → (given : Answer) → scan.scan terms n (prefix ++ more) ≡ given → ((place : ℕ) (reason : Why) → given ≡ Refusing place reason → ⊥) → judgement_by terms n prefix ≡ verdict.Open
prefix_open terms n prefix more some are fits nonempty given e not = by_answer (scan.scan terms n prefix) refl
  where
    here : length prefix ≤ n
    here = omega (arith, fits)

    by_answer : (first : Answer) → scan.scan terms n prefix ≡ first → judgement_by terms n prefix ≡ verdict.Open
    by_answer (Ongoing state) f = judged terms n prefix (Ongoing state) some here f
    by_answer (Refusing place reason) f =
        absurd (not place reason (sym e ∙ scan_append terms n prefix more some ∙ ap (λ it. go_on it (λ state. run state more)) f))
    by_answer (Whole marks) f =
        let all : AreOneOf terms n prefix = whole_is_one_of terms n prefix are here (judged terms n prefix (Whole marks) some here f) in
        absurd (omega (arith, all.all, fits, nonempty))

not_refused : {terms : List Term} (path : Path) (decided : Verdict) (n : ℕ) (octets : List ℕ) → IsScanOf terms path decided n octets → ((refusal : Refusal) → decided ≡ verdict.Refused refusal → ⊥) → (place : ℕ) (reason : Why) → scan.scan terms n octets ≡ Refusing place reason → ⊥
not_refused {terms = terms} path decided n octets at not place reason e =
    not (record { place = place; why = reason }) (at.decides ∙ judged terms n octets (Refusing place reason) at.some at.fits e)

-- of octets that are not refused, those before some of them decide nothing
pub sooner : {terms : List Term} (path : Path) (decided : Verdict) (n : ℕ) (before octets : List ℕ) (used k : ℕ) → IsScanOf terms path decided n (before ++ take used octets) → ((refusal : Refusal) → decided ≡ verdict.Refused refusal → ⊥) → used ≤ length octets → k < used → judgement_by terms n (before ++ take k octets) ≡ verdict.Open
sooner {terms = terms} path decided n before octets used k at not within lt =
    prefix_open terms n prefix more at.some are (omega (arith, at.fits, all_long)) (omega (arith, more_long, lt)) (scan.scan terms n (prefix ++ more)) refl
    (λ place reason e. not_refused path decided n (before ++ take used octets) at not place reason (ap (scan.scan terms n) same ∙ e))
  where
    prefix : List ℕ
    prefix = before ++ take k octets

    more : List ℕ
    more = drop k (take used octets)

    prefixes : take k (take used octets) ≡ take k octets
    prefixes = take-take k used octets (omega (arith, lt))

    same : before ++ take used octets ≡ prefix ++ more
    same =
        ap (λ l. before ++ l) (sym (take-append-drop k (take used octets)) ∙ ap (λ l. l ++ more) prefixes)
        ∙ sym (append_assoc before (take k octets) more)

    all_long : length (before ++ take used octets) ≡ length prefix + length more
    all_long = ap length same ∙ length-append prefix more

    more_long : length more ≡ used - k
    more_long = omega (arith, length-drop k (take used octets), length-take used octets, within)

    are : AreOctets prefix
    are = subst AreOctets (take-append_seam prefix more) (AreOctets-take (length prefix) (prefix ++ more) (subst AreOctets same at.are_octets))

-- ---- octets that are scanned after others
pub then_taken : (before octets rest : List ℕ) (used count : ℕ) → rest ≡ drop used octets → (before ++ take used octets) ++ take count rest ≡ before ++ take (used + count) octets
then_taken before octets rest used count e =
    append_assoc before (take used octets) (take count rest) ∙ ap (λ l. before ++ (take used octets ++ take count l)) e ∙ ap (λ l. before ++ l) (sym (take-add used count octets))

pub then_at : (P : List ℕ → Type 0) (before octets rest : List ℕ) (used count : ℕ) → rest ≡ drop used octets → P ((before ++ take used octets) ++ take count rest) → P (before ++ take (used + count) octets)
then_at P before octets rest used count e at = subst P (then_taken before octets rest used count e) at

-- if neither some octets nor those after them decide anything sooner, all of them do not
pub then_sooner : (terms : List Term) (n : ℕ) (before octets rest : List ℕ) (used count k : ℕ) → rest ≡ drop used octets → (k < used → judgement_by terms n (before ++ take k octets) ≡ verdict.Open) →
    ((j : ℕ) → j < count → judgement_by terms n ((before ++ take used octets) ++ take j rest) ≡ verdict.Open) → k < used + count → judgement_by terms n (before ++ take k octets) ≡ verdict.Open
then_sooner terms n before octets rest used count k e first then lt = by_place (cases_lt k used)
  where
    by_place : (k < used) ⊎ (used ≤ k) → judgement_by terms n (before ++ take k octets) ≡ verdict.Open
    by_place (inl less) = first less
    by_place (inr more) =
        let same : used + (k - used) ≡ k = omega (arith, more) in
        ap (judgement_by terms n) (ap (λ j. before ++ take j octets) (sym same) ∙ sym (then_taken before octets rest used (k - used) e)) ∙ then (k - used) (omega (arith, more, lt))

pub then_ends : {A E : Type 0} (profile : Profile) (result : Result A E) (n : ℕ) (before octets rest : List ℕ) (used count : ℕ) → rest ≡ drop used octets →
    OnErr result (length (Marks profile n ((before ++ take used octets) ++ take (count + 1) rest)) ≡ length (Marks profile n ((before ++ take used octets) ++ take count rest)) + 1) →
    OnErr result (length (Marks profile n (before ++ take (used + count + 1) octets)) ≡ length (Marks profile n (before ++ take (used + count) octets)) + 1)
then_ends profile result n before octets rest used count e ends =
    let next : used + (count + 1) ≡ used + count + 1 = omega arith in
    subst (λ l. OnErr result (length (Marks profile n l) ≡ length (Marks profile n (before ++ take (used + count) octets)) + 1)) (then_taken before octets rest used (count + 1) e ∙ ap (λ k. before ++ take k octets) next)
    (subst (λ l. OnErr result (length (Marks profile n ((before ++ take used octets) ++ take (count + 1) rest)) ≡ length (Marks profile n l) + 1)) (then_taken before octets rest used count e) ends)

-- the first of some octets
pub take_first : (octets : List ℕ) → 0 < length octets → get_or octets 0 0 ∷ [] ≡ take 1 octets
take_first [] some = absurd (omega (arith, some))
take_first (octet ∷ octets) some = refl
