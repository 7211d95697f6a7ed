-- The marks beside a machine, after an octet more.
use Rattle.std.proofs.Common.{◌≡◌, ℕ, ◌+◌, ◌*◌, ◌/◌, ◌<◌, ◌≤◌, ◌⊎◌, inl, inr, Ok, Err, Result, OnErr, List, [], ◌∷◌, ◌++◌, length, take, refl, sym, ap, ◌∙◌, subst, arith}
use Rattle.std.specs.Prelude.{IsOk}
use Rattle.std.proofs.lemmas.Bool.{cases_lt}
use Rattle.std.proofs.lemmas.List.{length-append, take-append-le, take_all}
use Rattle.std.proofs.Math.Logic.{∥∥₁_elim, ∥∥₁_map}
use Rattle.std.specs.Coded.{le_prop}
use Rattle.krb_der.specs.declared.profile.Profile.{Profile}
use Rattle.krb_der.specs.declared.verdict.Verdict.{Verdict}
use Rattle.krb_der.specs.declared.verdict.Verdict.TheVariants as verdict
use Rattle.krb_der.specs.declared.memory.Memory.{Memory}
use Rattle.krb_der.specs.declared.verdict.Refusal.{Refusal}
use Rattle.krb_der.specs.declared.why.Why.{Why}
use Rattle.krb_msg.specs.Grammar.{messages}
use Rattle.krb_msg.specs.Term.{Term}
use Rattle.krb_msg.specs.Judgement.{judgement_by}
use Rattle.krb_msg.proofs.Grammars.{all_is_decided}
use Rattle.krb_scan.specs.Scan as scan
use Rattle.krb_scan.specs.Scan.{Answer, Ongoing, Refusing, Whole, Mark as Marked}
use Rattle.krb_scan.specs.State.{mark_value}
use Rattle.krb_scan.specs.Scanned.{IsScanOf, Marks, marks_by, marks_from, marks_before}
use Rattle.krb_scan.specs.Machine.{HasScanned, HasMarked}
use Rattle.krb_scan.specs.inner.Paths.{IsPathOf, Changes, ChangesTo, IsLength}
use Rattle.krb_scan.specs.declared.event.Event.{Event}
use Rattle.krb_scan.specs.declared.event.Event.TheVariants as event
use Rattle.krb_scan.specs.declared.machine.Machine.{Machine}
use Rattle.krb_scan.specs.declared.mark.Mark.{Mark}
use Rattle.krb_scan.proofs.Marks.{length_values}
use Rattle.krb_scan.proofs.MarkCounts.{marks_are_few}
use Rattle.krb_scan.proofs.Resume.{run_scan}
use Rattle.krb_scan.proofs.Room.{open_short}
use Rattle.krb_scan.proofs.ScannerSteps.{judged, is_path_of, refused_here}

-- an octet that is refused leaves the marks
pub refused_marks : {terms : List Term} (machine : Machine) (n : ℕ) (octets : List ℕ) (octet : ℕ) → IsScanOf terms machine.path machine.verdict n octets → machine.verdict ≡ verdict.Open → length (octets ++ octet ∷ []) ≤ n → (place : ℕ) (reason : Why) → scan.scan terms n (octets ++ octet ∷ []) ≡ Refusing place reason → marks_by terms n (octets ++ octet ∷ []) ≡ marks_by terms n octets
refused_marks {terms = terms} machine n octets octet at still fits place reason e =
    let s : IsPathOf terms machine.path octets = is_path_of machine.path machine.verdict n octets at still in
    let reads : scan.scan terms n octets ≡ Ongoing s.state = ap (λ k. scan.scan terms k octets) (sym at.size) ∙ s.reads in
    let there : place ≡ length octets = refused_here machine.path octets octet place reason s (ap (λ k. scan.scan terms k (octets ++ octet ∷ [])) at.size ∙ e) in
    let prefix : take place (octets ++ octet ∷ []) ≡ octets = ap (λ k. take k (octets ++ octet ∷ [])) there ∙ take-append-le (length octets) octets (octet ∷ []) (omega arith) ∙ take_all (length octets) octets (omega arith) in
    ap (λ given. marks_from given (λ place. scan.scan terms n (take place (octets ++ octet ∷ [])))) e
    ∙ ap (λ l. marks_before (scan.scan terms n l)) prefix ∙ ap marks_before reads
    ∙ sym (ap (λ given. marks_from given (λ place. scan.scan terms n (take place octets))) reads)

longer : {terms : List Term} (machine : Machine) (n : ℕ) (octets : List ℕ) (octet : ℕ) → IsScanOf terms machine.path machine.verdict n octets → machine.verdict ≡ verdict.Open → length (octets ++ octet ∷ []) ≤ n
longer {terms = terms} machine n octets octet at still =
    let s : IsPathOf terms machine.path octets = is_path_of machine.path machine.verdict n octets at still in
    omega (arith, length-append octets (octet ∷ []), open_short terms n octets s.state at.some (ap (λ k. scan.scan terms k octets) (sym at.size) ∙ s.reads))

pub kept_marks : {terms : List Term} (machine : Machine) (n : ℕ) (octets : List ℕ) (octet : ℕ) (decided : Verdict) (refusal : Refusal) → IsScanOf terms machine.path machine.verdict n octets → machine.verdict ≡ verdict.Open → decided ≡ judgement_by terms n (octets ++ octet ∷ []) → decided ≡ verdict.Refused refusal → marks_by terms n (octets ++ octet ∷ []) ≡ marks_by terms n octets
kept_marks {terms = terms} machine n octets octet decided refusal at still is refused = by_answer (scan.scan terms n (octets ++ octet ∷ [])) refl
  where
    by_answer : (given : Answer) → scan.scan terms n (octets ++ octet ∷ []) ≡ given → marks_by terms n (octets ++ octet ∷ []) ≡ marks_by terms n octets
    by_answer (Ongoing state) e = let same : verdict.Refused refusal ≡ verdict.Open = sym refused ∙ is ∙ judged terms n (octets ++ octet ∷ []) (Ongoing state) at.some (longer machine n octets octet at still) e in absurd (cc same)
    by_answer (Refusing place reason) e = refused_marks machine n octets octet at still (longer machine n octets octet at still) place reason e
    by_answer (Whole marks) e = let same : verdict.Refused refusal ≡ verdict.Whole = sym refused ∙ is ∙ judged terms n (octets ++ octet ∷ []) (Whole marks) at.some (longer machine n octets octet at still) e in absurd (cc same)

-- what an event does to the marks by an octet that is not refused
pub changed_marks : (terms : List Term) (e : Event) (n : ℕ) (octets : List ℕ) (octet : ℕ) (before : List Marked) → ChangesTo e before (scan.scan terms n (octets ++ octet ∷ [])) →
    ((place : ℕ) (reason : Why) → scan.scan terms n (octets ++ octet ∷ []) ≡ Refusing place reason → ⊥) → Changes e before (marks_by terms n (octets ++ octet ∷ []))
changed_marks terms e n octets octet before c not = by_answer (scan.scan terms n (octets ++ octet ∷ [])) refl c
  where
    by_answer : (given : Answer) → scan.scan terms n (octets ++ octet ∷ []) ≡ given → ChangesTo e before given → Changes e before (marks_by terms n (octets ++ octet ∷ []))
    by_answer (Refusing place reason) f h = absurd (not place reason f)
    by_answer other f h = subst (Changes e before) (sym (ap (λ given. marks_from given (λ place. scan.scan terms n (take place (octets ++ octet ∷ [])))) f)) h

pub event_marks : {terms : List Term} (machine : Machine) (e : Event) (n : ℕ) (octets : List ℕ) (octet : ℕ) (decided : Verdict) → IsScanOf terms machine.path machine.verdict n octets → machine.verdict ≡ verdict.Open → decided ≡ judgement_by terms n (octets ++ octet ∷ []) → ((refusal : Refusal) → decided ≡ verdict.Refused refusal → ⊥) →
    ChangesTo e (marks_by terms n octets) (scan.scan terms n (octets ++ octet ∷ [])) → Changes e (marks_by terms n octets) (marks_by terms n (octets ++ octet ∷ []))
event_marks {terms = terms} machine e n octets octet decided at still is not c =
    changed_marks terms e n octets octet (marks_by terms n octets) c (λ place reason f. not (record { place = place; why = reason }) (is ∙ judged terms n (octets ++ octet ∷ []) (Refusing place reason) at.some (longer machine n octets octet at still) f))

pub length_more : (e : Event) (before after : List Marked) → IsLength e → Changes e before after → length after ≡ length before + 1
length_more (event.Length mark) before after h c = omega (arith, ap length c.1, length-append before (mark_value mark ∷ []))
length_more other before after h c = absurd h

pub err_holds : {A E P : Type 0} (result : Result A E) → P → OnErr result P
err_holds (Ok value) p = tt {0}
err_holds (Err error) p = p

pub on_err : {A E P Q : Type 0} (result : Result A E) → (P → Q) → OnErr result P → OnErr result Q
on_err (Ok value) f h = tt {0}
on_err (Err error) f h = f h

abbrev pub SomeMarked : Machine → List Mark → Type 0
SomeMarked machine marks = ∥ ((octets : List ℕ) × (profile : Profile) × HasMarked profile machine marks machine.path.size octets) ∥₁

none_marked : (profile : Profile) (machine : Machine) (n : ℕ) → HasScanned profile machine n [] → HasMarked profile machine [] n []
none_marked profile machine n at = record {
  scanned = at;
  marks = record { nodes = tt {0}; values = sym (ap (λ given. marks_from given (λ place. scan.scan (messages profile) n (take place []))) (run_scan (messages profile) n [] at.some)) };
}

pub nothing_marked : (profile : Profile) (machine : Machine) (marks : List Mark) (n : ℕ) → HasScanned profile machine n [] → marks ≡ [] → SomeMarked machine marks
nothing_marked profile machine marks n at none =
    ∣ ([], profile, subst (λ k. HasMarked profile machine marks k []) (sym at.size) (subst (λ kept. HasMarked profile machine kept n []) (sym none) (none_marked profile machine n at))) ∣₁

pub some_then : (old new : Machine) (marks changed : List Mark) (more : List ℕ → List ℕ) → SomeMarked old marks → ((profile : Profile) (n : ℕ) (octets : List ℕ) → HasMarked profile old marks n octets → HasMarked profile new changed n (more octets)) → SomeMarked new changed
some_then old new marks changed more r then = ∥∥₁_map r (λ (k : (octets : List ℕ) × (profile : Profile) × HasMarked profile old marks old.path.size octets).
    let h : HasMarked k.1 new changed old.path.size (more k.0) = then k.1 old.path.size k.0 k.2 in
    (more k.0, k.1, subst (λ n. HasMarked k.1 new changed n (more k.0)) (sym h.scanned.size) h))

pub some_kept : (machine : Machine) (marks changed : List Mark) → SomeMarked machine marks → changed ≡ marks → SomeMarked machine changed
some_kept machine marks changed r e = subst (SomeMarked machine) (sym e) r

pub marks_few : (machine : Machine) (marks : List Mark) → SomeMarked machine marks → 2 * length marks ≤ machine.path.looked
marks_few machine marks r = ∥∥₁_elim r le_prop (λ (k : (octets : List ℕ) × (profile : Profile) × HasMarked profile machine marks machine.path.size octets).
    omega (arith, marks_are_few k.1 machine.path.size k.0 k.2.scanned.some, length_values marks (Marks k.1 machine.path.size k.0) k.2.marks, k.2.scanned.looked))

-- capacity for half as many marks as the message has octets is enough for what an octet more can add
pub enough : {A : Type 0} {profile : Profile} (result : Result A Memory) (machine : Machine) (marks : List Mark) (n : ℕ) (octets longer : List ℕ) (room : ℕ) → HasMarked profile machine marks n octets → OnErr result (machine.verdict ≡ verdict.Open) → length longer ≤ length octets + 1 → OnErr result (length (Marks profile n longer) ≡ length (Marks profile n octets) + 1) → OnErr result (room ≤ length marks) → n / 2 ≤ room → IsOk result
enough (Ok value) machine marks n octets longer room at undecided one ends full much = refl
enough {profile = profile} (Err error) machine marks n octets longer room at undecided one ends full much = absurd (by (cases_lt (length octets) n))
  where
    by : (length octets < n) ⊎ (n ≤ length octets) → ⊥
    by (inl h) = omega (arith, marks_are_few profile n longer at.scanned.some, length_values marks (Marks profile n octets) at.marks, h, one, ends, full, much)
    by (inr h) = all_is_decided (messages profile) n octets at.scanned.some (omega (arith, at.scanned.fits, h)) (sym at.scanned.decides ∙ undecided)
