-- A scanner's path and verdict after an octet more.
use Rattle.std.proofs.Common.{◌≡◌, ℕ, suc, zero-le, ◌+◌, ◌-◌, ◌<◌, ◌≤◌, ◌^◌, List, [], ◌∷◌, ◌++◌, length, reverse, take, refl, sym, ap, ◌∙◌, subst, arith}
use Rattle.std.proofs.lemmas.List.{length-append, take-append-le, take_all}
use Rattle.std.proofs.Math.Logic.{∥∥₁_elim, ∥∥₁_map}
use Rattle.std.specs.Coded.{le_prop}
use Rattle.krb_der.specs.inner.Numbers.{AreOctets-append}
use Rattle.krb_der.specs.declared.verdict.Verdict.{Verdict}
use Rattle.krb_der.specs.declared.verdict.Verdict.TheVariants as verdict
use Rattle.krb_der.specs.declared.why.Why.{Why}
use Rattle.krb_msg.specs.Judgement.{judgement_by, verdict_of}
use Rattle.krb_msg.specs.Term.{Term}
use Rattle.krb_msg.specs.Shape.{greatest_depth}
use Rattle.krb_scan.specs.Scan as scan
use Rattle.krb_scan.specs.Scan.{State, Tip, Answer, Ongoing, Refusing, Whole, OneOf, container_of, open_lengths, lengths_at, scanned}
use Rattle.krb_scan.specs.inner.Machine.{step, outcome_of, go_on, initial}
use Rattle.krb_scan.specs.State.{AreOpen, AreContainers, TipIs, open_lengths_of}
use Rattle.krb_scan.specs.Expectations.{IsKnown, expected_of}
use Rattle.krb_scan.specs.inner.Paths.{IsPathOf, HasState, IsUnchanged, IsStep, IsReached, Becomes}
use Rattle.krb_scan.specs.State as kept
use Rattle.krb_scan.specs.Scanned.{IsScanOf, Keeps, lengths_from, lengths_before}
use Rattle.krb_scan.specs.declared.path.Path.{Path}
use Rattle.krb_scan.specs.declared.tip.Tip.{Tip as Kept}
use Rattle.krb_scan.specs.declared.tip.Tip.TheVariants as tip
use Rattle.krb_scan.proofs.Chunk.{scan_reached}
use Rattle.krb_scan.proofs.Containers.{open_length}
use Rattle.krb_scan.proofs.Levels.{OpenAtMost, levels_at, scan_deep}
use Rattle.krb_scan.proofs.Outcome.{scan_outcome}
use Rattle.krb_scan.proofs.Faults.{Placed, IsPlaced, scan_placed, step_placed}
use Rattle.krb_scan.proofs.Resume.{ReachedAnswer, scan_step, run_scan}
use Rattle.krb_scan.proofs.Room.{open_short}

-- the verdict of a scan of octets is their judgement
pub judged : (terms : List Term) (n : ℕ) (octets : List ℕ) (given : Answer) → 0 < n → length octets ≤ n → scan.scan terms n octets ≡ given → judgement_by terms n octets ≡ verdict_of (outcome_of n given)
judged terms n octets given some le e = ap verdict_of (scan_outcome terms n octets some le ∙ ap (outcome_of n) e)

-- a path whose octets decide nothing has scanned them
pub is_path_of : {terms : List Term} (path : Path) (decided : Verdict) (n : ℕ) (octets : List ℕ) → IsScanOf terms path decided n octets → decided ≡ verdict.Open → IsPathOf terms path octets
is_path_of {terms = terms} path decided n octets at still = by_answer (scan.scan terms n octets) refl
  where
    by_answer : (given : Answer) → scan.scan terms n octets ≡ given → IsPathOf terms path octets
    by_answer (Ongoing state) e =
        let keeps : Keeps path (Ongoing state) = subst (Keeps path) e at.keeps in
        record {
          shallow = at.shallow;
          are_octets = at.are_octets;
          some = omega (arith, at.some, at.size);
          short = omega (arith, at.short, at.size);
          looked = at.looked;
          state = state;
          reads = ap (λ k. scan.scan terms k octets) at.size ∙ e;
          holds = record { tip = keeps.1; containers = keeps.0 };
        }
    by_answer (Refusing place reason) e =
        let same : verdict.Open ≡ verdict.Refused (record { place = place; why = reason }) = sym still ∙ at.decides ∙ judged terms n octets (Refusing place reason) at.some at.fits e in
        absurd (cc same)
    by_answer (Whole marks) e =
        let same : verdict.Open ≡ verdict.Whole = sym still ∙ at.decides ∙ judged terms n octets (Whole marks) at.some at.fits e in
        absurd (cc same)

same_tip : (scanned : ℕ) (a : Kept) (b : Tip) (count : ℕ) → TipIs scanned a b → kept.lengths_at a count ≡ lengths_at b count
same_tip scanned tip.Between (scan.Between place) count h = refl
same_tip scanned (tip.Tagged node) (scan.InHead term from octets) count h = refl
same_tip scanned (tip.Long node digits seen value) (scan.InHead term from octets) count h = refl
same_tip scanned (tip.Leaf node start end value unused) (scan.InLeaf term begin size octets) count h = refl
same_tip scanned other another count h = absurd h

pub same_lengths : (path : Path) (scanned : ℕ) (state : State) → HasState path scanned state → open_lengths_of path ≡ open_lengths state
same_lengths path scanned state h =
    let size : length state.stack ≡ suc (length path.outer.items) = open_length path.inner path.outer.items state.stack h.containers in
    let same : length path.outer.items ≡ length state.stack - 1 = omega arith in
    same_tip scanned path.tip state.tip (length path.outer.items) h.tip ∙ ap (lengths_at state.tip) same

-- if memory was refused, the octets are the same
pub unchanged_at : {terms : List Term} (old new : Path) (decided : Verdict) (n : ℕ) (octets : List ℕ) → IsScanOf terms old decided n octets → IsUnchanged old new → new.size ≡ old.size → new.looked ≡ old.looked → IsScanOf terms new decided n octets
unchanged_at {terms = terms} old new decided n octets at same size looked = record {
  shallow = at.shallow;
  are_octets = at.are_octets;
  some = at.some;
  short = at.short;
  fits = at.fits;
  size = size ∙ at.size;
  decides = at.decides;
  looked = looked ∙ at.looked;
  lengths = ap (λ t. kept.lengths_at t (length new.outer.items)) same.tip ∙ ap (λ items. kept.lengths_at old.tip (length items)) same.outer ∙ at.lengths;
  keeps = by_answer (scan.scan terms n octets) at.keeps;
}
  where
    by_answer : (given : Answer) → Keeps old given → Keeps new given
    by_answer (Ongoing state) h = (
      subst (λ items. AreOpen new.inner items state.stack) (sym same.outer) (subst (λ top. AreOpen top old.outer.items state.stack) (sym same.inner) h.0),
      subst (λ k. TipIs k new.tip state.tip) (sym looked) (subst (λ t. TipIs old.looked t state.tip) (sym same.tip) h.1),
    )
    by_answer other h = tt {0}

-- the path after the octet of the step
abbrev pub counted : Path → Path
counted path = record path { looked = path.looked + 1 }

-- an octet that is refused is that of the step
pub refused_here : {terms : List Term} (path : Path) (octets : List ℕ) (octet place : ℕ) (reason : Why) (s : IsPathOf terms path octets) → scan.scan terms path.size (octets ++ octet ∷ []) ≡ Refusing place reason → place ≡ length octets
refused_here {terms = terms} path octets octet place reason s e =
    let stepped : step s.state octet ≡ Refusing place reason = sym (scan_step terms path.size octets octet s.some ∙ ap (λ given. go_on given (λ state. step state octet)) s.reads) ∙ e in
    let placed : Placed (length octets) (Ongoing s.state) = subst (Placed (length octets)) s.reads (scan_placed terms path.size octets s.some) in
    let reached : ReachedAnswer (Ongoing s.state) = subst ReachedAnswer s.reads (scan_reached terms path.size octets s.some) in
    let at : IsPlaced (scanned s.state) (Refusing place reason) = subst (IsPlaced (scanned s.state)) stepped (step_placed s.state octet reached.reached placed.1) in
    at.placed ∙ placed.0

-- after a step
pub scanned_at : {terms : List Term} (old new : Path) (decided before : Verdict) (n : ℕ) (octets : List ℕ) (octet : ℕ) → IsScanOf terms old before n octets → before ≡ verdict.Open → octet < 256 → new.size ≡ old.size → new.looked ≡ old.looked →
    IsStep old new decided (scan.scan terms old.size (octets ++ octet ∷ [])) → IsScanOf terms (counted new) decided n (octets ++ octet ∷ [])
scanned_at {terms = terms} old new decided before n octets octet at still small size looked is =
    by_answer decided (scan.scan terms n (octets ++ octet ∷ [])) refl (subst (λ k. Becomes old new decided (scan.scan terms k (octets ++ octet ∷ []))) at.size is.steps)
  where
    s : IsPathOf terms old octets
    s = is_path_of old before n octets at still

    reads : scan.scan terms n octets ≡ Ongoing s.state
    reads = ap (λ k. scan.scan terms k octets) (sym at.size) ∙ s.reads

    more : length (octets ++ octet ∷ []) ≡ length octets + 1
    more = omega (arith, length-append octets (octet ∷ []))

    fits : length (octets ++ octet ∷ []) ≤ n
    fits = omega (arith, more, open_short terms n octets s.state at.some reads)

    here : new.looked + 1 ≡ old.looked + 1
    here = ap (λ k. k + 1) looked

    made : (verdict_now : Verdict) (given : Answer) → scan.scan terms n (octets ++ octet ∷ []) ≡ given → verdict_now ≡ verdict_of (outcome_of n given) →
        open_lengths_of new ≡ lengths_from given (λ place. scan.scan terms n (take place (octets ++ octet ∷ []))) →
        Keeps (counted new) given → IsScanOf terms (counted new) verdict_now n (octets ++ octet ∷ [])
    made verdict_now given e decides lengths keeps = record {
      shallow = at.shallow;
      are_octets = AreOctets-append octets (octet ∷ []) at.are_octets (small, tt {0});
      some = at.some;
      short = at.short;
      fits = fits;
      size = size ∙ at.size;
      decides = decides ∙ sym (judged terms n (octets ++ octet ∷ []) given at.some fits e);
      looked = here ∙ ap (λ k. k + 1) at.looked ∙ sym more;
      lengths = lengths ∙ ap (λ answer. lengths_from answer (λ place. scan.scan terms n (take place (octets ++ octet ∷ [])))) (sym e);
      keeps = subst (Keeps (counted new)) (sym e) keeps;
    }

    prefix : (place : ℕ) → place ≡ length octets → scan.scan terms n (take place (octets ++ octet ∷ [])) ≡ Ongoing s.state
    prefix place e = ap (λ k. scan.scan terms n (take k (octets ++ octet ∷ []))) e ∙ ap (scan.scan terms n) (take-append-le (length octets) octets (octet ∷ []) (omega arith) ∙ take_all (length octets) octets (omega arith)) ∙ reads

    by_answer : (verdict_now : Verdict) (given : Answer) → scan.scan terms n (octets ++ octet ∷ []) ≡ given → Becomes old new verdict_now given → IsScanOf terms (counted new) verdict_now n (octets ++ octet ∷ [])
    by_answer verdict.Open (Ongoing state) e h =
        made verdict.Open (Ongoing state) e refl (same_lengths new (old.looked + 1) state h) (h.containers, subst (λ k. TipIs k new.tip state.tip) (sym here) h.tip)
    by_answer (verdict.Refused refusal) (Refusing place reason) e h =
        let there : place ≡ length octets = refused_here old octets octet place reason s (ap (λ k. scan.scan terms k (octets ++ octet ∷ [])) at.size ∙ e) in
        made (verdict.Refused refusal) (Refusing place reason) e
        (ap (λ k. verdict.Refused (record { place = k; why = refusal.why })) (h.0 ∙ at.looked ∙ sym there) ∙ ap (λ w. verdict.Refused (record { place = place; why = w })) h.1)
        (ap (λ t. kept.lengths_at t (length new.outer.items)) h.2.tip ∙ ap (λ items. kept.lengths_at old.tip (length items)) h.2.outer ∙ same_lengths old old.looked s.state s.holds ∙ ap lengths_before (sym (prefix place there)))
        (tt {0})
    by_answer verdict.Whole (Whole marks) e h =
        made verdict.Whole (Whole marks) e refl (ap (λ t. kept.lengths_at t (length new.outer.items)) h.tip ∙ ap length h.outer) (tt {0})
    by_answer other another e h = absurd h

-- ---- some octets

abbrev pub SomeAt : Path → Verdict → Type 0
SomeAt path decided = ∥ ((octets : List ℕ) × (terms : List Term) × IsScanOf terms path decided path.size octets) ∥₁

pub some_path : (path : Path) (decided : Verdict) → SomeAt path decided → decided ≡ verdict.Open → IsReached path
some_path path decided r still = ∥∥₁_map r (λ (k : (octets : List ℕ) × (terms : List Term) × IsScanOf terms path decided path.size octets). (k.0, k.1, is_path_of path decided path.size k.0 k.2 still))

pub some_unchanged : (old new : Path) (decided : Verdict) → SomeAt old decided → IsUnchanged old new → new.size ≡ old.size → new.looked ≡ old.looked → SomeAt new decided
some_unchanged old new decided r same size looked =
    ∥∥₁_map r (λ (k : (octets : List ℕ) × (terms : List Term) × IsScanOf terms old decided old.size octets). (k.0, k.1, subst (λ n. IsScanOf k.1 new decided n k.0) (sym size) (unchanged_at old new decided old.size k.0 k.2 same size looked)))

pub some_at : {terms : List Term} (path : Path) (decided : Verdict) (n : ℕ) (octets : List ℕ) → IsScanOf terms path decided n octets → SomeAt path decided
some_at {terms = terms} path decided n octets at = ∣ (octets, terms, subst (λ k. IsScanOf terms path decided k octets) (sym at.size) at) ∣₁

-- octets that are scanned after others
pub some_on : (old new : Path) (before decided : Verdict) (more : List ℕ → List ℕ) → SomeAt old before → before ≡ verdict.Open →
    ((terms : List Term) (n : ℕ) (octets : List ℕ) → IsScanOf terms old verdict.Open n octets → IsScanOf terms new decided n (more octets)) → SomeAt new decided
some_on old new before decided more r still goes =
    ∥∥₁_map r (λ (k : (octets : List ℕ) × (terms : List Term) × IsScanOf terms old before old.size octets).
    let at : IsScanOf k.1 new decided old.size (more k.0) = goes k.1 old.size k.0 (subst (λ v. IsScanOf k.1 old v old.size k.0) still k.2) in
    (more k.0, k.1, subst (λ n. IsScanOf k.1 new decided n (more k.0)) (sym at.size) at))

-- ---- bounds

lengths_deep : (given : Answer) → OpenAtMost 14 given → lengths_before given ≤ 13
lengths_deep (Ongoing state) h = by_tip state.tip (length state.stack) h
  where
    by_tip : (given : Tip) (count : ℕ) → levels_at given count ≤ 14 → lengths_at given (count - 1) ≤ 13
    by_tip (scan.Between place) count k = omega (arith, k)
    by_tip (scan.InHead term from octets) count k = omega (arith, k)
    by_tip (scan.InLeaf term start size octets) count k = omega (arith, k)
lengths_deep other h = zero-le

open_few : (given : Answer) (before : ℕ → Answer) → OpenAtMost 14 given → ((place : ℕ) → OpenAtMost 14 (before place)) → lengths_from given before ≤ 13
open_few (Ongoing state) before h k = lengths_deep (Ongoing state) h
open_few (Refusing place reason) before h k = lengths_deep (before place) (k place)
open_few (Whole marks) before h k = zero-le

pub lengths_few : (path : Path) (decided : Verdict) → SomeAt path decided → open_lengths_of path ≤ 13
lengths_few path decided r = ∥∥₁_elim r le_prop (λ (k : (octets : List ℕ) × (terms : List Term) × IsScanOf terms path decided path.size octets).
    subst (λ count. count ≤ 13) (sym k.2.lengths) (open_few (scan.scan k.1 path.size k.0) (λ place. scan.scan k.1 path.size (take place k.0)) (scan_deep k.1 k.2.shallow path.size k.0) (λ place. scan_deep k.1 k.2.shallow path.size (take place k.0))))

-- ---- none of the octets

pub none_at : {terms : List Term} (path : Path) (n : ℕ) → greatest_depth terms ≤ 13 → 0 < n → n < 2 ^ 31 → path.size ≡ n → path.looked ≡ 0 → path.tip ≡ tip.Between → path.inner.end ≡ n → IsKnown path.inner.expected → expected_of path.inner.expected ≡ OneOf terms → path.outer.items ≡ [] → IsScanOf terms path verdict.Open n []
none_at {terms = terms} path n shallow some short size looked at_tip ends known expected outer = record {
  shallow = shallow;
  are_octets = tt {0};
  some = some;
  short = short;
  fits = omega arith;
  size = size;
  decides = refl;
  looked = looked;
  lengths = ap (λ t. kept.lengths_at t (length path.outer.items)) at_tip ∙ ap length outer ∙ ap (λ given. lengths_from given (λ place. scan.scan terms n (take place []))) (sym reads);
  keeps = subst (Keeps path) (sym reads) (
    record { containers = subst (λ items. AreContainers (path.inner ∷ reverse items) (container_of n (OneOf terms) ∷ [])) (sym outer) (record { end = ends; known = known; expected = expected }, tt {0}) },
    subst (λ t. TipIs path.looked t (scan.Between 0)) (sym at_tip) looked,
  );
}
  where
    reads : scan.scan terms n [] ≡ Ongoing (initial terms n)
    reads = run_scan terms n [] some
