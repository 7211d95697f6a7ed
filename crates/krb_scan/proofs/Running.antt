-- Octets of an open string, scanned at once.
use Rattle.std.proofs.Common.{◌≡◌, ℕ, ℤ, ◌+◌, ◌-◌, ◌<◌, if◌then◌else◌, min, ◌≤◌, Bool, true, false, append-nil, List, [], ◌∷◌, ◌++◌, length, take, refl, sym, ap, ◌∙◌, subst, arith}
use Rattle.std.proofs.lemmas.List.{length-append, length-take}
use Rattle.std.proofs.Math.Logic.{∥∥₁_map}
use Rattle.krb_der.specs.declared.profile.Profile.{Profile}
use Rattle.krb_der.specs.Octets.{AreOctets}
use Rattle.krb_der.specs.inner.Numbers.{AreOctets-append}
use Rattle.krb_der.specs.declared.verdict.Verdict.{Verdict}
use Rattle.krb_der.specs.declared.verdict.Verdict.TheVariants as verdict
use Rattle.krb_msg.specs.Grammar.{messages}
use Rattle.krb_msg.specs.Judgement.{verdict_of}
use Rattle.krb_msg.specs.Term.{Term, Text, Octets}
use Rattle.krb_scan.specs.Scan as scan
use Rattle.krb_scan.specs.Scan.{Mark, Container, InLeaf, Answer, Ongoing, state_of}
use Rattle.krb_scan.specs.inner.Machine.{outcome_of}
use Rattle.krb_scan.specs.Runs.{is_string, left_at, left_of, string_left}
use Rattle.krb_msg.specs.Nodes.{term_at}
use Rattle.krb_scan.specs.State.{TipIs, KeepsOf}
use Rattle.krb_scan.specs.inner.Paths.{IsPathOf, IsReached}
use Rattle.krb_scan.specs.Scanned.{IsScanOf, Keeps, Marks, marks_from, lengths_from}
use Rattle.krb_scan.specs.declared.path.Path.{Path}
use Rattle.krb_scan.specs.declared.tip.Tip.TheVariants as tip
use Rattle.krb_scan.proofs.Chunk.{chunk_right}
use Rattle.krb_scan.proofs.Outcome.{scan_outcome}
use Rattle.krb_scan.proofs.Partial.{KeepsOctets, scan_octets}
use Rattle.krb_scan.proofs.ScannerSteps.{SomeAt, same_lengths, is_path_of}
use Rattle.krb_scan.proofs.Room.{open_short}
use Rattle.krb_scan.proofs.PathFacts.{LeafAt, leaf_at}

keeps_still : (term : Term) (value : ℤ) (unused : ℕ) (octets more : List ℕ) → is_string term ≡ true → KeepsOf term value unused octets → KeepsOf term value unused more
keeps_still (Text greatest) value unused octets more s h = h
keeps_still Octets value unused octets more s h = h
keeps_still other value unused octets more s h = absurd (cc s)

-- the path after a number of octets more
abbrev pub passed : Path → ℕ → Path
passed path count = record path { looked = path.looked + count }

pub run_goes : {terms : List Term} (path : Path) (octets : List ℕ) (node start end : ℕ) (value : ℤ) (unused count : ℕ) (given : List ℕ) → IsPathOf terms path octets → path.tip ≡ tip.Leaf node start end value unused → is_string (term_at node) ≡ true →
    count ≡ min (length given) (end - 1 - path.looked) → AreOctets (take count given) → IsPathOf terms (passed path count) (octets ++ take count given)
run_goes {terms = terms} path octets node start end value unused count given s e string is are =
    let leaf : LeafAt terms path octets node start end value unused = leaf_at s e in
    let chunk : List ℕ = take count given in
    let size : length (take count given) ≡ count = omega (arith, length-take count given) in
    let lt : length leaf.present < leaf.count = leaf.at.roomy.1 in
    let short : length leaf.present + length (take count given) < leaf.count = omega (arith, leaf.ends, leaf.looked) in
    record {
      shallow = s.shallow;
      are_octets = AreOctets-append octets (take count given) s.are_octets are;
      some = s.some;
      short = s.short;
      looked = omega (arith, s.looked, length-append octets (take count given));
      state = state_of leaf.at.marks leaf.at.stack (InLeaf (term_at node) start leaf.count (leaf.present ++ take count given));
      reads = chunk_right terms path.size octets (take count given) (term_at node) start leaf.count leaf.present leaf.at.stack leaf.at.marks s.some string (AreOctets-append leaf.present (take count given) leaf.at.are_octets are) short leaf.at.reads;
      holds = record {
        tip = subst (λ t. TipIs (path.looked + count) t (InLeaf (term_at node) start leaf.count (leaf.present ++ take count given))) (sym e)
            (leaf.known, refl, refl, leaf.ends, keeps_still (term_at node) value unused leaf.present (leaf.present ++ take count given) string leaf.keeps, omega (arith, leaf.looked, length-append leaf.present (take count given)));
        containers = leaf.at.containers;
      };
    }

-- a path that has scanned octets, with the verdict on them
pub path_at : {terms : List Term} (path : Path) (octets : List ℕ) → IsPathOf terms path octets → IsScanOf terms path verdict.Open path.size octets
path_at {terms = terms} path octets s =
    let short : length octets < path.size = open_short terms path.size octets s.state s.some s.reads in
    record {
      shallow = s.shallow;
      are_octets = s.are_octets;
      some = s.some;
      short = s.short;
      fits = omega arith;
      size = refl;
      decides = sym (ap verdict_of (scan_outcome terms path.size octets s.some (omega arith) ∙ ap (outcome_of path.size) s.reads));
      looked = s.looked;
      lengths = same_lengths path path.looked s.state s.holds ∙ ap (λ given. lengths_from given (λ place. scan.scan terms path.size (take place octets))) (sym s.reads);
      keeps = subst (Keeps path) (sym s.reads) (s.holds.containers, s.holds.tip);
    }

pub reached_on : (old new : Path) (more : List ℕ → List ℕ) → IsReached old → ((terms : List Term) (n : ℕ) (octets : List ℕ) → IsScanOf terms old verdict.Open n octets → IsScanOf terms new verdict.Open n (more octets)) → IsReached new
reached_on old new more r goes =
    ∥∥₁_map r (λ (k : (octets : List ℕ) × (terms : List Term) × IsPathOf terms old octets). (more k.0, k.1, is_path_of new verdict.Open old.size (more k.0) (goes k.1 old.size k.0 (path_at old k.0 k.2)) refl))

-- if something is decided, no string is open
pub none_left : {terms : List Term} (path : Path) (decided : Verdict) (n : ℕ) (octets : List ℕ) → IsScanOf terms path decided n octets → (decided ≡ verdict.Open → ⊥) → string_left terms n octets ≡ 0
none_left {terms = terms} path decided n octets at not = by_answer (scan.scan terms n octets) refl
  where
    by_answer : (given : Answer) → scan.scan terms n octets ≡ given → left_of (scan.scan terms n octets) ≡ 0
    by_answer (Ongoing state) e = absurd (not (at.decides ∙ ap verdict_of (scan_outcome terms n octets at.some at.fits ∙ ap (outcome_of n) e)))
    by_answer other e = ap left_of e

pub run_at : {terms : List Term} (old new : Path) (decided : Verdict) (n count : ℕ) (before given : List ℕ) → IsScanOf terms old decided n before → decided ≡ verdict.Open → new.size ≡ old.size → ((octets : List ℕ) → IsPathOf terms old octets → IsPathOf terms new (octets ++ take count given)) → IsScanOf terms new decided n (before ++ take count given)
run_at {terms = terms} old new decided n count before given at still size goes =
    subst (λ k. IsScanOf terms new decided k (before ++ take count given)) (size ∙ at.size)
    (subst (λ v. IsScanOf terms new v new.size (before ++ take count given)) (sym still) (path_at new (before ++ take count given) (goes before (is_path_of old decided n before at still))))

pub some_run : (old new : Path) (decided : Verdict) (count : ℕ) (given : List ℕ) → SomeAt old decided → decided ≡ verdict.Open → new.size ≡ old.size → ((terms : List Term) (octets : List ℕ) → IsPathOf terms old octets → IsPathOf terms new (octets ++ take count given)) → SomeAt new decided
some_run old new decided count given r still size goes =
    ∥∥₁_map r (λ (k : (octets : List ℕ) × (terms : List Term) × IsScanOf terms old decided old.size octets). (k.0 ++ take count given, k.1, subst (λ n. IsScanOf k.1 new decided n (k.0 ++ take count given)) (sym size) (run_at old new decided old.size count k.0 given k.2 still size (goes k.1))))

pub leaf_some : {terms : List Term} {path : Path} {octets : List ℕ} {node start end : ℕ} {value : ℤ} {unused : ℕ} → LeafAt terms path octets node start end value unused → path.looked < end
leaf_some leaf =
    let lt : length leaf.present < leaf.count = leaf.at.roomy.1 in
    omega (arith, leaf.looked, leaf.ends)

-- octets inside an open string change no mark
pub run_marks : (profile : Profile) (n : ℕ) (before chunk : List ℕ) → 0 < n → AreOctets before → AreOctets chunk → length chunk ≤ string_left (messages profile) n before → Marks profile n (before ++ chunk) ≡ Marks profile n before
run_marks profile n before [] some are more le = ap (Marks profile n) (append-nil before)
run_marks profile n before (first ∷ others) some are more le = by_answer (scan.scan (messages profile) n before) refl le
  where
    chunk : List ℕ
    chunk = first ∷ others

    by_string : (b : Bool) (term : Term) (start count : ℕ) (octets : List ℕ) (marks : List Mark) (stack : List Container) → is_string term ≡ b → scan.scan (messages profile) n before ≡ Ongoing (state_of marks stack (InLeaf term start count octets)) → length chunk ≤ (if b then count - 1 - length octets else 0) → Marks profile n (before ++ chunk) ≡ Marks profile n before
    by_string false term start count octets marks stack s e room = absurd (omega (arith, room))
    by_string true term start count octets marks stack s e room =
        let partial : KeepsOctets (Ongoing (state_of marks stack (InLeaf term start count octets))) = subst KeepsOctets e (scan_octets (messages profile) n before some are) in
        let next : scan.scan (messages profile) n (before ++ chunk) ≡ Ongoing (state_of marks stack (InLeaf term start count (octets ++ chunk))) = chunk_right (messages profile) n before chunk term start count octets stack marks some s (AreOctets-append octets chunk partial.keeps more) (omega (arith, room)) e in
        ap (λ given. marks_from given (λ place. scan.scan (messages profile) n (take place (before ++ chunk)))) next
        ∙ sym (ap (λ given. marks_from given (λ place. scan.scan (messages profile) n (take place before))) e)

    by_tip : (marks : List Mark) (stack : List Container) (given : scan.Tip) → scan.scan (messages profile) n before ≡ Ongoing (state_of marks stack given) → length chunk ≤ left_at given → Marks profile n (before ++ chunk) ≡ Marks profile n before
    by_tip marks stack (InLeaf term start count octets) e room = by_string (is_string term) term start count octets marks stack refl e room
    by_tip marks stack other e room = absurd (omega (arith, room))

    by_answer : (given : Answer) → scan.scan (messages profile) n before ≡ given → length chunk ≤ left_of given → Marks profile n (before ++ chunk) ≡ Marks profile n before
    by_answer (Ongoing state) e room = by_tip state.marks state.stack state.tip e room
    by_answer other e room = absurd (omega (arith, room))
