-- Items that begin.
use Rattle.std.proofs.Common.{◌≡◌, ℕ, ◌+◌, ◌-◌, ◌≤◌, Bool, true, false, ◌&&◌, ◌==◌, nat_lt, ne_eqb, None, List, [], ◌∷◌, refl, sym, ap, ◌∙◌, subst, arith}
use Rattle.std.proofs.lemmas.Bool.{le-ltb}
use Rattle.krb_der.specs.Octets.{when}
use Rattle.krb_der.specs.declared.verdict.Verdict.{Verdict}
use Rattle.krb_der.specs.declared.verdict.Verdict.TheVariants as verdict
use Rattle.krb_der.specs.declared.why.Why.TheVariants as why
use Rattle.krb_msg.specs.Term.{Term}
use Rattle.krb_msg.specs.Judgement.{Head, Got}
use Rattle.krb_scan.specs.Scan as scan
use Rattle.krb_scan.specs.Scan.{Container, Mark as Marked, container_of, state_of, limit, sole_in}
use Rattle.krb_msg.specs.Nodes.{term_at}
use Rattle.krb_scan.specs.Expectations.{expected_of}
use Rattle.krb_scan.specs.State.{AreOpen}
use Rattle.krb_scan.specs.inner.Machine.{pick, picked, step_between, headed, sized}
use Rattle.krb_scan.specs.inner.Choices.{IsItem}
use Rattle.krb_scan.specs.inner.Outcomes.{HeadIs, HeadEnds}
use Rattle.krb_scan.specs.inner.Paths.{IsStep, IsUnchanged}
use Rattle.krb_scan.specs.declared.head.Head.TheVariants as found
use Rattle.krb_scan.specs.declared.path.Path.{Path}
use Rattle.krb_scan.specs.declared.expected.Picked.{Picked}
use Rattle.krb_scan.specs.declared.tip.Tip.TheVariants as tip
use Rattle.krb_scan.proofs.Containers.{Innermost, innermost, open_same}

-- no item is expected here
pub none_begins : (old new : Path) (octet : ℕ) (decided : Verdict) (stack : List Container) (marks : List Marked) → AreOpen old.inner old.outer.items stack → pick octet (expected_of old.inner.expected) ≡ None → decided ≡ verdict.Refused (record { place = old.looked; why = why.Tag }) → IsUnchanged old new →
    IsStep old new decided (step_between stack marks old.looked octet)
none_begins old new octet decided stack marks h none is kept =
    let i : Innermost old.inner old.outer.items stack = innermost old.inner old.outer.items stack h in
    subst (λ all. IsStep old new decided (step_between all marks old.looked octet)) (sym i.same)
    (subst (λ given. IsStep old new decided (picked given i.container.end i.others marks old.looked octet)) (sym none ∙ ap (pick octet) i.is.expected)
    (subst (λ v. IsStep old new v (scan.Refusing old.looked why.Tag)) (sym is) (record { steps = (refl, refl, kept) })))

-- an item begins
pub some_begins : (old new : Path) (octet : ℕ) (picked_is : Picked) (stack : List Container) (marks : List Marked) → AreOpen old.inner old.outer.items stack → IsItem picked_is (pick octet (expected_of old.inner.expected)) → (old.looked + 1 ≡ old.inner.end → ⊥) →
    new.tip ≡ tip.Tagged picked_is.node → new.inner ≡ record { end = old.inner.end; expected = picked_is.left } → new.outer.items ≡ old.outer.items → IsStep old new verdict.Open (step_between stack marks old.looked octet)
some_begins old new octet picked_is stack marks h p room at_tip at_inner at_outer =
    let i : Innermost old.inner old.outer.items stack = innermost old.inner old.outer.items stack h in
    let apart : i.container.end - old.looked ≡ 1 → ⊥ = λ one. room (omega (arith, one, i.is.end)) in
    let test : (i.container.end - old.looked == 1) ≡ false = ne_eqb (i.container.end - old.looked) 1 apart in
    let next : Container = container_of i.container.end (expected_of picked_is.left) in
    subst (λ all. IsStep old new verdict.Open (step_between all marks old.looked octet)) (sym i.same)
    (subst (λ given. IsStep old new verdict.Open (picked given i.container.end i.others marks old.looked octet)) (sym p.is ∙ ap (pick octet) i.is.expected)
    (subst (λ b. IsStep old new verdict.Open (when b (λ _. scan.Refusing old.looked why.Overrun) (λ _. scan.Ongoing (state_of marks (next ∷ i.others) (scan.InHead (term_at picked_is.node) old.looked (octet ∷ [])))))) (sym test)
    (record {
      steps = record {
        tip = rw at_tip (p.known, refl, refl);
        containers = subst (λ all. AreOpen new.inner all (next ∷ i.others)) (sym at_outer) (subst (λ top. AreOpen top old.outer.items (next ∷ i.others)) (sym at_inner)
            (open_same old.inner (record { end = old.inner.end; expected = picked_is.left }) old.outer.items stack next h (record { end = i.is.end; known = p.leads; expected = refl })));
      };
    })))

-- ---- length octets that are whole

-- the item fills its room if it must
not_loose : (sole : Bool) (from header count scanned limit : ℕ) → from + header ≡ scanned → scanned + count ≤ limit → (sole ≡ true → limit ≤ scanned + count) → (sole && nat_lt (header + count) (limit - from)) ≡ false
not_loose false from header count scanned limit e le full = refl
not_loose true from header count scanned limit e le full = let h : limit ≤ scanned + count = full refl in le-ltb (header + count) (limit - from) (omega arith)

pub headed_whole : (old new : Path) (result : Verdict) (size : ℕ) (term : Term) (stack : List Container) (marks : List Marked) (got : Head) (from : ℕ) (octets : List ℕ) → HeadIs (found.Got size) got → HeadEnds from (old.looked + 1) (limit stack) got → (sole_in stack ≡ true → limit stack ≤ old.looked + 1 + size) →
    IsStep old new result (sized term (old.looked + 1) size stack marks) → IsStep old new result (headed got term stack marks from octets)
headed_whole old new result size term stack marks (Got header count) from octets is ends full h =
    let same : size ≡ count = is in
    let at : from + header ≡ old.looked + 1 = ends.0 in
    let test : (sole_in stack && nat_lt (header + count) (limit stack - from)) ≡ false = not_loose (sole_in stack) from header count (old.looked + 1) (limit stack) at ends.1 (λ sole. let le : limit stack ≤ old.looked + 1 + size = full sole in omega arith) in
    subst (λ b. IsStep old new result (when b (λ _. scan.Refusing (from + header - 1) why.Loose) (λ _. sized term (from + header) count stack marks))) (sym test)
    (subst (λ start. IsStep old new result (sized term start count stack marks)) (sym at) (subst (λ n. IsStep old new result (sized term (old.looked + 1) n stack marks)) same h))
headed_whole old new result size term stack marks other from octets is ends full h = absurd is
