-- Items that are complete.
use Rattle.std.proofs.Common.{◌≡◌, ℕ, ◌+◌, List, [], ◌∷◌, ◌++◌, take, refl, sym, ap, subst}
use Rattle.krb_der.specs.declared.verdict.Verdict.{Verdict}
use Rattle.krb_der.specs.declared.verdict.Verdict.TheVariants as verdict
use Rattle.krb_msg.specs.Term.{Term}
use Rattle.krb_msg.specs.Judgement.{Outcome, Done}
use Rattle.krb_scan.specs.Scan as scan
use Rattle.krb_scan.specs.Scan.{Container, Mark as Marked, Answer, mark_of, leaf_value}
use Rattle.krb_scan.specs.State.{AreOpen}
use Rattle.krb_scan.specs.inner.Machine.{settle, leafed}
use Rattle.krb_scan.specs.inner.Outcomes.{LeafIs, LeafEnds, StaysOpen}
use Rattle.krb_scan.specs.inner.Paths.{IsStep}
use Rattle.krb_scan.specs.declared.leaf.Leaf.TheVariants as leaf
use Rattle.krb_scan.specs.declared.open.Open.{Open}
use Rattle.krb_scan.specs.declared.path.Path.{Path}
use Rattle.krb_scan.specs.declared.tip.Tip.TheVariants as tip

-- an item that leaves containers open
pub stays : (old new : Path) (inner : Open) (left : ℕ) (marks : List Marked) (given : Answer) → StaysOpen old.outer.items marks (old.looked + 1) inner left given →
    new ≡ record old { inner = inner; outer = record { items = take left old.outer.items }; tip = tip.Between } → IsStep old new verdict.Open given
stays old new inner left marks given is done =
    let items : new.outer.items ≡ take left old.outer.items = ap (λ path. path.outer.items) done in
    let inside : new.inner ≡ inner = ap (λ path. path.inner) done in
    let at_tip : new.tip ≡ tip.Between = ap (λ path. path.tip) done in
    subst (IsStep old new verdict.Open) (sym is.is) (record {
      steps = record {
        tip = rw at_tip refl;
        containers = subst (λ some. AreOpen new.inner some is.stack) (sym items) (subst (λ top. AreOpen top (take left old.outer.items) is.stack) (sym inside) is.containers);
      };
    })

-- one that completes the message
pub whole : (old new : Path) (marks : List Marked) (given : Answer) → given ≡ scan.Whole marks → new ≡ record old { outer = record { items = [] }; tip = tip.Between } → IsStep old new verdict.Whole given
whole old new marks given is done = subst (IsStep old new verdict.Whole) (sym is) (record { steps = record { tip = ap (λ path. path.tip) done; outer = ap (λ path. path.outer.items) done } })

-- ---- leaves
pub leaf_done : (old new : Path) (decided : Verdict) (stack : List Container) (marks : List Marked) (outcome : Outcome) (term : Term) (start size : ℕ) (octets : List ℕ) → LeafIs leaf.Done outcome → LeafEnds start size (old.looked + 1) outcome →
    ((all : List Marked) → IsStep old new decided (settle stack all (old.looked + 1))) → IsStep old new decided (leafed outcome term start size stack marks octets)
leaf_done old new decided stack marks (Done total) term start size octets is ends closes =
    let all : List Marked = marks ++ mark_of term start size (leaf_value term octets) ∷ [] in
    subst (IsStep old new decided) (sym (ap (settle stack all) ends)) (closes all)
leaf_done old new decided stack marks other term start size octets is ends closes = absurd is
