use Rattle.std.proofs.Common.{◌≡◌, ℕ, ◌-◌, List, ◌++◌, length, take, drop, ap, ap₂, ◌∙◌, arith}
use Rattle.std.proofs.lemmas.List.{take_rest}
use Rattle.krb_flow.specs.Window.{last}
use Rattle.krb_flow.proofs.Windows.{pushed, pushed_after}
use Rattle.krb_flow.proofs.window.Window.push.Goals as goal
use Rattle.krb_flow.proofs.window.Window.push.Goals.{After-saturating_add}

few : (c : After-saturating_add) → take (length c.args.octets.now - c.saturating_sub.result) (drop c.saturating_sub.result c.args.octets.now) ≡ last c.args.self.now.most c.args.octets.now
few c =
    let first : c.saturating_sub.result ≡ length c.args.octets.now - c.args.self.now.most = omega (arith, c.saturating_sub.ensures) in
    take_rest c.args.octets.now c.saturating_sub.result ∙ ap (λ (n : ℕ). drop n c.args.octets.now) first

pub returns-then-saturating_add-clause-octets : goal.returns-then-saturating_add-clause-octets
returns-then-saturating_add-clause-octets c =
    let most = c.args.self.now.most in
    let old = c.args.self.now.octets.items in
    ap₂ (λ (n : ℕ) (l : List ℕ). last n l) c.in_ok-trim.ensures.most (c.in_ok-extend_from_slice.ensures.items ∙ ap₂ (λ (x y : List ℕ). x ++ y) c.in_ok-trim.ensures.octets (few (goal.at.returns-then-saturating_add-clause-octets c).After-saturating_add))
    ∙ pushed_after most old c.args.octets.now

pub returns-clause-octets : goal.returns-clause-octets
returns-clause-octets c =
    let most = c.args.self.now.most in
    let old = c.args.self.now.octets.items in
    ap (last most) (c.in_ok-extend_from_slice-2.ensures.items ∙ ap (λ (l : List ℕ). old ++ l) (few (goal.at.returns-clause-octets c).After-saturating_add))
    ∙ pushed most old c.args.octets.now
