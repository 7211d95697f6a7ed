use Rattle.std.proofs.Common.{ℕ, List, ◌++◌, ap, ap₂, ◌∙◌}
use Rattle.krb_flow.specs.Window.{kept_in, last}
use Rattle.krb_flow.proofs.Windows.{last-twice}
use Rattle.krb_flow.proofs.direction.take_and_keep.Goals as goal

pub returns-clause-kept : goal.returns-clause-kept
returns-clause-kept c =
    let most = c.args.window.now.most in
    let kept = kept_in c.args.window.now in
    let octets = c.in_ok-octets.octets.now in
    c.in_ok-push-2.ensures.octets
    ∙ ap₂ (λ (n : ℕ) (l : List ℕ). last n (l ++ c.as_slice.result.now)) c.in_ok-push.ensures.most c.in_ok-push.ensures.octets
    ∙ last-twice most kept octets c.as_slice.result.now
    ∙ ap (λ (l : List ℕ). last most (kept ++ l)) (ap (λ (l : List ℕ). octets ++ l) c.as_slice.ensures.value ∙ c.in_ok-octets.ensures.octets)
