use Rattle.std.proofs.Common.{◌≡◌, ℕ, ◌-◌, ◌≤◌, All, Some, length, sym, ap, subst, ◌∙◌, arith}
use Rattle.std.specs.Prelude.{slice_get}
use Rattle.std.specs.Map.{keys_of}
use Rattle.std.specs.Option.{option_map}
use Rattle.krb_flow.specs.Waiting.{Waiting}
use Rattle.krb_flow.specs.inner.Runs.{waiting_in}
use Rattle.krb_flow.proofs.Places.{all_from}
use Rattle.krb_flow.proofs.Runs.{first_fits, first_place_is, from_first}
use Rattle.krb_flow.proofs.waiting.Runs.first_place.Goals as goal

pub overflow_sub-result : goal.overflow_sub-result
overflow_sub-result c = omega (arith, c.len.ensures, c.in_ok-end.run'.now.ok.0, first_fits 0 c.self.inside.runs.entries _ c.self.invariant.0 c.in_ok-end.ensures.first)

pub returns-clause-first : goal.returns-clause-first
returns-clause-first c =
    let size : c.len.result ≡ length c.in_ok-end.run'.now.items = omega (arith, c.len.ensures, c.in_ok-end.run'.now.ok.0) in
    ap (λ (n : ℕ). Some (c.in_ok-end.end.now - n)) size
    ∙ sym (first_place_is 0 c.self.inside.runs.entries _ c.self.invariant.0 c.in_ok-end.ensures.first)
    ∙ ap (λ (w : Waiting). option_map (λ entry. entry.0) (slice_get w 0)) c.self.view_is

pub returns-clause-least : goal.returns-clause-least
returns-clause-least c =
    let size : c.len.result ≡ length c.in_ok-end.run'.now.items = omega (arith, c.len.ensures, c.in_ok-end.run'.now.ok.0) in
    let first = from_first 0 c.self.inside.runs.entries _ c.self.invariant.0 c.in_ok-end.ensures.first in
    subst (λ (w : Waiting). All (λ place. c.in_ok-end.end.now - c.len.result ≤ place) (keys_of w)) c.self.view_is
    (subst (λ (n : ℕ). All (λ place. c.in_ok-end.end.now - n ≤ place) (keys_of (waiting_in c.self.inside.runs.entries))) (sym size)
    (all_from _ (waiting_in c.self.inside.runs.entries) first))
