use Rattle.std.proofs.Common.{◌≡◌, ℕ, ◌+◌, List, length, take, drop, sym, ap, ap₂, ◌∙◌, arith}
use Rattle.std.specs.Prelude.{min}
use Rattle.krb_flow.specs.Copies.{differing, differs_taken, differs_waiting, summary}
use Rattle.krb_flow.specs.Progress.{Progress}
use Rattle.krb_flow.specs.Waiting.{Waiting}
use Rattle.krb_flow.proofs.Nearby.{compared_in}
use Rattle.krb_flow.proofs.stream.Stream.compare.Goals as goal

pub returns-clause-differing : goal.returns-clause-differing
returns-clause-differing c =
    let kept = c.args.kept.now in
    let progress = c.args.self.now in
    let place = c.args.place in
    let octets = c.args.octets.now in
    let m = c.min.result in
    let m_is : m ≡ min (length octets) c.args.behind = omega (arith, c.min.ensures) in
    let copies = c.split_at.result.0.now in
    let early = c.split_at.result.1.now in
    let expected = ap (λ (p : Progress). p.expected) c.self.view_is in
    let waiting = ap (λ (p : Progress). p.waiting) c.self.view_is in
    let first = c.compare_taken-compared.ensures.differing ∙ ap₂ (λ (e : ℕ) (l : List ℕ). summary (differing (differs_taken kept e) place l)) expected c.split_at.ensures.front in
    let second =
    c.differing-waiting.ensures.differing
    ∙ ap (λ (w : Waiting). summary (differing (differs_waiting w) (place + length copies) early)) waiting
    ∙ ap₂ (λ (n : ℕ) (l : List ℕ). summary (differing (differs_waiting progress.waiting) (place + n) l)) c.split_at.ensures.front_len c.split_at.ensures.back in
    c.and.ensures.places (differing (differs_taken kept progress.expected) place (take m octets)) (differing (differs_waiting progress.waiting) (place + m) (drop m octets)) first second
    ∙ ap summary (sym (compared_in kept progress place c.args.behind m octets m_is c.requires.within c.requires.place))
