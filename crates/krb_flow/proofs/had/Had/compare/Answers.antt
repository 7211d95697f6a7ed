use Rattle.std.proofs.Common.{◌≡◌, ℕ, ◌-◌, ◌<◌, ◌≤◌, List, [], ◌∷◌, length, take, sym, ap, ◌∙◌, arith}
use Rattle.std.specs.Prelude.{min}
use Rattle.std.proofs.lemmas.Bool.Decides.{nat_tests}
use Rattle.krb_flow.specs.Copies.{differing, differs_taken, summary}
use Rattle.krb_flow.proofs.Nearby.{compared_after, compared_at_fin}
use Rattle.krb_flow.proofs.had.Had.compare.Goals as goal

pub returns-then-is_empty-clause-differing : goal.returns-then-is_empty-clause-differing
returns-then-is_empty-clause-differing c =
    let kept = c.args.kept.now in
    let had = c.args.self in
    let octets = c.args.octets.now in
    let m = c.min.result in
    let m_is : m ≡ min (length octets) c.args.behind = omega (arith, c.min.ensures) in
    let none : length c.split_at.result.1.now ≡ 0 = grind (arith, nat_tests, c.is_empty.ensures, c.if-is_empty.true) in
    let all : length octets ≤ m = omega (arith, none, c.split_at.ensures.back_len) in
    c.compare_taken-compared.ensures.differing
    ∙ ap (λ (l : List ℕ). summary (differing (differs_taken kept had.expected) (had.expected - c.args.behind) l)) c.split_at.ensures.front
    ∙ ap summary (sym (compared_after kept had c.args.behind m octets m_is c.requires.after all))

pub returns-clause-differing : goal.returns-clause-differing
returns-clause-differing c =
    let kept = c.args.kept.now in
    let had = c.args.self in
    let octets = c.args.octets.now in
    let m = c.min.result in
    let m_is : m ≡ min (length octets) c.args.behind = omega (arith, c.min.ensures) in
    let some : 0 < length c.split_at.result.1.now = grind (arith, nat_tests, c.is_empty.ensures, c.if-is_empty.false) in
    let more : m < length octets = omega (arith, some, c.split_at.ensures.back_len) in
    let first = c.compare_taken-compared.ensures.differing ∙ ap (λ (l : List ℕ). summary (differing (differs_taken kept had.expected) (had.expected - c.args.behind) l)) c.split_at.ensures.front in
    c.and.ensures.places (differing (differs_taken kept had.expected) (had.expected - c.args.behind) (take m octets)) (had.expected ∷ []) first c.at-at_fin.ensures
    ∙ ap summary (sym (compared_at_fin kept had c.args.behind m octets m_is c.requires.after c.requires.near more))
