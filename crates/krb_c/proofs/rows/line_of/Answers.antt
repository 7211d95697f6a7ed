use Rattle.std.proofs.Common.{rules, ◌≡◌, ◌∙◌, ◌-◌, ℕ, List, length, take, drop, ap}
use Rattle.krb_c.proofs.rows.line_of.Goals as goal

pub returns : goal.returns
returns c =
    let all = c.args.error.now in
    let said = c.split_at.result.1.now in
    let is : said ≡ drop 7 all = c.split_at.ensures.back ∙ search rules in
    let count : c.saturating_sub.result ≡ length said - 37 = search rules in
    c.split_at-2.ensures.front ∙ ap (λ (n : ℕ). take n said) count ∙ ap (λ (l : List ℕ). take (length l - 37) l) is
