use Rattle.std.proofs.Common.{◌≡◌, ℕ, ◌+◌, List, ◌∷◌, ◌++◌, length, sym, ap, subst, ◌∙◌, arith}
use Rattle.std.specs.List.{filter}
use Rattle.krb_flow.specs.inner.Runs.{AreApart, waiting_in}
use Rattle.krb_flow.proofs.Runs.{IsJoined, is_from, first_from, joined}
use Rattle.std.specs.Ordering.{nat_cmp}
use Rattle.std.specs.BTreeMap.{insert_entry}
use Rattle.krb_flow.proofs.waiting.insert_run.Goals as goal
use Rattle.krb_flow.proofs.waiting.insert_run.Goals.{In_ok-insert}

both : (c : In_ok-insert) → IsJoined 0 (insert_entry nat_cmp c.args.runs.now.entries c.args.end c.args.run) (insert_entry nat_cmp c.args.runs.now.entries c.in-Some.field-0-0.now c.extend_from_slice.new.self)
both c =
    let found : filter (is_from c.args.end) c.args.runs.now.entries ≡ (c.in-Some.field-0-0.now, c.in-Some.next.now) ∷ c.next.new.self = sym (c.range.ensures.between tt) ∙ c.in-Some.ensures.steps in
    let here : c.in-Some.field-0-0.now ≡ c.args.end + length c.in-Some.next.now.items = omega (arith, first_from c.args.end c.args.runs.now.entries c.next.new.self (c.in-Some.field-0-0.now, c.in-Some.next.now) found, c.if-next_end-end.true, c.len-count.ensures, c.in-Some.next.now.ok.0) in
    joined 0 c.args.end c.args.runs.now.entries c.next.new.self (c.in-Some.field-0-0.now, c.in-Some.next.now) c.args.run c.extend_from_slice.new.self found here
    (c.in_ok-extend_from_slice.ensures.items ∙ ap (λ (l : List ℕ). c.args.run.items ++ l) c.as_slice.ensures.value)
    c.requires

pub returns-then-next_end-end-clause-same : goal.returns-then-next_end-end-clause-same
returns-then-next_end-end-clause-same c = ap waiting_in c.in_ok-insert.ensures.entries ∙ (both (goal.at.returns-then-next_end-end-clause-same c).In_ok-insert).same

pub returns-then-next_end-end-clause-apart : goal.returns-then-next_end-end-clause-apart
returns-then-next_end-end-clause-apart c = subst (AreApart 0) (sym c.in_ok-insert.ensures.entries) (both (goal.at.returns-then-next_end-end-clause-apart c).In_ok-insert).apart
