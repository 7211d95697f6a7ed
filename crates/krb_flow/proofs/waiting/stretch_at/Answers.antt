use Rattle.std.proofs.Common.{◌-◌, sym, ◌∙◌, arith}
use Rattle.krb_flow.proofs.Runs.{IsFirstPast, first_past, none_past}
use Rattle.krb_flow.proofs.waiting.stretch_at.Goals as goal
use Rattle.krb_flow.proofs.waiting.stretch_at.Goals.{In-Some}

first : (c : In-Some) → IsFirstPast c.args.place c.args.runs.now.entries (c.in-Some.field-0-0.now, c.in-Some.run'.now)
first c = first_past c.args.place 0 c.args.runs.now.entries c.next.new.self (c.in-Some.field-0-0.now, c.in-Some.run'.now) c.requires.apart (sym (c.range.ensures.between tt) ∙ c.in-Some.ensures.steps)

pub overflow_sub-first : goal.overflow_sub-first
overflow_sub-first c = omega (arith, c.len.ensures, c.in-Some.run'.now.ok.0, (first (goal.at.overflow_sub-first c).In-Some).whole)

pub returns-then-first-place : goal.returns-then-first-place
returns-then-first-place c =
    let run = first (goal.at.returns-then-first-place c).In-Some in
    (omega (arith, run.past), run.occupied (omega (arith, c.if-first-place.true, c.len.ensures, c.in-Some.run'.now.ok.0)))

pub returns-else-first-place : goal.returns-else-first-place
returns-else-first-place c =
    let run = first (goal.at.returns-else-first-place c).In-Some in
    (omega (arith, c.if-first-place.false), run.free (c.in-Some.field-0-0.now - c.len.result - c.args.place) (omega (arith, run.whole, c.if-first-place.false, c.len.ensures, c.in-Some.run'.now.ok.0)))

pub returns-in-None : goal.returns-in-None
returns-in-None c = (omega (arith, c.requires.fits), none_past c.args.place _ c.args.runs.now.entries (sym (c.range.ensures.between tt) ∙ c.in-None.ensures.steps.0))
