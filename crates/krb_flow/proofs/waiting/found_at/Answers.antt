use Rattle.std.proofs.Common.{◌-◌, sym, ◌∙◌, arith}
use Rattle.krb_flow.proofs.Founds.{differing_free, found_slice}
use Rattle.krb_flow.proofs.Runs.{IsFirstPast, first_past, none_past}
use Rattle.krb_flow.proofs.waiting.found_at.Goals as goal
use Rattle.krb_flow.proofs.waiting.found_at.Goals.{In-Some}

first : (c : In-Some) → IsFirstPast c.args.place c.args.runs.now.entries (c.in-Some.field-0-0.now, c.in-Some.run'.now)
first c = first_past c.args.place 0 c.args.runs.now.entries c.next.new.self (c.in-Some.field-0-0.now, c.in-Some.run'.now) c.requires.apart (sym (c.range.ensures.between tt) ∙ c.in-Some.ensures.steps)

pub overflow_sub-first : goal.overflow_sub-first
overflow_sub-first c = omega (arith, c.len.ensures, c.in-Some.run'.now.ok.0, (first (goal.at.overflow_sub-first c).In-Some).whole)

pub returns-then-first-place : goal.returns-then-first-place
returns-then-first-place c =
    let run = first (goal.at.returns-then-first-place c).In-Some in
    found_slice c.args.place 0 c.len.result c.args.runs.now.entries c.next.new.self (c.in-Some.field-0-0.now, c.in-Some.run'.now) c.deref.result.now c.requires.apart (sym (c.range.ensures.between tt) ∙ c.in-Some.ensures.steps) (omega (arith, c.len.ensures, c.in-Some.run'.now.ok.0)) c.deref.ensures.value c.if-first-place.true run.past run.whole

pub returns-else-first-place : goal.returns-else-first-place
returns-else-first-place c =
    let run = first (goal.at.returns-else-first-place c).In-Some in
    (omega (arith, c.if-first-place.false), λ octets few. differing_free c.args.place (c.in-Some.field-0-0.now - c.len.result - c.args.place) 0 c.args.runs.now.entries octets c.requires.apart (run.free (c.in-Some.field-0-0.now - c.len.result - c.args.place) (omega (arith, run.whole, c.if-first-place.false, c.len.ensures, c.in-Some.run'.now.ok.0))) few)

pub returns-in-None : goal.returns-in-None
returns-in-None c = (omega (arith, c.requires.fits), λ octets few. differing_free c.args.place _ 0 c.args.runs.now.entries octets c.requires.apart (none_past c.args.place _ c.args.runs.now.entries (sym (c.range.ensures.between tt) ∙ c.in-None.ensures.steps.0)) few)
