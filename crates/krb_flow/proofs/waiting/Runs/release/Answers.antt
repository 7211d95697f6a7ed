use Rattle.std.proofs.Common.{◌≡◌, ℕ, ◌+◌, ◌-◌, List, [], ◌++◌, length, sym, ap, ◌∙◌, arith, append-nil}
use Rattle.krb_flow.specs.Waiting.{early, ready}
use Rattle.krb_flow.specs.inner.Runs.{waiting_in}
use Rattle.krb_flow.proofs.Runs.{GoesOut, first_fits, pops_out, released_more, goes_on_waiting}
use Rattle.krb_flow.proofs.waiting.Runs.release.Goals as goal
use Rattle.krb_flow.proofs.waiting.Runs.release.Goals.{After-pop_first, Then-end-count}

pub overflow_sub-end : goal.overflow_sub-end
overflow_sub-end c = omega (arith, c.len-count.ensures, c.in-Some.run'.now.ok.0, first_fits 0 c.loop-end.self-inside.runs.entries _ c.loop-end.invariant.apart c.in-Some.ensures.first)

-- the first run is at the place expected
goes : (c : After-pop_first) → GoesOut (c.args.expected + length c.loop-end.released.items) c.in-Some.run'.now c.loop-end.self-inside.runs.entries c.pop_first.new.self.entries
goes c =
    let expected = c.args.expected + length c.loop-end.released.items in
    let here : c.in-Some.field-0-0.now - length c.in-Some.run'.now.items ≡ expected = omega (arith, c.if-end-count.false, c.len-count.ensures, c.in-Some.run'.now.ok.0, c.len.ensures, c.loop-end.released.ok.0) in
    pops_out expected c.loop-end.self-inside.runs.entries c.pop_first.new.self.entries c.pop_first.result (c.in-Some.field-0-0.now, c.in-Some.run'.now) c.loop-end.invariant.apart c.in-Some.ensures.first c.pop_first.ensures.variant.1 c.pop_first.ensures.removal here

pub overflow_sub-self : goal.overflow_sub-self
overflow_sub-self c = omega (arith, (goes (goal.at.overflow_sub-self c).After-pop_first).count, c.loop-end.invariant.counted, c.len-count.ensures, c.in-Some.run'.now.ok.0)

pub loop-end-preserved : goal.loop-end-preserved
loop-end-preserved c =
    let out = goes (goal.at.loop-end-preserved c).After-pop_first in
    let more = released_more c.args.expected c.loop-end.released.items c.as_slice.result.now c.extend_from_slice.new.self.items c.loop-end.self-inside.runs.entries c.pop_first.new.self.entries c.in-Some.run'.now (sym c.as_slice.ensures.value) c.in_ok-extend_from_slice.ensures.items out in
    record {
      ready = more.0 ∙ c.loop-end.invariant.ready;
      early = more.1 ∙ c.loop-end.invariant.early;
      counted = omega (arith, out.count, c.loop-end.invariant.counted, c.len-count.ensures, c.in-Some.run'.now.ok.0);
      apart = out.apart;
    }

-- the first run is at a later place
stays : (c : Then-end-count) → let expected = c.args.expected + length c.loop-end.released.items in let left = waiting_in c.loop-end.self-inside.runs.entries in (ready expected left ≡ []) × (early expected left ≡ left)
stays c = goes_on_waiting (c.args.expected + length c.loop-end.released.items) 0 c.loop-end.self-inside.runs.entries (c.in-Some.field-0-0.now, c.in-Some.run'.now) c.loop-end.invariant.apart c.in-Some.ensures.first (λ same. c.if-end-count.true (omega (arith, c.len-count.ensures, c.in-Some.run'.now.ok.0, c.len.ensures, c.loop-end.released.ok.0)))

pub returns-then-end-count-clause-octets : goal.returns-then-end-count-clause-octets
returns-then-end-count-clause-octets c =
    sym (append-nil c.loop-end.released.items)
    ∙ ap (λ (octets : List ℕ). c.loop-end.released.items ++ octets) (sym (stays c).0)
    ∙ c.loop-end.invariant.ready

pub returns-then-end-count-clause-waiting : goal.returns-then-end-count-clause-waiting
returns-then-end-count-clause-waiting c = sym (stays c).1 ∙ c.loop-end.invariant.early
