use Rattle.std.proofs.Common.{◌≡◌, ◌+◌, ◌-◌, ◌<◌, ◌≤◌, length, take, drop, sym, ap, ◌∙◌, arith, length-drop}
use Rattle.std.proofs.lemmas.Bool.Decides.{nat_tests}
use Rattle.std.proofs.lemmas.List.{take_rest}
use Rattle.krb_flow.specs.Copies.{old_of, summary}
use Rattle.krb_flow.proofs.Differences.{taken_differing, taken_none, unequal_taken}
use Rattle.krb_flow.proofs.copies.compare_taken.Goals as goal

pub returns-then-is_empty-clause-differing : goal.returns-then-is_empty-clause-differing
returns-then-is_empty-clause-differing c =
    let kept = c.args.kept.now in
    let octets = c.args.octets.now in
    let old = c.min-old.result in
    let old_is : old ≡ old_of kept c.args.expected c.args.place octets = omega (arith, c.min-old.ensures, c.saturating_sub.ensures, c.saturating_sub-first.ensures) in
    let none : length (take (length octets - old) (drop old octets)) ≡ 0 = grind (arith, nat_tests, c.is_empty.ensures, c.if-is_empty.true) in
    let left = rw (take_rest octets old) at none in
    c.none.ensures ∙ ap summary (sym (taken_none kept c.args.expected c.args.place old octets old_is (omega (arith, left, length-drop old octets))))

pub returns-clause-differing : goal.returns-clause-differing
returns-clause-differing c =
    let kept = c.args.kept.now in
    let octets = c.args.octets.now in
    let old = c.min-old.result in
    let first = length kept - (c.args.expected - (c.args.place + old)) in
    let old_is : old ≡ old_of kept c.args.expected c.args.place octets = omega (arith, c.min-old.ensures, c.saturating_sub.ensures, c.saturating_sub-first.ensures) in
    let some : 0 < length (take (length octets - old) (drop old octets)) = grind (arith, nat_tests, c.is_empty.ensures, c.if-is_empty.false) in
    let left = rw (take_rest octets old) at some in
    let compared = rw (take_rest octets old, take_rest kept first) at c.compare-differing.ensures.places in
    compared ∙ ap summary (unequal_taken (c.args.place + old) (drop old octets) (drop first kept) ∙ sym (taken_differing kept c.args.expected c.args.place old octets (c.requires.before (omega (arith, left, length-drop old octets))) old_is (omega (arith, left, length-drop old octets))))
