use Rattle.std.proofs.Common.{◌∙◌, arith}
use Rattle.krb_judge.specs.declared.locating.Presence.TheVariants as presence
use Rattle.krb_judge.proofs.Descent.{field_presence, field_done, rest_shallow}
use Rattle.krb_judge.proofs.locating.field_at_fault.Goals as goal

pub returns-in-Missing-clause-path : goal.returns-in-Missing-clause-path
returns-in-Missing-clause-path c = λ names path.
    c.loop-index.invariant.2 names path
    ∙ field_presence c.args.slots.now c.loop-index.index _ c.loop-index.rest presence.Missing names path c.loop-index-test.true c.in-Missing.ensures.path

pub returns-in-Sequence-clause-path : goal.returns-in-Sequence-clause-path
returns-in-Sequence-clause-path c = λ names path.
    c.loop-index.invariant.2 names path
    ∙ field_presence c.args.slots.now c.loop-index.index _ c.loop-index.rest presence.Sequence names path c.loop-index-test.true c.in-Sequence.ensures.path

pub loop-index-preserved-in-Absent : goal.loop-index-preserved-in-Absent
loop-index-preserved-in-Absent c = (
  c.loop-index.invariant.0,
  omega (arith, c.loop-index.invariant.1, rest_shallow c.args.slots.now c.loop-index.index c.loop-index-test.true),
  λ names path.
      c.loop-index.invariant.2 names path
      ∙ field_presence c.args.slots.now c.loop-index.index _ c.loop-index.rest presence.Absent names path c.loop-index-test.true c.in-Absent.ensures.path,
)

pub loop-index-preserved : goal.loop-index-preserved
loop-index-preserved c = (
  c.in-Some.ensures.present,
  omega (arith, c.loop-index.invariant.1, rest_shallow c.args.slots.now c.loop-index.index c.loop-index-test.true),
  λ names path.
      c.loop-index.invariant.2 names path
      ∙ field_done c.args.slots.now c.loop-index.index _ c.loop-index.rest c.in-Some.after c.in-Item.node names path c.loop-index-test.true c.in-Item.ensures.path c.in-Some.ensures.first,
)
