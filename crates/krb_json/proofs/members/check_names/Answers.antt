use Rattle.std.proofs.Common.{[], sym, ◌∙◌}
use Rattle.krb_json.specs.inner.Reading.{is_allowed}
use Rattle.krb_json.proofs.ReadLists.{name-not-allowed, name-before, name-checked}
use Rattle.krb_json.proofs.members.check_names.Goals as goal

pub returns-then-not-is_allowed : goal.returns-then-not-is_allowed
returns-then-not-is_allowed c =
    name-not-allowed (is_allowed c.args.allowed) c.args.members.now c.loop-index.index c.index-members-index.result c.loop-index-test.true c.index-members-index.is c.loop-index.invariant [] c.fault_of_member.result
    (sym c.is_allowed.ensures ∙ c.if-not-is_allowed.true) c.fault_of_member.ensures

pub returns-then-is_among : goal.returns-then-is_among
returns-then-is_among c =
    name-before (is_allowed c.args.allowed) c.args.members.now c.loop-index.index c.index-members-index.result c.loop-index-test.true c.index-members-index.is c.loop-index.invariant [] c.fault_of_member-then-is_among.result
    (sym c.is_allowed.ensures ∙ c.if-not-is_allowed.false) (sym c.is_among.ensures ∙ c.if-is_among.true) c.fault_of_member-then-is_among.ensures

pub loop-index-preserved : goal.loop-index-preserved
loop-index-preserved c =
    name-checked (is_allowed c.args.allowed) c.args.members.now c.loop-index.index c.index-members-index.result c.loop-index-test.true c.index-members-index.is c.loop-index.invariant
    (sym c.is_allowed.ensures ∙ c.if-not-is_allowed.false) (sym c.is_among.ensures ∙ c.if-is_among.false)
