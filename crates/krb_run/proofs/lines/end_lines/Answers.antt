use Rattle.std.proofs.Common.{subst}
use Rattle.krb_run.specs.LineReaders.{HasLine}
use Rattle.krb_run.proofs.LineReaders.{ends-line, ends-none, may_end}
use Rattle.krb_run.proofs.lines.end_lines.Goals as goal

pub returns-then-not-has_line-clause-ended : goal.returns-then-not-has_line-clause-ended
returns-then-not-has_line-clause-ended g c = ends-none g.L.ReadLines.kind c.args.lines.now (subst (HasLine g.L.ReadLines.kind c.args.lines.now) c.if-not-has_line.true c.has_line.ensures)

pub end_line-requires-clause-open : goal.end_line-requires-clause-open
end_line-requires-clause-open g c = (may_end g.L.ReadLines.kind c.args.lines.now (subst (HasLine g.L.ReadLines.kind c.args.lines.now) c.if-not-has_line.false c.has_line.ensures) c.requires).is_open

pub end_line-requires-clause-few : goal.end_line-requires-clause-few
end_line-requires-clause-few g c = (may_end g.L.ReadLines.kind c.args.lines.now (subst (HasLine g.L.ReadLines.kind c.args.lines.now) c.if-not-has_line.false c.has_line.ensures) c.requires).few

pub returns-clause-ended : goal.returns-clause-ended
returns-clause-ended g c = ends-line g.L.ReadLines.kind c.args.lines.now c.end_line.new.self _ (subst (HasLine g.L.ReadLines.kind c.args.lines.now) c.if-not-has_line.false c.has_line.ensures) c.in_ok-end_line.ensures.ended
