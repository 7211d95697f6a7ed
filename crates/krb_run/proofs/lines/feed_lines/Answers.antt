use Rattle.std.proofs.Common.{◌+◌, arith, length-take, subst, take}
use Rattle.std.proofs.lemmas.List.{take_rest}
use Rattle.std.proofs.lemmas.Result.{IfOk-weaker}
use Rattle.memchr.specs.Find.{IsFirstByte, is_byte}
use Rattle.krb_run.specs.LineReaders.{Adds, EndsLine, reader_kind}
use Rattle.krb_run.proofs.LineReaders.{fed-line, line_few, takes-fault, takes-long, takes-rest}
use Rattle.krb_run.proofs.Pieces.{IsFed-both, IsFed-start, TakesPiece-both, few_left, may_wait}
use Rattle.krb_run.proofs.SourceLineParts.{first_line, no_line}
use Rattle.krb_run.proofs.lines.feed_lines.Goals as goal

pub lines-init : goal.lines-init
lines-init g c = IsFed-start (reader_kind g.L.ReadLines.kind) c.args.lines.now c.args.piece.now (may_wait (reader_kind g.L.ReadLines.kind) c.requires.waits)

pub add-requires-clause-open : goal.add-requires-clause-open
add-requires-clause-open g c = c.lines.invariant.waits.0

pub add-requires-clause-few : goal.add-requires-clause-few
add-requires-clause-few g c =
    omega (arith, few_left (reader_kind g.L.ReadLines.kind) c.requires.waits c.requires.short c.lines.invariant, length-take c.in-Some.end c.lines.rest.now)

pub returns-then-not-branch-clause-taken : goal.returns-then-not-branch-clause-taken
returns-then-not-branch-clause-taken g c =
    let added = subst (Adds g.L.ReadLines.kind c.lines.lines (take c.in-Some.end c.lines.rest.now) c.add.new.self) c.if-not-branch.true c.in_ok-add.ensures.added in
    TakesPiece-both (reader_kind g.L.ReadLines.kind) c.lines.invariant
    (takes-long g.L.ReadLines.kind c.lines.lines c.add.new.self c.lines.rest.now c.in-Some.end (first_line c.lines.rest.now c.in-Some.end c.in-Some.ensures) added c.lines.invariant.waits)

pub end_line-requires-clause-open : goal.end_line-requires-clause-open
end_line-requires-clause-open g c =
    let added = subst (Adds g.L.ReadLines.kind c.lines.lines (take c.in-Some.end c.lines.rest.now) c.add.new.self) c.if-not-branch.false c.in_ok-add.ensures.added in
    (added.grows.goes_on c.lines.invariant.waits).0

pub end_line-requires-clause-few : goal.end_line-requires-clause-few
end_line-requires-clause-few g c =
    let added = subst (Adds g.L.ReadLines.kind c.lines.lines (take c.in-Some.end c.lines.rest.now) c.add.new.self) c.if-not-branch.false c.in_ok-add.ensures.added in
    line_few g.L.ReadLines.kind c.lines.lines c.add.new.self c.lines.rest.now c.in-Some.end (first_line c.lines.rest.now c.in-Some.end c.in-Some.ensures) added
    (few_left (reader_kind g.L.ReadLines.kind) c.requires.waits c.requires.short c.lines.invariant)

pub returns-then-not-branch-2-clause-taken : goal.returns-then-not-branch-2-clause-taken
returns-then-not-branch-2-clause-taken g c =
    let added = subst (Adds g.L.ReadLines.kind c.lines.lines (take c.in-Some.end c.lines.rest.now) c.add.new.self) c.if-not-branch.false c.in_ok-add.ensures.added in
    let ended = subst (EndsLine g.L.ReadLines.kind c.add.new.self c.end_line.new.self) c.if-not-branch-2.true c.in_ok-end_line.ensures.ended in
    TakesPiece-both (reader_kind g.L.ReadLines.kind) c.lines.invariant
    (takes-fault g.L.ReadLines.kind c.lines.lines c.add.new.self c.end_line.new.self c.lines.rest.now c.in-Some.end (first_line c.lines.rest.now c.in-Some.end c.in-Some.ensures) added ended)

pub lines-preserved : goal.lines-preserved
lines-preserved g c =
    let added = subst (Adds g.L.ReadLines.kind c.lines.lines (take c.in-Some.end c.lines.rest.now) c.add.new.self) c.if-not-branch.false c.in_ok-add.ensures.added in
    let ended = subst (EndsLine g.L.ReadLines.kind c.add.new.self c.end_line.new.self) c.if-not-branch-2.false c.in_ok-end_line.ensures.ended in
    rw (take_rest c.lines.rest.now (c.in-Some.end + 1))
    (IsFed-both (reader_kind g.L.ReadLines.kind) c.lines.invariant
    (fed-line g.L.ReadLines.kind c.lines.lines c.add.new.self c.end_line.new.self c.lines.rest.now c.in-Some.end (first_line c.lines.rest.now c.in-Some.end c.in-Some.ensures) added ended))

pub add-requires-2-clause-open : goal.add-requires-2-clause-open
add-requires-2-clause-open g c = c.lines.invariant.waits.0

pub add-requires-2-clause-few : goal.add-requires-2-clause-few
add-requires-2-clause-few g c = few_left (reader_kind g.L.ReadLines.kind) c.requires.waits c.requires.short c.lines.invariant

pub returns-clause-taken : goal.returns-clause-taken
returns-clause-taken g c =
    let alone = no_line c.lines.rest.now (subst (IsFirstByte (is_byte 10) c.lines.rest.now) c.in_default.is c.line_length.ensures) in
    IfOk-weaker c.add-2.result _ _
    (λ goes_on a. TakesPiece-both (reader_kind g.L.ReadLines.kind) c.lines.invariant (takes-rest g.L.ReadLines.kind c.lines.lines c.add-2.new.self c.lines.rest.now goes_on alone a c.lines.invariant.waits))
    c.add-2.ensures.added
