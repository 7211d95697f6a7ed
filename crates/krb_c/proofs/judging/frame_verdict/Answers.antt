use Rattle.std.proofs.Common.{sym, ◌∙◌, ap, arith, take}
use Rattle.krb_msg.specs.Judgement.{judgement}
use Rattle.krb_c.specs.inner.Frames.{after_length}
use Rattle.krb_c.proofs.Frames.{begins, first-short, first-high, first-long, first-empty, first-contents}
use Rattle.krb_c.proofs.judging.frame_verdict.Goals as goal

pub returns-in_default : goal.returns-in_default
returns-in_default c = sym (first-short c.args.profile c.args.limit c.args.stream.now c.in_default.ensures.cases)

pub returns-then-size-ge-HIGH_BIT : goal.returns-then-size-ge-HIGH_BIT
returns-then-size-ge-HIGH_BIT c =
    let b = begins c.args.stream.now c.in-Some.length.now c.in-Some.contents.now c.from_be_bytes-size.result c.in-Some.ensures.cases c.from_be_bytes-size.ensures in
    c.refused.ensures ∙ sym (first-high c.args.profile c.args.limit c.args.stream.now c.from_be_bytes-size.result b (omega arith))

pub returns-then-size-get : goal.returns-then-size-get
returns-then-size-get c =
    let b = begins c.args.stream.now c.in-Some.length.now c.in-Some.contents.now c.from_be_bytes-size.result c.in-Some.ensures.cases c.from_be_bytes-size.ensures in
    c.refused-then-size-get.ensures ∙ sym (first-long c.args.profile c.args.limit c.args.stream.now c.from_be_bytes-size.result b (omega arith) (omega (arith, c.get.ensures.value)))

pub returns-then-size-eq0 : goal.returns-then-size-eq0
returns-then-size-eq0 c =
    let b = begins c.args.stream.now c.in-Some.length.now c.in-Some.contents.now c.from_be_bytes-size.result c.in-Some.ensures.cases c.from_be_bytes-size.ensures in
    c.refused-then-size-eq0.ensures ∙ sym (first-empty c.args.profile c.args.limit c.args.stream.now c.from_be_bytes-size.result b c.if-size-eq0.true)

pub returns-else-size-eq0 : goal.returns-else-size-eq0
returns-else-size-eq0 c =
    let b = begins c.args.stream.now c.in-Some.length.now c.in-Some.contents.now c.from_be_bytes-size.result c.in-Some.ensures.cases c.from_be_bytes-size.ensures in
    let n = c.from_be_bytes-size.result in
    c.contents_verdict.ensures
    ∙ ap (λ contents. after_length (judgement c.args.profile n (take n contents))) c.in-Some.ensures.cases.1
    ∙ sym (first-contents c.args.profile c.args.limit c.args.stream.now n b (record { some = omega arith; short = omega arith; within = omega (arith, c.get.ensures.value) }))
