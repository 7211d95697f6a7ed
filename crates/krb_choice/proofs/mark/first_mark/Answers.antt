use Rattle.std.proofs.Common.{◌∙◌, arith, sym}
use Rattle.krb_choice.proofs.Marks.{goes_on, stops_here}
use Rattle.krb_choice.proofs.mark.first_mark.Goals as goal

pub returns-then-count-lt-MANY : goal.returns-then-count-lt-MANY
returns-then-count-lt-MANY c =
    omega (arith, c.pieces.invariant.same, stops_here c.args.text.now c.pieces.at c.count_text-count.result (omega arith) c.count_text-count.ensures c.if-count-lt-MANY.true)

pub pieces-preserved : goal.pieces-preserved
pieces-preserved c = record {
  within = omega arith;
  same = omega (arith, c.pieces.invariant.same, goes_on c.args.text.now c.pieces.at c.count_text-count.result (omega arith) c.count_text-count.ensures c.if-count-lt-MANY.false);
}
