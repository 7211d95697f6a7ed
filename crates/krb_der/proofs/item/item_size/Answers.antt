use Rattle.std.proofs.Common.{arith}
use Rattle.krb_der.proofs.Sizes.{item_length-short, item_length-long, item_length-ge}
use Rattle.krb_der.proofs.item.item_size.Goals as goal

pub returns-then-contents-lt128 : goal.returns-then-contents-lt128
returns-then-contents-lt128 c = omega (arith, item_length-short c.args.contents (omega arith))

pub returns-then-contents-lt-TOO_LONG : goal.returns-then-contents-lt-TOO_LONG
returns-then-contents-lt-TOO_LONG c = omega (arith, item_length-long c.args.contents (omega arith), c.min.ensures)

pub returns-else-contents-lt-TOO_LONG : goal.returns-else-contents-lt-TOO_LONG
returns-else-contents-lt-TOO_LONG c = omega (arith, item_length-ge c.args.contents)
