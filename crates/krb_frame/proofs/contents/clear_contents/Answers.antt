use Rattle.std.proofs.Common.{◌∙◌, sym, arith}
use Rattle.std.proofs.lemmas.Bool.{false≢true}
use Rattle.krb_frame.proofs.contents.clear_contents.Goals as goal

pub returns-then-len-gt-CONTENTS_KEPT-clause-capacity : goal.returns-then-len-gt-CONTENTS_KEPT-clause-capacity
returns-then-len-gt-CONTENTS_KEPT-clause-capacity c = λ stays. absurd (false≢true (sym c.if-not-stays.true ∙ stays))

pub returns-else-not-stays-clause-capacity : goal.returns-else-not-stays-clause-capacity
returns-else-not-stays-clause-capacity c = λ _. omega (arith, c.clear.ensures.capacity)
