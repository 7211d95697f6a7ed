use Rattle.std.proofs.Common.{◌≡◌, ℕ, List, ◌++◌, arith, sym, subst}
use Rattle.std.specs.Prelude.{OnErr}
use Rattle.std.proofs.lemmas.Grind.{common_steps}
use Rattle.krb_choosing.specs.Listings.{chosen_of}
use Rattle.krb_choosing.specs.inner.Chooser.{Begins}
use Rattle.krb_choosing.proofs.choosing.Chooser.take_next.Goals as goal

pub returns-then-is_empty-clause-first : goal.returns-then-is_empty-clause-first
returns-then-is_empty-clause-first g c =
    let self = c.args.self.now in
    let e : self.begun.items ++ c.args.end.now ≡ c.args.end.now = grind (arith, common_steps) in
    subst (λ (t : List ℕ). OnErr c.take.result (Begins (g.W.Write.contents c.args.writer.now) (g.W.Write.contents c.take.new.writer) (self.out.items ++ chosen_of self.choice.now self.goes_on t))) (sym e) c.take.ensures.first
