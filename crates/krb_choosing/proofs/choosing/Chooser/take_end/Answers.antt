use Rattle.std.proofs.Common.{ℕ, List, Vec, Global, ◌++◌, ◌∙◌, ap, subst}
use Rattle.std.specs.Prelude.{OnErr}
use Rattle.krb_choosing.specs.Listings.{chosen_of}
use Rattle.krb_choosing.specs.inner.Chooser.{Begins}
use Rattle.krb_choosing.proofs.choosing.Chooser.take_end.Goals as goal

pub returns-clause-first : goal.returns-clause-first
returns-clause-first g c =
    let self = c.args.self.now in
    subst (λ (t : List ℕ). OnErr c.take.result (Begins (g.W.Write.contents c.args.writer.now) (g.W.Write.contents c.take.new.writer) (self.out.items ++ chosen_of self.choice.now self.goes_on t)))
    (c.as_slice.ensures.value ∙ ap (λ (v : Vec ℕ Global). v.items) c.replace-text.ensures.value ∙ c.in_ok-extend_from_slice.ensures.items) c.take.ensures.first
