use Rattle.std.proofs.Common.{◌≡◌, List, ℕ, Some, None, ◌∙◌, subst}
use Rattle.clap.specs.Words.{found_of}
use Rattle.clap.proofs.WalkLemmas.{first_value-rows}
use Rattle.krb_words.specs.Words.{IsGiven}
use Rattle.krb_words.proofs.words.is_given.Goals as goal

no_text : (text : List ℕ) → None ≡ Some text → ⊥
no_text text e = cc

pub returns-in-None : goal.returns-in-None
returns-in-None c = λ e. no_text _ (c.in-None.ensures ∙ first_value-rows (found_of c.args.found.now) c.args.name.now ∙ e)

pub returns-in-Some : goal.returns-in-Some
returns-in-Some c =
    subst (λ text. IsGiven text c.is_true.result) (c.in-Some.ensures ∙ first_value-rows (found_of c.args.found.now) c.args.name.now) c.is_true.ensures
