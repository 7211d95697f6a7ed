use Rattle.std.proofs.Common.{Option, Some, None, ◌∙◌, refl, subst, codes}
use Rattle.clap.specs.Words.{Text, found_of}
use Rattle.clap.proofs.WalkLemmas.{first_value-rows}
use Rattle.krb_words.specs.Times.{IsNoWhen, IsWhenIf}
use Rattle.krb_words.proofs.NotRead.{wrong}
use Rattle.krb_words.proofs.words.when_of.Goals as goal

pub returns-in-None-clause-when : goal.returns-in-None-clause-when
returns-in-None-clause-when c =
    subst (λ (text : Option Text). IsWhenIf text None) (c.in-None.ensures ∙ first_value-rows (found_of c.args.found.now) (codes "now")) refl

pub returns-in-Some-read_when-clause-when : goal.returns-in-Some-read_when-clause-when
returns-in-Some-read_when-clause-when c =
    subst (λ (text : Option Text). IsWhenIf text (Some c.in-Some-read_when.when)) (c.in-Some.ensures ∙ first_value-rows (found_of c.args.found.now) (codes "now")) c.in-Some-read_when.ensures

pub returns-in-None-read_when-clause-fault : goal.returns-in-None-read_when-clause-fault
returns-in-None-read_when-clause-fault c =
    wrong c.no_time.result _
    (subst (λ (text : Option Text). IsNoWhen text) (c.in-Some.ensures ∙ first_value-rows (found_of c.args.found.now) (codes "now")) c.in-None-read_when.ensures)
