use Rattle.std.proofs.Common.{rules, ◌∙◌, ap}
use Rattle.std.proofs.lemmas.Result.{IfOk-weaker}
use Rattle.krb_der.specs.inner.Numbers.{AreOctets-slice}
use Rattle.krb_words.specs.Names.{named}
use Rattle.krb_words.proofs.Shown.{name_shown}
use Rattle.krb_words.proofs.names.shown.Goals as goal

pub returns-clause-text : goal.returns-clause-text
returns-clause-text c = search rules

pub returns-clause-back : goal.returns-clause-back
returns-clause-back c =
    IfOk-weaker c.format.result _ _ (λ text shown. ap named shown ∙ name_shown c.args.word.now (AreOctets-slice c.args.word.now c.type_inv.word)) (returns-clause-text c)
