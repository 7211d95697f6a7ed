use Rattle.std.proofs.Common.{◌+◌, ◌||◌, ◌∙◌, Bool, ap, ap₂, drop, sym}
use Rattle.std.proofs.lemmas.List.{at_drop_all, at_drop_more}
use Rattle.clap.specs.Words.{App, Rule, app_of, with_rule}
use Rattle.krb_words.specs.declared.commands.Parameter.TheVariants as parameter
use Rattle.krb_words.specs.inner.Makes.{Makes}
use Rattle.krb_words.specs.inner.Parts.{with_rules}
use Rattle.krb_words.proofs.commands.with_parameters.Goals as goal

pub loop-parameter-preserved : goal.loop-parameter-preserved
loop-parameter-preserved c =
    let parameters = c.args.parameters.now in
    let index = c.loop-parameter.parameter-index in
    let added = c.in_ok-command.ensures in (
      c.loop-parameter.invariant.0
          ∙ at_drop_more (with_rules (app_of c.loop-parameter.command)) parameters index parameter.Now c.loop-parameter-test.true
          ∙ ap (λ (rule : Rule). with_rules (with_rule (app_of c.loop-parameter.command) rule) (drop (index + 1) parameters)) (sym c.arg.ensures.rule)
          ∙ ap (λ (app : App). with_rules app (drop (index + 1) parameters)) (sym (added.shape c.arg.ensures.local)),
      added.globals ∙ ap₂ (λ (old own : Bool). old || own) c.loop-parameter.invariant.1 c.arg.ensures.local,
    )

pub returns : goal.returns
unfolding Makes
returns c = (
  sym (c.loop-parameter.invariant.0 ∙ at_drop_all (with_rules (app_of c.loop-parameter.command)) c.args.parameters.now c.loop-parameter.parameter-index c.loop-parameter-test.false),
  c.loop-parameter.invariant.1,
)
