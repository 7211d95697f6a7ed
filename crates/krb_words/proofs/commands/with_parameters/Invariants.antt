use Rattle.std.proofs.Common.{◌≡◌, drop, false}
use Rattle.clap.specs.Words.{app_of}
use Rattle.clap.specs.declared.builder.command.Command.TheViews.{out-Command}
use Rattle.krb_words.specs.inner.Parts.{with_rules}
use Rattle.krb_words.proofs.commands.with_parameters.Given as goal

-- the parameters that are left
abbrev pub invariant-loop-parameter : goal.invariant-loop-parameter
invariant-loop-parameter l =
    (with_rules (app_of l.initial.command) l.parameters ≡ with_rules (app_of l.command) (drop l.parameter-index l.parameters)) × ((out-Command l.command).has_globals ≡ false)
