use Rattle.std.proofs.Common.{◌∙◌, ap, codes}
use Rattle.clap.specs.Words.{found_of}
use Rattle.clap.proofs.WalkLemmas.{first_value-rows}
use Rattle.krb_words.specs.Sources.{is_true}
use Rattle.krb_words.proofs.sources.is_unframed.Goals as goal

pub returns-in-Some : goal.returns-in-Some
returns-in-Some c = c.eq.ensures ∙ ap is_true (c.in-Some.ensures ∙ first_value-rows (found_of c.args.found.now) (codes "unframed"))

pub returns-in-None : goal.returns-in-None
returns-in-None c = ap is_true (c.in-None.ensures ∙ first_value-rows (found_of c.args.found.now) (codes "unframed"))
