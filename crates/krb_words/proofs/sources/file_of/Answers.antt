use Rattle.std.proofs.Common.{◌∙◌, ap, codes, map}
use Rattle.std.proofs.lemmas.Result.{IfOk-weaker}
use Rattle.clap.specs.Words.{found_of}
use Rattle.clap.proofs.WalkLemmas.{first_value-rows}
use Rattle.krb_words.specs.Sources.{place_of, file_place}
use Rattle.krb_words.proofs.sources.file_of.Goals as goal

pub returns-in-Some : goal.returns-in-Some
returns-in-Some c =
    IfOk-weaker c.one_file.result _ _
    (λ sources e. e ∙ ap (file_place c.args.command.now) (c.in-Some.ensures ∙ first_value-rows (found_of c.args.found.now) (codes "file")))
    c.one_file.ensures

pub returns-in-None : goal.returns-in-None
returns-in-None c =
    ap (map place_of) c.new.ensures.items ∙ ap (file_place c.args.command.now) (c.in-None.ensures ∙ first_value-rows (found_of c.args.found.now) (codes "file"))
