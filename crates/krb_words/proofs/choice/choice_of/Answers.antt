use Rattle.std.proofs.Common.{◌∙◌, codes, string_bytes}
use Rattle.std.proofs.lemmas.Result.{IfErr-weaker, IfOk-weaker}
use Rattle.std.specs.Option.{option_map}
use Rattle.clap.proofs.WalkLemmas.{first_value-rows}
use Rattle.clap.specs.Words.{found_of, rows_of}
use Rattle.krb_words.specs.Chosen.{IsChoiceFault, IsChosen}
use Rattle.krb_words.proofs.Said.{chooses_by, error_by, said_by}
use Rattle.krb_words.proofs.choice.choice_of.Goals as goal

pub returns-clause-chosen : goal.returns-clause-chosen
returns-clause-chosen c =
    let found = found_of c.args.found.now in
    IfOk-weaker c.chosen_of.result _ _
    (λ chosen fact. chooses_by c.args.command.now (rows_of found) c.args.form c.args.naming c.is_given.result c.listings_of.result.now
    (option_map (λ text. text.now) c.get_str.result) (option_map (λ text. text.now) c.get_str-2.result) (λ options. IsChosen options chosen.choice (option_map string_bytes chosen.header))
    c.is_given.ensures c.listings_of.ensures (c.get_str.ensures ∙ first_value-rows found (codes "only")) (c.get_str-2.ensures ∙ first_value-rows found (codes "fields")) fact)
    c.chosen_of.ensures.chosen

pub returns-clause-fault : goal.returns-clause-fault
returns-clause-fault c =
    let found = found_of c.args.found.now in
    IfErr-weaker c.chosen_of.result _ _
    (λ e. said_by e _ _ (error_by _ _ (λ text fact. chooses_by c.args.command.now (rows_of found) c.args.form c.args.naming c.is_given.result c.listings_of.result.now
    (option_map (λ text. text.now) c.get_str.result) (option_map (λ text. text.now) c.get_str-2.result) (λ options. IsChoiceFault options text)
    c.is_given.ensures c.listings_of.ensures (c.get_str.ensures ∙ first_value-rows found (codes "only")) (c.get_str-2.ensures ∙ first_value-rows found (codes "fields")) fact)))
    c.chosen_of.ensures.fault
