use Rattle.std.proofs.Common.{ap, map, string_bytes}
use Rattle.std.proofs.lemmas.Result.{IfErr-weaker, IfOk-weaker}
use Rattle.std.specs.Option.{option_map}
use Rattle.krb_words.specs.inner.Options.{options_of}
use Rattle.krb_words.proofs.Said.{chosen_kinds, chosen_names, error_by, fault_kinds, fault_names, said_by}
use Rattle.krb_words.proofs.choice.chosen_of.Goals as goal

pub returns-in-Some-clause-chosen : goal.returns-in-Some-clause-chosen
returns-in-Some-clause-chosen c =
    IfOk-weaker c.chosen_by_names.result _ _
    (λ chosen is. chosen_names (options_of c.args.options.now) (option_map (λ kinds. map (λ kind. kind.now) kinds.items) c.in_ok-kinds.kinds) c.in-Some.words.now chosen.choice (option_map string_bytes chosen.header)
    c.in_ok-kinds.ensures.kinds (ap (option_map (λ text. text.now)) c.in-Some.is) is)
    c.chosen_by_names.ensures.chosen

pub returns-in-Some-clause-fault : goal.returns-in-Some-clause-fault
returns-in-Some-clause-fault c =
    IfErr-weaker c.chosen_by_names.result _ _
    (λ e. said_by e _ _ (error_by _ _ (λ text is. fault_names (options_of c.args.options.now) (option_map (λ kinds. map (λ kind. kind.now) kinds.items) c.in_ok-kinds.kinds) c.in-Some.words.now text
    c.in_ok-kinds.ensures.kinds (ap (option_map (λ text. text.now)) c.in-Some.is) c.in_ok-kinds.ensures.known is)))
    c.chosen_by_names.ensures.fault

pub returns-in-None-clause-chosen : goal.returns-in-None-clause-chosen
returns-in-None-clause-chosen c =
    IfOk-weaker c.chosen_by_kinds.result _ _
    (λ chosen is. chosen_kinds (options_of c.args.options.now) (option_map (λ kinds. map (λ kind. kind.now) kinds.items) c.in_ok-kinds.kinds) chosen.choice (option_map string_bytes chosen.header)
    c.in_ok-kinds.ensures.kinds (ap (option_map (λ text. text.now)) c.in-None.is) is)
    c.chosen_by_kinds.ensures.chosen

pub returns-in-None-clause-fault : goal.returns-in-None-clause-fault
returns-in-None-clause-fault c =
    IfErr-weaker c.chosen_by_kinds.result _ _
    (λ e. said_by e _ _ (error_by _ _ (λ text is. fault_kinds (options_of c.args.options.now) (option_map (λ kinds. map (λ kind. kind.now) kinds.items) c.in_ok-kinds.kinds) text
    c.in_ok-kinds.ensures.kinds (ap (option_map (λ text. text.now)) c.in-None.is) c.in_ok-kinds.ensures.known is)))
    c.chosen_by_kinds.ensures.fault
