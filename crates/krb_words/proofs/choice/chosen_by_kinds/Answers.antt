use Rattle.std.proofs.Common.{◌≡◌, map}
use Rattle.std.specs.Option.{option_map}
use Rattle.krb_words.specs.Chosen.{error_text, no_names_text}
use Rattle.krb_words.specs.inner.Options.{options_of}
use Rattle.krb_words.proofs.Said.{no_names_said, said_by}
use Rattle.krb_words.proofs.choice.chosen_by_kinds.Goals as goal

pub returns-then-options-clause-fault : goal.returns-then-options-clause-fault
returns-then-options-clause-fault c =
    said_by c.fault_of.result (λ error. error ≡ error_text no_names_text) _
    (λ error is. (no_names_text, no_names_said (options_of c.args.options.now) (option_map (λ kinds. map (λ kind. kind.now) kinds.items) c.args.kinds) c.if-options.true, is))
    c.fault_of.ensures
