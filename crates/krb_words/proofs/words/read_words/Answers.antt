use Rattle.std.proofs.Common.{◌∙◌, List, IfErr, IfOk, ap, map, string_bytes, subst}
use Rattle.clap.specs.Words.{Text}
use Rattle.krb_words.specs.Words.{IsFaultFor, IsCommandLineFor}
use Rattle.krb_words.proofs.words.read_words.Goals as goal

pub returns-clause-command_line : goal.returns-clause-command_line
returns-clause-command_line c = subst (λ (l : List Text). IfOk c.read_texts.result (IsCommandLineFor l)) (ap (map string_bytes) c.as_slice.ensures.value ∙ c.in_ok-texts.ensures) c.read_texts.ensures.command_line

pub returns-clause-fault : goal.returns-clause-fault
returns-clause-fault c = subst (λ (l : List Text). IfErr c.read_texts.result (IsFaultFor l)) (ap (map string_bytes) c.as_slice.ensures.value ∙ c.in_ok-texts.ensures) c.read_texts.ensures.fault
