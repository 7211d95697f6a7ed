use Rattle.std.proofs.Common.{Option, subst}
use Rattle.std.specs.Str.Parse.{ParsesUnsigned, ExplainsUnsignedError, HasUnsignedDigitsIfOk}
use Rattle.clap.specs.Words.{Text, found_of, one_text}
use Rattle.clap.proofs.WalkLemmas.{one_text-rows}
use Rattle.krb_words.specs.Words.{IsNumber, IsNoNumber}
use Rattle.krb_words.proofs.Matched.{number_found}
use Rattle.krb_words.proofs.NotRead.{no_number_found, wrong}
use Rattle.krb_words.proofs.words.number_of.Goals as goal

pub returns-in-Ok-clause-number : goal.returns-in-Ok-clause-number
returns-in-Ok-clause-number c =
    let found = found_of c.args.found.now in
    subst (λ (text : Option Text). IsNumber text c.in-Ok.number) (one_text-rows found c.args.name.now)
    (number_found _ (λ bs r. ParsesUnsigned 32 10 bs r × ExplainsUnsignedError 10 bs r × HasUnsignedDigitsIfOk bs r) (one_text found c.args.name.now) c.in-Ok.number (λ t n g. g.0)
    (λ e. let same = c.in-Ok.ensures.none e in cc)
    (λ t e. c.in-Ok.ensures.value t e))

pub returns-in-Err-clause-fault : goal.returns-in-Err-clause-fault
returns-in-Err-clause-fault c =
    let found = found_of c.args.found.now in
    wrong c.not_read.result _ (subst (λ (text : Option Text). IsNoNumber 0 4294967295 text) (one_text-rows found c.args.name.now)
    (no_number_found _ (λ bs r. ParsesUnsigned 32 10 bs r × ExplainsUnsignedError 10 bs r × HasUnsignedDigitsIfOk bs r) (one_text found c.args.name.now) _ (λ t g n s. g.0 s.0)
    (λ e. let same = c.in-Err.ensures.none e in cc)
    (λ t e. c.in-Err.ensures.value t e)))
