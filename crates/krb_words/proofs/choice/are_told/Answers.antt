use Rattle.std.proofs.Common.{◌∙◌, sym}
use Rattle.std.proofs.lemmas.List.Folds.{list_all-map, list_all_at}
use Rattle.krb_words.specs.Chosen.{is_told}
use Rattle.krb_words.proofs.choice.are_told.Goals as goal

pub returns-then-not-is_told : goal.returns-then-not-is_told
returns-then-not-is_told c =
    sym (
    list_all-map is_told (λ kind. kind.now) c.args.kinds.now
    ∙ list_all_at (λ kind. is_told kind.now) c.args.kinds.now c.loop-kind.kind-index _ c.loop-kind-test.true (sym c.is_told.ensures ∙ c.if-not-is_told.true))
