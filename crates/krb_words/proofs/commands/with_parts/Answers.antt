use Rattle.std.proofs.Common.{◌+◌, ◌∙◌, List, ap, drop, map, sym}
use Rattle.std.proofs.lemmas.List.{at_drop_all, at_drop_more}
use Rattle.clap.specs.Words.{App, app_of}
use Rattle.krb_words.specs.declared.commands.Part.{Part}
use Rattle.krb_words.specs.inner.Parts.{app_for, with_apps}
use Rattle.krb_words.proofs.commands.with_parts.Goals as goal

pub loop-part-preserved : goal.loop-part-preserved
loop-part-preserved c =
    let parts = c.args.parts.now in
    let index = c.loop-part.part-index in
    c.loop-part.invariant
    ∙ at_drop_more (λ (left : List Part). with_apps (app_of c.loop-part.whole) (map app_for left)) parts index _ c.loop-part-test.true
    ∙ ap (λ (app : App). with_apps app (map app_for (drop (index + 1) parts))) (sym c.in_ok-whole.ensures)

pub returns : goal.returns
returns c =
    sym (c.loop-part.invariant ∙ at_drop_all (λ (left : List Part). with_apps (app_of c.loop-part.whole) (map app_for left)) c.args.parts.now c.loop-part.part-index c.loop-part-test.false)
