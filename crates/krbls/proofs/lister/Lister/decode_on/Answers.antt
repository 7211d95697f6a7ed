use Rattle.std.proofs.Common.{rules, ◌≡◌, ◌∙◌, ℕ, List, ◌++◌, All, ap, subst}
use Rattle.krb_decode.specs.Sorted.{told_lines}
use Rattle.krbls.specs.Program.{DecodesOn, DecodesSorted}
use Rattle.krbls.proofs.Sorted.{sorted-by}
use Rattle.krbls.proofs.lister.Lister.decode_on.Goals as goal

pub returns : goal.returns
returns g c =
    let self = c.args.self.now in let held = g.W.Write.contents in
    let is-told = (g.H.Host.around self.host.now).IsEndTold c.args.source.now in
    let made = c.new-sorting in let run = c.stream_into-outcome in let now = run.new.sorting in
    let text = run.ensures.given.0 in
    let given : now.given.octets ≡ text = run.ensures.given.1 ∙ ap (λ (l : List ℕ). l ++ text) made.ensures.none in
    let same-before = run.ensures.same_before ∙ made.ensures.before in
    let same-teller = run.ensures.same_teller ∙ made.ensures.same_teller in
    let name = c.finish.ensures.same_writer ∙ run.ensures.same_writer ∙ made.ensures.same_writer in
    let told : ∥ All is-told (told_lines now.given.octets) ∥₁ = subst (λ t. ∥ All ((g.H.Host.around t.host.now).IsEndTold t.source.now) (told_lines now.given.octets) ∥₁) same-teller c.finish.ensures.told in
    let sorted : DecodesSorted is-told (DecodesOn c.args.decoding (g.R.Read.remaining c.args.reader.now) (g.R.Read.remaining run.new.reader)) (held c.args.writer.now) (held c.finish.result.now) c.sorted_outcome-outcome.result =
    sorted-by is-told (DecodesOn c.args.decoding (g.R.Read.remaining c.args.reader.now) (g.R.Read.remaining run.new.reader)) (held c.args.writer.now) (held now.before.value) (held c.finish.result.now) text now.given.octets run.result c.sorted_outcome-outcome.result c.has_told.result
    given same-before run.ensures.given.2 c.finish.ensures.written told c.has_told.ensures c.sorted_outcome-outcome.ensures in
    search rules
