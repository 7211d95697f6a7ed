use Rattle.std.proofs.Common.{rules, ◌≡◌, ◌∙◌, ℕ, List, ◌++◌, ap, sym}
use Rattle.std.specs.Io.KnownBytes.{Appends}
use Rattle.std.specs.Option.{option_copied}
use Rattle.krb_choosing.specs.Writes.{AppendsFirst}
use Rattle.krbls.specs.Commands.{Does, DoesWith, ListsChosen, goes_on}
use Rattle.krbls.proofs.Chosen.{chosen-by, same-chosen, same-told}
use Rattle.krbls.proofs.lister.Lister.run_chosen.Goals as goal

pub returns : goal.returns
returns g c =
    let self = c.args.self.now in
    let held = g.W.Write.contents in
    let is-told = (g.H.Host.around self.host.now).IsEndTold c.args.source.now in
    let made = c.new-choosing in let run = c.run_into-outcome in let now = run.new.choosing in let choice = c.in-Some.choice.now in
    let on = goes_on c.args.command.now in
    let lists = Does is-told c.args.label.now self.time c.args.command.now (g.R.Read.remaining c.args.reader.now) (g.R.Read.remaining run.new.reader) in
    let listing = run.ensures.given.0 in
    let given : now.given.octets ≡ listing = run.ensures.given.1 ∙ ap (λ (l : List ℕ). l ++ listing) made.ensures.none in
    let same-choice = run.ensures.same_choice ∙ made.ensures.same_choice in
    let same-goes-on = run.ensures.same_goes_on ∙ made.ensures.same_goes_on ∙ c.goes_on.ensures in
    let same-before = run.ensures.same_before ∙ made.ensures.before in
    let written : held c.finish.result.now ≡ held now.writer.now = ap held c.finish.ensures.same in
    let name = c.finish.ensures.same_writer ∙ run.ensures.same_writer ∙ made.ensures.same_writer in
    let kept : ListsChosen choice on is-told lists (held c.args.writer.now) (held c.finish.result.now) c.unless_failed-outcome.result =
    chosen-by choice on (held c.args.writer.now) (held c.finish.result.now) listing is-told lists run.result c.unless_failed-outcome.result c.told.result.now c.fault.result
    run.ensures.given.2 c.unless_failed-outcome.ensures.none c.unless_failed-outcome.ensures.fault
    (λ none. same-chosen choice now.chooser.choice.now on now.chooser.goes_on now.given.octets listing same-choice same-goes-on given _ _ _ _ (λ b a t. Appends b a t) same-before written (c.fault.ensures.chosen none))
    (same-chosen choice now.chooser.choice.now on now.chooser.goes_on now.given.octets listing same-choice same-goes-on given _ _ _ _ (λ b a t. AppendsFirst b a t) same-before written c.fault.ensures.first)
    (λ none. c.told.ensures (sym c.fault.ensures.value ∙ none) ∙ same-told choice now.chooser.choice.now on now.chooser.goes_on now.given.octets listing same-choice same-goes-on given)
    c.tell_last.ensures in
    let chosen : DoesWith (option_copied self.choice) is-told c.args.label.now self.time c.args.command.now (g.R.Read.remaining c.args.reader.now) (g.R.Read.remaining run.new.reader) (held c.args.writer.now) (held c.finish.result.now) c.unless_failed-outcome.result =
    rw c.in-Some.is kept in
    search rules
