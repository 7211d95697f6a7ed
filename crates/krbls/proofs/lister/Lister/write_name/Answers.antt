use Rattle.std.proofs.Common.{rules, ◌≡◌, ◌∙◌, ℕ, List, ◌++◌, Some, false, ap, sym}
use Rattle.std.specs.Io.KnownBytes.{Appends}
use Rattle.krb_choice.specs.Wanted.{choice_form}
use Rattle.krb_choosing.proofs.Writes.{map-ok}
use Rattle.krb_choosing.specs.Writes.{AppendsFirst}
use Rattle.krb_record.specs.Files.{file_line}
use Rattle.krbls.specs.Program.{NamesSource, name_chosen, name_of}
use Rattle.krbls.proofs.Chosen.{named-by, same-chosen}
use Rattle.krbls.proofs.lister.Lister.write_name.Goals as goal

pub returns : goal.returns
returns g c =
    let held = g.W.Write.contents in
    let made = c.new-choosing in let wrote = c.write_into-outcome in let now = wrote.new.choosing in let choice = c.in-Some.choice.now in
    let part = wrote.ensures.prefix.0 in
    let given : now.given.octets ≡ part = wrote.ensures.prefix.2 ∙ ap (λ (l : List ℕ). l ++ part) made.ensures.none in
    let line : c.octets.result.now ≡ file_line (choice_form choice) (name_of c.args.source.now) = search rules in
    let same-choice = wrote.ensures.same_choice ∙ made.ensures.same_choice in
    let same-goes-on = wrote.ensures.same_goes_on ∙ made.ensures.same_goes_on in
    let same-before = wrote.ensures.same_before ∙ made.ensures.before in
    let written : held c.finish.result.now ≡ held now.writer.now = ap held c.finish.ensures.same in
    let name = c.finish.ensures.same_writer ∙ wrote.ensures.same_writer ∙ made.ensures.same_writer in
    let chosen : NamesSource (Some (name_chosen choice c.args.source.now)) (held c.args.writer.now) (held c.finish.result.now) c.unless_failed-outcome.result =
    named-by choice (held c.args.writer.now) (held c.finish.result.now) (file_line (choice_form choice) (name_of c.args.source.now)) part wrote.ensures.prefix.1 (sym line ∙ wrote.ensures.prefix.3) wrote.result c.unless_failed-outcome.result c.fault.result
    (map-ok wrote.result (λ e. sym given ∙ e ∙ ap (λ (l : List ℕ). l ++ c.octets.result.now) made.ensures.none ∙ line) wrote.ensures.all) wrote.ensures.fault c.unless_failed-outcome.ensures.none c.unless_failed-outcome.ensures.fault
    (λ none. same-chosen choice now.chooser.choice.now false now.chooser.goes_on now.given.octets part same-choice same-goes-on given _ _ _ _ (λ b a t. Appends b a t) same-before written (c.fault.ensures.chosen none))
    (same-chosen choice now.chooser.choice.now false now.chooser.goes_on now.given.octets part same-choice same-goes-on given _ _ _ _ (λ b a t. AppendsFirst b a t) same-before written c.fault.ensures.first) in
    search rules
