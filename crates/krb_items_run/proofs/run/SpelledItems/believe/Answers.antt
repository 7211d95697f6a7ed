use Rattle.std.proofs.Common.{ℕ, Option, sym, ◌∙◌, ap}
use Rattle.krb_items_run.specs.Items.{believed_text}
use Rattle.krb_items_run.proofs.Lengths.{believed-listed, believed-small}
use Rattle.krb_items_run.proofs.run.SpelledItems.believe.Goals as goal

pub returns-in_default : goal.returns-in_default
unfolding believed_text
returns-in_default c = ap (λ (size : Option ℕ). believed_text c.args.self.label.now c.args.self.profile c.args.lies c.args.octets.now c.args.text size) (sym c.in_default.is ∙ c.believed.ensures)

pub front_listable-found-requires-clause-short : goal.front_listable-found-requires-clause-short
front_listable-found-requires-clause-short c = believed-small c.args.lies c.args.octets.now c.args.refusal c.in-Some.size (sym c.in-Some.is ∙ c.believed.ensures)

pub returns : goal.returns
returns c =
    believed-listed c.args.self.label.now c.args.self.profile c.args.lies c.args.octets.now c.args.text _ c.in-Some.size c.min.result c.in_ok-reach.field-0 c.put_believed.new.text _
    (sym c.in-Some.is ∙ c.believed.ensures) c.min.ensures c.in_ok-put_believed.ensures c.front_listable-found.ensures c.in_ok-reach.ensures
