use Rattle.std.proofs.Common.{◌≡◌}
use Rattle.krb_msg.specs.Term.{Term, Sequence}
use Rattle.krb_msg.specs.Nodes.{nodes, term_at}
use Rattle.krb_msg.specs.Table.{IsFormOf, fields_from}
use Rattle.krb_msg.specs.declared.grammar.Form.TheVariants as form
use Rattle.krb_scan.specs.Expectations.{fields_in}
use Rattle.krb_scan.proofs.Choices.{few_slots}
use Rattle.krb_scan.proofs.expected.fields_at.Goals as goal

same_fields : (slots : _) (term : Term) → IsFormOf nodes (form.Fields slots) term → fields_from nodes slots.now ≡ fields_in term
same_fields slots (Sequence fields) h = h.1
same_fields slots other h = absurd h

pub returns-in-Fields-clause-few : goal.returns-in-Fields-clause-few
returns-in-Fields-clause-few c = few_slots c.in-Fields.fields.now c.args.sequence (same_fields c.in-Fields.fields (term_at c.args.sequence) c.in-Fields.ensures)
