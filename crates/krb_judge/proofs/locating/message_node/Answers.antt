use Rattle.std.proofs.Common.{get_or, sym, ap, ◌∙◌}
use Rattle.krb_msg.specs.Nodes.{term_at}
use Rattle.krb_msg.specs.Views.{kind_term_in}
use Rattle.krb_msg.specs.declared.grammar.table.TheConstants.{LENIENT, STRICT}
use Rattle.krb_judge.proofs.KindNodes.{lenient_node, strict_node}
use Rattle.krb_judge.proofs.locating.message_node.Goals as goal

pub returns-in-Lenient-clause-term : goal.returns-in-Lenient-clause-term
returns-in-Lenient-clause-term c = ap (λ index. term_at (get_or LENIENT index 0)) c.index_of.ensures ∙ lenient_node c.args.kind ∙ ap (λ profile. kind_term_in profile c.args.kind) (sym c.in-Lenient.is)

pub returns-in-Strict-clause-term : goal.returns-in-Strict-clause-term
returns-in-Strict-clause-term c = ap (λ index. term_at (get_or STRICT index 0)) c.index_of-in-Strict.ensures ∙ strict_node c.args.kind ∙ ap (λ profile. kind_term_in profile c.args.kind) (sym c.in-Strict.is)
