use Rattle.std.proofs.Common.{refl}
use Rattle.krb_msg.specs.Nodes.{nodes}
use Rattle.krb_msg.proofs.Table.{lenient_terms, strict_terms}
use Rattle.krb_msg.proofs.grammar.tables.Goals as goal

pub returns-clause-terms : goal.returns-clause-terms
unfolding nodes
returns-clause-terms c = refl

pub returns-clause-lenient : goal.returns-clause-lenient
returns-clause-lenient c = lenient_terms

pub returns-clause-strict : goal.returns-clause-strict
returns-clause-strict c = strict_terms
