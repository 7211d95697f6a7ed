use Rattle.std.proofs.Common.{ap, sym, subst, ◌∙◌, arith}
use Rattle.std.specs.Option.{option_and_then}
use Rattle.json.specs.Find.{as_object}
use Rattle.json.specs.Tree.{HasNumbers}
use Rattle.json.specs.Value.{value_view}
use Rattle.json.proofs.Trees.{view-Object}
use Rattle.krb_json.specs.Lines.{sole_member}
use Rattle.krb_json.proofs.ReadMessages.{not-sole, is-sole, sole-numbers}
use Rattle.krb_json.proofs.reading.sole_member.Goals as goal

pub returns-then-len-ne1-clause-sole : goal.returns-then-len-ne1-clause-sole
returns-then-len-ne1-clause-sole c =
    not-sole c.in-Object.members.items (λ one. c.if-len-ne1.true (omega (arith, one, c.len.ensures, c.in-Object.members.ok.0)))
    ∙ sym (ap (λ v. option_and_then sole_member (as_object (value_view v))) c.in-Object.is ∙ ap (λ j. option_and_then sole_member (as_object j)) (view-Object c.in-Object.members))

pub returns-clause-sole : goal.returns-clause-sole
returns-clause-sole c =
    is-sole c.in-Object.members.items c.index-member.result.now (omega (arith, c.len.ensures, c.in-Object.members.ok.0)) c.index-member.ensures
    ∙ sym (ap (λ v. option_and_then sole_member (as_object (value_view v))) c.in-Object.is ∙ ap (λ j. option_and_then sole_member (as_object j)) (view-Object c.in-Object.members))

pub returns-clause-numbers : goal.returns-clause-numbers
returns-clause-numbers c =
    sole-numbers c.in-Object.members.items c.index-member.result.now (omega (arith, c.len.ensures, c.in-Object.members.ok.0)) c.index-member.ensures
    (subst HasNumbers (view-Object c.in-Object.members) (subst (λ v. HasNumbers (value_view v)) c.in-Object.is c.requires))
