use Rattle.std.proofs.Common.{◌≡◌, true, false, length, sym, subst, ◌∙◌, arith}
use Rattle.krb_der.specs.Octets.{begins_with}
use Rattle.krb_msg.specs.Nodes.{term_at}
use Rattle.krb_judge.proofs.Descent.{element_next, element_here, no_element}
use Rattle.krb_judge.proofs.locating.element_at_fault.Goals as goal

pub returns-in-None-clause-path : goal.returns-in-None-clause-path
returns-in-None-clause-path c = λ path inside.
    let begin : begins_with _ c.loop-rest.rest.octets.now ≡ true = subst (λ tag. begins_with tag c.loop-rest.rest.octets.now ≡ true) c.tag_of-tag.ensures (sym c.begins.ensures ∙ c.loop-rest-test.true) in
    c.loop-rest.invariant.2 path inside
    ∙ element_here inside (term_at c.args.node) path (length c.args.contents.octets.now) c.loop-rest.index c.loop-rest.rest begin c.loop-rest.invariant.1 c.in-None.ensures.first

pub loop-rest-preserved : goal.loop-rest-preserved
loop-rest-preserved c = (
  c.in-Some.ensures.present,
  omega (arith, c.loop-rest.invariant.1, c.in-Some.ensures.shorter),
  λ path inside.
      let begin : begins_with _ c.loop-rest.rest.octets.now ≡ true = subst (λ tag. begins_with tag c.loop-rest.rest.octets.now ≡ true) c.tag_of-tag.ensures (sym c.begins.ensures ∙ c.loop-rest-test.true) in
      c.loop-rest.invariant.2 path inside
      ∙ element_next inside (term_at c.args.node) path (length c.args.contents.octets.now) c.loop-rest.index c.loop-rest.rest c.in-Some.next begin c.loop-rest.invariant.1 c.in-Some.ensures.first,
)

pub returns-clause-path : goal.returns-clause-path
returns-clause-path c = λ path inside.
    let none : begins_with _ c.loop-rest.rest.octets.now ≡ false = subst (λ tag. begins_with tag c.loop-rest.rest.octets.now ≡ false) c.tag_of-tag.ensures (sym c.begins.ensures ∙ c.loop-rest-test.false) in
    c.loop-rest.invariant.2 path inside ∙ no_element inside (term_at c.args.node) path _ c.loop-rest.index c.loop-rest.rest.room c.loop-rest.rest.octets.now none
