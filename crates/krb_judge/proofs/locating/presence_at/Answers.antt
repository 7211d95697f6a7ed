use Rattle.std.proofs.Common.{◌≡◌, true, false, refl, sym, subst, ◌∙◌}
use Rattle.krb_der.specs.Octets.{begins_with}
use Rattle.krb_judge.proofs.Descent.{required_begins, required_else, optional_begins, optional_else}
use Rattle.krb_judge.proofs.locating.presence_at.Goals as goal

pub returns-then-rest-eq0-clause-path : goal.returns-then-rest-eq0-clause-path
returns-then-rest-eq0-clause-path c = λ fields names path index. rw (c.in-Required.is, c.if-rest-eq0.true) refl

pub returns-then-begins-clause-path : goal.returns-then-begins-clause-path
returns-then-begins-clause-path c = λ fields names path index.
    rw c.in-Required.is
    (required_begins c.in-Required.node c.args.rest fields names path index c.if-rest-eq0.false (subst (λ tag. begins_with tag c.args.rest.octets.now ≡ true) c.tag_of.ensures (sym c.begins.ensures ∙ c.if-begins.true)))

pub returns-else-begins-clause-path : goal.returns-else-begins-clause-path
returns-else-begins-clause-path c = λ fields names path index.
    rw c.in-Required.is
    (required_else c.in-Required.node c.args.rest fields names path index c.if-rest-eq0.false (subst (λ tag. begins_with tag c.args.rest.octets.now ≡ false) c.tag_of.ensures (sym c.begins.ensures ∙ c.if-begins.false)))

pub returns-then-begins-2-clause-path : goal.returns-then-begins-2-clause-path
returns-then-begins-2-clause-path c = λ fields names path index.
    rw c.in-Optional.is
    (optional_begins c.in-Optional.node c.args.rest fields names path index (subst (λ tag. begins_with tag c.args.rest.octets.now ≡ true) c.tag_of-in-Optional.ensures (sym c.begins-in-Optional.ensures ∙ c.if-begins-2.true)))

pub returns-else-begins-2-clause-path : goal.returns-else-begins-2-clause-path
returns-else-begins-2-clause-path c = λ fields names path index.
    rw c.in-Optional.is
    (optional_else c.in-Optional.node c.args.rest fields names path index (subst (λ tag. begins_with tag c.args.rest.octets.now ≡ false) c.tag_of-in-Optional.ensures (sym c.begins-in-Optional.ensures ∙ c.if-begins-2.false)))
