use Rattle.std.proofs.Common.{refl, ◌*◌, pos, negsuc, ◌≤ℤ◌, ◌<ℤ◌, ◌+◌, ◌-◌, ◌∙◌, ap, sym, subst, arith, rules, FitsSigned, w64}
use Rattle.std.proofs.Props.{props}
use Rattle.std.proofs.lemmas.Int.{to_z-of_z}
use Rattle.krb_msg.specs.Nodes.{term_at}
use Rattle.krb_scan.specs.inner.Paths.{IsLengthOf, number_with}
use Rattle.krb_scan.proofs.PathFacts.{between_at, tagged_at, long_at, leaf_at, leaf_ready, small_fits}
use Rattle.krb_scan.proofs.PathSteps.{long_ready, if_tagged, if_long, if_leaf}
use Rattle.krb_scan.proofs.Events.{between_changes, tagged_none, tagged_changes, long_none, long_changes, leaf_none, leaf_changes}
use Rattle.krb_scan.proofs.path.Path.event.Goals as goal

pub length-requires-clause-known : goal.length-requires-clause-known
length-requires-clause-known c = if_tagged (hlevel props) c.requires c.in-Tagged.is (λ terms octets t. t.known)

pub length-requires-clause-short : goal.length-requires-clause-short
length-requires-clause-short c = if_tagged (hlevel props) c.requires c.in-Tagged.is (λ terms octets t. t.at.near)

pub length-requires-else-seen-digits-clause-known : goal.length-requires-else-seen-digits-clause-known
length-requires-else-seen-digits-clause-known c = if_long (hlevel props) c.requires c.in-Long.is (λ terms octets t. t.known)

pub length-requires-else-seen-digits-clause-short : goal.length-requires-else-seen-digits-clause-short
length-requires-else-seen-digits-clause-short c = if_long (hlevel props) c.requires c.in-Long.is (λ terms octets t. t.at.near)

pub overflow_add-seen : goal.overflow_add-seen
overflow_add-seen c = if_long (hlevel props) c.requires c.in-Long.is (λ terms octets t. omega (arith, (long_ready t).narrow, (long_ready t).some))

pub overflow_mul-value : goal.overflow_mul-value
overflow_mul-value c = if_long (hlevel props) c.requires c.in-Long.is (λ terms octets t. omega (arith, (long_ready t).spelled))

pub overflow_add-value : goal.overflow_add-value
overflow_add-value c = if_long (hlevel props) c.requires c.in-Long.is (λ terms octets t. omega (arith, (long_ready t).spelled, c.from-else-seen-digits.ensures))

pub form_of-form-requires : goal.form_of-form-requires
form_of-form-requires c = if_leaf (hlevel props) c.requires c.in-Leaf.is (λ terms octets leaf. leaf.known)

pub overflow_add-self : goal.overflow_add-self
overflow_add-self c = if_leaf (hlevel props) c.requires c.in-Leaf.is (λ terms octets leaf. omega (arith, leaf.at.near))

pub overflow_sub-self : goal.overflow_sub-self
overflow_sub-self c = if_leaf (hlevel props) c.requires c.in-Leaf.is (λ terms octets leaf. (leaf_ready _ c.form_of-form.ensures leaf).begun)

pub number_of-requires-clause-above : goal.number_of-requires-clause-above
number_of-requires-clause-above c = if_leaf (hlevel props) c.requires c.in-Leaf.is (λ terms octets leaf. subst (λ v. negsuc 549755813887 ≤ℤ v) (sym (to_z-of_z w64 c.in-Leaf.value (small_fits (leaf_ready _ c.form_of-form.ensures leaf).small))) (leaf_ready _ c.form_of-form.ensures leaf).small.0)

pub number_of-requires-clause-below : goal.number_of-requires-clause-below
number_of-requires-clause-below c = if_leaf (hlevel props) c.requires c.in-Leaf.is (λ terms octets leaf. subst (λ v. v <ℤ pos 549755813888) (sym (to_z-of_z w64 c.in-Leaf.value (small_fits (leaf_ready _ c.form_of-form.ensures leaf).small))) (leaf_ready _ c.form_of-form.ensures leaf).small.1)

pub returns-in-Between : goal.returns-in-Between
returns-in-Between c = λ terms octets s. between_changes c.args.octet (between_at s c.in-Between.is)

pub returns-then-octet-lt128 : goal.returns-then-octet-lt128
returns-then-octet-lt128 c = λ terms octets s.
    tagged_changes c.args.octet c.length.result (tagged_at s c.in-Tagged.is) (omega arith) (subst (IsLengthOf c.length.result (term_at c.in-Tagged.node) (c.args.self.now.looked + 1)) c.from.ensures c.length.ensures)

pub returns-else-octet-lt128 : goal.returns-else-octet-lt128
returns-else-octet-lt128 c = λ terms octets s. tagged_none c.args.octet (tagged_at s c.in-Tagged.is) (omega arith)

pub returns-then-seen-digits : goal.returns-then-seen-digits
returns-then-seen-digits c = λ terms octets s. long_none c.args.octet (long_at s c.in-Long.is) (omega arith)

pub returns-else-seen-digits : goal.returns-else-seen-digits
returns-else-seen-digits c = λ terms octets s.
    long_changes c.args.octet c.length-else-seen-digits.result (long_at s c.in-Long.is) (omega arith) (long_ready (long_at s c.in-Long.is)).some
    (subst (λ o. IsLengthOf c.length-else-seen-digits.result (term_at c.in-Long.node) (c.args.self.now.looked + 1) (c.in-Long.value * 256 + o)) c.from-else-seen-digits.ensures c.length-else-seen-digits.ensures)

pub returns-then-self-end : goal.returns-then-self-end
returns-then-self-end c = λ terms octets s. leaf_none c.args.octet (leaf_at s c.in-Leaf.is) (omega arith)

pub returns-else-self-end : goal.returns-else-self-end
returns-else-self-end c = λ terms octets s.
    let are = c.form_of-form.ensures in
    let fits : FitsSigned w64 c.number_of.result = search rules in
    leaf_changes c.args.octet (c.args.self.now.looked - c.in-Leaf.start) _ (leaf_at s c.in-Leaf.is) (omega arith) (omega arith) refl
    (to_z-of_z w64 c.number_of.result fits ∙ c.number_of.ensures (term_at c.in-Leaf.node) are
    ∙ ap (λ v. number_with (term_at c.in-Leaf.node) (c.args.self.now.looked - c.in-Leaf.start) v c.args.octet) (to_z-of_z w64 c.in-Leaf.value (small_fits (leaf_ready _ are (leaf_at s c.in-Leaf.is)).small)))
