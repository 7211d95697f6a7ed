use Rattle.std.proofs.Common.{pos, negsuc, ◌≤ℤ◌, ◌<ℤ◌, ◌*◌, ◌+◌, ◌-◌, ◌∙◌, ap, sym, subst, refl, arith, w64}
use Rattle.std.proofs.Props.{props}
use Rattle.std.proofs.lemmas.Int.{to_z-of_z}
use Rattle.krb_msg.specs.Nodes.{term_at}
use Rattle.krb_scan.specs.inner.Outcomes.{LeafReads}
use Rattle.krb_scan.proofs.PathFacts.{between_at, tagged_at, long_at, leaf_at, leaf_ready, has_place, small_fits}
use Rattle.krb_scan.proofs.PathSteps.{short-prop, long_ready, tagged_within, tagged_short, long_short, between_taken, tagged_taken, long_taken, leaf_taken, has_containers, if_between, if_tagged, if_long, if_leaf}
use Rattle.krb_scan.proofs.path.Path.take.Goals as goal

pub begin-requires-clause-short : goal.begin-requires-clause-short
begin-requires-clause-short c = if_between (hlevel props) c.requires c.in-Between.is (λ terms octets t. t.at.near)

pub begin-requires-clause-containers : goal.begin-requires-clause-containers
begin-requires-clause-containers c = has_containers c.requires

pub headed-requires-clause-containers : goal.headed-requires-clause-containers
headed-requires-clause-containers c = has_containers c.requires

pub headed-requires-in-Long-clause-containers : goal.headed-requires-in-Long-clause-containers
headed-requires-in-Long-clause-containers c = has_containers c.requires

pub content-requires-clause-containers : goal.content-requires-clause-containers
content-requires-clause-containers c = has_containers c.requires

pub overflow_sub-room : goal.overflow_sub-room
overflow_sub-room c = if_tagged (hlevel props) c.requires c.in-Tagged.is (λ terms octets t. tagged_within t)

pub overflow_add-room : goal.overflow_add-room
overflow_add-room c = if_tagged (hlevel props) c.requires c.in-Tagged.is (λ terms octets t. omega (arith, t.looked))

pub headed-requires-clause-known : goal.headed-requires-clause-known
headed-requires-clause-known c = if_tagged (hlevel props) c.requires c.in-Tagged.is (λ terms octets t. t.known)

pub headed-requires-clause-near : goal.headed-requires-clause-near
headed-requires-clause-near c = if_tagged (hlevel props) c.requires c.in-Tagged.is (λ terms octets t. t.at.near)

pub headed-requires-clause-short : goal.headed-requires-clause-short
headed-requires-clause-short c = if_tagged (short-prop (c.args.self.now.looked + 1) c.first_head.result) c.requires c.in-Tagged.is (λ terms octets t. tagged_short c.args.octet t c.first_head.result c.first_head.ensures)

pub headed-requires-clause-levels : goal.headed-requires-clause-levels
headed-requires-clause-levels c = if_tagged (hlevel props) c.requires c.in-Tagged.is (λ terms octets t. has_place t.at)

pub overflow_sub-room-in-Long : goal.overflow_sub-room-in-Long
overflow_sub-room-in-Long c = if_long (hlevel props) c.requires c.in-Long.is (λ terms octets t. (long_ready t).within)

pub overflow_add-room-in-Long : goal.overflow_add-room-in-Long
overflow_add-room-in-Long c = if_long (hlevel props) c.requires c.in-Long.is (λ terms octets t. omega (arith, (long_ready t).narrow, (long_ready t).some))

pub overflow_add-room-in-Long-2 : goal.overflow_add-room-in-Long-2
overflow_add-room-in-Long-2 c = if_long (hlevel props) c.requires c.in-Long.is (λ terms octets t. omega (arith, t.looked, (long_ready t).within))

pub overflow_add-long : goal.overflow_add-long
overflow_add-long c = if_long (hlevel props) c.requires c.in-Long.is (λ terms octets t. omega (arith, (long_ready t).narrow, (long_ready t).some))

pub overflow_mul-long : goal.overflow_mul-long
overflow_mul-long c = if_long (hlevel props) c.requires c.in-Long.is (λ terms octets t. omega (arith, (long_ready t).spelled))

pub overflow_add-long-in-Long : goal.overflow_add-long-in-Long
overflow_add-long-in-Long c = if_long (hlevel props) c.requires c.in-Long.is (λ terms octets t. omega (arith, (long_ready t).spelled, c.from-in-Long.ensures))

pub next_head-requires-clause-narrow : goal.next_head-requires-clause-narrow
next_head-requires-clause-narrow c = if_long (hlevel props) c.requires c.in-Long.is (λ terms octets t. (long_ready t).narrow)

pub next_head-requires-clause-some : goal.next_head-requires-clause-some
next_head-requires-clause-some c = if_long (hlevel props) c.requires c.in-Long.is (λ terms octets t. (long_ready t).some)

pub next_head-requires-clause-spelled : goal.next_head-requires-clause-spelled
next_head-requires-clause-spelled c = if_long (hlevel props) c.requires c.in-Long.is (λ terms octets t. (long_ready t).spelled)

pub headed-requires-in-Long-clause-known : goal.headed-requires-in-Long-clause-known
headed-requires-in-Long-clause-known c = if_long (hlevel props) c.requires c.in-Long.is (λ terms octets t. t.known)

pub headed-requires-in-Long-clause-near : goal.headed-requires-in-Long-clause-near
headed-requires-in-Long-clause-near c = if_long (hlevel props) c.requires c.in-Long.is (λ terms octets t. t.at.near)

pub headed-requires-in-Long-clause-short : goal.headed-requires-in-Long-clause-short
headed-requires-in-Long-clause-short c = if_long (short-prop (c.args.self.now.looked + 1) c.next_head.result) c.requires c.in-Long.is (λ terms octets t. long_short c.args.octet t c.next_head.result c.next_head.ensures)

pub headed-requires-in-Long-clause-levels : goal.headed-requires-in-Long-clause-levels
headed-requires-in-Long-clause-levels c = if_long (hlevel props) c.requires c.in-Long.is (λ terms octets t. has_place t.at)

pub form_of-form-requires : goal.form_of-form-requires
form_of-form-requires c = if_leaf (hlevel props) c.requires c.in-Leaf.is (λ terms octets leaf. leaf.known)

pub content-requires-clause-known : goal.content-requires-clause-known
content-requires-clause-known c = if_leaf (hlevel props) c.requires c.in-Leaf.is (λ terms octets leaf. (leaf_ready _ c.form_of-form.ensures leaf).known)

pub content-requires-clause-begun : goal.content-requires-clause-begun
content-requires-clause-begun c = if_leaf (hlevel props) c.requires c.in-Leaf.is (λ terms octets leaf. (leaf_ready _ c.form_of-form.ensures leaf).begun)

pub content-requires-clause-some : goal.content-requires-clause-some
content-requires-clause-some c = if_leaf (hlevel props) c.requires c.in-Leaf.is (λ terms octets leaf. (leaf_ready _ c.form_of-form.ensures leaf).some)

pub content-requires-clause-near : goal.content-requires-clause-near
content-requires-clause-near c = if_leaf (hlevel props) c.requires c.in-Leaf.is (λ terms octets leaf. (leaf_ready _ c.form_of-form.ensures leaf).near)

pub content-requires-clause-fits : goal.content-requires-clause-fits
content-requires-clause-fits c = if_leaf (hlevel props) c.requires c.in-Leaf.is (λ terms octets leaf. (leaf_ready _ c.form_of-form.ensures leaf).fits)

pub content-requires-clause-few : goal.content-requires-clause-few
content-requires-clause-few c = if_leaf (hlevel props) c.requires c.in-Leaf.is (λ terms octets leaf. (leaf_ready _ c.form_of-form.ensures leaf).few)

pub content-requires-clause-above : goal.content-requires-clause-above
content-requires-clause-above c = if_leaf (hlevel props) c.requires c.in-Leaf.is (λ terms octets leaf. subst (λ v. negsuc 549755813887 ≤ℤ v) (sym (to_z-of_z w64 c.in-Leaf.value (small_fits (leaf_ready _ c.form_of-form.ensures leaf).small))) (leaf_ready _ c.form_of-form.ensures leaf).small.0)

pub content-requires-clause-below : goal.content-requires-clause-below
content-requires-clause-below c = if_leaf (hlevel props) c.requires c.in-Leaf.is (λ terms octets leaf. subst (λ v. v <ℤ pos 549755813888) (sym (to_z-of_z w64 c.in-Leaf.value (small_fits (leaf_ready _ c.form_of-form.ensures leaf).small))) (leaf_ready _ c.form_of-form.ensures leaf).small.1)

pub returns-in-Between-clause-step : goal.returns-in-Between-clause-step
returns-in-Between-clause-step c = λ terms octets s. between_taken c.args.octet (between_at s c.in-Between.is) c.begin.ensures.step

pub returns-in-Tagged-clause-step : goal.returns-in-Tagged-clause-step
returns-in-Tagged-clause-step c = λ terms octets s. tagged_taken c.args.octet c.first_head.result (tagged_at s c.in-Tagged.is) c.first_head.ensures (c.from.ensures ∙ c.saturating_sub.ensures) c.headed.ensures.step

pub returns-in-Long-clause-step : goal.returns-in-Long-clause-step
returns-in-Long-clause-step c = λ terms octets s. long_taken c.args.octet c.next_head.result (long_at s c.in-Long.is) c.next_head.ensures refl (ap (λ o. c.in-Long.value * 256 + o) c.from-in-Long.ensures) c.headed-in-Long.ensures.step

pub returns-in-Leaf-clause-step : goal.returns-in-Leaf-clause-step
returns-in-Leaf-clause-step c = λ terms octets s.
    leaf_taken c.args.octet (leaf_at s c.in-Leaf.is) (λ stack marks present containers reads at. c.content.ensures.step stack marks present containers
    (subst (λ v. LeafReads (term_at c.in-Leaf.node) (c.in-Leaf.end - c.in-Leaf.start) v c.in-Leaf.unused present)
    (sym (to_z-of_z w64 c.in-Leaf.value (small_fits (leaf_ready _ c.form_of-form.ensures (leaf_at s c.in-Leaf.is)).small))) reads) at)
