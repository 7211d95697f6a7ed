use Rattle.std.proofs.Common.{◌≡◌, ◌+◌, ◌-◌, Option, Some, None, sym, ◌∙◌, ap}
use Rattle.krb_packet.specs.Fragments.{carried_in, if_completed, inner, inside}
use Rattle.krb_packet.specs.Table.{Table, table_of}
use Rattle.krb_packet.specs.declared.fragments.Reassembled.{Reassembled}
use Rattle.krb_packet.proofs.Nesting.{inside-goes-on, inside-once, inside-over}
use Rattle.krb_packet.proofs.datagrams.Datagrams.go_inside.Goals as goal

pub loop-preserved : goal.loop-preserved
loop-preserved c =
    let is : inner (carried_in c.args.port c.loop.whole) ≡ Some c.in-Some.fragment = sym (c.inner.ensures ∙ ap inner c.carried.ensures) ∙ c.in-Some.is in
    let went : inside c.args.port (c.args.most - c.loop.counter) c.loop.whole (table_of c.loop.self) ≡ if_completed (inside c.args.port (c.args.most - (c.loop.counter + 1))) (Some c.in-Some-next.next) (table_of c.take.new.self) = inside-goes-on c.args.port c.args.most c.loop.counter c.loop.whole (table_of c.loop.self) (table_of c.take.new.self) c.in-Some.fragment (Some c.in-Some-next.next) c.loop-test.true is (sym c.in-Some-next.is ∙ c.in_ok-next-in-Some.ensures.whole) c.in_ok-next-in-Some.ensures.state in
    (c.in_ok-next-in-Some.ensures.index, sym went ∙ c.loop.invariant.1)

pub returns-in-None-clause-whole : goal.returns-in-None-clause-whole
returns-in-None-clause-whole c =
    let is : inner (carried_in c.args.port c.loop.whole) ≡ None = sym (c.inner.ensures ∙ ap inner c.carried.ensures) ∙ c.in-None.is in
    ap (λ (p : Option Reassembled × Table). p.0) (sym (inside-once c.args.port c.args.most c.loop.counter c.loop.whole (table_of c.loop.self) None c.loop-test.true is) ∙ c.loop.invariant.1)

pub returns-in-None-clause-state : goal.returns-in-None-clause-state
returns-in-None-clause-state c =
    let is : inner (carried_in c.args.port c.loop.whole) ≡ None = sym (c.inner.ensures ∙ ap inner c.carried.ensures) ∙ c.in-None.is in
    ap (λ (p : Option Reassembled × Table). p.1) (sym (inside-once c.args.port c.args.most c.loop.counter c.loop.whole (table_of c.loop.self) None c.loop-test.true is) ∙ c.loop.invariant.1)

pub returns-in-None-next-clause-whole : goal.returns-in-None-next-clause-whole
returns-in-None-next-clause-whole c =
    let is : inner (carried_in c.args.port c.loop.whole) ≡ Some c.in-Some.fragment = sym (c.inner.ensures ∙ ap inner c.carried.ensures) ∙ c.in-Some.is in
    ap (λ (p : Option Reassembled × Table). p.0) (sym (inside-goes-on c.args.port c.args.most c.loop.counter c.loop.whole (table_of c.loop.self) (table_of c.take.new.self) c.in-Some.fragment None c.loop-test.true is (sym c.in-None-next.is ∙ c.in_ok-next-in-Some.ensures.whole) c.in_ok-next-in-Some.ensures.state) ∙ c.loop.invariant.1)

pub returns-in-None-next-clause-state : goal.returns-in-None-next-clause-state
returns-in-None-next-clause-state c =
    let is : inner (carried_in c.args.port c.loop.whole) ≡ Some c.in-Some.fragment = sym (c.inner.ensures ∙ ap inner c.carried.ensures) ∙ c.in-Some.is in
    ap (λ (p : Option Reassembled × Table). p.1) (sym (inside-goes-on c.args.port c.args.most c.loop.counter c.loop.whole (table_of c.loop.self) (table_of c.take.new.self) c.in-Some.fragment None c.loop-test.true is (sym c.in-None-next.is ∙ c.in_ok-next-in-Some.ensures.whole) c.in_ok-next-in-Some.ensures.state) ∙ c.loop.invariant.1)

pub returns-clause-whole : goal.returns-clause-whole
returns-clause-whole c = ap (λ (p : Option Reassembled × Table). p.0) (sym (inside-over c.args.port c.args.most c.loop.counter c.loop.whole (table_of c.loop.self) c.loop-test.false) ∙ c.loop.invariant.1)

pub returns-clause-state : goal.returns-clause-state
returns-clause-state c = ap (λ (p : Option Reassembled × Table). p.1) (sym (inside-over c.args.port c.args.most c.loop.counter c.loop.whole (table_of c.loop.self) c.loop-test.false) ∙ c.loop.invariant.1)
