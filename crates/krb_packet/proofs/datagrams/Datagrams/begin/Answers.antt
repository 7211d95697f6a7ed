use Rattle.std.proofs.Common.{◌≡◌, Some, None, ◌++◌, [], ◌∷◌, sym, ap, ◌∙◌, rules}
use Rattle.krb_packet.specs.Table.{Table, pending_in}
use Rattle.krb_packet.specs.Fragments.{no_fragments_of, pending_with, whole_of}
use Rattle.krb_packet.specs.declared.fragments.Pending.{Pending}
use Rattle.krb_packet.specs.inner.Places.{fewer_than}
use Rattle.krb_packet.proofs.Places.{begun_kept, begun_whole}
use Rattle.krb_packet.proofs.datagrams.Datagrams.begin.Goals as goal

pub returns-in-Some-clause-whole : goal.returns-in-Some-clause-whole
returns-in-Some-clause-whole c =
    let one = pending_with c.args.fragment.now (no_fragments_of c.args.fragment.now.original) in
    let is : whole_of one ≡ Some c.in-Some.whole = search rules in
    sym (ap (λ r. r.0) (begun_whole (pending_in c.args.self.now) c.args.self.now.given_up one c.in-Some.whole is))

pub returns-in-Some-clause-state : goal.returns-in-Some-clause-state
returns-in-Some-clause-state c =
    let one = pending_with c.args.fragment.now (no_fragments_of c.args.fragment.now.original) in
    let is : whole_of one ≡ Some c.in-Some.whole = search rules in
    c.keep_fewer_than.ensures.fewer ∙ sym (ap (λ r. r.1) (begun_whole (pending_in c.args.self.now) c.args.self.now.given_up one c.in-Some.whole is))

pub returns-in_ok-push-in-None-clause-whole : goal.returns-in_ok-push-in-None-clause-whole
returns-in_ok-push-in-None-clause-whole c =
    let one = pending_with c.args.fragment.now (no_fragments_of c.args.fragment.now.original) in
    let is : whole_of one ≡ None = search rules in
    sym (ap (λ r. r.0) (begun_kept (pending_in c.args.self.now) c.args.self.now.given_up one is))

pub returns-in_ok-push-in-None-clause-state : goal.returns-in_ok-push-in-None-clause-state
returns-in_ok-push-in-None-clause-state c =
    let one = pending_with c.args.fragment.now (no_fragments_of c.args.fragment.now.original) in
    let is : whole_of one ≡ None = search rules in
    let kept : c.take.new.self ≡ one = search rules in
    c.keep_fewer_than-in-None.ensures.fewer ∙ ap (fewer_than 1025) (c.in_ok-push-in-None.ensures.pushed ∙ ap (λ (p : Pending). let table : Table = record { pending = pending_in c.args.self.now ++ p ∷ []; given_up = c.args.self.now.given_up } in table) kept) ∙ sym (ap (λ r. r.1) (begun_kept (pending_in c.args.self.now) c.args.self.now.given_up one is))
