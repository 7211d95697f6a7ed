use Rattle.std.proofs.Common.{◌≡◌, get_or, ap, ◌∙◌}
use Rattle.krb_packet.specs.Table.{Table, pending_in}
use Rattle.krb_packet.specs.Fragments.{plus}
use Rattle.krb_packet.specs.declared.fragments.Pending.{Pending}
use Rattle.krb_packet.proofs.Places.{first_given_up, first_there, held}
use Rattle.krb_packet.proofs.datagrams.Datagrams.give_up_first.Goals as goal

pub returns-in-Ok-clause-given_up : goal.returns-in-Ok-clause-given_up
returns-in-Ok-clause-given_up c =
    let same : (d : Pending) → c.deref.result.now.original ≡ (get_or (pending_in c.args.self.now) 0 d).original = λ d. ap (λ (p : Pending). p.original) (held c.args.self.now.pending.items 0 c.index.result.now c.deref.result.now d c.requires.some c.index.ensures c.deref.ensures) in
    let left : pending_in c.remove-first.new.self ≡ _ = ap (λ (t : Table). t.pending) c.remove-first.ensures.removed in
    let kept : c.remove-first.new.self.given_up ≡ c.args.self.now.given_up = ap (λ (t : Table). t.given_up) c.remove-first.ensures.removed in
    let count : c.saturating_add-self.result ≡ plus c.args.self.now.given_up c.remove-first.result.value.count = c.saturating_add-self.ensures ∙ cc (kept, c.deref-in-Ok.ensures) in
    first_given_up (pending_in c.args.self.now) (pending_in c.remove-first.new.self) c.deref.result.now.original (get_or c.args.self.now.places.items c.in-Ok.at 0) c.args.self.now.given_up c.saturating_add-self.result c.remove-first.result.value c.requires.some same c.in-Ok.ensures.1 c.remove-first.ensures.value left count

pub returns-in_default-clause-given_up : goal.returns-in_default-clause-given_up
returns-in_default-clause-given_up c =
    let same : (d : Pending) → c.deref.result.now.original ≡ (get_or (pending_in c.args.self.now) 0 d).original = λ d. ap (λ (p : Pending). p.original) (held c.args.self.now.pending.items 0 c.index.result.now c.deref.result.now d c.requires.some c.index.ensures c.deref.ensures) in
    let there = first_there (pending_in c.args.self.now) c.deref.result.now.original c.requires.some same in
    absurd (cc (there, c.in_default.ensures.none))
