use Rattle.std.proofs.Common.{ℕ, List, Option, refl, sym, ◌∙◌, ap, ap₂, subst}
use Rattle.std.specs.BTreeMap.{insert_entry}
use Rattle.std.specs.Ordering.{nat_cmp}
use Rattle.krb_flow.specs.declared.had.Had.{Had}
use Rattle.krb_capture.specs.Directions.{ended_with, streams_with}
use Rattle.krb_capture.specs.Recent.{Remembers}
use Rattle.krb_capture.specs.Sending.{Represents}
use Rattle.krb_capture.specs.declared.directions.Gone.{Gone}
use Rattle.krb_capture.proofs.Tables.{HoldsMaps-kept, holds-none, kept_with}
use Rattle.krb_capture.proofs.directions.Directions.keep.Goals as goal

pub returns-in_ok-insert : goal.returns-in_ok-insert
returns-in_ok-insert c = λ limit table sent h k s.
    let same = c.in_ok-keep_number.ensures.same in
    let number = c.args.last.number in
    let flow = c.args.flow in
    let octets = c.in_ok-octets.ensures limit sent (subst (λ x. Represents x limit sent) (sym c.into_inner.ensures) s) in
    let pushed = c.in_ok-nth.ensures table.streams sent.stream (subst (λ d. Remembers d.recent table.streams) (sym same) h.recent) octets in
    holds-none _ limit _ (ap (λ d. d.last) same ∙ c.requires)
    (HoldsMaps-kept c.args.self.now _ limit number flow c.args.step table c.args.last.sending sent h s
    (ap (λ d. d.limit) same)
    c.in_ok-keep_number.ensures.numbers
    (ap (λ d. d.active.entries) same ∙ sym (ap (λ (o : Option Had). kept_with o number c.args.last.sending c.args.self.now.active.entries) c.in-Some.is))
    (c.in_ok-insert.ensures
    ∙ ap₂ (λ (n : ℕ) (es : List (ℕ × Gone)). insert_entry nat_cmp es number (record { flow = flow; had = c.in-Some.had; nth = n })) (pushed.0 ∙ sym h.recent.count) (ap (λ d. d.ended.entries) same)
    ∙ sym (ap (λ (o : Option Had). ended_with o number flow c.args.self.now.recent.count c.args.self.now.ended.entries) c.in-Some.is))
    (subst (λ (o : Option Had). Remembers c.push.new.self (streams_with o sent.stream table.streams)) (sym c.in-Some.is) pushed.1))

pub returns-in_ok-insert-2 : goal.returns-in_ok-insert-2
returns-in_ok-insert-2 c = λ limit table sent h k s.
    holds-none _ limit _ (ap (λ d. d.last) c.in_ok-keep_number.ensures.same ∙ c.requires)
    (HoldsMaps-kept c.args.self.now _ limit c.args.last.number c.args.flow c.args.step table c.args.last.sending sent h s
    (ap (λ d. d.limit) c.in_ok-keep_number.ensures.same)
    c.in_ok-keep_number.ensures.numbers
    (c.in_ok-insert-2.ensures.entries ∙ rw (c.in_default.is, c.in_ok-keep_number.ensures.same) refl)
    (ap (λ d. d.ended.entries) c.in_ok-keep_number.ensures.same ∙ rw c.in_default.is refl)
    (subst (λ (o : Option Had). Remembers c.keep_number.new.self.recent (streams_with o sent.stream table.streams)) (sym c.in_default.is) (subst (λ d. Remembers d.recent table.streams) (sym c.in_ok-keep_number.ensures.same) h.recent)))
