use Rattle.std.proofs.Common.{length, sym, ◌∙◌, ap, subst}
use Rattle.std.specs.Prelude.{nat_lt}
use Rattle.std.proofs.lemmas.Bool.{le-ltb}
use Rattle.krb_capture.specs.Captures.{over_tcp, with_each}
use Rattle.krb_capture.specs.Directions.{HoldsMaps, flow_cmp}
use Rattle.krb_capture.specs.Sending.{Represents, last_found}
use Rattle.std.specs.BTreeMap.{is_at}
use Rattle.std.specs.Map.{remove_entry}
use Rattle.krb_capture.proofs.Tables.{has-first, room-first}
use Rattle.krb_capture.proofs.Written.{flow-found}
use Rattle.krb_capture.proofs.directions.Directions.make_room.Goals as goal

pub returns-in_ok-finish-clause-table : goal.returns-in_ok-finish-clause-table
returns-in_ok-finish-clause-table c = λ limit table h.
    let first = has-first limit table c.args.self.now.active.entries (c.in-Some-pop_first.field-0-0, c.in-Some-pop_first.sending) c.pop_first-in_default.new.self.entries h.active c.in-Some-pop_first.ensures.removal in
    let none = c.in_default.ensures.none in
    let full = ap (λ n. nat_lt n 65536) (ap (λ l. length l) (sym h.numbers)) ∙ ap (λ n. nat_lt n 65536) (sym c.len.ensures) ∙ le-ltb c.len.result 65536 c.if-len-lt-MOST_DIRECTIONS.false in
    let gone = c.flow.ensures ∙ ap (λ x. x.flow) c.deref.ensures ∙ c.in_ok-finish.ensures.flow ∙ ap (λ x. x.flow) c.deref_mut.ensures.value ∙ first.represents.flow in
    subst (λ f. HoldsMaps (record { alloc = c.args.self.now.alloc; limit = c.args.self.now.limit; numbers = c.remove-in-Some-pop_first.new.self; active = c.pop_first-in_default.new.self; last = c.args.self.now.last; ended = c.pop_first.new.self; recent = c.args.self.now.recent; waited = c.args.self.now.waited }) limit f.table) (sym (room-first limit table first.sent first.rest full (sym h.ended ∙ none) first.is))
    (record {
      limit_is = h.limit_is;
      numbers = c.remove-in-Some-pop_first.ensures ∙ ap (λ f. remove_entry (is_at (flow_cmp f)) c.args.self.now.numbers.entries) gone ∙ ap (λ es. remove_entry (is_at (flow_cmp first.sent.1.flow)) es) h.numbers;
      active = first.all;
      ended = c.in_default.ensures.unchanged ∙ h.ended;
      recent = h.recent;
    })

pub returns-in_ok-finish-clause-found : goal.returns-in_ok-finish-clause-found
returns-in_ok-finish-clause-found c = λ limit table h.
    let first = has-first limit table c.args.self.now.active.entries (c.in-Some-pop_first.field-0-0, c.in-Some-pop_first.sending) c.pop_first-in_default.new.self.entries h.active c.in-Some-pop_first.ensures.removal in
    let none = c.in_default.ensures.none in
    let full = ap (λ n. nat_lt n 65536) (ap (λ l. length l) (sym h.numbers)) ∙ ap (λ n. nat_lt n 65536) (sym c.len.ensures) ∙ le-ltb c.len.result 65536 c.if-len-lt-MOST_DIRECTIONS.false in
    let there = subst (λ x. Represents x limit first.sent.1) (sym c.deref_mut.ensures.value) first.represents in
    flow-found c.args.due c.deref_mut.result.now.flow first.sent.1.flow (last_found limit first.sent.1) c.finish.new.listing c.args.listing.now (c.in_ok-finish.ensures.found limit first.sent.1 there) there.flow
    ∙ ap (λ f. with_each (over_tcp c.args.due f.found) c.args.listing.now) (sym (room-first limit table first.sent first.rest full (sym h.ended ∙ none) first.is))
