use Rattle.std.proofs.Common.{sym, subst}
use Rattle.std.proofs.lemmas.Result.{IfOk-weaker}
use Rattle.std.specs.BTreeMap.{is_at}
use Rattle.std.specs.Map.{lookup, remove_entry}
use Rattle.std.specs.Ordering.{nat_cmp}
use Rattle.krb_capture.specs.Captures.{over_tcp}
use Rattle.krb_capture.specs.Directions.{AllRepresented, of_known}
use Rattle.krb_capture.specs.Rests.{Follows}
use Rattle.krb_capture.proofs.Tables.{BothStand, both-none, is-found, represented-lookup, represented-remove}
use Rattle.krb_capture.proofs.directions.Directions.take_known.Goals as goal

pub returns-in-Some : goal.returns-in-Some
returns-in-Some c = IfOk-weaker c.go_on.result _ _
    (λ rest k limit table h.
    let test = is_at (nat_cmp c.args.number) in
    let found = is-found limit (lookup test c.args.self.now.active.entries) (lookup test table.active) c.in-Some.sending (represented-lookup limit test c.args.self.now.active.entries table.active h.active) (sym c.in-Some.ensures.value) in
    subst (λ m. Follows c.go_on.new.self limit (of_known limit c.args.due.packet c.args.number m c.args.service c.args.segment.now table).table c.args.due rest (over_tcp c.args.due (of_known limit c.args.due.packet c.args.number m c.args.service c.args.segment.now table).found) c.args.listing.now c.go_on.new.listing) (sym found.is)
    (k limit table found.sent (record { limit_is = h.limit_is; numbers = h.numbers; active = subst (λ es. AllRepresented limit es (remove_entry test table.active)) (sym c.in-Some.ensures.entries) (represented-remove limit test c.args.self.now.active.entries table.active h.active); ended = h.ended; recent = h.recent }) c.requires.known found.represents))
    c.go_on.ensures

pub returns-in-None : goal.returns-in-None
returns-in-None c = IfOk-weaker c.take_ended.result _ _
    (λ rest k limit table h.
    let test = is_at (nat_cmp c.args.number) in
    let none = both-none limit (lookup test table.active) (subst (λ l. BothStand limit l (lookup test table.active)) (sym c.in-None.ensures.value) (represented-lookup limit test c.args.self.now.active.entries table.active h.active)) in
    subst (λ m. Follows c.take_ended.new.self limit (of_known limit c.args.due.packet c.args.number m c.args.service c.args.segment.now table).table c.args.due rest (over_tcp c.args.due (of_known limit c.args.due.packet c.args.number m c.args.service c.args.segment.now table).found) c.args.listing.now c.take_ended.new.listing) (sym none)
    (k limit table (record { limit_is = h.limit_is; numbers = h.numbers; active = subst (λ es. AllRepresented limit es table.active) (sym c.in-None.ensures.unchanged) h.active; ended = h.ended; recent = h.recent })))
    c.take_ended.ensures
