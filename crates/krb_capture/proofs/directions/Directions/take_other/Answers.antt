use Rattle.std.proofs.Common.{sym, ◌∙◌, ap, subst}
use Rattle.std.proofs.lemmas.Result.{IfOk-weaker}
use Rattle.std.specs.BTreeMap.{insert_entry, is_at}
use Rattle.std.specs.Map.{lookup}
use Rattle.krb_flow.specs.declared.direction.State.TheVariants as states
use Rattle.krb_capture.specs.Captures.{over_tcp}
use Rattle.krb_capture.specs.Directions.{begun, flow_cmp, flow_of, followed, with_room}
use Rattle.krb_capture.specs.Rests.{Follows}
use Rattle.krb_capture.proofs.Follows.{follows-after, follows-passed}
use Rattle.krb_capture.proofs.Tables.{followed-begins, followed-known, followed-passed}
use Rattle.krb_capture.proofs.directions.Directions.take_other.Goals as goal

pub returns-in-Some : goal.returns-in-Some
returns-in-Some c = IfOk-weaker c.take_known.result _ _
    (λ rest k limit table h.
    let e = ap (λ es. lookup (is_at (flow_cmp (flow_of c.args.segment.now))) es) (sym h.numbers) ∙ ap (λ f. lookup (is_at (flow_cmp f)) c.args.self.now.numbers.entries) (sym c.requires.of_segment) ∙ sym c.get.ensures.value ∙ c.in-Some.is in
    subst (λ f. Follows c.take_known.new.self limit f.table c.args.due rest (over_tcp c.args.due f.found) c.args.listing.now c.take_known.new.listing) (sym (followed-known limit c.args.due.packet c.args.service c.args.segment.now table c.in-Some.number e))
    (k limit table (record { limit_is = h.limit_is; numbers = ap (λ n. n.entries) c.get.ensures.same ∙ h.numbers; active = h.active; ended = h.ended; recent = h.recent })))
    c.take_known.ensures

pub returns-in_ok-insert-in-None : goal.returns-in_ok-insert-in-None
returns-in_ok-insert-in-None c = IfOk-weaker c.begin.result _ _
    (λ rest k limit table h.
    let e = ap (λ es. lookup (is_at (flow_cmp (flow_of c.args.segment.now))) es) (sym h.numbers) ∙ ap (λ f. lookup (is_at (flow_cmp f)) c.args.self.now.numbers.entries) (sym c.requires.of_segment) ∙ sym c.get.ensures.value ∙ c.in-None.is in
    let numbers = ap (λ n. n.entries) c.get.ensures.same ∙ h.numbers in
    let room = with_room limit table in
    let maps = c.in_ok-make_room-in-None.ensures.table limit table (record { limit_is = h.limit_is; numbers = numbers; active = h.active; ended = h.ended; recent = h.recent }) in
    let after = begun limit c.args.due.packet c.args.service states.Fresh c.args.segment.now room.table in
    subst (λ f. Follows c.begin.new.self limit f.table c.args.due rest (over_tcp c.args.due f.found) c.args.listing.now c.begin.new.listing) (sym (followed-begins limit c.args.due.packet c.args.service c.args.segment.now table e (sym c.begins-may_begin.ensures ∙ c.if-may_begin-2.true)))
    (follows-after c.begin.new.self limit c.args.due rest room.found after c.args.listing.now c.make_room.new.listing c.begin.new.listing (c.in_ok-make_room-in-None.ensures.found limit table (record { limit_is = h.limit_is; numbers = numbers; active = h.active; ended = h.ended; recent = h.recent }))
    (k limit room.table (record { limit_is = maps.limit_is; numbers = c.in_ok-insert-in-None.ensures.entries ∙ ap (λ es. insert_entry flow_cmp es c.args.flow c.args.due.packet) maps.numbers; active = maps.active; ended = maps.ended; recent = maps.recent }))))
    c.begin.ensures

pub returns-in_ok-list_passed_over-in-None-2 : goal.returns-in_ok-list_passed_over-in-None-2
returns-in_ok-list_passed_over-in-None-2 c = λ limit table h.
    let e = ap (λ es. lookup (is_at (flow_cmp (flow_of c.args.segment.now))) es) (sym h.numbers) ∙ ap (λ f. lookup (is_at (flow_cmp f)) c.args.self.now.numbers.entries) (sym c.requires.of_segment) ∙ sym c.get.ensures.value ∙ c.in-None-2.is in
    follows-passed _ limit c.args.due (followed limit c.args.due.packet c.args.service c.args.segment.now table) c.args.segment.now table c.args.listing.now _ (followed-passed limit c.args.due.packet c.args.service c.args.segment.now table e (sym c.begins-may_begin.ensures ∙ c.if-may_begin-2.false)) c.requires.none
    (record { limit_is = h.limit_is; numbers = ap (λ n. n.entries) c.get.ensures.same ∙ h.numbers; active = h.active; ended = h.ended; recent = h.recent }) c.in_ok-list_passed_over-in-None-2.ensures
