use Rattle.std.proofs.Common.{sym, ◌∙◌, ap, subst}
use Rattle.std.proofs.lemmas.Result.{IfOk-weaker}
use Rattle.std.proofs.lemmas.Bool.{lt-ltb}
use Rattle.std.specs.BTreeMap.{insert_entry, is_at}
use Rattle.std.specs.Map.{lookup}
use Rattle.std.specs.Prelude.{if◌then◌else◌, is_some, length, nat_lt}
use Rattle.krb_capture.specs.Captures.{over_tcp}
use Rattle.krb_capture.specs.Directions.{flow_cmp, flow_of}
use Rattle.krb_capture.specs.Rests.{Follows}
use Rattle.krb_capture.proofs.Tables.{followed-known, followed-room}
use Rattle.krb_capture.proofs.directions.Directions.take_syn.Goals as goal

pub take_known-requires-clause-known : goal.take_known-requires-clause-known
take_known-requires-clause-known c =
    ap (λ es. lookup (is_at (flow_cmp c.args.flow)) es) (c.in_ok-found.ensures.entries ∙ ap (λ o. if is_some o then c.args.self.now.numbers.entries else insert_entry flow_cmp c.args.self.now.numbers.entries c.args.flow c.args.due.packet) c.in-Some.is) ∙ sym c.in_ok-found.ensures.value ∙ c.in-Some.is

pub returns-in-Some : goal.returns-in-Some
returns-in-Some c = IfOk-weaker c.take_known.result _ _
    (λ rest k limit table h.
    let e = ap (λ es. lookup (is_at (flow_cmp (flow_of c.args.segment.now))) es) (sym h.numbers) ∙ ap (λ f. lookup (is_at (flow_cmp f)) c.args.self.now.numbers.entries) (sym c.requires.of_segment) ∙ sym c.in_ok-found.ensures.value ∙ c.in-Some.is in
    let same = c.in_ok-found.ensures.entries ∙ ap (λ o. if is_some o then c.args.self.now.numbers.entries else insert_entry flow_cmp c.args.self.now.numbers.entries c.args.flow c.args.due.packet) c.in-Some.is in
    subst (λ f. Follows c.take_known.new.self limit f.table c.args.due rest (over_tcp c.args.due f.found) c.args.listing.now c.take_known.new.listing) (sym (followed-known limit c.args.due.packet c.args.service c.args.segment.now table c.in-Some.number e))
    (k limit table (record { limit_is = h.limit_is; numbers = same ∙ h.numbers; active = h.active; ended = h.ended; recent = h.recent })))
    c.take_known.ensures

pub returns-in-None : goal.returns-in-None
returns-in-None c = IfOk-weaker c.begin.result _ _
    (λ rest k limit table h.
    let e = ap (λ es. lookup (is_at (flow_cmp (flow_of c.args.segment.now))) es) (sym h.numbers) ∙ ap (λ f. lookup (is_at (flow_cmp f)) c.args.self.now.numbers.entries) (sym c.requires.of_segment) ∙ sym c.in_ok-found.ensures.value ∙ c.in-None.is in
    let more = c.in_ok-found.ensures.entries ∙ ap (λ o. if is_some o then c.args.self.now.numbers.entries else insert_entry flow_cmp c.args.self.now.numbers.entries c.args.flow c.args.due.packet) c.in-None.is in
    let room = ap (λ es. nat_lt (length es) 65536) (sym h.numbers) ∙ lt-ltb (length c.args.self.now.numbers.entries) 65536 c.requires.room in
    subst (λ f. Follows c.begin.new.self limit f.table c.args.due rest (over_tcp c.args.due f.found) c.args.listing.now c.begin.new.listing) (sym (followed-room limit c.args.due.packet c.args.service c.args.segment.now table e c.requires.begins room))
    (k limit table (record { limit_is = h.limit_is; numbers = more ∙ ap (λ es. insert_entry flow_cmp es c.args.flow c.args.due.packet) h.numbers; active = h.active; ended = h.ended; recent = h.recent })))
    c.begin.ensures
