use Rattle.std.proofs.Common.{◌≡◌, true, sym, ◌∙◌, ap, subst}
use Rattle.std.proofs.lemmas.Result.{IfOk-weaker}
use Rattle.std.specs.BTreeMap.{is_at}
use Rattle.std.specs.Map.{lookup}
use Rattle.std.specs.Ordering.{eq_by_cmp}
use Rattle.krb_capture.specs.Captures.{over_tcp}
use Rattle.krb_capture.specs.Directions.{HoldsMaps, HoldsTable, flow_cmp, without}
use Rattle.krb_capture.specs.Rests.{Follows}
use Rattle.krb_capture.proofs.Tables.{is-among, takes-last}
use Rattle.krb_capture.proofs.directions.Directions.take.Goals as goal

pub returns-in-Some : goal.returns-in-Some
returns-in-Some c = IfOk-weaker c.go_on.result _ _
    (λ rest k limit table h.
    let same = subst (λ f. eq_by_cmp flow_cmp c.in-Some.last.flow f ≡ true) c.between-flow.ensures c.in-Some.ensures.last.1 in
    let t = takes-last c.in-Some.last c.args.self.now limit c.args.due.packet c.args.service c.args.segment.now table (is-among c.args.self.now limit table c.in-Some.last c.in-Some.ensures.last.0 h) same in
    subst (λ f. Follows c.go_on.new.self limit f.table c.args.due rest (over_tcp c.args.due f.found) c.args.listing.now c.go_on.new.listing) (sym t.followed_is)
    (k limit table t.sent
    (subst (λ d. HoldsMaps d limit (without c.in-Some.last.number table)) (sym c.in-Some.ensures.left) (record { limit_is = t.maps.limit_is; numbers = t.maps.numbers; active = t.maps.active; ended = t.maps.ended; recent = t.maps.recent }))
    (ap (λ d. lookup (is_at (flow_cmp c.in-Some.last.flow)) d.numbers.entries) c.in-Some.ensures.left ∙ t.known)
    t.represents))
    c.go_on.ensures

pub returns-in_ok-put_back-in-None : goal.returns-in_ok-put_back-in-None
returns-in_ok-put_back-in-None c = IfOk-weaker c.take_other.result _ _
    (λ rest k limit table h. k limit table (c.in_ok-put_back-in-None.ensures.maps limit table (subst (λ d. HoldsTable d limit table) (sym c.in-None.ensures.same) h)))
    c.take_other.ensures
