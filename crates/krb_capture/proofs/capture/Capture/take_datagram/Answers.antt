use Rattle.std.proofs.Common.{rules, refl, sym, ◌∙◌, ap}
use Rattle.krb_capture.specs.Datagrams.{all_found}
use Rattle.krb_capture.proofs.Following.{datagram-lists}
use Rattle.krb_capture.proofs.Written.{name-all, on_ok-map}
use Rattle.krb_capture.proofs.capture.Capture.take_datagram.Goals as goal

pub returns : goal.returns
returns c = on_ok-map c.list_with_surplus-listed.result
    (λ k settings progress h.
    let listed = rw c.take-happened.ensures.value at k in
    let same = ap (λ w. w.text_name) listed ∙ name-all c.over-origin.result (all_found c.in-Some.service c.args.datagram.now) _ in
    datagram-lists c.args.self.now _ settings progress c.in-Some.service c.args.datagram.now c.over-origin.result c.args.text.now _ _ c.list_with_surplus-listed.new.listing h (sym c.between.ensures ∙ c.in-Some.is) c.over-origin.ensures listed (record { label = refl; counts = c.into_parts-happened.ensures.counts; happened = c.into_parts-happened.ensures.happened; is = search rules }) refl refl refl refl refl)
    c.list_with_surplus-listed.ensures
