use Rattle.std.proofs.Common.{arith, ◌≡◌, ◌==◌, ◌<◌, ◌++◌, ℕ, Bool, false, List, [], length, length-drop, Some, None, take, drop, sym, ◌∙◌, ap, subst, take-append-drop}
use Rattle.std.proofs.lemmas.Bool.{eqb-true, eqb-false}
use Rattle.std.proofs.lemmas.List.{nil_from_length}
use Rattle.krb_capture.specs.Found.{with_all}
use Rattle.krb_capture.specs.Rests.{Takes}
use Rattle.krb_capture.specs.Sending.{end_if}
use Rattle.krb_capture.specs.Streams.{found_with}
use Rattle.krb_capture.specs.Taken.{Took, service_of}
use Rattle.krb_capture.proofs.Rests.{takes-first, takes-last}
use Rattle.krb_capture.proofs.sending.Sending.list_left.Goals as goal

some_octet : (octets : List ℕ) (empty : Bool) → empty ≡ (length octets == 0) → empty ≡ false → 0 < length octets
some_octet octets empty e f = let apart = eqb-false (length octets) 0 (sym e ∙ f) in omega (arith, apart)

pub returns-then-not-is_empty-clause-found : goal.returns-then-not-is_empty-clause-found
returns-then-not-is_empty-clause-found c = λ limit stream t.
    let n = c.in_ok-count.count in
    let left = c.args.left in
    let old = c.args.self.now.frames in
    let u = subst (λ z. Took c.take.new.self limit (stream ++ take n z)) c.octets.ensures (c.in_ok-count.ensures.took limit stream t) in
    let h = subst (λ z. c.take.new.listing ≡ with_all c.args.origin.now (found_with (service_of old) limit stream (take n z)) c.args.listing.now) c.octets.ensures (c.in_ok-count.ensures.listed limit stream t) in
    let some : 0 < length (drop n left.octets) = subst (λ z. 0 < length z) (c.octets-2.ensures ∙ ap (λ o. o.octets) c.pass.ensures) (some_octet c.octets-2.result.now c.is_empty.result c.is_empty.ensures c.if-not-is_empty.true) in
    let fewer : n < length c.octets.result.now = subst (λ z. n < length z) (sym c.octets.ensures) (omega (arith, length-drop n left.octets, some)) in
    subst (λ o. Takes old c.take.new.self limit stream left (Some o) c.args.origin.now c.args.listing.now c.take.new.listing) (sym c.pass.ensures)
    (subst (λ z. Takes old c.take.new.self limit stream (record { octets = z; end = left.end }) (Some (record { octets = drop n left.octets; end = left.end })) c.args.origin.now c.args.listing.now c.take.new.listing) (take-append-drop n left.octets)
    (takes-first c.args.origin.now old c.take.new.self limit stream (take n left.octets) (drop n left.octets) left.end c.args.listing.now c.take.new.listing t u c.in_ok-count.ensures.service h (c.in_ok-count.ensures.full fewer)))

pub returns-clause-found : goal.returns-clause-found
returns-clause-found c = λ limit stream t.
    let n = c.in_ok-count.count in
    let left = c.args.left in
    let old = c.args.self.now.frames in
    let u = subst (λ z. Took c.take.new.self limit (stream ++ take n z)) c.octets.ensures (c.in_ok-count.ensures.took limit stream t) in
    let h = subst (λ z. c.take.new.listing ≡ with_all c.args.origin.now (found_with (service_of old) limit stream (take n z)) c.args.listing.now) c.octets.ensures (c.in_ok-count.ensures.listed limit stream t) in
    let none : drop n left.octets ≡ [] = sym (c.octets-2.ensures ∙ ap (λ o. o.octets) c.pass.ensures) ∙ nil_from_length c.octets-2.result.now (eqb-true _ 0 (sym c.is_empty.ensures ∙ c.if-not-is_empty.false)) in
    let ended = c.in_ok-list_end.ensures limit (stream ++ take n left.octets) u ∙ ap (λ e. with_all c.args.origin.now (end_if (service_of c.take.new.self) limit (stream ++ take n left.octets) e) c.take.new.listing) (c.end.ensures ∙ ap (λ o. o.end) c.pass.ensures) in
    subst (λ z. Takes old c.take.new.self limit stream (record { octets = z; end = left.end }) None c.args.origin.now c.args.listing.now c.list_end.new.listing) (take-append-drop n left.octets)
    (takes-last c.args.origin.now old c.take.new.self limit stream (take n left.octets) (drop n left.octets) left.end c.args.listing.now c.take.new.listing t u c.in_ok-count.ensures.service h c.list_end.new.listing none ended)
