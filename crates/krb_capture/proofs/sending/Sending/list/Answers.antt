use Rattle.std.proofs.Common.{rules, arith, ◌≡◌, ◌++◌, [], None, length, take, drop, sym, ◌∙◌, ap, subst, append_assoc, take-append-drop}
use Rattle.std.proofs.lemmas.List.{drop_all, nil_from_length, take_rest}
use Rattle.std.proofs.lemmas.Result.{IfOk-weaker}
use Rattle.krb_capture.specs.Rests.{Takes}
use Rattle.krb_capture.proofs.Rests.{takes-last, takes-more, unlisted}
use Rattle.krb_capture.proofs.sending.Sending.list.Goals as goal

pub returns-then-is_empty-clause-found : goal.returns-then-is_empty-clause-found
returns-then-is_empty-clause-found c = λ limit stream t.
    let n = c.in_ok-count.count in
    let o = c.args.octets.now in
    let others = c.args.others.now in
    let whole : c.in_ok-count.count ≡ length c.args.octets.now = search rules in
    let none : length c.args.others.now ≡ 0 = search rules in
    let u = c.in_ok-count.ensures.took limit stream t in
    let left : drop n o ++ others ≡ [] = ap (λ z. z ++ others) (drop_all n o (omega (arith, whole))) ∙ nil_from_length others none in
    subst (λ z. Takes c.args.self.now.frames c.take.new.self limit stream (unlisted c.args.end z) None c.args.origin.now c.args.listing.now c.list_end.new.listing)
    (sym (append_assoc (take n o) (drop n o) others) ∙ ap (λ z. z ++ others) (take-append-drop n o))
    (takes-last c.args.origin.now c.args.self.now.frames c.take.new.self limit stream (take n o) (drop n o ++ others) c.args.end c.args.listing.now c.take.new.listing t u c.in_ok-count.ensures.service (c.in_ok-count.ensures.listed limit stream t) c.list_end.new.listing left
    (c.in_ok-list_end.ensures limit (stream ++ take n o) u))

pub returns-clause-found : goal.returns-clause-found
returns-clause-found c = IfOk-weaker c.list_left.result _ _
    (λ rest k limit stream t.
    let n = c.in_ok-count.count in
    let o = c.args.octets.now in
    let others = c.args.others.now in
    let u = c.in_ok-count.ensures.took limit stream t in
    let left = c.in_ok-left.ensures ∙ ap (λ z. unlisted c.args.end (z ++ others)) (take_rest o n) in
    subst (λ z. Takes c.args.self.now.frames c.list_left.new.self.frames limit stream (unlisted c.args.end z) rest c.args.origin.now c.args.listing.now c.list_left.new.listing)
    (sym (append_assoc (take n o) (drop n o) others) ∙ ap (λ z. z ++ others) (take-append-drop n o))
    (takes-more c.args.origin.now c.args.self.now.frames c.take.new.self limit stream (take n o) (drop n o ++ others) c.args.end c.args.listing.now c.take.new.listing t u c.in_ok-count.ensures.service (c.in_ok-count.ensures.listed limit stream t) c.list_left.new.self.frames rest c.list_left.new.listing
    (subst (λ x. Takes c.take.new.self c.list_left.new.self.frames limit (stream ++ take n o) x rest c.args.origin.now c.take.new.listing c.list_left.new.listing) left (k limit (stream ++ take n o) u))))
    c.list_left.ensures.found
