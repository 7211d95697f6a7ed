use Rattle.std.proofs.Common.{◌≡◌, ◌++◌, length, map, take, drop, get_or, ap, ◌∙◌, rules}
use Rattle.std.specs.List.{remove}
use Rattle.krb_packet.specs.Table.{pending_in}
use Rattle.krb_packet.specs.inner.Places.{place_without}
use Rattle.krb_packet.proofs.Places.{by_default, map-remove, removed_index, whole_again}
use Rattle.krb_packet.proofs.datagrams.Datagrams.remove.Goals as goal

pub returns-clause-removed : goal.returns-clause-removed
returns-clause-removed c =
    let place : c.remove-place.result ≡ get_or c.args.self.now.places.items c.args.at 0 = c.remove-place.ensures.value ∙ by_default c.args.self.now.places.items c.args.at c.remove-place.result 0 c.requires.within in
    let left : c.remove.new.self.items ≡ remove c.args.self.now.pending.items c.remove-place.result = search rules in
    rw (left, place) (ap (λ pending. record { pending = pending; given_up = c.args.self.now.given_up }) (map-remove (λ one. one.value) c.args.self.now.pending.items (get_or c.args.self.now.places.items c.args.at 0)))

pub returns-clause-index : goal.returns-clause-index
returns-clause-index c =
    let place : c.remove-place.result ≡ get_or c.args.self.now.places.items c.args.at 0 = c.remove-place.ensures.value ∙ by_default c.args.self.now.places.items c.args.at c.remove-place.result 0 c.requires.within in
    let left : c.remove.new.self.items ≡ remove c.args.self.now.pending.items c.remove-place.result = search rules in
    let lowered : c.lower.new.places ≡ map (place_without c.remove-place.result) (remove c.args.self.now.places.items c.args.at) = search rules in
    let all : take c.remove-place.new.self.len (c.lower.new.places ++ drop (length c.lower.new.places) c.remove-place.new.self.items) ≡ c.lower.new.places = whole_again c.remove-place.new.self.len c.lower.new.places c.remove-place.new.self.items (search rules) (search rules) in
    removed_index c.args.self.now.places.items _ (pending_in c.args.self.now) _ c.args.at c.remove-place.result c.requires.index c.requires.within place (all ∙ lowered) (ap (map (λ one. one.value)) left ∙ map-remove (λ one. one.value) c.args.self.now.pending.items c.remove-place.result)
