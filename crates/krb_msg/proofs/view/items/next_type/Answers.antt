use Rattle.std.proofs.Common.{◌<◌, length, refl, ◌∙◌, rules, w64, FitsSigned}
use Rattle.std.proofs.lemmas.Int.{to_z-of_z}
use Rattle.krb_msg.specs.Grammar.{pa_data, int32}
use Rattle.krb_msg.specs.Term.{Tagged}
use Rattle.krb_msg.proofs.ItemViews.{no_items, are_items, first_field_none, first_field_some}
use Rattle.krb_msg.proofs.view.items.next_type.Goals as goal

pub unreachable-requires : goal.unreachable-requires
unreachable-requires c =
    let some : 0 < length c.args.items.octets.now = search rules in
    no_items pa_data 0x30 c.args.items.octets.now refl some c.in_default.ensures (are_items pa_data c.args.items.octets.now c.requires)

pub unreachable-requires-in_default-view_field : goal.unreachable-requires-in_default-view_field
unreachable-requires-in_default-view_field c =
    first_field_none (Tagged 1 int32) _ c.args.items.octets.now c.in-Some.inner.now c.in-Some.rest.now c.requires c.in-Some.ensures c.in_default-view_field.ensures

pub returns : goal.returns
returns c =
    let fits : FitsSigned w64 c.view_field.new.seen = search rules in
    let s = first_field_some (Tagged 1 int32) _ c.args.items.octets.now c.in-Some.inner.now c.in-Some.rest.now _ c.view_field.new.seen refl refl c.requires c.in-Some.ensures c.in-Some-view_field.ensures.0 in
    record { value = s.0; first = s.1; same = to_z-of_z w64 c.view_field.new.seen fits ∙ s.2 }
