use Rattle.std.proofs.Common.{◌∙◌, [], ap, if◌then◌else◌, map, string_bytes, sym}
use Rattle.std.proofs.lemmas.List.{map-id}
use Rattle.std.specs.List.{flat_map}
use Rattle.krb_fields.specs.Fields.{field_of}
use Rattle.krb_fields.specs.Names.{field_names, inside_names, inside_of, shape_names, with_all}
use Rattle.krb_fields.specs.Table.{inside, origin, records}
use Rattle.krb_fields.proofs.Once.{with_lists}
use Rattle.krb_fields.proofs.all.put_listing.Goals as goal

pub returns-in_ok-put_inside : goal.returns-in_ok-put_inside
returns-in_ok-put_inside c =
    with_lists (map string_bytes c.args.names.now.items) (map string_bytes c.put_members.new.names.items) (map string_bytes c.put_records.new.names.items) (map string_bytes c.put_inside.new.names.items)
    (field_names (origin c.args.listing)) (flat_map shape_names (records c.args.listing)) (flat_map inside_names (inside_of c.args.listing))
    (c.in_ok-put_members.ensures ∙ ap (with_all (map string_bytes c.args.names.now.items)) (map-id (field_names (map field_of c.origin.result.now)) ∙ ap field_names c.origin.ensures))
    c.in_ok-put_records.ensures
    (c.in_ok-put_inside.ensures ∙ ap (λ shows. with_all (map string_bytes c.put_records.new.names.items) (flat_map inside_names (if shows then inside else []))) (sym c.if-shows_inside.true ∙ c.shows_inside.ensures))

pub returns-else-shows_inside : goal.returns-else-shows_inside
returns-else-shows_inside c =
    with_lists (map string_bytes c.args.names.now.items) (map string_bytes c.put_members.new.names.items) (map string_bytes c.put_records.new.names.items) (map string_bytes c.put_records.new.names.items)
    (field_names (origin c.args.listing)) (flat_map shape_names (records c.args.listing)) (flat_map inside_names (inside_of c.args.listing))
    (c.in_ok-put_members.ensures ∙ ap (with_all (map string_bytes c.args.names.now.items)) (map-id (field_names (map field_of c.origin.result.now)) ∙ ap field_names c.origin.ensures))
    c.in_ok-put_records.ensures
    (ap (λ shows. with_all (map string_bytes c.put_records.new.names.items) (flat_map inside_names (if shows then inside else []))) (sym c.if-shows_inside.false ∙ c.shows_inside.ensures))
