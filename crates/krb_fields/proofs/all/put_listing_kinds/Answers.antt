use Rattle.std.proofs.Common.{◌∙◌, [], ap, ap₂, if◌then◌else◌, map, string_bytes, sym}
use Rattle.krb_fields.specs.Names.{inside_of, kind_text, with_all}
use Rattle.krb_fields.specs.Table.{inside, records}
use Rattle.krb_fields.proofs.Once.{with_all-append}
use Rattle.krb_fields.proofs.all.put_listing_kinds.Goals as goal

pub returns-in_ok-put_kinds-2 : goal.returns-in_ok-put_kinds-2
returns-in_ok-put_kinds-2 c =
    c.in_ok-put_kinds-2.ensures
    ∙ ap₂ (λ texts shapes. with_all texts (map kind_text shapes))
    (c.in_ok-put_kinds.ensures ∙ ap (λ shapes. with_all (map string_bytes c.args.kinds.now.items) (map kind_text shapes)) c.records.ensures)
    (c.inside.ensures ∙ ap (λ shows. if shows then inside else []) (sym c.if-shows_inside.true ∙ c.shows_inside.ensures))
    ∙ sym (with_all-append (map string_bytes c.args.kinds.now.items) (map kind_text (records c.args.listing)) (map kind_text (inside_of c.args.listing)))
