use Rattle.std.proofs.Common.{◌∙◌, [], ap, map}
use Rattle.std.specs.List.{filter, list_all}
use Rattle.krb_fields.specs.Names.{has, kind_text, with_all}
use Rattle.krb_fields.specs.Table.{records}
use Rattle.krb_fields.proofs.Once.{step_of}
use Rattle.krb_fields.proofs.having.kinds_with.Goals as goal

pub loop-listing-preserved : goal.loop-listing-preserved
loop-listing-preserved c =
    step_of (map (λ kind. kind.now) c.put_kinds.new.kinds.items) (map (λ kind. kind.now) c.loop-listing.kinds.items) []
    (λ listing. map kind_text (filter (λ s. list_all (has s) c.args.names.now) (records listing))) c.args.listings.now c.loop-listing.listing-index _ c.loop-listing-test.true c.loop-listing.invariant
    (c.in_ok-put_kinds.ensures ∙ ap (λ shapes. with_all (map (λ kind. kind.now) c.loop-listing.kinds.items) (map kind_text (filter (λ s. list_all (has s) c.args.names.now) shapes))) c.records.ensures)
