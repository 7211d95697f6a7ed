use Rattle.std.proofs.Common.{[], map, string_bytes}
use Rattle.krb_fields.specs.Names.{listing_names}
use Rattle.krb_fields.proofs.Once.{step_of}
use Rattle.krb_fields.proofs.all.all_names.Goals as goal

pub loop-listing-preserved : goal.loop-listing-preserved
loop-listing-preserved c =
    step_of (map string_bytes c.put_listing.new.names.items) (map string_bytes c.loop-listing.names.items) [] listing_names c.args.listings.now c.loop-listing.listing-index _ c.loop-listing-test.true c.loop-listing.invariant c.in_ok-put_listing.ensures
