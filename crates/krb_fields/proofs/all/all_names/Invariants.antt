use Rattle.std.proofs.Common.{◌≡◌, map, string_bytes, take}
use Rattle.std.specs.List.{flat_map}
use Rattle.krb_fields.specs.Names.{each_once, listing_names}
use Rattle.krb_fields.proofs.all.all_names.Given as goal

-- the names of the listings so far are there
abbrev pub invariant-loop-listing : goal.invariant-loop-listing
invariant-loop-listing l = map string_bytes l.names.items ≡ each_once (flat_map listing_names (take l.listing-index l.listings))
