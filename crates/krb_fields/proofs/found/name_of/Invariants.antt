use Rattle.std.proofs.Common.{◌≡◌, false, take}
use Rattle.std.specs.List.{list_any}
use Rattle.krb_fields.specs.Names.{is_among, listing_names}
use Rattle.krb_fields.proofs.found.name_of.Given as goal

-- the word is no name of the listings so far
abbrev pub invariant-loop-listing : goal.invariant-loop-listing
invariant-loop-listing l = list_any (λ listing. is_among l.word (listing_names listing)) (take l.listing-index l.listings) ≡ false
