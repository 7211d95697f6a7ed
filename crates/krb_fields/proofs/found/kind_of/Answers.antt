use Rattle.std.proofs.Common.{◌∙◌, sym}
use Rattle.std.specs.Str.{bytes_eq}
use Rattle.krb_fields.specs.Names.{is_among, listing_kinds}
use Rattle.krb_fields.proofs.Anys.{any_flat_map, known_at, known_none}
use Rattle.krb_fields.proofs.found.kind_of.Goals as goal

pub returns-in-Some-clause-known : goal.returns-in-Some-clause-known
returns-in-Some-clause-known c =
    known_at (λ listing. is_among c.args.word.now (listing_kinds listing)) c.args.listings.now c.loop-listing.listing-index _ c.loop-listing-test.true (sym c.in-Some.ensures.known)
    ∙ sym (any_flat_map (bytes_eq c.args.word.now) listing_kinds c.args.listings.now)

pub returns-clause-known : goal.returns-clause-known
returns-clause-known c =
    known_none (λ listing. is_among c.args.word.now (listing_kinds listing)) c.args.listings.now c.loop-listing.listing-index c.loop-listing-test.false c.loop-listing.invariant
    ∙ sym (any_flat_map (bytes_eq c.args.word.now) listing_kinds c.args.listings.now)
