use Rattle.std.proofs.Common.{◌≡◌, map, take}
use Rattle.krb_fields.specs.Names.{each_once, kinds_with}
use Rattle.krb_fields.proofs.having.kinds_with.Given as goal

-- the kinds of the listings so far
abbrev pub invariant-loop-listing : goal.invariant-loop-listing
invariant-loop-listing l = map (λ kind. kind.now) l.kinds.items ≡ each_once (kinds_with (take l.listing-index l.listings) l.names)
