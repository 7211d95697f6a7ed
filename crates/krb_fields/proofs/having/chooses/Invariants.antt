use Rattle.std.proofs.Common.{◌≡◌, ◌&&◌, not, take}
use Rattle.std.specs.List.{list_any}
use Rattle.std.specs.Str.{bytes_eq}
use Rattle.std.specs.Prelude.{codes}
use Rattle.krb_fields.specs.Names.{has_member}
use Rattle.krb_fields.specs.Table.{origin}
use Rattle.krb_fields.proofs.having.chooses.Given as goal

-- the listings so far
abbrev pub invariant-loop-listing : goal.invariant-loop-listing
invariant-loop-listing l = l.is_other ≡ (not (bytes_eq l.name.field.now (codes "kind")) && not (list_any (λ listing. has_member (origin listing) l.name) (take l.listing-index l.listings)))
