use Rattle.std.proofs.Common.{◌≡◌, ℕ, ◌<◌, false, map, get_or, refl, ap, ◌∙◌, arith}
use Rattle.std.proofs.lemmas.List.FromFn.{get_or-map-range_with_len}
use Rattle.std.specs.List.{range_with_len}
use Rattle.krb_record.specs.Text.{is_plain}
use Rattle.krb_record.specs.declared.escape.TheConstants.{PLAIN}
use Rattle.krb_record.proofs.escape.is_plain.Goals as goal

-- what the table says of each octet
table_is : PLAIN ≡ map is_plain (range_with_len 0 256)
table_is = refl

read : (octet : ℕ) → octet < 256 → get_or PLAIN octet false ≡ is_plain octet
read octet h = ap (λ table. get_or table octet false) table_is ∙ get_or-map-range_with_len is_plain 0 256 octet octet false h (omega arith)

pub returns : goal.returns
returns c = rw c.from.ensures (read c.args.octet (omega arith))
