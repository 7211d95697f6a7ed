use Rattle.std.proofs.Common.{◌≡◌, ℕ, ◌<◌, map, get_or, refl, ap, ◌∙◌, arith}
use Rattle.std.proofs.lemmas.List.FromFn.{get_or-map-range_with_len}
use Rattle.std.specs.List.{range_with_len}
use Rattle.krb_input.specs.Base64.{character_value}
use Rattle.krb_input.specs.inner.Fours.{value_or_none}
use Rattle.krb_input.specs.declared.base64.TheConstants.{VALUES}
use Rattle.krb_input.proofs.Fours.{is_small}
use Rattle.krb_input.proofs.base64.value_or_none.Goals as goal

-- what the table says of each octet
table_is : VALUES ≡ map (λ octet. value_or_none (character_value octet)) (range_with_len 0 256)
table_is = refl

read : (octet : ℕ) → octet < 256 → get_or VALUES octet 0 ≡ value_or_none (character_value octet)
read octet h = ap (λ table. get_or table octet 0) table_is ∙ get_or-map-range_with_len (λ octet. value_or_none (character_value octet)) 0 256 octet octet 0 h (omega arith)

pub returns-clause-value : goal.returns-clause-value
returns-clause-value c = rw c.from.ensures (read c.args.octet (omega arith))

pub returns-clause-small : goal.returns-clause-small
returns-clause-small c = is_small c.args.octet
