use Rattle.std.proofs.Common.{◌+◌, ◌<◌, ◌≤◌, sym, arith}
use Rattle.std.proofs.lemmas.Bool.Decides.{nat_tests}
use Rattle.krb_input.specs.Base64.{character_value}
use Rattle.krb_input.specs.inner.Fours.{value_or_none}
use Rattle.krb_input.proofs.Fours.{four_known, four_unknown}
use Rattle.krb_input.proofs.base64.octets_of_four.Goals as goal

pub returns-then-from-lt255 : goal.returns-then-from-lt255
returns-then-from-lt255 c =
    let less : value_or_none (character_value c.args.first) + value_or_none (character_value c.args.second) + value_or_none (character_value c.args.third) + value_or_none (character_value c.args.fourth) < 255 =
    grind (arith, nat_tests, c.value_or_none-a.ensures.value, c.value_or_none-b.ensures.value, c.value_or_none-c.ensures.value, c.value_or_none-d.ensures.value, c.from.ensures, c.from-2.ensures, c.from-3.ensures, c.from-4.ensures, c.if-from-lt255.true) in
    rw (c.value_or_none-a.ensures.value, c.value_or_none-b.ensures.value, c.value_or_none-c.ensures.value, c.value_or_none-d.ensures.value)
    (sym (four_known (character_value c.args.first) (character_value c.args.second) (character_value c.args.third) (character_value c.args.fourth) less))

pub returns-else-from-lt255 : goal.returns-else-from-lt255
returns-else-from-lt255 c =
    let most : 255 ≤ value_or_none (character_value c.args.first) + value_or_none (character_value c.args.second) + value_or_none (character_value c.args.third) + value_or_none (character_value c.args.fourth) =
    grind (arith, nat_tests, c.value_or_none-a.ensures.value, c.value_or_none-b.ensures.value, c.value_or_none-c.ensures.value, c.value_or_none-d.ensures.value, c.from.ensures, c.from-2.ensures, c.from-3.ensures, c.from-4.ensures, c.if-from-lt255.false) in
    sym (four_unknown (character_value c.args.first) (character_value c.args.second) (character_value c.args.third) (character_value c.args.fourth)
    c.value_or_none-a.ensures.small c.value_or_none-b.ensures.small c.value_or_none-c.ensures.small c.value_or_none-d.ensures.small most)
