use Rattle.std.proofs.Common.{ap, arith, ◌∙◌}
use Rattle.std.specs.List.{list_all}
use Rattle.krb_record.specs.inner.Strings.{is_plain_in}
use Rattle.krb_record.proofs.Lanes.{ends_plain}
use Rattle.krb_record.proofs.escape.are_plain.Goals as goal

pub returns-in-4-to-7 : goal.returns-in-4-to-7
returns-in-4-to-7 c = c.are_all_plain.ensures ∙ ap (list_all (is_plain_in c.args.in_json)) c.first_and_last_four.ensures ∙ ends_plain (is_plain_in c.args.in_json) 4 c.args.octets.now (omega (arith, c.in-4-to-7)) (omega (arith, c.in-4-to-7))

pub returns-in-8-to-15 : goal.returns-in-8-to-15
returns-in-8-to-15 c = c.are_all_plain-in-8-to-15.ensures ∙ ap (list_all (is_plain_in c.args.in_json)) c.first_and_last_eight.ensures ∙ ends_plain (is_plain_in c.args.in_json) 8 c.args.octets.now (omega (arith, c.in-8-to-15)) (omega (arith, c.in-8-to-15))
