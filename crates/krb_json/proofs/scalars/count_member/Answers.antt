use Rattle.std.proofs.Common.{codes}
use Rattle.json.specs.Value.{value_view}
use Rattle.json.proofs.Numbered.{HasNumbers-get}
use Rattle.krb_json.proofs.ScalarLemmas.{number-member}
use Rattle.krb_json.proofs.scalars.count_member.Goals as goal

pub integer-requires : goal.integer-requires
integer-requires c = HasNumbers-get (codes "length") (value_view c.args.value.now) (value_view c.in-Some.member.now) c.requires c.in-Some.ensures

pub returns : goal.returns
returns c =
    number-member c.args.low c.args.high (codes "length") (value_view c.args.value.now) (value_view c.in-Some.member.now) c.integer.result c.in_field.result c.ranges.low c.ranges.high c.in-Some.ensures c.in_field.ensures c.integer.ensures
