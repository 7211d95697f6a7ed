use Rattle.std.proofs.Common.{◌+◌, drop, slice_index_or, arith}
use Rattle.std.proofs.lemmas.List.{drop_more}
use Rattle.krb_items.proofs.Numbers.{numbers-wide}
use Rattle.krb_items.proofs.identifier.numbers_in.Goals as goal

pub returns-in_default : goal.returns-in_default
returns-in_default c =
    numbers-wide c.args.octets.now (drop c.octets.octet-index c.args.octets.now) c.octets.numbers.items c.octets.part (slice_index_or c.args.octets.now c.octets.octet-index 0) (drop (c.octets.octet-index + 1) c.args.octets.now)
    c.octets.invariant.1 (drop_more c.args.octets.now c.octets.octet-index 0 c.octets-test.true) (omega arith) c.octets.invariant.2
