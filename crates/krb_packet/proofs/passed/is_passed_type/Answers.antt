use Rattle.std.proofs.Common.{◌≡◌, true, false, refl, arith}
use Rattle.std.specs.Prelude.{nat_lt}
use Rattle.std.proofs.lemmas.Bool.Decides.{nat_tests}
use Rattle.krb_packet.specs.Passed.{is_passed_type}
use Rattle.krb_packet.proofs.passed.is_passed_type.Goals as goal

pub returns-else-kind-lt-LEAST_TYPE : goal.returns-else-kind-lt-LEAST_TYPE
unfolding is_passed_type
returns-else-kind-lt-LEAST_TYPE c = let not_below : nat_lt c.args.kind 0x0600 ≡ false = grind (arith, nat_tests) in rw not_below c.contains.ensures.value

pub returns-then-kind-lt-LEAST_TYPE : goal.returns-then-kind-lt-LEAST_TYPE
unfolding is_passed_type
returns-then-kind-lt-LEAST_TYPE c = let below : nat_lt c.args.kind 0x0600 ≡ true = grind (arith, nat_tests) in rw below refl
