use Rattle.std.proofs.Common.{rules, ◌+◌, ◌-◌, ◌*◌, ◌<◌, ◌≤◌, suc, length, arith}
use Rattle.std.proofs.lemmas.Grind.{common_steps}
use Rattle.krb_input.proofs.Rooms.{room, room_positive, room_step, room_fits, small_step}
use Rattle.krb_input.proofs.offset.number_of.Goals as goal

pub loop-rest-init : goal.loop-rest-init
loop-rest-init c = record { reads = search rules; small = room_positive (16 - length c.args.digits.now); within = c.requires.digits }

pub add_digit-number-requires : goal.add_digit-number-requires
add_digit-number-requires c =
    let small : c.loop-rest.number * c.args.base + c.in_ok-value.value < room (suc (16 - length c.loop-rest.rest.now)) =
    room_step c.args.base c.loop-rest.number c.in_ok-value.value (16 - length c.loop-rest.rest.now) c.loop-rest.invariant.small c.requires.base c.if-base-value.false in
    let few : suc (16 - length c.loop-rest.rest.now) ≤ 16 = omega (arith, c.in-len1-up.len_at_least, c.loop-rest.invariant.within) in
    omega (arith, small, room_fits (suc (16 - length c.loop-rest.rest.now)) few)

pub loop-rest-preserved : goal.loop-rest-preserved
loop-rest-preserved c = record {
  reads = grind (arith, common_steps);
  small = rw c.add_digit-number.ensures (small_step c.args.base c.loop-rest.number c.in_ok-value.value (length c.loop-rest.rest.now) _ c.loop-rest.invariant.small c.requires.base c.if-base-value.false (grind (arith, common_steps)) c.loop-rest.invariant.within);
  within = grind (arith, common_steps);
}
