use Rattle.std.proofs.Common.{◌-◌, List, ℕ, take, drop, length, get_or, arith}
use Rattle.krb_der.specs.inner.Numbers.{AreOctets-slice}
use Rattle.krb_msg.proofs.Lengths.{two_first}
use Rattle.krb_judge.proofs.Firsts.{no_head, head_found, head_overrun}
use Rattle.krb_judge.proofs.locating.head.read_head.Goals as goal
use Rattle.krb_judge.proofs.locating.head.read_head.Goals.{else-size-room-via-then-size-room+else-header-room, else-size-room-via-else-size-room}

after : List ℕ → List ℕ
after octets = take (length octets - 2) (drop 2 octets)

pub returns-in_default-first_length-clause-head : goal.returns-in_default-first_length-clause-head
unfolding after
returns-in_default-first_length-clause-head c =
    no_head c.args.room c.args.octets.now (after c.args.octets.now) (get_or c.args.octets.now 0 0) (get_or c.args.octets.now 1 0) (AreOctets-slice c.args.octets.now c.type_inv.octets) c.requires
    (two_first c.args.octets.now c.in-len2-up.len_at_least) c.in_default-first_length.ensures

pub returns-then-header-room-clause-head : goal.returns-then-header-room-clause-head
unfolding after
returns-then-header-room-clause-head c =
    head_found c.args.room c.args.octets.now (after c.args.octets.now) c.in-Some.contents.now (get_or c.args.octets.now 0 0) (get_or c.args.octets.now 1 0) c.in-Some.size c.requires
    (two_first c.args.octets.now c.in-len2-up.len_at_least) c.in-Some.ensures (omega (arith, c.if-size-room.true)) (omega (arith, c.if-header-room.true))

pub returns-else-size-room-clause-head : goal.returns-else-size-room-clause-head
unfolding after
returns-else-size-room-clause-head c =
    head_overrun c.args.room c.args.octets.now (after c.args.octets.now) c.in-Some.contents.now (get_or c.args.octets.now 0 0) (get_or c.args.octets.now 1 0) c.in-Some.size (AreOctets-slice c.args.octets.now c.type_inv.octets)
    (two_first c.args.octets.now c.in-len2-up.len_at_least) c.in-Some.ensures
    (elim c.else-size-room.branch [ else-size-room-via-then-size-room+else-header-room w ↦ omega (arith, w.if-size-room.true, w.if-header-room.false) | else-size-room-via-else-size-room w ↦ omega (arith, w.if-size-room.false) ])
