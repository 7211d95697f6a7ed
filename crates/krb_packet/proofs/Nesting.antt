-- Fragments in datagrams that were put together, added by a loop.
use Rattle.std.proofs.Common.{◌≡◌, ℕ, suc, ◌+◌, ◌-◌, ◌<◌, ◌≤◌, Option, Some, refl, sym, ap₂, ◌∙◌, arith}
use Rattle.krb_packet.specs.Table.{Table}
use Rattle.krb_packet.specs.Fragments.{after_inner, carried_in, if_completed, inner, inside, step}
use Rattle.krb_packet.specs.declared.contents.Fragment.{Fragment}
use Rattle.krb_packet.specs.declared.fragments.Reassembled.{Reassembled}

pub inside-once : (port most counter : ℕ) (made : Reassembled) (table : Table) (found : Option Fragment) → counter < most → inner (carried_in port made) ≡ found → inside port (most - counter) made table ≡ after_inner (inside port (most - (counter + 1))) made table found
unfolding inside
inside-once port most counter made table found lt is =
    let more : most - counter ≡ suc (most - (counter + 1)) = omega arith in
    rw more (rw is refl)

pub inside-over : (port most counter : ℕ) (made : Reassembled) (table : Table) → most ≤ counter → inside port (most - counter) made table ≡ (Some made, table)
unfolding inside
inside-over port most counter made table over =
    let none : most - counter ≡ 0 = omega arith in
    rw none refl

pub inside-goes-on : (port most counter : ℕ) (made : Reassembled) (table after : Table) (fragment : Fragment) (next : Option Reassembled) → counter < most → inner (carried_in port made) ≡ Some fragment → next ≡ (step table fragment).0 → after ≡ (step table fragment).1 → inside port (most - counter) made table ≡ if_completed (inside port (most - (counter + 1))) next after
inside-goes-on port most counter made table after fragment next lt is next_is after_is =
    inside-once port most counter made table (Some fragment) lt is
    ∙ ap₂ (λ (o : Option Reassembled) (t : Table). if_completed (inside port (most - (counter + 1))) o t) (sym next_is) (sym after_is)
