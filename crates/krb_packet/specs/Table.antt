-- The datagrams of which fragments came.
use Rattle.std.specs.Prelude.{ℕ, List, map}
use Rattle.krb_packet.specs.declared.datagrams.Datagrams.{Datagrams}
use Rattle.krb_packet.specs.declared.fragments.Pending.{Pending}

-- The datagrams that are kept, in the order in which they began; and the number of fragments of those that were given up.
pub record Table : Type 0 where
  pub pending : List Pending
  pub given_up : ℕ

-- the datagrams, in the order in which they began
abbrev pub pending_in : Datagrams → List Pending
pending_in datagrams = map (λ one. one.value) datagrams.pending.items

abbrev pub table_of : Datagrams → Table
table_of datagrams = record { pending = pending_in datagrams; given_up = datagrams.given_up }
