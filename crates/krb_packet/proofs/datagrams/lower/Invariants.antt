use Rattle.std.proofs.Common.{◌≡◌, ℕ, ◌<◌, ◌≤◌, length, get_or}
use Rattle.krb_packet.specs.inner.Places.{place_without}
use Rattle.krb_packet.proofs.datagrams.lower.Given as goal

abbrev pub invariant-loop-place : goal.invariant-loop-place
invariant-loop-place l = record {
  size : length l.places ≡ length l.initial.places;
  lowered : (k : ℕ) → k < l.place-index → get_or l.places k 0 ≡ place_without l.removed (get_or l.initial.places k 0);
  same : (k : ℕ) → l.place-index ≤ k → get_or l.places k 0 ≡ get_or l.initial.places k 0;
}
