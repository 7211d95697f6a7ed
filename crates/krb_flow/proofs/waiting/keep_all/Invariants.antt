use Rattle.std.proofs.Common.{◌≡◌, ◌+◌, ◌≤◌, length}
use Rattle.krb_flow.specs.Waiting.{keep}
use Rattle.krb_flow.specs.inner.Runs.{AreApart, waiting_in}
use Rattle.krb_flow.proofs.waiting.keep_all.Given as goal

abbrev pub invariant-loop-octets : goal.invariant-loop-octets
invariant-loop-octets l = record {
  kept : keep l.place l.octets (waiting_in l.runs.entries) ≡ keep l.fn.place l.fn.octets (waiting_in l.initial.runs.entries);
  all : l.place + length l.octets ≡ l.fn.place + length l.fn.octets;
  few : l.fn.place + l.count ≤ l.place;
  counted : length (waiting_in l.runs.entries) ≡ length (waiting_in l.initial.runs.entries) + l.count;
  apart : AreApart 0 l.runs.entries;
}

abbrev pub decreases-loop-octets : goal.decreases-loop-octets
decreases-loop-octets l = length l.octets
