use Rattle.std.proofs.Common.{◌≡◌, ◌+◌, ◌++◌, length}
use Rattle.krb_flow.specs.Waiting.{early, ready}
use Rattle.krb_flow.specs.inner.Runs.{AreApart, waiting_in}
use Rattle.krb_flow.proofs.waiting.Runs.release.Given as goal

abbrev pub invariant-loop-end : goal.invariant-loop-end
invariant-loop-end l = record {
  ready : l.released.items ++ ready (l.expected + length l.released.items) (waiting_in l.self-inside.runs.entries) ≡ ready l.expected l.fn.self;
  early : early (l.expected + length l.released.items) (waiting_in l.self-inside.runs.entries) ≡ early l.expected l.fn.self;
  counted : l.self-inside.octets ≡ length (waiting_in l.self-inside.runs.entries);
  apart : AreApart 0 l.self-inside.runs.entries;
}

abbrev pub decreases-loop-end : goal.decreases-loop-end
decreases-loop-end l = length l.self-inside.runs.entries
