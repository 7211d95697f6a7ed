use Rattle.std.proofs.Common.{◌≡◌, length}
use Rattle.krb_input.specs.Dumps.{dump, dump_from}
use Rattle.krb_input.specs.Readings.{prepend}
use Rattle.krb_input.specs.inner.Results.{lines_of, size_of}
use Rattle.krb_input.proofs.dump.read_dump.Given as goal

abbrev pub invariant-loop-rest : goal.invariant-loop-rest
invariant-loop-rest l = dump l.fn.text ≡ prepend l.octets.items (dump_from (length l.octets.items) (lines_of l.rest))

abbrev pub decreases-loop-rest : goal.decreases-loop-rest
decreases-loop-rest l = size_of l.rest
