use Rattle.std.proofs.Common.{◌≡◌, ◌≤◌, length}
use Rattle.krb_input.specs.Dumps.{groups}
use Rattle.krb_input.specs.Readings.{prepend}
use Rattle.krb_input.proofs.dump.append_groups.Given as goal

abbrev pub invariant-loop-rest : goal.invariant-loop-rest
invariant-loop-rest l = (prepend l.fn.octets.items (groups l.fn.are_words 1 l.fn.text) ≡ prepend l.octets.items (groups l.fn.are_words l.blanks l.rest)) × (l.blanks ≤ l.most) × (l.most ≤ 2)

abbrev pub decreases-loop-rest : goal.decreases-loop-rest
decreases-loop-rest l = length l.rest
