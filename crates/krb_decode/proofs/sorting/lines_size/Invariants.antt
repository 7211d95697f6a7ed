use Rattle.std.proofs.Common.{◌≡◌, ◌-◌, ◌≤◌, true, false, length, take}
use Rattle.krb_decode.specs.inner.Sorter.{are_of_messages, within_after}
use Rattle.krb_decode.proofs.sorting.lines_size.Given as goal

-- the lines so far
abbrev pub invariant-lines : goal.invariant-lines
invariant-lines l = record {
  within : l.size ≤ length l.text;
  of_messages : are_of_messages true (take l.size l.text) ≡ true;
  ended : l.has_ended ≡ true → within_after true (take l.size l.text) ≡ false;
}

abbrev pub decreases-lines : goal.decreases-lines
decreases-lines l = length l.text - l.size
