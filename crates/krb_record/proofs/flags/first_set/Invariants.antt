use Rattle.std.proofs.Common.{◌≡◌, true, length, map}
use Rattle.krb_registry.specs.Rows.{number_and_name}
use Rattle.krb_record.specs.inner.Flags.{are_plain, names_set}
use Rattle.krb_record.proofs.flags.first_set.Given as goal

-- no bit of the rows so far is set
abbrev pub invariant-others : goal.invariant-others
invariant-others l =
    (are_plain (map number_and_name l.others) ≡ true)
    × (names_set l.octets (map number_and_name l.initial.others) ≡ names_set l.octets (map number_and_name l.others))

abbrev pub decreases-others : goal.decreases-others
decreases-others l = length l.others
