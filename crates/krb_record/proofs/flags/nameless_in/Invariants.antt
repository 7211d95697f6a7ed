use Rattle.std.proofs.Common.{◌≡◌, ◌-◌, length, map}
use Rattle.krb_registry.specs.Rows.{number_and_name}
use Rattle.krb_record.specs.Forms.{named_in}
use Rattle.krb_record.proofs.flags.nameless_in.Given as goal

-- the mask so far, without the bits that are left
abbrev pub invariant-others : goal.invariant-others
invariant-others l = l.mask - named_in l.k (map number_and_name l.others) ≡ 255 - named_in l.k (map number_and_name l.initial.others)

abbrev pub decreases-others : goal.decreases-others
decreases-others l = length l.others
