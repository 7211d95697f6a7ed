use Rattle.std.proofs.Common.{◌≡◌, ◌==◌, ◌+◌, length}
use Rattle.std.specs.List.{list_all}
use Rattle.krb_record.specs.Forms.{unnamed_from}
use Rattle.krb_record.proofs.flags.has_unnamed.Given as goal

-- no bit so far is set without a name
abbrev pub invariant-others : goal.invariant-others
invariant-others l =
    (list_all (λ octet. octet == 0) (unnamed_from 0 l.registry l.octets) ≡ list_all (λ octet. octet == 0) (unnamed_from l.k l.registry l.others))
    × (l.k + length l.others ≡ length l.octets)

abbrev pub decreases-others : goal.decreases-others
decreases-others l = length l.others
