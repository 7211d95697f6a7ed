use Rattle.std.proofs.Common.{◌≡◌, ◌+◌, ◌++◌, length}
use Rattle.krb_record.specs.Forms.{unnamed_from}
use Rattle.krb_record.specs.Text.{hex}
use Rattle.krb_record.proofs.flags.put_unnamed.Given as goal

-- the text so far, and that of the octets that are left
abbrev pub invariant-others : goal.invariant-others
invariant-others l =
    (l.text ++ hex (unnamed_from l.k l.registry l.others) ≡ l.initial.text ++ hex (unnamed_from 0 l.registry l.octets))
    × (l.k + length l.others ≡ length l.octets)

abbrev pub decreases-others : goal.decreases-others
decreases-others l = length l.others
