use Rattle.std.proofs.Common.{◌≡◌, ◌++◌, length}
use Rattle.krb_record.specs.Text.{hex}
use Rattle.krb_record.proofs.escape.put_hex.Given as goal

-- the text so far, and that of the octets that are left
abbrev pub invariant-others : goal.invariant-others
invariant-others l = l.line ++ hex l.others ≡ l.initial.line ++ hex l.initial.others

abbrev pub decreases-others : goal.decreases-others
decreases-others l = length l.others
