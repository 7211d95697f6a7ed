use Rattle.std.proofs.Common.{◌≡◌, drop, map}
use Rattle.krb_choice.specs.Wanted.{wanted_by, with_columns}
use Rattle.krb_choice.proofs.choice.wanted_of.Given as goal

-- with the columns that follow it is that with all
abbrev pub invariant-loop-column : goal.invariant-loop-column
invariant-loop-column l = with_columns l.wanted (drop l.column-index l.columns) ≡ wanted_by l.by_kind (map (λ kind. kind.now) l.kinds) l.columns
