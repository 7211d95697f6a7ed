use Rattle.std.proofs.Common.{◌≡◌, None, length, refl, arith, ap, ◌∙◌}
use Rattle.std.proofs.lemmas.Bool.{lt-ltb}
use Rattle.krb_record.specs.Refusals.{known_path}
use Rattle.krb_tool.specs.Paths.{refused_path}
use Rattle.krb_tool.proofs.FaultPaths.{short_path}
use Rattle.krb_tool.proofs.fault_path.refused_path.Goals as goal

pub returns-then-octets-gt-MOST_OCTETS-clause-path : goal.returns-then-octets-gt-MOST_OCTETS-clause-path
unfolding refused_path
returns-then-octets-gt-MOST_OCTETS-clause-path c =
    let none : None ≡ refused_path c.args.profile c.args.octets.now c.args.refusal = rw (lt-ltb 2147483647 (length c.args.octets.now) (omega arith)) refl in
    ap (known_path c.args.form) none

pub returns-clause-path : goal.returns-clause-path
returns-clause-path c =
    c.in_ok-shown_path.ensures ∙ ap (known_path c.args.form) (short_path c.args.profile c.args.octets.now c.args.refusal (length c.args.octets.now) c.min-prefix.result (omega arith) refl c.min-prefix.ensures)
