use Rattle.std.proofs.Common.{pos, subst, sym, w64, FitsSigned, rules}
use Rattle.std.specs.Prelude.{◌≤ℤ◌}
use Rattle.std.proofs.lemmas.Int.{to_z-of_z}
use Rattle.krb_msg.proofs.FieldViews.{integer_kept, integer_none}
use Rattle.krb_msg.proofs.view.scalars.MicrosView.view_into.Goals as goal

pub returns-in-None : goal.returns-in-None
returns-in-None c = integer_none _ _ c.args.contents.now c.in-None.ensures

pub returns-in-Some : goal.returns-in-Some
returns-in-Some c =
    let fits : FitsSigned w64 c.in-Some.found = search rules in
    (integer_kept _ _ c.args.contents.now c.in-Some.found fits c.in-Some.ensures, subst (λ number. pos 0 ≤ℤ number) (sym (to_z-of_z w64 c.in-Some.found fits)) c.in-Some.ensures.low_le)
