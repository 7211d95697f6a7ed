use Rattle.std.proofs.Common.{◌≡◌, ◌++◌, length}
use Rattle.std.specs.List.{flat_map}
use Rattle.krb_record.proofs.principal.put_others.Given as goal

-- the text so far, and that of the components that are left
abbrev pub invariant-others : goal.invariant-others
invariant-others g l =
    l.text ++ flat_map (λ c. l.separator ++ g.F.OctetsForm.text c) (g.C.Components.components l.others)
    ≡ l.initial.text ++ flat_map (λ c. l.separator ++ g.F.OctetsForm.text c) (g.C.Components.components l.initial.others)

abbrev pub decreases-others : goal.decreases-others
decreases-others g l = length (g.C.Components.components l.others)
