use Rattle.std.proofs.Common.{w64, rules}
use Rattle.std.proofs.lemmas.Int.{to_z-of_z}
use Rattle.std.proofs.lemmas.List.Sorted.{answers_always}
use Rattle.krb_registry.proofs.Searches.{found, not_there}
use Rattle.krb_registry.proofs.lookup.searched.Goals as goal

pub returns-in-Ok : goal.returns-in-Ok
returns-in-Ok c =
    let equal = c.in-Ok.ensures.position (λ row. row.number) (answers_always _ _ _ (λ f a r g called. search rules)) in
    found c.args.number c.args.rows.now c.in-Ok.index _ c.requires c.in-Ok.ensures.bound (rw (to_z-of_z w64 c.args.number c.ranges.number) at equal)

pub returns-in-Err : goal.returns-in-Err
returns-in-Err c =
    let parts = c.in-Err.ensures.position (λ row. row.number) (answers_always _ _ _ (λ f a r g called. search rules)) in
    not_there c.args.number c.args.rows.now c.in-Err.field-0 c.requires (rw (to_z-of_z w64 c.args.number c.ranges.number) at parts)
