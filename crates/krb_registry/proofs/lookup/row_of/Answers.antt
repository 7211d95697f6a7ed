use Rattle.std.proofs.Common.{Equal, Some, ap, rules, subst, sym, ◌≡◌, ◌∙◌}
use Rattle.std.proofs.lemmas.Cmp.{int_cmp_total, tied_itself}
use Rattle.std.specs.Ordering.{int_cmp}
use Rattle.krb_registry.proofs.Searches.{found}
use Rattle.krb_registry.proofs.lookup.row_of.Goals as goal

pub returns-in-Some : goal.returns-in-Some
returns-in-Some c =
    let here = c.in-Some.ensures.lookup.3 in
    let equal : c.in-Some.row.now.number ≡ c.args.number = search rules in
    ap Some (here.1 c.in-Some.row.now)
    ∙ found c.args.number c.args.rows.now c.args.place c.in-Some.row.now c.requires here.0 (λ d. subst (λ row. int_cmp row.number c.args.number ≡ Equal) (here.1 d) (subst (λ number. int_cmp number c.args.number ≡ Equal) (sym equal) (tied_itself int_cmp_total c.args.number)))
