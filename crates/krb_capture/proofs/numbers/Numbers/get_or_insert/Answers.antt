use Rattle.std.proofs.Common.{◌≡◌, Some, sym, ◌∙◌, ap, subst, arith}
use Rattle.std.specs.BTreeMap.{insert_entry}
use Rattle.std.specs.Map.{keys_of}
use Rattle.std.specs.Prelude.{is_some}
use Rattle.krb_capture.specs.Directions.{flow_cmp}
use Rattle.krb_capture.specs.Numbers.{AreNoted}
use Rattle.krb_capture.proofs.Noted.{noted-set, put-back}
use Rattle.krb_capture.proofs.numbers.Numbers.get_or_insert.Goals as goal

pub invariant_of-self-in-None : goal.invariant_of-self-in-None
invariant_of-self-in-None c =
    noted-set c.self.inside.map.entries c.insert.new.self.entries c.args.flow c.in_ok-old.ensures.updates.2 c.self.inside.recent c.place_of.result (Some (record { flow = c.args.flow; number = c.args.number })) c.self.invariant c.place_of.ensures.value (omega arith)
    (sym c.place_of.ensures.value, c.in_ok-old.ensures.updates.1)

pub invariant_of-self-in_ok-insert-in-Some : goal.invariant_of-self-in_ok-insert-in-Some
invariant_of-self-in_ok-insert-in-Some c =
    let keys = ap (λ es. keys_of es) (sym c.in_ok-old.ensures.entries) ∙ c.in_ok-old.ensures.keys_stay (ap (λ o. is_some o) c.in-Some.is) in
    subst (λ es. AreNoted c.self.inside.recent es)
    (sym (c.in_ok-insert-in-Some.ensures.entries ∙ ap (λ es. insert_entry flow_cmp es c.args.flow c.in-Some.old) c.in_ok-old.ensures.entries ∙ put-back flow_cmp c.args.flow c.args.number c.in-Some.old c.self.inside.map.entries (sym c.in_ok-old.ensures.old ∙ c.in-Some.is) keys))
    c.self.invariant

pub returns-in_ok-insert-in-Some-clause-entries : goal.returns-in_ok-insert-in-Some-clause-entries
returns-in_ok-insert-in-Some-clause-entries c =
    let keys = ap (λ es. keys_of es) (sym c.in_ok-old.ensures.entries) ∙ c.in_ok-old.ensures.keys_stay (ap (λ o. is_some o) c.in-Some.is) in
    let same : c.insert-in-Some.new.self.entries ≡ c.self.inside.map.entries = c.in_ok-insert-in-Some.ensures.entries ∙ ap (λ es. insert_entry flow_cmp es c.args.flow c.in-Some.old) c.in_ok-old.ensures.entries ∙ put-back flow_cmp c.args.flow c.args.number c.in-Some.old c.self.inside.map.entries (sym c.in_ok-old.ensures.old ∙ c.in-Some.is) keys in
    cc (same, ap (λ x. x.entries) c.self.view_is)
