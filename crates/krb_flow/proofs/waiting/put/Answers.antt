use Rattle.std.proofs.Common.{◌≡◌, ℕ, ◌+◌, ◌++◌, Option, Result, Ok, Err, length, sym, ap, subst, ◌∙◌, arith}
use Rattle.std.specs.Prelude.{OnOk}
use Rattle.std.specs.Global.{Vec}
use Rattle.std.specs.Option.{unwrap_or}
use Rattle.std.specs.Ordering.{nat_cmp}
use Rattle.std.specs.BTreeMap.{insert_entry}
use Rattle.krb_flow.specs.inner.Runs.{Runs, AreApart, waiting_in}
use Rattle.krb_flow.proofs.Runs.{IsPut, put_among, put_in}
use Rattle.krb_flow.proofs.waiting.put.Goals as goal
use Rattle.krb_flow.proofs.waiting.put.Goals.{In_ok-extend_from_slice}

same : (c : In_ok-extend_from_slice) → insert_entry nat_cmp c.remove.new.self.entries (c.args.place + length c.args.octets.now) c.extend_from_slice.new.self ≡ put_among c.args.place (length c.args.octets.now) c.args.runs.now.entries c.extend_from_slice.new.self
same c = ap (λ (runs : Runs). insert_entry nat_cmp runs (c.args.place + length c.args.octets.now) c.extend_from_slice.new.self) c.remove.ensures.entries

is_put : (c : In_ok-extend_from_slice) → IsPut 0 c.args.place c.args.octets.now (waiting_in c.args.runs.now.entries) (put_among c.args.place (length c.args.octets.now) c.args.runs.now.entries c.extend_from_slice.new.self)
is_put c =
    put_in 0 c.args.place c.args.octets.now c.args.runs.now.entries c.extend_from_slice.new.self c.new.result c.requires.some c.new.ensures.items
    (c.in_ok-extend_from_slice.ensures.items
    ∙ ap (λ (run : Vec ℕ). run.items ++ c.args.octets.now) (c.unwrap_or-run.ensures ∙ ap (λ (o : Option (Vec ℕ)). unwrap_or o c.new.result) c.remove.ensures.value))
    (omega arith) c.requires.fits c.requires.apart c.requires.free

on_ok : {T E : Type 0} (r : Result T E) {P Q : Type 0} → (P → Q) → OnOk r P → OnOk r Q
on_ok (Ok x) f p = f p
on_ok (Err e) f p = p

pub insert_run-requires : goal.insert_run-requires
insert_run-requires c = let put = (goal.at.insert_run-requires c).In_ok-extend_from_slice in subst (AreApart 0) (sym (same put)) (is_put put).apart

pub returns-clause-kept : goal.returns-clause-kept
returns-clause-kept c =
    let put = (goal.at.returns-clause-kept c).In_ok-extend_from_slice in
    on_ok c.insert_run.result (λ (is : waiting_in c.insert_run.new.runs.entries ≡ waiting_in (insert_entry nat_cmp c.remove.new.self.entries (c.args.place + length c.args.octets.now) c.extend_from_slice.new.self)). is ∙ ap waiting_in (same put) ∙ (is_put put).kept) c.insert_run.ensures.same

pub returns-clause-count : goal.returns-clause-count
returns-clause-count c =
    let put = (goal.at.returns-clause-count c).In_ok-extend_from_slice in
    on_ok c.insert_run.result (λ (is : waiting_in c.insert_run.new.runs.entries ≡ waiting_in (insert_entry nat_cmp c.remove.new.self.entries (c.args.place + length c.args.octets.now) c.extend_from_slice.new.self)). ap length (is ∙ ap waiting_in (same put)) ∙ (is_put put).count) c.insert_run.ensures.same
