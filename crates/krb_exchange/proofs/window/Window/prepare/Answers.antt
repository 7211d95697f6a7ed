use Rattle.std.proofs.Common.{◌≡◌, ◌+◌, ◌<◌, ◌^◌, arith, List, length, Result, Ok, Err, OnErr, ap, sym, subst}
use Rattle.krb_exchange.specs.declared.sending.Sending.{Sending}
use Rattle.krb_exchange.specs.declared.window.Window.{Window}
use Rattle.krb_exchange.specs.inner.Indexes.{Indexes}
use Rattle.krb_exchange.proofs.Keeping.{prepared}
use Rattle.krb_exchange.proofs.Keys.{on-ok}
use Rattle.krb_exchange.proofs.window.Window.prepare.Goals as goal
use Rattle.krb_exchange.proofs.window.Window.prepare.Goals.{After-add}

on-fault : {A E P Q : Type 0} (r : Result A E) → (P → Q) → OnErr r P → OnErr r Q
on-fault (Ok x) f p = tt
on-fault (Err e) f p = f p

-- it is numbered after those that are kept
numbered_after : (c : After-add) → c.reserve.new.self.gone + c.len.result ≡ c.args.self.now.gone + length c.args.self.now.sendings.items
numbered_after c =
    let items : length c.reserve.new.self.sendings.items ≡ length c.args.self.now.sendings.items = ap (λ (xs : List Sending). length xs) c.reserve.ensures.items in
    omega (arith, c.len.ensures, c.reserve.ensures.gone, items)

kept : (c : After-add) → Indexes c.reserve.new.self.index c.args.self.now.gone c.args.self.now.sendings.items
kept c = subst (λ i. Indexes i c.args.self.now.gone c.args.self.now.sendings.items) (sym c.reserve.ensures.index) c.requires.keeps.indexes

pub returns-clause-ahead : goal.returns-clause-ahead
returns-clause-ahead c = on-ok c.add.result (λ adds.
    let e = c.reserve.ensures in
    let old = c.args.self.now in
    let new : Window = record { sendings = c.reserve.new.self.sendings; gone = c.reserve.new.self.gone; index = c.add.new.self } in
    let at : old.gone + length old.sendings.items + 1 < 2 ^ 64 = omega (arith, numbered_after c, c.if-number.false, c.requires.keeps.numbers) in
    prepared old new c.args.sending.now e.items e.gone (adds old.gone old.sendings.items (kept c) (numbered_after c) c.requires.opens) at c.requires.keeps) c.add.ensures.added

pub returns-clause-keeps : goal.returns-clause-keeps
returns-clause-keeps c = on-fault c.add.result (λ same.
    let e = c.reserve.ensures in
    let old = c.args.self.now in
    let items : length c.reserve.new.self.sendings.items ≡ length old.sendings.items = ap (λ (xs : List Sending). length xs) e.items in
    record {
      indexes = subst (λ n. Indexes c.add.new.self n c.reserve.new.self.sendings.items) (sym e.gone) (subst (λ xs. Indexes c.add.new.self old.gone xs) (sym e.items) (same old.gone old.sendings.items (kept c) (numbered_after c)));
      few = omega (arith, items, c.requires.keeps.few);
      numbers = omega (arith, items, e.gone, c.requires.keeps.numbers);
    }) c.add.ensures.same
