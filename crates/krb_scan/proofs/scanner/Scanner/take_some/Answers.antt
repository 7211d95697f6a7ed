use Rattle.std.proofs.Common.{◌≡◌, ℕ, List, ◌++◌, take, append-nil, sym, ap, ◌∙◌, subst, length, ◌+◌, arith}
use Rattle.std.proofs.Math.Logic.{∥∥₁_elim}
use Rattle.std.specs.Coded.{le_prop}
use Rattle.krb_der.specs.declared.profile.Profile.{Profile}
use Rattle.krb_scan.specs.Scanned.{Marks}
use Rattle.krb_scan.specs.Machine.{HasMarked}
use Rattle.krb_scan.specs.Scanner.{HasScanned}
use Rattle.krb_scan.proofs.Undecided.{sooner, take_first}
use Rattle.krb_scan.proofs.scanner.Scanner.take_some.Goals as goal

pub returns-then-count-gt0-clause-sooner : goal.returns-then-count-gt0-clause-sooner
returns-then-count-gt0-clause-sooner c = λ profile n before k at lt.
    sooner c.run-count.new.self.machine.path c.run-count.new.self.machine.verdict n before c.args.octets.now c.run-count.result k
    (c.run-count.ensures.at profile n before at).scanned
    (λ refusal e. absurd (cc (sym (c.run-count.ensures.verdict ∙ c.requires.open) ∙ e)))
    (omega (arith, c.run-count.ensures.longest profile n before at))
    lt

pub returns-then-count-gt0-clause-capacity : goal.returns-then-count-gt0-clause-capacity
returns-then-count-gt0-clause-capacity c = omega (arith, c.run-count.ensures.capacity)

pub returns-in-Ok-clause-capacity : goal.returns-in-Ok-clause-capacity
returns-in-Ok-clause-capacity c = omega (arith, c.in-Ok.ensures.capacity, c.run-count.ensures.capacity)

pub returns-in-Err-clause-full : goal.returns-in-Err-clause-full
returns-in-Err-clause-full c = omega (arith, c.in-Err.ensures.full, c.run-count.ensures.capacity, ap length c.in-Err.ensures.same.2)

pub returns-in-Err-clause-capacity : goal.returns-in-Err-clause-capacity
returns-in-Err-clause-capacity c = omega (arith, c.in-Err.ensures.capacity, c.run-count.ensures.capacity)

pub returns-then-count-gt0-clause-at : goal.returns-then-count-gt0-clause-at
returns-then-count-gt0-clause-at c = λ profile n before at. c.run-count.ensures.at profile n before at

pub returns-then-count-gt0-clause-within : goal.returns-then-count-gt0-clause-within
returns-then-count-gt0-clause-within c =
    ∥∥₁_elim c.args.self.now.reached le_prop (λ (k : (octets : List ℕ) × (profile : Profile) × HasMarked profile c.args.self.now.machine c.args.self.now.marks.items c.args.self.now.machine.path.size octets).
    omega (arith, c.run-count.ensures.longest k.1 c.args.self.now.machine.path.size k.0 k.2))

pub returns-in-Ok-clause-at : goal.returns-in-Ok-clause-at
returns-in-Ok-clause-at c = λ profile n before at.
    let none : c.run-count.result ≡ 0 = omega (arith, c.if-count-gt0.false) in
    let here : HasScanned profile c.run-count.new.self n before =
    subst (HasScanned profile c.run-count.new.self n) (ap (λ k. before ++ take k c.args.octets.now) none ∙ append-nil before) (c.run-count.ensures.at profile n before at) in
    subst (λ l. HasScanned profile c.step.new.self n (before ++ l)) (take_first c.args.octets.now c.requires.some) (c.in-Ok.ensures.at profile n before here)

pub returns-in-Err-clause-at : goal.returns-in-Err-clause-at
returns-in-Err-clause-at c = λ profile n before at.
    let none : c.run-count.result ≡ 0 = omega (arith, c.if-count-gt0.false) in
    let here : HasScanned profile c.run-count.new.self n before =
    subst (HasScanned profile c.run-count.new.self n) (ap (λ k. before ++ take k c.args.octets.now) none ∙ append-nil before) (c.run-count.ensures.at profile n before at) in
    subst (HasScanned profile c.step.new.self n) (sym (append-nil before)) (c.in-Err.ensures.memory profile n before here)

pub returns-in-Err-clause-ends : goal.returns-in-Err-clause-ends
returns-in-Err-clause-ends c = λ profile n before at.
    let none : c.run-count.result ≡ 0 = omega (arith, c.if-count-gt0.false) in
    let here : HasScanned profile c.run-count.new.self n before =
    subst (HasScanned profile c.run-count.new.self n) (ap (λ k. before ++ take k c.args.octets.now) none ∙ append-nil before) (c.run-count.ensures.at profile n before at) in
    ap (λ l. length (Marks profile n (before ++ l))) (sym (take_first c.args.octets.now c.requires.some)) ∙ c.in-Err.ensures.ends profile n before here ∙ ap (λ l. length (Marks profile n l) + 1) (sym (append-nil before))
