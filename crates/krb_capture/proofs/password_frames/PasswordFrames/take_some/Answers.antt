use Rattle.std.proofs.Common.{◌≡◌, ℕ, ◌-◌, List, [], length, take, sym, subst, arith, rules, length-take}
use Rattle.std.proofs.lemmas.List.{nil_from_length}
use Rattle.std.proofs.lemmas.Result.{IfOk-weaker}
use Rattle.krb_capture.specs.Passed.{TakesPasswords}
use Rattle.krb_capture.proofs.Octets.{takes-over, takes-lent, takes-skipped}
use Rattle.krb_capture.proofs.password_frames.PasswordFrames.take_some.Goals as goal

pub returns-then-self-clause-took : goal.returns-then-self-clause-took
returns-then-self-clause-took c = takes-over c.args.self.now (take (length c.args.octets.now) c.args.octets.now) c.args.origin.now c.args.listing.now c.if-self.true

pub returns-then-self-gt0-clause-took : goal.returns-then-self-gt0-clause-took
returns-then-self-gt0-clause-took c =
    let some : List ℕ = take c.min-count.result c.args.octets.now in
    let long : length some ≡ c.min-count.result = omega (arith, length-take c.min-count.result c.args.octets.now) in
    subst (λ k. TakesPasswords c.args.self.now (record c.args.self.now { skipped = c.args.self.now.skipped - k }) some c.args.origin.now c.args.listing.now c.args.listing.now) long
    (takes-skipped c.args.self.now some c.args.origin.now c.args.listing.now c.if-self.false (omega arith) (omega (arith, long)))

pub returns-in-Some-clause-took : goal.returns-in-Some-clause-took
returns-in-Some-clause-took c =
    let zero : length c.args.self.now.octets.items ≡ 0 = search rules in
    let none : c.args.self.now.octets.items ≡ [] = nil_from_length c.args.self.now.octets.items zero in
    IfOk-weaker c.list_lent.result _ _
    (λ count l.
    subst (λ k. TakesPasswords c.args.self.now c.list_lent.new.self (take k c.args.octets.now) c.args.origin.now c.args.listing.now c.list_lent.new.listing) (sym l.0)
    (takes-lent c.args.self.now c.list_lent.new.self c.args.octets.now c.in-Some.frame.contents.now c.in-Some.frame.rest.now c.args.origin.now c.args.listing.now c.list_lent.new.listing c.if-self.false (omega arith) none c.in-Some.ensures l.1))
    c.list_lent.ensures
