use Rattle.std.proofs.Common.{◌≡◌, ℕ, ◌+◌, ◌≤◌, List, ◌++◌, ◌∙◌, sym, ap, subst, length, arith}
use Rattle.std.specs.Prelude.{All}
use Rattle.std.specs.Map.{keys_of}
use Rattle.std.proofs.lemmas.List.{take-append-drop}
use Rattle.krb_flow.specs.Waiting.{early, keep, ready}
use Rattle.krb_flow.proofs.Places.{GoesFirst, first_are_ready, first_leave}
use Rattle.krb_flow.proofs.waiting.Runs.pass.Goals as goal
use Rattle.krb_flow.proofs.waiting.Runs.pass.Goals.{In_ok-release}

whole : (c : In_ok-release) → c.split_at.result.0.now ++ c.split_at.result.1.now ≡ c.args.octets.now
whole c = rw (c.split_at.ensures.front, c.split_at.ensures.back) (take-append-drop c.prefix.result c.args.octets.now)

kept : (c : In_ok-release) → c.keep.new.self ≡ keep (c.args.expected + length c.split_at.result.0.now + c.args.ahead) c.split_at.result.1.now c.args.self.now
kept c = subst (λ (n : ℕ). c.keep.new.self ≡ keep (c.args.expected + length c.split_at.result.0.now + n) c.split_at.result.1.now c.args.self.now) c.from.ensures c.in_ok-keep.ensures

goes_first : (c : In_ok-release) → GoesFirst c.args.expected c.args.ahead c.split_at.result.0.now c.args.self.now
goes_first c =
    let same : length c.split_at.result.0.now ≡ c.prefix.result = omega arith in
    record {
      here = λ some. c.prefix.ensures.here (omega arith);
      before = λ some. subst (λ (n : ℕ). All (λ place. c.args.expected + n ≤ place) (keys_of c.args.self.now)) (sym same) (c.prefix.ensures.before (omega arith));
    }

pub returns-clause-octets : goal.returns-clause-octets
returns-clause-octets c =
    let prefix = c.split_at.result.0.now in
    let expected = c.args.expected + length prefix in
    ap (λ (octets : List ℕ). prefix ++ octets) (c.in_ok-release.ensures.octets ∙ ap (ready expected) (kept c))
    ∙ sym (first_are_ready c.args.expected c.args.ahead prefix c.split_at.result.1.now c.args.self.now (goes_first c))
    ∙ ap (λ (octets : List ℕ). ready c.args.expected (keep (c.args.expected + c.args.ahead) octets c.args.self.now)) (whole c)

pub returns-clause-waiting : goal.returns-clause-waiting
returns-clause-waiting c =
    let prefix = c.split_at.result.0.now in
    c.in_ok-release.ensures.waiting
    ∙ ap (early (c.args.expected + length prefix)) (kept c)
    ∙ sym (first_leave c.args.expected c.args.ahead prefix c.split_at.result.1.now c.args.self.now (goes_first c))
    ∙ ap (λ (octets : List ℕ). early c.args.expected (keep (c.args.expected + c.args.ahead) octets c.args.self.now)) (whole c)
