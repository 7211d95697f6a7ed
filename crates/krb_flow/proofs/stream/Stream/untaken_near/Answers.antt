use Rattle.std.proofs.Common.{◌≡◌, ◌+◌, ◌-◌, length, take, drop, ap, ◌∙◌, arith}
use Rattle.std.specs.Prelude.{min}
use Rattle.std.proofs.lemmas.List.{take_rest}
use Rattle.krb_flow.specs.Progress.{Progress}
use Rattle.krb_flow.specs.Serial.{ahead, behind}
use Rattle.krb_flow.proofs.Nearby.{near_is}
use Rattle.krb_flow.proofs.stream.Stream.untaken_near.Goals as goal

pub returns : goal.returns
returns c =
    let octets = c.octets-octets.result.now in
    let before = c.saturating_sub-before.result in
    let captured = c.min-captured.result in
    let distance = c.args.distance in
    let payload = c.args.segment.now.payload in
    let progress = c.args.self.now in
    let expected : c.self.inside.expected ≡ progress.expected = ap (λ (p : Progress). p.expected) c.self.view_is in
    let few : length octets ≡ length payload.octets = ap (λ l. length l) c.octets-octets.ensures.value in
    let before_is : before ≡ behind distance - progress.expected = omega (arith, c.saturating_sub-before.ensures, c.from.ensures, c.behind.ensures, expected) in
    let captured_is : captured ≡ min before (length payload.octets) = omega (arith, c.min-captured.ensures, few) in
    let place_is : c.self.inside.expected + c.from-3.result - (c.from-2.result - before) ≡ progress.expected + ahead distance - (behind distance - before) = omega (arith, expected, c.from-2.ensures, c.from-3.ensures, c.behind-2.ensures, c.ahead.ensures) in
    near_is c.args.kept.now progress c.args.segment.now distance before captured (c.self.inside.expected + c.from-3.result - (c.from-2.result - before)) (take (length octets - captured) (drop captured octets)) c.compare-compared.result c.if_any.result c.if_any-2.result c.differing.result
    c.requires.distance c.requires.no_keep_alive before_is captured_is place_is (take_rest octets captured ∙ ap (drop captured) c.octets-octets.ensures.value) c.if_any.ensures c.if_any-2.ensures c.compare-compared.ensures.old c.differing.ensures c.compare-compared.ensures.differing
