use Rattle.std.proofs.Common.{◌≡◌, ◌-◌, ◌*◌, ◌++◌, ◌∷◌, [], length, decimal, ap, ◌∙◌, arith}
use Rattle.json.specs.Token.{number}
use Rattle.krb_json.proofs.Walks.{on-ok, six-put}
use Rattle.krb_json.proofs.writing.put_bit_string.Goals as goal

pub returns-clause-written : goal.returns-clause-written
returns-clause-written c =
    let count : c.saturating_sub.result ≡ 8 * length c.args.octets.now - c.args.unused = omega (arith, c.saturating_sub.ensures, c.from.ensures) in
    on-ok c.end_object.result
    (λ last. six-put _ _ _ _ _ _ _ _ _ _ _ _ _ c.in_ok-begin_object.ensures.ok c.in_ok-key.ensures.ok c.in_ok-put_hex.ensures.written c.in_ok-key-2.ensures.ok (c.in_ok-u64.ensures.ok ∙ ap (λ n. c.key-2.new.self.tokens ++ number (decimal n) ∷ []) count) last)
    c.end_object.ensures.ok
