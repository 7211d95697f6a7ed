use Rattle.std.proofs.Common.{◌≡◌, ◌∙◌, ap, length, arith}
use Rattle.krb_msg.specs.Judgement.{judgement}
use Rattle.krb_c.proofs.Slices.{whole-judged}
use Rattle.krb_c.proofs.judging.message_verdict.Goals as goal

pub returns : goal.returns
returns c =
    let all : length c.args.present.now ≡ c.args.n = omega (arith, c.requires.present) in
    c.whole_verdict.ensures
    ∙ whole-judged c.args.profile c.args.present.now (omega (arith, all, c.requires.some)) (omega (arith, all, c.requires.short))
    ∙ ap (λ n. judgement c.args.profile n c.args.present.now) all
