use Rattle.std.proofs.Common.{[], ◌∙◌, sym}
use Rattle.krb_der.specs.inner.Numbers.{AreOctets-slice}
use Rattle.krb_msg.specs.Grammar.{messages}
use Rattle.krb_scan.proofs.Decided.{all_decided}
use Rattle.krb_judge.proofs.judging.judge_in.Goals as goal

pub take-requires : goal.take-requires
take-requires c = c.new-machine.ensures.at.decides

pub returns : goal.returns
returns c =
    all_decided (messages c.args.profile) c.args.n c.args.front.now c.take.result c.verdict.result (AreOctets-slice c.args.front.now c.type_inv.front) c.requires.present
    (λ undecided. c.take.ensures.all (sym c.verdict.ensures ∙ undecided)) (c.verdict.ensures ∙ (c.take.ensures.at c.args.profile c.args.n [] c.new-machine.ensures.at).decides)
