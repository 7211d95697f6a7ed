use Rattle.std.proofs.Common.{◌+◌, sym, ap, ◌∙◌}
use Rattle.krb_der.specs.inner.Numbers.{AreOctets-slice}
use Rattle.krb_msg.specs.Judgement.{term_judgement}
use Rattle.krb_msg.specs.Nodes.{term_at}
use Rattle.krb_judge.proofs.Firsts.{done_if_whole, whole_if_done, not_done}
use Rattle.krb_judge.proofs.locating.first_count.Goals as goal

pub returns-in_err-head : goal.returns-in_err-head
returns-in_err-head c = rw c.from_residual.ensures (λ count. not_done (term_at c.args.node) c.args.room c.args.octets.now count c.in_err-head.ensures.head)

pub returns-in_default : goal.returns-in_default
returns-in_default c = λ count done.
    c.in_default.not-Whole (c.judge_item.ensures ∙ ap (term_judgement (term_at c.args.node) (c.in_ok-head.head.header + c.in_ok-head.head.size)) c.part.ensures
    ∙ whole_if_done (term_at c.args.node) c.args.room c.in_ok-head.head.header c.in_ok-head.head.size c.args.octets.now count (AreOctets-slice c.args.octets.now c.type_inv.octets) c.requires.short c.in_ok-head.ensures.head done)

pub returns-in-Whole : goal.returns-in-Whole
returns-in-Whole c =
    done_if_whole (term_at c.args.node) c.args.room c.in_ok-head.head.header c.in_ok-head.head.size c.args.octets.now (AreOctets-slice c.args.octets.now c.type_inv.octets) c.requires.short c.in_ok-head.ensures.head
    (ap (term_judgement (term_at c.args.node) (c.in_ok-head.head.header + c.in_ok-head.head.size)) (sym c.part.ensures) ∙ sym c.in-Whole.ensures)
