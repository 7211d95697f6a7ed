use Rattle.std.proofs.Common.{false, refl, length-drop, arith}
use Rattle.krb_msg.specs.Nodes.{term_at}
use Rattle.krb_msg.proofs.Laws.{done_within}
use Rattle.krb_msg.proofs.TermsDecided.{item-count, contents-count}
use Rattle.krb_judge.proofs.Firsts.{first_into, rest_taken}
use Rattle.krb_judge.proofs.locating.after_first.Goals as goal

pub overflow_sub-result : goal.overflow_sub-result
overflow_sub-result c = (item-count (term_at c.args.node) (contents-count (term_at c.args.node)) c.args.rest.room false c.args.rest.octets.now c.in_ok-count.count c.in_ok-count.ensures).1

pub slice_bounds-result-count : goal.slice_bounds-result-count
slice_bounds-result-count c = done_within (term_at c.args.node) c.args.rest.room false c.args.rest.octets.now c.in_ok-count.count c.requires.present.present c.in_ok-count.ensures

pub slice_bounds-result-start : goal.slice_bounds-result-start
slice_bounds-result-start c = done_within (term_at c.args.node) c.args.rest.room false c.args.rest.octets.now c.in_ok-count.count c.requires.present.present c.in_ok-count.ensures

pub returns-clause-shorter : goal.returns-clause-shorter
returns-clause-shorter c =
    rw (rest_taken c.args.rest.octets.now c.in_ok-count.count, length-drop)
    (omega (arith, c.requires.some, (item-count (term_at c.args.node) (contents-count (term_at c.args.node)) c.args.rest.room false c.args.rest.octets.now c.in_ok-count.count c.in_ok-count.ensures).0))

pub returns-in_err-count-clause-first : goal.returns-in_err-count-clause-first
returns-in_err-count-clause-first c = rw c.from_residual.ensures (λ path inside after. first_into _ _ _ c.in_err-count.ensures)

pub returns-clause-first : goal.returns-clause-first
returns-clause-first c = λ path inside after. rw (c.in_ok-count.ensures, rest_taken c.args.rest.octets.now c.in_ok-count.count) refl
