use Rattle.std.proofs.Common.{◌≡◌, subst, arith}
use Rattle.std.proofs.lemmas.Grind.{common_steps}
use Rattle.krb_input.specs.Braces.{braces, to_brace}
use Rattle.krb_input.specs.Comments.{unclosed}
use Rattle.krb_input.specs.inner.Results.{IsFault}
use Rattle.krb_input.proofs.Told.{braces_fault}
use Rattle.krb_input.proofs.braces.read_braces.Goals as goal

pub returns-in-Err-clause-fault : goal.returns-in-Err-clause-fault
returns-in-Err-clause-fault c =
    let comment = unclosed c.args.text.now in
    let same : to_brace comment c.split_at.result.0.now c.split_at.result.1.now ≡ braces c.args.text.now = cc (c.split_at.ensures.front, c.split_at.ensures.back, c.block_length.ensures.count) in
    subst (λ r. IsFault r c.before-in-Err.result) same
    (braces_fault comment c.split_at.result.0.now c.split_at.result.1.now c.in-Err.fault c.before-in-Err.result (λ e. grind (arith, common_steps, e, c.if-is_empty.false, c.is_empty.ensures)) c.in-Err.ensures.fault c.before-in-Err.ensures)
