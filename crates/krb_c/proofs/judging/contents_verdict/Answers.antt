use Rattle.std.proofs.Common.{◌≤◌, length, sym, ◌∙◌, ap, arith, length-take}
use Rattle.krb_msg.specs.Grammar.{messages}
use Rattle.krb_msg.proofs.Grammars.{refusal_is_final}
use Rattle.krb_c.proofs.judging.contents_verdict.Goals as goal

pub overflow_add-place : goal.overflow_add-place
overflow_add-place c =
    let refusal = c.in-Refused.field-0 in
    let front = c.first_octets.result.now in
    let few : length front ≤ c.args.size = omega (arith, ap length c.first_octets.ensures, length-take c.args.size c.args.contents.now) in
    let final = refusal_is_final (messages c.args.profile) c.args.size front refusal.place refusal.why few (sym c.message_verdict.ensures ∙ c.in-Refused.is) in
    omega (arith, final.within, few, c.requires.short)
