use Rattle.std.proofs.Common.{sym, ◌∙◌, arith}
use Rattle.krb_msg.specs.Grammar.{messages}
use Rattle.krb_msg.proofs.Grammars.{refusal_is_final}
use Rattle.krb_items.proofs.fronts.judge_message.Goals as goal

pub overflow_add-front : goal.overflow_add-front
overflow_add-front c =
    let within = (refusal_is_final (messages c.args.profile) c.args.front.room c.args.front.octets.now c.in-Refused.refusal.place c.in-Refused.refusal.why c.requires.room.fits (sym (sym c.in-Refused.is ∙ c.judge_in.ensures))).within in
    omega (arith, within, c.requires.room.short, c.requires.room.fits)
