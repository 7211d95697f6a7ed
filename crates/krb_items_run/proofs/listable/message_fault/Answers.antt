use Rattle.std.proofs.Common.{◌≤◌, Some, length, refl, sym, ◌∙◌, ap, arith}
use Rattle.std.specs.Option.{option_map}
use Rattle.krb_items_run.specs.Items.{at_place}
use Rattle.krb_tool.proofs.Messages.{refusal-within}
use Rattle.krb_items_run.proofs.listable.message_fault.Goals as goal

pub at_place-requires : goal.at_place-requires
at_place-requires c =
    let within : c.in-Err.refusal.place ≤ length c.args.octets.now = refusal-within c.refusals_are_inside.ensures c.args.profile c.args.octets.now c.in-Err.refusal ((c.in-Err.ensures.refused c.in-Err.refusal).0 refl) in
    omega (arith, within)

pub returns-in-Err : goal.returns-in-Err
returns-in-Err c = ap Some c.at_place.ensures ∙ ap (option_map (at_place c.args.place)) (sym ((c.in-Err.ensures.refused c.in-Err.refusal).0 refl))
