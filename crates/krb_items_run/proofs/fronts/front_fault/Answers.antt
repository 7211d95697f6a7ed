use Rattle.std.proofs.Common.{sym, ◌∙◌, arith}
use Rattle.krb_items_run.proofs.Lengths.{start-fits}
use Rattle.krb_items_run.proofs.fronts.front_fault.Goals as goal

pub at_place-requires : goal.at_place-requires
at_place-requires c =
    rw c.start_of.ensures
    (start-fits c.args.profile c.args.lies c.args.size c.args.octets.now c.in-Refused.refusal c.requires.present c.requires.short (omega arith) (sym c.in-Refused.is ∙ c.front_verdict.ensures))
