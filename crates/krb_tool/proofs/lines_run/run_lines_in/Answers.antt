use Rattle.std.proofs.Common.{rules}
use Rattle.std.proofs.lemmas.Result.{IfOk-weaker}
use Rattle.krb_tool.specs.MessageLines.{ended_listed, lines_listed}
use Rattle.krb_run.proofs.ConversionRuns.{Converts-listed, FailsToConvert-failed}
use Rattle.krb_tool.proofs.MessageLines.{NoneEnds, lists-lines}
use Rattle.krb_tool.proofs.lines_run.run_lines_in.Goals as goal

pub returns-clause-listed : goal.returns-clause-listed
unfolding lines_listed ended_listed
returns-clause-listed g c = let listed = IfOk-weaker c.list_all.result _ _ (λ ended l. lists-lines c.args.label.now c.args.profile _ _ _ _ ended (Converts-listed (lines_listed c.args.label.now c.args.profile) (ended_listed c.args.label.now c.args.profile) NoneEnds (λ end. end) _ _ _ _ ended l)) c.list_all.ensures.listed in search rules

pub returns-clause-fault : goal.returns-clause-fault
unfolding lines_listed ended_listed
returns-clause-fault g c = let failed = FailsToConvert-failed (lines_listed c.args.label.now c.args.profile) (ended_listed c.args.label.now c.args.profile) NoneEnds (λ end. end) _ _ _ _ c.list_all.result c.list_all.ensures.fault in search rules
