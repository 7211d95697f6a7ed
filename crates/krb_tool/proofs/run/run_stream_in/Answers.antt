use Rattle.std.proofs.Common.{rules}
use Rattle.std.proofs.lemmas.Result.{IfErr-weaker, IfOk-weaker}
use Rattle.krb_tool.proofs.Listings.{ListsStream-listed, FailsStream-failed}
use Rattle.krb_tool.proofs.run.run_stream_in.Goals as goal

pub returns-clause-listed : goal.returns-clause-listed
returns-clause-listed g c = let listed = IfOk-weaker c.list_all.result _ _ (ListsStream-listed c.args.keep_going c.args.label.now c.args.profile c.args.limit _ _ _ _) c.list_all.ensures.listed in search rules

pub returns-clause-fault : goal.returns-clause-fault
returns-clause-fault g c = let failed = IfErr-weaker c.list_all.result _ _ (FailsStream-failed c.args.keep_going c.args.label.now c.args.profile c.args.limit _ _ _ _) c.list_all.ensures.fault in search rules
