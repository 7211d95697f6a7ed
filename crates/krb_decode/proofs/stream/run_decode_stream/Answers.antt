use Rattle.std.proofs.Common.{rules}
use Rattle.std.proofs.lemmas.Result.{IfErr-weaker, IfOk-weaker}
use Rattle.krb_decode.proofs.StreamParts.{decodes, fails}
use Rattle.krb_decode.proofs.stream.run_decode_stream.Goals as goal

pub returns-clause-decoded : goal.returns-clause-decoded
returns-clause-decoded g c = let decoded = IfOk-weaker c.list_all.result _ _ (decodes c.args.profile c.args.limit _ _ _ _) c.list_all.ensures.listed in search rules

pub returns-clause-fault : goal.returns-clause-fault
returns-clause-fault g c = let failed = IfErr-weaker c.list_all.result _ _ (fails c.args.profile c.args.limit _ _ _ _) c.list_all.ensures.fault in search rules
