use Rattle.std.proofs.Common.{rules}
use Rattle.std.proofs.lemmas.Result.{IfOk-weaker}
use Rattle.krb_convert.specs.Decoding.{decoded, GoesOn, ending_of}
use Rattle.krb_run.proofs.ConversionRuns.{Converts-listed, FailsToConvert-failed}
use Rattle.krb_convert.proofs.decode_run.run_decode.Goals as goal

pub returns-clause-decoded : goal.returns-clause-decoded
returns-clause-decoded g c =
    let listed = IfOk-weaker c.list_all.result _ _ (Converts-listed (decoded c.args.profile c.args.limit) (λ read. (decoded c.args.profile c.args.limit read).text) (GoesOn c.args.profile c.args.limit) ending_of _ _ _ _) c.list_all.ensures.listed in search rules

pub returns-clause-fault : goal.returns-clause-fault
returns-clause-fault g c =
    let failed = FailsToConvert-failed (decoded c.args.profile c.args.limit) (λ read. (decoded c.args.profile c.args.limit read).text) (GoesOn c.args.profile c.args.limit) ending_of _ _ _ _ c.list_all.result c.list_all.ensures.fault in search rules
