use Rattle.std.proofs.Common.{rules}
use Rattle.std.proofs.lemmas.Result.{IfErr-weaker, IfOk-weaker}
use Rattle.krb_convert.specs.declared.json_reader.EncodeRequest.{EncodeRequest}
use Rattle.krb_convert.proofs.EncodedLines.{encodes-failed, encodes-listed}
use Rattle.krb_convert.proofs.encode_run.encode.Goals as goal

pub returns-clause-encoded : goal.returns-clause-encoded
returns-clause-encoded g c =
    let request : EncodeRequest = record { profile = c.args.profile; limit = c.args.limit; is_framed = c.args.is_framed } in
    let listed = IfOk-weaker c.list_all.result _ _ (encodes-listed request _ _ _ _) c.list_all.ensures.listed in
    search rules

pub returns-clause-fault : goal.returns-clause-fault
returns-clause-fault g c =
    let request : EncodeRequest = record { profile = c.args.profile; limit = c.args.limit; is_framed = c.args.is_framed } in
    let failed = IfErr-weaker c.list_all.result _ _ (encodes-failed request _ _ _ _) c.list_all.ensures.fault in
    search rules
