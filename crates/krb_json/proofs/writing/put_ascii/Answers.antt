use Rattle.std.proofs.lemmas.Str.{IsUtf8-from_ascii}
use Rattle.krb_json.proofs.writing.put_ascii.Goals as goal

pub returns-in-Err-clause-written : goal.returns-in-Err-clause-written
returns-in-Err-clause-written c ascii = absurd (c.in-Err.ensures.cases.0 (IsUtf8-from_ascii c.args.octets.now ascii))
