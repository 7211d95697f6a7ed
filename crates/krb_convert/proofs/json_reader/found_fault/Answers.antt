use Rattle.std.proofs.Common.{refl}
use Rattle.krb_convert.proofs.EncodedLines.{found_some}
use Rattle.krb_convert.proofs.json_reader.found_fault.Goals as goal

pub returns-in_default-clause-found : goal.returns-in_default-clause-found
returns-in_default-clause-found c = record { same = refl; some = found_some c.args.line_fault c.in_default.not-Memory }
