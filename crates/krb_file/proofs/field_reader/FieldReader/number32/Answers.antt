use Rattle.std.proofs.Common.{rules}
use Rattle.krb_file.proofs.field_reader.FieldReader.number32.Goals as goal

pub returns-clause-read : goal.returns-clause-read
returns-clause-read g c = search rules
