use Rattle.std.proofs.lemmas.Result.{err_from_is_err_and}
use Rattle.krb_file.specs.Fields.{called, succeed}
use Rattle.krb_file.specs.FieldReaders.{skipped_at}
use Rattle.krb_file.specs.declared.field_name.FieldName.TheVariants as fields
use Rattle.krb_packet.specs.declared.body.Content.TheVariants as contents
use Rattle.krb_packet.proofs.Options.{then_fails}
use Rattle.krb_packet.proofs.blocks.skip_body.Goals as goal

pub returns-in_err-skip_field-clause-read : goal.returns-in_err-skip_field-clause-read
returns-in_err-skip_field-clause-read g c =
    let p = err_from_is_err_and c.from_residual.result c.from_residual.ensures.1 in
    rw (p.1, p.2)
    (then_fails (called fields.Body (skipped_at c.args.head.left)) (λ zeros. succeed contents.Other) c.in_err-skip_field.field-0.0 g.F.FieldReader.MayFail (g.F.FieldReader.cursor c.args.reader.now)
    (rw c.from.ensures at c.in_err-skip_field.ensures.read))
