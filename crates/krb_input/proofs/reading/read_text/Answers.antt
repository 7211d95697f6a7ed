use Rattle.std.proofs.Common.{◌≡◌, true, refl}
use Rattle.krb_input.specs.Dumps.{begins_dump, dump}
use Rattle.krb_input.specs.Inputs.{spelled_in_text}
use Rattle.krb_source.specs.declared.spelling.Spelling.TheVariants as form
use Rattle.krb_input.proofs.Told.{told_is}
use Rattle.krb_input.proofs.reading.read_text.Goals as goal

pub returns-then-begins_dump : goal.returns-then-begins_dump
returns-then-begins_dump c =
    told_is (spelled_in_text c.args.size c.args.text.now) (dump c.args.text.now) c.args.size form.Dump c.read_dump.result c.told.result
    (let e : begins_dump c.args.text.now ≡ true = cc (c.begins_dump.ensures, c.if-begins_dump.true) in rw e refl)
    c.read_dump.ensures.octets c.read_dump.ensures.fault c.told.ensures
