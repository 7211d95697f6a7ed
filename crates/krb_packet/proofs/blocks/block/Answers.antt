use Rattle.std.proofs.Common.{ℕ, ◌+◌, ap}
use Rattle.std.proofs.lemmas.Result.{err_from_is_err_and}
use Rattle.krb_file.proofs.FieldReaders.{Keeps-then}
use Rattle.krb_packet.proofs.BodyContents.{end_fails}
use Rattle.krb_packet.proofs.blocks.block.Goals as goal

pub returns-in_err-length_again-clause-read : goal.returns-in_err-length_again-clause-read
returns-in_err-length_again-clause-read g c =
    let p = err_from_is_err_and c.from_residual-in_err-length_again.result c.from_residual-in_err-length_again.ensures.1 in
    rw (p.1, p.2)
    (end_fails c.args.kind c.args.section.now c.args.count g.F.FieldReader.MayFail c.in_ok-head.head c.in_ok-content.content (c.place-place.result + 4) c.in_err-length_again.field-0.0
    (g.F.FieldReader.cursor c.args.reader.now) (g.F.FieldReader.cursor c.read_head.new.reader) (g.F.FieldReader.cursor c.body.new.reader) (ap (λ (n : ℕ). n + 4) c.place-place.ensures.value)
    c.in_ok-head.ensures.read c.in_ok-content.ensures.read c.in_err-length_again.ensures.read)

pub returns-in_err-length_again-clause-keeps : goal.returns-in_err-length_again-clause-keeps
returns-in_err-length_again-clause-keeps g c = Keeps-then c.read_head.ensures.keeps (Keeps-then c.body.ensures.keeps c.length_again.ensures.keeps)

pub returns-clause-keeps : goal.returns-clause-keeps
returns-clause-keeps g c = Keeps-then c.read_head.ensures.keeps (Keeps-then c.body.ensures.keeps c.length_again.ensures.keeps)
