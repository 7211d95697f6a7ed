use Rattle.std.proofs.Common.{min}
use Rattle.std.proofs.lemmas.Result.{err_from_is_err_and}
use Rattle.krb_file.specs.Fields.{called, octets_at, octets_to_end}
use Rattle.krb_file.specs.declared.field_name.FieldName.TheVariants as fields
use Rattle.krb_file.proofs.FieldReaders.{Keeps-same, Keeps-then, made_of}
use Rattle.krb_packet.specs.Bodies.{most_of}
use Rattle.krb_packet.proofs.Options.{then_fails}
use Rattle.krb_file.proofs.Chains.{read_then}
use Rattle.krb_packet.proofs.InTurn.{reads_here, fails_on, fails_here}
use Rattle.krb_packet.proofs.body.simple_packet.Goals as goal

pub returns-in_err-octets_field-clause-read : goal.returns-in_err-octets_field-clause-read
returns-in_err-octets_field-clause-read g c =
    let p = err_from_is_err_and c.from_residual-in_err-octets_field.result c.from_residual-in_err-octets_field.ensures.1 in
    let e = c.in_err-octets_field.field-0.0 in
    let read = rw (c.min-captured.ensures, c.from.ensures, c.most_of.ensures, c.octets_to_end.ensures, c.spare_octets-octets.ensures.same) at c.in_err-octets_field.ensures.read in
    rw (p.1, p.2)
    (fails_on _ e g.F.FieldReader.MayFail c.in_ok-interface.ensures (fails_on _ e g.F.FieldReader.MayFail c.in_ok-original.ensures.read (then_fails _ _ e g.F.FieldReader.MayFail (g.F.FieldReader.cursor c.field32.new.reader)
    (fails_here (λ bounds place. called fields.Data (octets_at (min (most_of c.in_ok-interface.interface.snaplen c.in_ok-original.original) (octets_to_end bounds.end place)))) e g.F.FieldReader.MayFail (g.F.FieldReader.cursor c.field32.new.reader) read))))

pub returns-in_err-octets_field-clause-keeps : goal.returns-in_err-octets_field-clause-keeps
returns-in_err-octets_field-clause-keeps g c = Keeps-then c.field32.ensures.keeps (Keeps-then (Keeps-same c.spare_octets-octets.ensures.same) c.octets_field.ensures.keeps)

pub returns-clause-read : goal.returns-clause-read
returns-clause-read g c =
    let read = rw (c.min-captured.ensures, c.from.ensures, c.most_of.ensures, c.octets_to_end.ensures, c.spare_octets-octets.ensures.same) at c.in_ok-octets_field.ensures.read in
    rw c.new.ensures
    (read_then _ _ c.in_ok-interface.ensures (read_then _ _ c.in_ok-original.ensures.read (made_of _ _ _ _ _
    (reads_here (λ bounds place. called fields.Data (octets_at (min (most_of c.in_ok-interface.interface.snaplen c.in_ok-original.original) (octets_to_end bounds.end place)))) read))))

pub returns-clause-keeps : goal.returns-clause-keeps
returns-clause-keeps g c = Keeps-then c.field32.ensures.keeps (Keeps-then (Keeps-same c.spare_octets-octets.ensures.same) c.octets_field.ensures.keeps)
