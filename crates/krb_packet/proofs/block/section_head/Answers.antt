use Rattle.std.proofs.Common.{sym, ◌∙◌, ap}
use Rattle.std.proofs.lemmas.Result.{err_from_is_err_and}
use Rattle.std.specs.Int.{w32, from_be_bytes}
use Rattle.krb_file.specs.declared.field_name.FieldName.TheVariants as fields
use Rattle.krb_file.proofs.FieldReaders.{Keeps-then}
use Rattle.krb_packet.specs.Numbers.{checked}
use Rattle.krb_packet.specs.Bodies.{body_size}
use Rattle.krb_packet.proofs.Heads.{octets_fail, order_fails, size_fails, left_fails, head_read, checked_ok}
use Rattle.krb_packet.proofs.block.section_head.Goals as goal

pub returns-in_err-octets-clause-read : goal.returns-in_err-octets-clause-read
returns-in_err-octets-clause-read g c =
    let p = err_from_is_err_and c.from_residual.result c.from_residual.ensures.1 in
    rw (p.1, p.2) (octets_fail c.in_err-octets.field-0.0 g.F.FieldReader.MayFail (g.F.FieldReader.cursor c.args.reader.now) c.in_err-octets.ensures.read)

pub returns-in_err-order-clause-read : goal.returns-in_err-order-clause-read
returns-in_err-order-clause-read g c =
    let p = err_from_is_err_and c.from_residual-in_err-order.result c.from_residual-in_err-order.ensures.1 in
    rw (p.1, p.2)
    (order_fails c.in_ok-octets.octets c.in_err-order.field-0.0 g.F.FieldReader.MayFail (g.F.FieldReader.cursor c.args.reader.now) (g.F.FieldReader.cursor c.length_octets.new.reader) c.in_ok-octets.ensures.read c.in_err-order.ensures.read)

pub returns-in_err-order-clause-keeps : goal.returns-in_err-order-clause-keeps
returns-in_err-order-clause-keeps g c = Keeps-then c.length_octets.ensures.keeps c.read_byte_order.ensures.keeps

pub returns-in_err-size-clause-read : goal.returns-in_err-size-clause-read
returns-in_err-size-clause-read g c =
    let p = err_from_is_err_and c.from_residual-in_err-size.result c.from_residual-in_err-size.ensures.1 in
    let size = c.body_size.ensures ∙ ap body_size (c.from_be_bytes-length.ensures ∙ ap (from_be_bytes w32) c.highest_first.ensures) in
    rw (p.1, p.2)
    (size_fails c.in_ok-octets.octets c.in_ok-order.order g.F.FieldReader.MayFail (g.F.FieldReader.cursor c.args.reader.now) (g.F.FieldReader.cursor c.length_octets.new.reader) (g.F.FieldReader.cursor c.read_byte_order.new.reader)
    c.in_ok-octets.ensures.read c.in_ok-order.ensures.read c.place-place.result c.in_err-size.field-0.0 c.place-place.ensures.value (sym (c.checked.ensures ∙ ap (checked fields.Length c.place-place.result) size) ∙ c.in_err-size.was))

pub returns-in_err-left-clause-read : goal.returns-in_err-left-clause-read
returns-in_err-left-clause-read g c =
    let p = err_from_is_err_and c.from_residual-in_err-left.result c.from_residual-in_err-left.ensures.1 in
    let size = c.body_size.ensures ∙ ap body_size (c.from_be_bytes-length.ensures ∙ ap (from_be_bytes w32) c.highest_first.ensures) in
    rw (p.1, p.2)
    (left_fails c.in_ok-octets.octets c.in_ok-order.order g.F.FieldReader.MayFail (g.F.FieldReader.cursor c.args.reader.now) (g.F.FieldReader.cursor c.length_octets.new.reader) (g.F.FieldReader.cursor c.read_byte_order.new.reader)
    c.in_ok-octets.ensures.read c.in_ok-order.ensures.read c.in_ok-size.size c.place-place.result c.in_err-left.field-0.0 c.place-place.ensures.value
    (sym size ∙ checked_ok fields.Length c.place-place.result c.body_size.result c.in_ok-size.size (sym c.checked.ensures ∙ c.in_ok-size.was))
    (sym (c.checked-2.ensures ∙ ap (checked fields.ByteOrder _) c.after_byte_order.ensures) ∙ c.in_err-left.was))

pub returns-in_err-size-clause-keeps : goal.returns-in_err-size-clause-keeps
returns-in_err-size-clause-keeps g c = Keeps-then c.length_octets.ensures.keeps c.read_byte_order.ensures.keeps

pub returns-in_err-left-clause-keeps : goal.returns-in_err-left-clause-keeps
returns-in_err-left-clause-keeps g c = Keeps-then c.length_octets.ensures.keeps c.read_byte_order.ensures.keeps

pub returns-clause-read : goal.returns-clause-read
returns-clause-read g c =
    let size = c.body_size.ensures ∙ ap body_size (c.from_be_bytes-length.ensures ∙ ap (from_be_bytes w32) c.highest_first.ensures) in
    rw (c.from_be_bytes-length.ensures, c.highest_first.ensures)
    (head_read c.in_ok-octets.octets c.in_ok-order.order g.F.FieldReader.MayFail (g.F.FieldReader.cursor c.args.reader.now) (g.F.FieldReader.cursor c.length_octets.new.reader) (g.F.FieldReader.cursor c.read_byte_order.new.reader)
    c.in_ok-octets.ensures.read c.in_ok-order.ensures.read c.in_ok-size.size c.in_ok-left.left
    (sym size ∙ checked_ok fields.Length c.place-place.result c.body_size.result c.in_ok-size.size (sym c.checked.ensures ∙ c.in_ok-size.was))
    (sym c.after_byte_order.ensures ∙ checked_ok fields.ByteOrder _ c.after_byte_order.result c.in_ok-left.left (sym c.checked-2.ensures ∙ c.in_ok-left.was)))

pub returns-clause-keeps : goal.returns-clause-keeps
returns-clause-keeps g c = Keeps-then c.length_octets.ensures.keeps c.read_byte_order.ensures.keeps
