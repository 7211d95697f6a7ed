use Rattle.std.proofs.Common.{arith}
use Rattle.std.specs.Int.{w32}
use Rattle.krb_file.proofs.Reaching.{end_stays, item_stays}
use Rattle.krb_file.specs.declared.field_name.FieldName.TheVariants as fields
use Rattle.krb_packet.specs.Numbers.{field_in}
use Rattle.krb_packet.proofs.Reaching.{Passes-field, read_goes}
use Rattle.krb_packet.proofs.block.next_kind.Goals as goal

pub returns-then-branch-clause-stays : goal.returns-then-branch-clause-stays
returns-then-branch-clause-stays g c =
    end_stays 4 c.in_ok-is_empty.field-0 (g.F.FieldReader.cursor c.args.reader.now) (g.F.FieldReader.cursor c.look_ahead.new.self) (g.F.FieldReader.cursor c.is_empty.new.self)
    c.if-branch.true c.in_ok-look_ahead.ensures.looks c.in_ok-is_empty.ensures.looks c.in_ok-is_empty.ensures.read

pub returns-clause-stays : goal.returns-clause-stays
returns-clause-stays g c =
    item_stays 4 (g.F.FieldReader.cursor c.args.reader.now) (g.F.FieldReader.cursor c.look_ahead.new.self) (g.F.FieldReader.cursor c.is_empty.new.self) (g.F.FieldReader.cursor c.field32.new.reader)
    (omega arith) c.in_ok-look_ahead.ensures.looks c.in_ok-is_empty.ensures.looks c.field32.ensures.keeps.stays
    (read_goes 4 (field_in fields.Type w32 c.args.order) c.in_ok-number.number (g.F.FieldReader.cursor c.is_empty.new.self) (g.F.FieldReader.cursor c.field32.new.reader) (Passes-field fields.Type w32 c.args.order) c.in_ok-number.ensures.read)
