use Rattle.krb_file.proofs.Reaching.{end_stays}
use Rattle.krb_ccache.proofs.Reaching.{credential_stays}
use Rattle.krb_ccache.proofs.reading.read_credential.Goals as goal

pub returns-then-branch-clause-stays : goal.returns-then-branch-clause-stays
returns-then-branch-clause-stays g c =
    end_stays 67 c.in_ok-is_empty.field-0 (g.F.FieldReader.cursor c.args.reader.now) (g.F.FieldReader.cursor c.look_ahead.new.self) (g.F.FieldReader.cursor c.is_empty.new.self)
    c.if-branch.true c.in_ok-look_ahead.ensures.looks c.in_ok-is_empty.ensures.looks c.in_ok-is_empty.ensures.read

pub returns-clause-stays : goal.returns-clause-stays
returns-clause-stays g c =
    credential_stays g.K.Kept.kept c.args.version c.in_ok-item.item (g.F.FieldReader.cursor c.args.reader.now) (g.F.FieldReader.cursor c.look_ahead.new.self) (g.F.FieldReader.cursor c.is_empty.new.self) (g.F.FieldReader.cursor c.credential.new.reader)
    c.in_ok-look_ahead.ensures.looks c.in_ok-is_empty.ensures.looks c.in_ok-item.ensures.read c.in_ok-item.ensures.stays
