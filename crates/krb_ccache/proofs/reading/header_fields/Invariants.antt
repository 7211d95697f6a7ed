use Rattle.std.proofs.Common.{◌-◌}
use Rattle.krb_file.specs.FieldReaders.{Stays}
use Rattle.krb_ccache.proofs.Followed.{HavePrefix, header_end, inside}
use Rattle.krb_ccache.proofs.reading.header_fields.Given as goal

-- the fields so far
abbrev pub invariant-fields : goal.invariant-fields
invariant-fields g l =
    record {
      prefix : HavePrefix l.size (header_end l.size (g.F.FieldReader.cursor l.fn.reader)) l.fields.items (inside l.size (g.F.FieldReader.cursor l.fn.reader)) (g.F.FieldReader.cursor l.reader);
      stays : Stays (g.F.FieldReader.cursor l.fn.reader) (g.F.FieldReader.cursor l.reader);
    }

abbrev pub decreases-fields : goal.decreases-fields
decreases-fields g l = header_end l.size (g.F.FieldReader.cursor l.fn.reader) - (g.F.FieldReader.cursor l.reader).place
