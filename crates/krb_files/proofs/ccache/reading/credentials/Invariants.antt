use Rattle.std.proofs.Common.{None, length}
use Rattle.krb_file.specs.FieldReaders.{of_slice, source_at}
use Rattle.krb_file.specs.Items.{Gave}
use Rattle.krb_ccache.specs.Reading.{credential_at, items_after}
use Rattle.krb_files.proofs.ccache.reading.credentials.Given as goal

-- the credentials so far
abbrev pub invariant-credentials : goal.invariant-credentials
invariant-credentials g l =
    let left = items_after (credential_at g.K.Kept.kept l.version) None in
    Gave left (left (source_at l.fn.reader.place l.fn.reader.octets)) None (of_slice l.reader) l.credentials.items

abbrev pub decreases-credentials : goal.decreases-credentials
decreases-credentials g l = length l.reader.octets
