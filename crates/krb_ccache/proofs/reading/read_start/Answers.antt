use Rattle.krb_file.proofs.FieldReaders.{Stays-then}
use Rattle.krb_ccache.proofs.reading.read_start.Goals as goal

pub returns-clause-stays : goal.returns-clause-stays
returns-clause-stays g c =
    Stays-then c.in_ok-version.ensures.keeps.stays (Stays-then c.in_ok-header.ensures.stays c.in_ok-principal.ensures.keeps.stays)
