use Rattle.std.specs.Int.{w16}
use Rattle.krb_file.specs.Fields.{called, number_at}
use Rattle.krb_file.specs.declared.field_name.FieldName.TheVariants as field
use Rattle.krb_file.specs.declared.field_name.FilePart.TheVariants as parts
use Rattle.krb_file.proofs.Chains.{read_none, read_then}
use Rattle.krb_file.proofs.FieldReaders.{Stays-then}
use Rattle.krb_ccache.specs.Reading.{principal_in, again_at, credential_from}
use Rattle.krb_ccache.proofs.reading.credential_fields.Goals as goal

pub returns-clause-read : goal.returns-clause-read
returns-clause-read g c =
    rw c.keep.ensures
    (read_then (principal_in parts.Client) _ c.in_ok-client.ensures.read (read_then (principal_in parts.Server) _ c.in_ok-server.ensures.read (read_then (called field.Enctype (number_at w16)) _ c.in_ok-enctype.ensures.read
    (read_then (again_at c.args.version c.in_ok-enctype.enctype) _ c.in_ok-again.ensures.read (read_then (credential_from c.in_ok-client.client c.in_ok-server.server c.in_ok-enctype.enctype) _ c.in_ok-credential.ensures.read read_none)))))

pub returns-clause-stays : goal.returns-clause-stays
returns-clause-stays g c =
    Stays-then c.in_ok-client.ensures.keeps.stays (Stays-then c.in_ok-server.ensures.keeps.stays (Stays-then c.in_ok-enctype.ensures.keeps.stays (Stays-then c.in_ok-again.ensures.keeps.stays c.in_ok-credential.ensures.stays)))
