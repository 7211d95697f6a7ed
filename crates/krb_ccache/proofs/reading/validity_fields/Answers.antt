use Rattle.std.specs.Int.{w8, w32}
use Rattle.krb_file.specs.Fields.{called, number_at}
use Rattle.krb_file.specs.declared.field_name.FieldName.TheVariants as field
use Rattle.krb_file.proofs.Chains.{read_none, read_then}
use Rattle.krb_file.proofs.FieldReaders.{Stays-then}
use Rattle.krb_ccache.proofs.reading.validity_fields.Goals as goal

pub returns-clause-read : goal.returns-clause-read
returns-clause-read g c =
    read_then (called field.AuthTime (number_at w32)) _ c.in_ok-authtime.ensures.read (read_then (called field.StartTime (number_at w32)) _ c.in_ok-starttime.ensures.read
    (read_then (called field.EndTime (number_at w32)) _ c.in_ok-endtime.ensures.read (read_then (called field.RenewTill (number_at w32)) _ c.in_ok-renew_till.ensures.read
    (read_then (called field.IsSkey (number_at w8)) _ c.in_ok-is_skey.ensures.read (read_then (called field.TicketFlags (number_at w32)) _ c.in_ok-flags.ensures.read read_none)))))

pub returns-clause-stays : goal.returns-clause-stays
returns-clause-stays g c =
    Stays-then c.in_ok-authtime.ensures.keeps.stays (Stays-then c.in_ok-starttime.ensures.keeps.stays (Stays-then c.in_ok-endtime.ensures.keeps.stays
    (Stays-then c.in_ok-renew_till.ensures.keeps.stays (Stays-then c.in_ok-is_skey.ensures.keeps.stays c.in_ok-flags.ensures.keeps.stays))))
