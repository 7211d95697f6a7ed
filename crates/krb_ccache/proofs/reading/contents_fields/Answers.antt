use Rattle.std.specs.Int.{w32}
use Rattle.krb_file.specs.Fields.{called, counted_at}
use Rattle.krb_file.specs.declared.field_name.FieldName.TheVariants as field
use Rattle.krb_file.specs.declared.field_name.FilePart.TheVariants as parts
use Rattle.krb_file.proofs.Chains.{read_none, read_from, read_then}
use Rattle.krb_file.proofs.FieldReaders.{Stays-same, Stays-then}
use Rattle.krb_ccache.specs.Reading.{typed_list_at}
use Rattle.krb_ccache.proofs.reading.contents_fields.Goals as goal

pub returns-clause-read : goal.returns-clause-read
returns-clause-read g c =
    rw (c.new.ensures, c.new-2.ensures)
    (read_then (typed_list_at field.AddressCount parts.Address) _ c.in_ok-addresses.ensures.read (read_then (typed_list_at field.AuthdataCount parts.Authdata) _ c.in_ok-authdata.ensures.read
    (read_from c.spare_octets-ticket.ensures.same (read_then (called field.Ticket (counted_at w32)) _ c.in_ok-counted_field32.ensures.read
    (read_from c.spare_octets-second_ticket.ensures.same (read_then (called field.SecondTicket (counted_at w32)) _ c.in_ok-counted_field32-2.ensures.read read_none))))))

pub returns-clause-stays : goal.returns-clause-stays
returns-clause-stays g c =
    Stays-then c.in_ok-addresses.ensures.keeps.stays (Stays-then c.in_ok-authdata.ensures.keeps.stays
    (Stays-then (Stays-same c.spare_octets-ticket.ensures.same) (Stays-then c.in_ok-counted_field32.ensures.keeps.stays
    (Stays-then (Stays-same c.spare_octets-second_ticket.ensures.same) c.in_ok-counted_field32-2.ensures.keeps.stays))))
