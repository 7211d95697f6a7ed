-- Numbers in either byte order, and fields that are refused if their number has no meaning.
use Rattle.std.specs.Prelude.{ℕ, None, Result, Ok, Err, List, reverse}
use Rattle.std.specs.Int.{Width, byte_len, from_be_bytes}
use Rattle.krb_file.specs.Fields.{Fault, fault_of, Reader, ◌>>=◌, succeed, called, next_octets_at, with_name, fault_at}
use Rattle.krb_source.specs.declared.file_why.FileWhy.{FileWhy}
use Rattle.krb_file.specs.declared.fault.FileFault.{FileFault}
use Rattle.krb_file.specs.declared.fault.FileFault.TheVariants as faults
use Rattle.krb_file.specs.declared.field_name.FieldName.{FieldName}
use Rattle.krb_packet.specs.declared.order.ByteOrder.{ByteOrder}
use Rattle.krb_packet.specs.declared.order.ByteOrder.TheVariants as orders

-- the octets of a number as big-endian ones
abbrev pub highest_first : ByteOrder → List ℕ → List ℕ
highest_first orders.BigEndian octets = octets
highest_first orders.LittleEndian octets = reverse octets

abbrev pub in_order : Width → ByteOrder → List ℕ → ℕ
in_order width order octets = from_be_bytes width (highest_first order octets)

abbrev pub number_in : Width → ByteOrder → Reader ℕ
number_in width order = do
  octets ← next_octets_at None (byte_len width)
  succeed (in_order width order octets)

-- the same, the field of this name
abbrev pub field_in : FieldName → Width → ByteOrder → Reader ℕ
field_in name width order = called name (number_in width order)

-- the meaning of the field of this name at a place, or its refusal there
abbrev pub checked_at : {A : Type 0} → FieldName → ℕ → Result A FileWhy → Reader A
checked_at name place (Ok value) = succeed value
checked_at name place (Err reason) = called name (λ bounds source. Err (fault_of place reason))

-- a reader that depends on the place at which it begins
abbrev pub from_here : {A : Type 0} → (ℕ → Reader A) → Reader A
from_here reader = λ bounds source. reader source.place bounds source

abbrev pub checked_number : {A : Type 0} → FieldName → Width → ByteOrder → (ℕ → Result A FileWhy) → Reader A
checked_number name width order check = from_here (λ place. field_in name width order >>= λ number. checked_at name place (check number))

-- the same result, whose fault is at this place
abbrev pub moved_to : {A : Type 0} → ℕ → Result A Fault → Result A Fault
moved_to place (Ok read) = Ok read
moved_to place (Err fault) = Err (record fault { place = place })

abbrev pub refused_at : {A : Type 0} → ℕ → Reader A → Reader A
refused_at place reader = λ bounds source. moved_to place (reader bounds source)

-- `checked_at`, as a result of a function
abbrev pub checked : {A : Type 0} → FieldName → ℕ → Result A FileWhy → Result A FileFault
checked name place (Ok value) = Ok value
checked name place (Err reason) = Err (fault_at (with_name name) (faults.Refused (fault_of place reason)))
