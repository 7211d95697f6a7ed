-- The names of fields as text.
use Rattle.std.specs.Prelude.{ℕ, List, [], ◌++◌, codes, Option, Some, None}
use Rattle.std.specs.Fmt.{decimal}
use Rattle.krb_file.specs.declared.field_name.FieldName.{FieldName}
use Rattle.krb_file.specs.declared.field_name.FieldName.TheVariants as fields
use Rattle.krb_file.specs.declared.field_name.FilePart.{FilePart}
use Rattle.krb_file.specs.declared.field_name.FilePart.TheVariants as parts
use Rattle.krb_file.specs.declared.field_name.FileField.{FileField}
use Rattle.krb_file.specs.declared.field_path.FieldPath.{FieldPath}
use Rattle.krb_file.specs.declared.field_path.FileItem.{FileItem}
use Rattle.krb_file.specs.declared.field_path.FileItem.TheVariants as items

-- a word, and an index from 0 in brackets
abbrev pub numbered : List ℕ → ℕ → List ℕ
numbered word index = word ++ codes "[" ++ decimal index ++ codes "]"

abbrev pub name_text : FieldName → List ℕ
name_text fields.Magic = codes "magic"
name_text fields.Version = codes "version"
name_text fields.Length = codes "length"
name_text fields.Hole = codes "hole"
name_text fields.ComponentCount = codes "component-count"
name_text fields.Realm = codes "realm"
name_text (fields.Component index) = numbered (codes "component") index
name_text fields.NameType = codes "name-type"
name_text fields.Timestamp = codes "timestamp"
name_text fields.KeyVersion = codes "key-version"
name_text fields.Enctype = codes "enctype"
name_text fields.Key = codes "key"
name_text fields.Rest = codes "rest"
name_text fields.HeaderLength = codes "header-length"
name_text fields.Tag = codes "tag"
name_text fields.Value = codes "value"
name_text fields.AuthTime = codes "authtime"
name_text fields.StartTime = codes "starttime"
name_text fields.EndTime = codes "endtime"
name_text fields.RenewTill = codes "renew-till"
name_text fields.IsSkey = codes "is-skey"
name_text fields.TicketFlags = codes "ticket-flags"
name_text fields.AddressCount = codes "address-count"
name_text fields.AuthdataCount = codes "authdata-count"
name_text fields.Type = codes "type"
name_text fields.Octets = codes "octets"
name_text fields.Ticket = codes "ticket"
name_text fields.SecondTicket = codes "second-ticket"
name_text fields.ThisZone = codes "thiszone"
name_text fields.SigFigs = codes "sigfigs"
name_text fields.SnapLen = codes "snaplen"
name_text fields.LinkType = codes "linktype"
name_text fields.Seconds = codes "seconds"
name_text fields.Fraction = codes "fraction"
name_text fields.CapturedLength = codes "captured-length"
name_text fields.OriginalLength = codes "original-length"
name_text fields.Data = codes "data"
name_text fields.ByteOrder = codes "byte-order"
name_text fields.Reserved = codes "reserved"
name_text fields.Options = codes "options"
name_text fields.Interface = codes "interface"
name_text fields.Drops = codes "drops"
name_text fields.Body = codes "body"
name_text fields.LengthAgain = codes "length-again"

abbrev pub part_text : FilePart → List ℕ
part_text (parts.Header index) = numbered (codes "header") index
part_text parts.Principal = codes "principal"
part_text parts.Client = codes "client"
part_text parts.Server = codes "server"
part_text (parts.Address index) = numbered (codes "address") index
part_text (parts.Authdata index) = numbered (codes "authdata") index
part_text (parts.Packet index) = numbered (codes "packet") index
part_text (parts.Block index) = numbered (codes "block") index

abbrev pub in_part_text : Option FilePart → List ℕ → List ℕ
in_part_text None name = name
in_part_text (Some part) name = part_text part ++ codes "." ++ name

-- the name of a field, after its part if it is in one
abbrev pub field_text : FileField → List ℕ
field_text field = in_part_text field.part (name_text field.name)

-- the record of a field, by its index from 0; the first two fields of a file are in no record
abbrev pub record_text : ℕ → FieldName → List ℕ
record_text index fields.Magic = []
record_text index fields.Version = []
record_text index other = numbered (codes "record") index ++ codes "."

-- the item of a field
abbrev pub item_text : FileItem → FieldName → List ℕ
item_text items.File name = []
item_text (items.Record index) name = record_text index name
item_text (items.Credential index) name = numbered (codes "credential") index ++ codes "."

abbrev pub path_text : FieldPath → List ℕ
path_text path = item_text path.item path.field.name ++ field_text path.field
