-- Reading a cache from left to right, up to the first fault.
use Rattle.std.specs.Prelude.{ℕ, zero, suc, ◌==◌, List, [], ◌∷◌, length, Option, None, Some, Result, Ok, Err}
use Rattle.std.specs.Int.{w8, w16, w32}
use Rattle.krb_der.specs.Octets.{when}
use Rattle.krb_file.specs.Fields.{Source, source_of, Fault, limited, Reader, and_then, ◌>>=◌, succeed, called, one_part, in_part, is_empty, number_at, signed_at, counted_at, times, names_at, within, is_at_end, version_at}
use Rattle.krb_file.specs.Items.{Items, no_items, with_first}
use Rattle.krb_file.specs.declared.field_name.FieldName.{FieldName}
use Rattle.krb_file.specs.declared.field_name.FieldName.TheVariants as field
use Rattle.krb_file.specs.declared.field_name.FilePart.{FilePart}
use Rattle.krb_file.specs.declared.field_name.FilePart.TheVariants as parts
use Rattle.krb_ccache.specs.declared.value.Cache3.{Cache3}
use Rattle.krb_ccache.specs.declared.value.Ccache.{Ccache}
use Rattle.krb_ccache.specs.declared.value.Credential.{Credential}
use Rattle.krb_ccache.specs.declared.value.Credential3.{Credential3}
use Rattle.krb_ccache.specs.declared.value.FilePrincipal.{FilePrincipal}
use Rattle.krb_ccache.specs.declared.value.Header.{Header}
use Rattle.krb_ccache.specs.declared.value.HeaderField.{HeaderField}
use Rattle.krb_ccache.specs.declared.value.Typed.{Typed}
use Rattle.krb_ccache.specs.declared.reading.Contents.{Contents}
use Rattle.krb_ccache.specs.declared.reading.Start.{Start}
use Rattle.krb_ccache.specs.declared.reading.Validity.{Validity}
use Rattle.krb_ccache.specs.Spelling.{no_header}

-- ---- a principal

abbrev pub principal_at : Reader FilePrincipal
principal_at = do
  name_type ← called field.NameType (signed_at w32)
  names ← names_at w32
  succeed (record { name_type = name_type; realm = names.realm; components = names.components })

abbrev pub principal_in : FilePart → Reader FilePrincipal
principal_in part = in_part part principal_at

-- ---- addresses and authorization data

abbrev pub typed_at : Reader Typed
typed_at = do
  kind ← called field.Type (number_at w16)
  octets ← called field.Octets (counted_at w32)
  succeed (record { kind = kind; octets = octets })

-- a list after its count, which is the field of this name; each item is a part, by its index
abbrev pub typed_list_at : FieldName → (ℕ → FilePart) → Reader (List Typed)
typed_list_at name part = do
  count ← called name (number_at w32)
  times count (λ index. in_part (part index) typed_at)

-- ---- a credential

-- from the key on
abbrev pub credential_from : FilePrincipal → FilePrincipal → ℕ → Reader Credential
credential_from client server enctype = do
  key ← called field.Key (counted_at w32)
  authtime ← called field.AuthTime (number_at w32)
  starttime ← called field.StartTime (number_at w32)
  endtime ← called field.EndTime (number_at w32)
  renew_till ← called field.RenewTill (number_at w32)
  is_skey ← called field.IsSkey (number_at w8)
  flags ← called field.TicketFlags (number_at w32)
  addresses ← typed_list_at field.AddressCount parts.Address
  authdata ← typed_list_at field.AuthdataCount parts.Authdata
  ticket ← called field.Ticket (counted_at w32)
  second_ticket ← called field.SecondTicket (counted_at w32)
  succeed (record { client = client; server = server; enctype = enctype; key = key; authtime = authtime; starttime = starttime; endtime = endtime; renew_till = renew_till; is_skey = is_skey; flags = flags; addresses = addresses; authdata = authdata; ticket = ticket; second_ticket = second_ticket })

-- the second encryption type, which version 4 does not have
abbrev pub again_at : ℕ → ℕ → Reader ℕ
again_at version enctype = when (version == 3) (λ _. called field.Enctype (number_at w16)) (λ _. succeed enctype)

-- a credential in a version, as what `kept` makes of it and of its second encryption type
abbrev pub credential_fields_at : {A : Type 0} → (Credential → ℕ → A) → ℕ → Reader A
credential_fields_at kept version = do
  client ← principal_in parts.Client
  server ← principal_in parts.Server
  enctype ← called field.Enctype (number_at w16)
  again ← again_at version enctype
  credential ← credential_from client server enctype
  succeed (kept credential again)

-- the same; a fault is in the credential, which begins with its client
abbrev pub credential_at : {A : Type 0} → (Credential → ℕ → A) → ℕ → Reader A
credential_at kept version = one_part (credential_fields_at kept version)

-- the credential alone, and the credential with its second encryption type
abbrev pub one_enctype : Credential → ℕ → Credential
one_enctype credential again = credential

abbrev pub both_enctypes : Credential → ℕ → Credential3
both_enctypes credential again = record { credential = credential; again = again }

-- the next credential, or none at the end of the file
abbrev pub next_at : {A : Type 0} → (Credential → ℕ → A) → ℕ → Reader (Option A)
next_at kept version = λ bounds source. when (is_empty source.octets) (λ _. Ok (None, source)) (λ _. (credential_at kept version >>= λ item. succeed (Some item)) bounds source)

-- ---- the header

abbrev pub header_field_at : Reader HeaderField
header_field_at = do
  tag ← called field.Tag (number_at w16)
  value ← called field.Value (counted_at w16)
  succeed (record { tag = tag; value = value })

-- the fields up to the end of the header, after `before` others; at most as many as the first number
abbrev pub header_fields_at : ℕ → ℕ → Reader (List HeaderField)
header_fields_at zero before = succeed []
header_fields_at (suc bound) before = λ bounds source.
    when (is_at_end bounds source) (λ _. Ok ([], source)) (λ _. (do
      first ← in_part (parts.Header before) header_field_at
      others ← header_fields_at bound (suc before)
      succeed (first ∷ others)) bounds source)

abbrev pub header_at : Reader Header
header_at = do
  size ← called field.HeaderLength (number_at w16)
  fields ← within size (header_fields_at size 0)
  succeed (record { fields = fields })

-- ---- groups of fields of a credential

-- the times, whether the key is that of the second ticket, and the flags
abbrev pub validity_at : Reader Validity
validity_at = do
  authtime ← called field.AuthTime (number_at w32)
  starttime ← called field.StartTime (number_at w32)
  endtime ← called field.EndTime (number_at w32)
  renew_till ← called field.RenewTill (number_at w32)
  is_skey ← called field.IsSkey (number_at w8)
  flags ← called field.TicketFlags (number_at w32)
  succeed (record { authtime = authtime; starttime = starttime; endtime = endtime; renew_till = renew_till; is_skey = is_skey; flags = flags })

-- the addresses, the authorization data and the tickets
abbrev pub contents_at : Reader Contents
contents_at = do
  addresses ← typed_list_at field.AddressCount parts.Address
  authdata ← typed_list_at field.AuthdataCount parts.Authdata
  ticket ← called field.Ticket (counted_at w32)
  second_ticket ← called field.SecondTicket (counted_at w32)
  succeed (record { addresses = addresses; authdata = authdata; ticket = ticket; second_ticket = second_ticket })

-- ---- what is before the credentials

-- the header, which version 3 does not have
abbrev pub header_in : ℕ → Reader Header
header_in version = when (version == 3) (λ _. succeed no_header) (λ _. header_at)

-- what is before the credentials of a file of one of these versions
abbrev pub start_at : List ℕ → Reader Start
start_at versions = do
  version ← version_at versions
  header ← header_in version
  principal ← principal_in parts.Principal
  succeed (record { version = version; header = header; principal = principal })

-- ---- items up to the end of the file

-- The items before the first fault, and the fault or the number of octets read.
abbrev pub CacheItems : Type 0 → Type 0
CacheItems A = Items A (Result ℕ Fault)

abbrev pub item_and : {A : Type 0} → Result (A × Source) Fault → (Source → CacheItems A) → CacheItems A
item_and (Err fault) others = no_items (Err fault)
item_and (Ok read) others = with_first read.0 (others read.1)

-- at most as many items as the number
abbrev pub items_within : {A : Type 0} → ℕ → Reader A → Option ℕ → Source → CacheItems A
items_within zero item_at limit source = no_items (Ok source.place)
items_within (suc bound) item_at limit source =
    when (is_empty source.octets) (λ _. no_items (Ok source.place)) (λ _. item_and (item_at (limited limit) source) (items_within bound item_at limit))

-- the items of what is left of a file, of which any number of items was read
abbrev pub items_after : {A : Type 0} → Reader A → Option ℕ → Source → CacheItems A
items_after item_at limit source = items_within (length source.octets) item_at limit source

-- all items, if none is at fault
abbrev pub all_items : {A : Type 0} → CacheItems A → Result (List A) Fault
all_items found = and_then found.end (λ size. Ok found.items)

-- ---- a file of a version

-- the credentials of what is left
abbrev pub credentials_after : {A : Type 0} → (Credential → ℕ → A) → ℕ → Source → Result (List A) Fault
credentials_after kept version source = all_items (items_after (credential_at kept version) None source)

abbrev pub started : ℕ → List ℕ → Result (Start × Source) Fault
started version file = start_at (version ∷ []) (limited None) (source_of file)

-- the start and the credentials of a file, or the first fault
abbrev pub read_in : {A : Type 0} → (Credential → ℕ → A) → ℕ → List ℕ → Result (Start × List A) Fault
read_in kept version file =
    and_then (started version file) (λ start.
    and_then (credentials_after kept version start.1) (λ credentials.
    Ok (start.0, credentials)))

abbrev pub read : List ℕ → Result Ccache Fault
read file = and_then (read_in one_enctype 4 file) (λ found. Ok (record { header = found.0.header; principal = found.0.principal; credentials = found.1 }))

abbrev pub read3 : List ℕ → Result Cache3 Fault
read3 file = and_then (read_in both_enctypes 3 file) (λ found. Ok (record { principal = found.0.principal; credentials = found.1 }))
