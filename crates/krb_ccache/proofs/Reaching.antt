-- A credential is read to its end: no octet that was fetched for it stays ahead.
use Rattle.std.proofs.Common.{ℕ, ◌+◌, Option, Some, arith}
use Rattle.std.specs.Int.{w8, w16, w32}
use Rattle.krb_file.specs.Fields.{succeed, called, in_part, number_at, signed_at, counted_at, times, component_at, names_at}
use Rattle.krb_file.specs.FieldReaders.{Cursor, Stays, LooksAheadTo, HasRead, bounded}
use Rattle.krb_file.specs.declared.field_name.FieldName.{FieldName}
use Rattle.krb_file.specs.declared.field_name.FieldName.TheVariants as field
use Rattle.krb_file.specs.declared.field_name.FilePart.{FilePart}
use Rattle.krb_file.specs.declared.field_name.FilePart.TheVariants as parts
use Rattle.krb_file.proofs.Steps.{Steps-succeed, Steps-component, Steps-times}
use Rattle.krb_file.proofs.Reaching.{AtLeast, AtLeast-then, AtLeast-none, AtLeast-called, AtLeast-in_part, AtLeast-one_part, AtLeast-number, AtLeast-signed, AtLeast-counted, goes_on, item_stays}
use Rattle.krb_ccache.specs.declared.value.Credential.{Credential}
use Rattle.krb_ccache.specs.declared.value.FilePrincipal.{FilePrincipal}
use Rattle.krb_ccache.specs.Reading.{principal_at, principal_in, typed_at, typed_list_at, validity_at, contents_at, credential_from, again_at, credential_fields_at, credential_at}
use Rattle.krb_ccache.proofs.Faults.{Steps-typed_items, Steps-again}

-- ---- a header, whose fields have their own end
pub Stays-bounded : (size : ℕ) (cursor : Cursor) → Stays cursor (bounded (Some (cursor.place + size)) cursor)
Stays-bounded size cursor = record { on = omega arith; within = λ ahead. omega arith }

pub ends_inside : (outer : Option ℕ) (old new : Cursor) → Stays old new → Stays old (bounded outer new)
ends_inside outer old new stays = record { on = stays.on; within = stays.within }

-- ---- the least number of octets
nothing : {A : Type 0} (value : A) → AtLeast 0 (succeed value)
nothing value = AtLeast-none (succeed value) (Steps-succeed value)

AtLeast-names : AtLeast 8 (names_at w32)
AtLeast-names =
    AtLeast-then 4 4 (called field.ComponentCount (number_at w32)) _ (AtLeast-called 4 field.ComponentCount (number_at w32) (AtLeast-number w32)) (λ count.
    AtLeast-then 4 0 (called field.Realm (counted_at w32)) _ (AtLeast-called 4 field.Realm (counted_at w32) (AtLeast-counted w32)) (λ realm.
    AtLeast-then 0 0 (times count (component_at w32)) _ (AtLeast-none (times count (component_at w32)) (Steps-times (component_at w32) (Steps-component w32) count)) (λ components. nothing (record { realm = realm; components = components }))))

AtLeast-principal : AtLeast 12 principal_at
AtLeast-principal =
    AtLeast-then 4 8 (called field.NameType (signed_at w32)) _ (AtLeast-called 4 field.NameType (signed_at w32) (AtLeast-signed w32)) (λ name_type.
    AtLeast-then 8 0 (names_at w32) _ AtLeast-names (λ names. nothing (record { name_type = name_type; realm = names.realm; components = names.components })))

AtLeast-principal_in : (part : FilePart) → AtLeast 12 (principal_in part)
AtLeast-principal_in part = AtLeast-in_part 12 part principal_at AtLeast-principal

pub AtLeast-typed_list : (name : FieldName) (part : ℕ → FilePart) → AtLeast 4 (typed_list_at name part)
AtLeast-typed_list name part =
    AtLeast-then 4 0 (called name (number_at w32)) _ (AtLeast-called 4 name (number_at w32) (AtLeast-number w32)) (λ count.
    AtLeast-none (times count (λ index. in_part (part index) typed_at)) (Steps-typed_items part count))

pub AtLeast-validity : AtLeast 21 validity_at
AtLeast-validity =
    AtLeast-then 4 17 (called field.AuthTime (number_at w32)) _ (AtLeast-called 4 field.AuthTime (number_at w32) (AtLeast-number w32)) (λ authtime.
    AtLeast-then 4 13 (called field.StartTime (number_at w32)) _ (AtLeast-called 4 field.StartTime (number_at w32) (AtLeast-number w32)) (λ starttime.
    AtLeast-then 4 9 (called field.EndTime (number_at w32)) _ (AtLeast-called 4 field.EndTime (number_at w32) (AtLeast-number w32)) (λ endtime.
    AtLeast-then 4 5 (called field.RenewTill (number_at w32)) _ (AtLeast-called 4 field.RenewTill (number_at w32) (AtLeast-number w32)) (λ renew_till.
    AtLeast-then 1 4 (called field.IsSkey (number_at w8)) _ (AtLeast-called 1 field.IsSkey (number_at w8) (AtLeast-number w8)) (λ is_skey.
    AtLeast-then 4 0 (called field.TicketFlags (number_at w32)) _ (AtLeast-called 4 field.TicketFlags (number_at w32) (AtLeast-number w32)) (λ flags.
    nothing (record { authtime = authtime; starttime = starttime; endtime = endtime; renew_till = renew_till; is_skey = is_skey; flags = flags })))))))

pub AtLeast-contents : AtLeast 16 contents_at
AtLeast-contents =
    AtLeast-then 4 12 (typed_list_at field.AddressCount parts.Address) _ (AtLeast-typed_list field.AddressCount parts.Address) (λ addresses.
    AtLeast-then 4 8 (typed_list_at field.AuthdataCount parts.Authdata) _ (AtLeast-typed_list field.AuthdataCount parts.Authdata) (λ authdata.
    AtLeast-then 4 4 (called field.Ticket (counted_at w32)) _ (AtLeast-called 4 field.Ticket (counted_at w32) (AtLeast-counted w32)) (λ ticket.
    AtLeast-then 4 0 (called field.SecondTicket (counted_at w32)) _ (AtLeast-called 4 field.SecondTicket (counted_at w32) (AtLeast-counted w32)) (λ second_ticket.
    nothing (record { addresses = addresses; authdata = authdata; ticket = ticket; second_ticket = second_ticket })))))

AtLeast-from_key : (client server : FilePrincipal) (enctype : ℕ) → AtLeast 41 (credential_from client server enctype)
AtLeast-from_key client server enctype =
    AtLeast-then 4 37 (called field.Key (counted_at w32)) _ (AtLeast-called 4 field.Key (counted_at w32) (AtLeast-counted w32)) (λ key.
    AtLeast-then 4 33 (called field.AuthTime (number_at w32)) _ (AtLeast-called 4 field.AuthTime (number_at w32) (AtLeast-number w32)) (λ authtime.
    AtLeast-then 4 29 (called field.StartTime (number_at w32)) _ (AtLeast-called 4 field.StartTime (number_at w32) (AtLeast-number w32)) (λ starttime.
    AtLeast-then 4 25 (called field.EndTime (number_at w32)) _ (AtLeast-called 4 field.EndTime (number_at w32) (AtLeast-number w32)) (λ endtime.
    AtLeast-then 4 21 (called field.RenewTill (number_at w32)) _ (AtLeast-called 4 field.RenewTill (number_at w32) (AtLeast-number w32)) (λ renew_till.
    AtLeast-then 1 20 (called field.IsSkey (number_at w8)) _ (AtLeast-called 1 field.IsSkey (number_at w8) (AtLeast-number w8)) (λ is_skey.
    AtLeast-then 4 16 (called field.TicketFlags (number_at w32)) _ (AtLeast-called 4 field.TicketFlags (number_at w32) (AtLeast-number w32)) (λ flags.
    AtLeast-then 4 12 (typed_list_at field.AddressCount parts.Address) _ (AtLeast-typed_list field.AddressCount parts.Address) (λ addresses.
    AtLeast-then 4 8 (typed_list_at field.AuthdataCount parts.Authdata) _ (AtLeast-typed_list field.AuthdataCount parts.Authdata) (λ authdata.
    AtLeast-then 4 4 (called field.Ticket (counted_at w32)) _ (AtLeast-called 4 field.Ticket (counted_at w32) (AtLeast-counted w32)) (λ ticket.
    AtLeast-then 4 0 (called field.SecondTicket (counted_at w32)) _ (AtLeast-called 4 field.SecondTicket (counted_at w32) (AtLeast-counted w32)) (λ second_ticket.
    nothing (record { client = client; server = server; enctype = enctype; key = key; authtime = authtime; starttime = starttime; endtime = endtime; renew_till = renew_till; is_skey = is_skey; flags = flags; addresses = addresses; authdata = authdata; ticket = ticket; second_ticket = second_ticket }))))))))))))

AtLeast-credential : {A : Type 0} (kept : Credential → ℕ → A) (version : ℕ) → AtLeast 67 (credential_at kept version)
AtLeast-credential kept version =
    AtLeast-one_part 67 (credential_fields_at kept version)
    (AtLeast-then 12 55 (principal_in parts.Client) _ (AtLeast-principal_in parts.Client) (λ client.
    AtLeast-then 12 43 (principal_in parts.Server) _ (AtLeast-principal_in parts.Server) (λ server.
    AtLeast-then 2 41 (called field.Enctype (number_at w16)) _ (AtLeast-called 2 field.Enctype (number_at w16) (AtLeast-number w16)) (λ enctype.
    AtLeast-then 0 41 (again_at version enctype) _ (AtLeast-none (again_at version enctype) (Steps-again version enctype)) (λ again.
    AtLeast-then 41 0 (credential_from client server enctype) _ (AtLeast-from_key client server enctype) (λ credential. nothing (kept credential again)))))))

pub credential_stays : {A : Type 0} (kept : Credential → ℕ → A) (version : ℕ) (item : A) (old mid some new : Cursor) → LooksAheadTo 67 old mid → LooksAheadTo 1 mid some → HasRead (credential_at kept version) item some new → Stays some new → Stays old new
credential_stays kept version item old mid some new looks more read stays =
    item_stays 67 old mid some new (omega arith) looks more stays (goes_on 67 (credential_at kept version) item some new (AtLeast-credential kept version) read)
