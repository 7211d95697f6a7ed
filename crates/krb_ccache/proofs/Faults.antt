-- A fault is at a place of the file or at its end, and without a field limit none is TooLong.
use Rattle.std.proofs.Common.{◌≡◌, ℕ, zero, suc, ◌==◌, Bool, true, false, Ok, Err, List, [], ◌∷◌}
use Rattle.std.specs.Int.{w8, w16, w32}
use Rattle.krb_der.specs.Octets.{when}
use Rattle.krb_file.specs.Fields.{Source, Fault, Bounds, Reader, ◌>>=◌, succeed, called, in_part, number_at, signed_at, counted_at, times, names_at, within, is_at_end, version_at}
use Rattle.krb_file.specs.declared.field_name.FieldName.{FieldName}
use Rattle.krb_file.specs.declared.field_name.FieldName.TheVariants as field
use Rattle.krb_file.specs.declared.field_name.FilePart.{FilePart}
use Rattle.krb_file.specs.declared.field_name.FilePart.TheVariants as parts
use Rattle.krb_file.proofs.Steps.{IsFault, Moved, Steps, Steps-then, Steps-succeed, Steps-called, Steps-in_part, Steps-one_part, Steps-number, Steps-signed, Steps-counted, Steps-times, Steps-names, Steps-within, Steps-version}
use Rattle.krb_ccache.specs.declared.value.Credential.{Credential}
use Rattle.krb_ccache.specs.declared.value.FilePrincipal.{FilePrincipal}
use Rattle.krb_ccache.specs.Spelling.{no_header}
use Rattle.krb_ccache.specs.Reading.{principal_at, principal_in, typed_at, typed_list_at, credential_from, again_at, credential_fields_at, credential_at, header_field_at, header_fields_at, header_at, header_in, start_at}

pub Steps-principal : Steps principal_at
Steps-principal = Steps-then (called field.NameType (signed_at w32)) _ (Steps-called field.NameType (signed_at w32) (Steps-signed w32)) (λ name_type. Steps-then (names_at w32) _ (Steps-names w32) (λ names. Steps-succeed (record { name_type = name_type; realm = names.realm; components = names.components })))

pub Steps-principal_in : (part : FilePart) → Steps (principal_in part)
Steps-principal_in part = Steps-in_part part principal_at Steps-principal

pub Steps-typed : Steps typed_at
Steps-typed = Steps-then (called field.Type (number_at w16)) _ (Steps-called field.Type (number_at w16) (Steps-number w16)) (λ kind. Steps-then (called field.Octets (counted_at w32)) _ (Steps-called field.Octets (counted_at w32) (Steps-counted w32)) (λ octets. Steps-succeed (record { kind = kind; octets = octets })))

pub Steps-typed_items : (part : ℕ → FilePart) (count : ℕ) → Steps (times count (λ index. in_part (part index) typed_at))
Steps-typed_items part count = Steps-times (λ index. in_part (part index) typed_at) (λ index. Steps-in_part (part index) typed_at Steps-typed) count

Steps-typed_list : (name : FieldName) (part : ℕ → FilePart) → Steps (typed_list_at name part)
Steps-typed_list name part = Steps-then (called name (number_at w32)) _ (Steps-called name (number_at w32) (Steps-number w32)) (Steps-typed_items part)

pub Steps-from_key : (client server : FilePrincipal) (enctype : ℕ) → Steps (credential_from client server enctype)
Steps-from_key client server enctype =
    Steps-then (called field.Key (counted_at w32)) _ (Steps-called field.Key (counted_at w32) (Steps-counted w32)) (λ key.
    Steps-then (called field.AuthTime (number_at w32)) _ (Steps-called field.AuthTime (number_at w32) (Steps-number w32)) (λ authtime.
    Steps-then (called field.StartTime (number_at w32)) _ (Steps-called field.StartTime (number_at w32) (Steps-number w32)) (λ starttime.
    Steps-then (called field.EndTime (number_at w32)) _ (Steps-called field.EndTime (number_at w32) (Steps-number w32)) (λ endtime.
    Steps-then (called field.RenewTill (number_at w32)) _ (Steps-called field.RenewTill (number_at w32) (Steps-number w32)) (λ renew_till.
    Steps-then (called field.IsSkey (number_at w8)) _ (Steps-called field.IsSkey (number_at w8) (Steps-number w8)) (λ is_skey.
    Steps-then (called field.TicketFlags (number_at w32)) _ (Steps-called field.TicketFlags (number_at w32) (Steps-number w32)) (λ flags.
    Steps-then (typed_list_at field.AddressCount parts.Address) _ (Steps-typed_list field.AddressCount parts.Address) (λ addresses.
    Steps-then (typed_list_at field.AuthdataCount parts.Authdata) _ (Steps-typed_list field.AuthdataCount parts.Authdata) (λ authdata.
    Steps-then (called field.Ticket (counted_at w32)) _ (Steps-called field.Ticket (counted_at w32) (Steps-counted w32)) (λ ticket.
    Steps-then (called field.SecondTicket (counted_at w32)) _ (Steps-called field.SecondTicket (counted_at w32) (Steps-counted w32)) (λ second_ticket.
    Steps-succeed (record { client = client; server = server; enctype = enctype; key = key; authtime = authtime; starttime = starttime; endtime = endtime; renew_till = renew_till; is_skey = is_skey; flags = flags; addresses = addresses; authdata = authdata; ticket = ticket; second_ticket = second_ticket }))))))))))))

-- one of two readers
Steps-when : {A : Type 0} (test : Bool) (first second : Reader A) → Steps first → Steps second → Steps (when test (λ _. first) (λ _. second))
Steps-when true first second p q = p
Steps-when false first second p q = q

pub Steps-again : (version enctype : ℕ) → Steps (again_at version enctype)
Steps-again version enctype = Steps-when (version == 3) (called field.Enctype (number_at w16)) (succeed enctype) (Steps-called field.Enctype (number_at w16) (Steps-number w16)) (Steps-succeed enctype)

-- from the server on
pub Steps-from_server : {A : Type 0} (kept : Credential → ℕ → A) (version : ℕ) (client : FilePrincipal) → Steps (principal_in parts.Server >>= λ server. called field.Enctype (number_at w16) >>= λ enctype. again_at version enctype >>= λ again. credential_from client server enctype >>= λ credential. succeed (kept credential again))
Steps-from_server kept version client =
    Steps-then (principal_in parts.Server) _ (Steps-principal_in parts.Server) (λ server.
    Steps-then (called field.Enctype (number_at w16)) _ (Steps-called field.Enctype (number_at w16) (Steps-number w16)) (λ enctype.
    Steps-then (again_at version enctype) _ (Steps-again version enctype) (λ again.
    Steps-then (credential_from client server enctype) _ (Steps-from_key client server enctype) (λ credential. Steps-succeed (kept credential again)))))

pub Steps-credential : {A : Type 0} (kept : Credential → ℕ → A) (version : ℕ) → Steps (credential_at kept version)
Steps-credential kept version = Steps-one_part (credential_fields_at kept version) (Steps-then (principal_in parts.Client) _ (Steps-principal_in parts.Client) (Steps-from_server kept version))

pub Steps-header_field : Steps header_field_at
Steps-header_field = Steps-then (called field.Tag (number_at w16)) _ (Steps-called field.Tag (number_at w16) (Steps-number w16)) (λ tag. Steps-then (called field.Value (counted_at w16)) _ (Steps-called field.Value (counted_at w16) (Steps-counted w16)) (λ value. Steps-succeed (record { tag = tag; value = value })))

-- a test that reads nothing, or a reader
Steps-unless : {A : Type 0} (test : Bounds → Source → Bool) (value : A) (reader : Reader A) → Steps reader → Steps (λ bounds s. when (test bounds s) (λ _. Ok (value, s)) (λ _. reader bounds s))
Steps-unless {A} test value reader steps = record {
  moves = λ bounds s v t e. moves (test bounds s) bounds s v t e;
  faults = λ bounds s f e. faults (test bounds s) bounds s f e;
}
  where
    moves : (b : Bool) (bounds : Bounds) (s : Source) (v : A) (t : Source) → when b (λ _. succeed value bounds s) (λ _. reader bounds s) ≡ Ok (v, t) → Moved s t
    moves true bounds s v t e = (Steps-succeed value).moves bounds s v t e
    moves false bounds s v t e = steps.moves bounds s v t e

    faults : (b : Bool) (bounds : Bounds) (s : Source) (f : Fault) → when b (λ _. succeed value bounds s) (λ _. reader bounds s) ≡ Err f → IsFault bounds s f
    faults true bounds s f e = (Steps-succeed value).faults bounds s f e
    faults false bounds s f e = steps.faults bounds s f e

pub Steps-header_field_in : (index : ℕ) → Steps (in_part (parts.Header index) header_field_at)
Steps-header_field_in index = Steps-in_part (parts.Header index) header_field_at Steps-header_field

Steps-header_fields : (bound before : ℕ) → Steps (header_fields_at bound before)
Steps-header_fields zero before = Steps-succeed []
Steps-header_fields (suc bound) before =
    Steps-unless is_at_end [] _
    (Steps-then (in_part (parts.Header before) header_field_at) _ (Steps-header_field_in before) (λ first. Steps-then (header_fields_at bound (suc before)) _ (Steps-header_fields bound (suc before)) (λ others. Steps-succeed (first ∷ others))))

Steps-header : Steps header_at
Steps-header = Steps-then (called field.HeaderLength (number_at w16)) _ (Steps-called field.HeaderLength (number_at w16) (Steps-number w16)) (λ size. Steps-then (within size (header_fields_at size 0)) _ (Steps-within size (header_fields_at size 0) (Steps-header_fields size 0)) (λ fields. Steps-succeed (record { fields = fields })))

Steps-header_in : (version : ℕ) → Steps (header_in version)
Steps-header_in version = Steps-when (version == 3) (succeed no_header) header_at (Steps-succeed no_header) Steps-header

pub Steps-start : (versions : List ℕ) → Steps (start_at versions)
Steps-start versions =
    Steps-then (version_at versions) _ (Steps-version versions) (λ version.
    Steps-then (header_in version) _ (Steps-header_in version) (λ header.
    Steps-then (principal_in parts.Principal) _ (Steps-principal_in parts.Principal) (λ principal. Steps-succeed (record { version = version; header = header; principal = principal }))))
