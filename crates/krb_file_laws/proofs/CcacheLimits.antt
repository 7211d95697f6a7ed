-- What a limit of fields changes of what is read of a cache: nothing, or that a longer field is refused as TooLong.
use Rattle.std.proofs.Common.{◌≡◌, ℕ, zero, suc, ◌+◌, ◌==◌, ◌<◌, ◌⊎◌, inl, inr, Bool, true, false, Option, Some, None, Result, Ok, Err, List, [], ◌∷◌, length, refl, sym, ◌∙◌, ap, subst}
use Rattle.std.specs.Int.{w8, w16, w32}
use Rattle.krb_der.specs.Octets.{when}
use Rattle.krb_file.specs.Fields.{Source, source_of, Fault, Bounds, limited, Reader, ◌>>=◌, succeed, called, in_part, number_at, signed_at, counted_at, names_at, within, is_at_end, version_at}
use Rattle.krb_file.specs.Limits.{number_before}
use Rattle.krb_file.specs.declared.field_name.FieldName.{FieldName}
use Rattle.krb_file.specs.declared.field_name.FieldName.TheVariants as field
use Rattle.krb_file.specs.declared.field_name.FilePart.{FilePart}
use Rattle.krb_file.specs.declared.field_name.FilePart.TheVariants as parts
use Rattle.krb_file.proofs.Fields.{at}
use Rattle.krb_file_laws.proofs.FileLimits.{bounded, IsOf, IsTooLong, IsSameOrTooLong, Limited, Limited-then, Limited-succeed, Limited-called, Limited-in_part, Limited-one_part, Limited-number, Limited-signed, Limited-counted, Limited-times, Limited-names, Limited-version}
use Rattle.krb_ccache.specs.declared.value.Credential.{Credential}
use Rattle.krb_ccache.specs.declared.value.FilePrincipal.{FilePrincipal}
use Rattle.krb_ccache.specs.declared.reading.Start.{Start}
use Rattle.krb_ccache.specs.Spelling.{no_header}
use Rattle.krb_file.specs.Items.{with_first}
use Rattle.krb_ccache.specs.Reading.{principal_at, principal_in, typed_at, typed_list_at, credential_from, again_at, credential_fields_at, credential_at, one_enctype, header_field_at, header_fields_at, header_at, header_in, start_at, CacheItems, item_and, items_within}
use Rattle.krb_ccache.specs.Streaming.{file_start, credentials_of, credentials}
use Rattle.krb_ccache.specs.Laws.{IsLongStart, StartIsTooLong, AreCut}

-- ---- by the octets before a field, which say how many it has
module _ (file : List ℕ) (most : ℕ) (Long : ℕ → ℕ → Type 0) (end : Option ℕ) where
  abbrev Is : {A : Type 0} → Reader A → Type 0
  Is reader = Limited file most Long end reader

  number32 : (name : FieldName) → Is (called name (number_at w32))
  number32 name = Limited-called file most Long end name (number_at w32) (Limited-number file most Long end w32)

  number16 : (name : FieldName) → Is (called name (number_at w16))
  number16 name = Limited-called file most Long end name (number_at w16) (Limited-number file most Long end w16)

  number8 : (name : FieldName) → Is (called name (number_at w8))
  number8 name = Limited-called file most Long end name (number_at w8) (Limited-number file most Long end w8)

  next : {A B : Type 0} (reader : Reader A) (others : A → Reader B) → Is reader → ((value : A) → Is (others value)) → Is (reader >>= others)
  next reader others = Limited-then file most Long end reader others

  last : {A : Type 0} (value : A) → Is (succeed value)
  last value = Limited-succeed file most Long end value

  -- one of two readers
  either_one : {A : Type 0} (test : Bool) (first second : Reader A) → Is first → Is second → Is (when test (λ _. first) (λ _. second))
  either_one true first second p q = p
  either_one false first second p q = q

  -- a test that depends on no limit, or a reader
  unless : {A : Type 0} (test : Source → Bool) (reads : Bounds → Source → Bool) (value : A) (reader : Reader A) → ((limit : Option ℕ) (s : Source) → reads (bounded end limit) s ≡ test s) → Is reader → Is (λ bounds s. when (reads bounds s) (λ _. Ok (value, s)) (λ _. reader bounds s))
  unless {A} test reads value reader same limited = record {
    stays = λ s v t is e.
        stays (test s) s v t is (sym (ap (λ (b : Bool). when b (λ _. succeed value (bounded end None) s) (λ _. reader (bounded end None) s)) (same None s)) ∙ e);
    same = λ s is.
        subst (λ (b : Bool). IsSameOrTooLong Long (when b (λ _. succeed value (bounded end (Some most)) s) (λ _. reader (bounded end (Some most)) s)) (when (reads (bounded end None) s) (λ _. succeed value (bounded end None) s) (λ _. reader (bounded end None) s))) (sym (same (Some most) s))
        (subst (λ (b : Bool). IsSameOrTooLong Long (when (test s) (λ _. succeed value (bounded end (Some most)) s) (λ _. reader (bounded end (Some most)) s)) (when b (λ _. succeed value (bounded end None) s) (λ _. reader (bounded end None) s))) (sym (same None s))
        (alike (test s) s is));
  }
    where
      stays : (b : Bool) (s : Source) (v : A) (t : Source) → IsOf file s → when b (λ _. succeed value (bounded end None) s) (λ _. reader (bounded end None) s) ≡ Ok (v, t) → IsOf file t
      stays true s v t is e = (last value).stays s v t is e
      stays false s v t is e = limited.stays s v t is e

      alike : (b : Bool) (s : Source) → IsOf file s → IsSameOrTooLong Long (when b (λ _. succeed value (bounded end (Some most)) s) (λ _. reader (bounded end (Some most)) s)) (when b (λ _. succeed value (bounded end None) s) (λ _. reader (bounded end None) s))
      alike true s is = inl refl
      alike false s is = limited.same s is

  -- ---- by the four octets before a field
  module _ (long32 : (place : ℕ) → most < number_before w32 file place → Long place (number_before w32 file place)) where
    octets32 : (name : FieldName) → Is (called name (counted_at w32))
    octets32 name = Limited-called file most Long end name (counted_at w32) (Limited-counted file most Long end w32 long32)

    Limited-principal : Is principal_at
    Limited-principal =
        next (called field.NameType (signed_at w32)) _ (Limited-called file most Long end field.NameType (signed_at w32) (Limited-signed file most Long end w32)) (λ name_type.
        next (names_at w32) _ (Limited-names file most Long end w32 long32) (λ names. last (record { name_type = name_type; realm = names.realm; components = names.components })))

    Limited-principal_in : (part : FilePart) → Is (principal_in part)
    Limited-principal_in part = Limited-in_part file most Long end part principal_at Limited-principal

    Limited-typed : Is typed_at
    Limited-typed = next (called field.Type (number_at w16)) _ (number16 field.Type) (λ kind. next (called field.Octets (counted_at w32)) _ (octets32 field.Octets) (λ octets. last (record { kind = kind; octets = octets })))

    Limited-typed_list : (name : FieldName) (part : ℕ → FilePart) → Is (typed_list_at name part)
    Limited-typed_list name part =
        next (called name (number_at w32)) _ (number32 name)
        (λ count. Limited-times file most Long end (λ index. in_part (part index) typed_at) (λ index. Limited-in_part file most Long end (part index) typed_at Limited-typed) count)

    Limited-from_key : (client server : FilePrincipal) (enctype : ℕ) → Is (credential_from client server enctype)
    Limited-from_key client server enctype =
        next (called field.Key (counted_at w32)) _ (octets32 field.Key) (λ key.
        next (called field.AuthTime (number_at w32)) _ (number32 field.AuthTime) (λ authtime.
        next (called field.StartTime (number_at w32)) _ (number32 field.StartTime) (λ starttime.
        next (called field.EndTime (number_at w32)) _ (number32 field.EndTime) (λ endtime.
        next (called field.RenewTill (number_at w32)) _ (number32 field.RenewTill) (λ renew_till.
        next (called field.IsSkey (number_at w8)) _ (number8 field.IsSkey) (λ is_skey.
        next (called field.TicketFlags (number_at w32)) _ (number32 field.TicketFlags) (λ flags.
        next (typed_list_at field.AddressCount parts.Address) _ (Limited-typed_list field.AddressCount parts.Address) (λ addresses.
        next (typed_list_at field.AuthdataCount parts.Authdata) _ (Limited-typed_list field.AuthdataCount parts.Authdata) (λ authdata.
        next (called field.Ticket (counted_at w32)) _ (octets32 field.Ticket) (λ ticket.
        next (called field.SecondTicket (counted_at w32)) _ (octets32 field.SecondTicket) (λ second_ticket.
        last (record { client = client; server = server; enctype = enctype; key = key; authtime = authtime; starttime = starttime; endtime = endtime; renew_till = renew_till; is_skey = is_skey; flags = flags; addresses = addresses; authdata = authdata; ticket = ticket; second_ticket = second_ticket }))))))))))))

    Limited-again : (version enctype : ℕ) → Is (again_at version enctype)
    Limited-again version enctype = either_one (version == 3) (called field.Enctype (number_at w16)) (succeed enctype) (number16 field.Enctype) (last enctype)

    pub Limited-credential : (version : ℕ) → Is (credential_at one_enctype version)
    Limited-credential version =
        Limited-one_part file most Long end (credential_fields_at one_enctype version)
        (next (principal_in parts.Client) _ (Limited-principal_in parts.Client) (λ client.
        next (principal_in parts.Server) _ (Limited-principal_in parts.Server) (λ server.
        next (called field.Enctype (number_at w16)) _ (number16 field.Enctype) (λ enctype.
        next (again_at version enctype) _ (Limited-again version enctype) (λ again.
        next (credential_from client server enctype) _ (Limited-from_key client server enctype) (λ credential. last (one_enctype credential again)))))))

  -- ---- by the two octets before a field of the header
  module _ (long16 : (place : ℕ) → most < number_before w16 file place → Long place (number_before w16 file place)) where
    Limited-header_field : (index : ℕ) → Is (in_part (parts.Header index) header_field_at)
    Limited-header_field index =
        Limited-in_part file most Long end (parts.Header index) header_field_at
        (next (called field.Tag (number_at w16)) _ (number16 field.Tag) (λ tag.
        next (called field.Value (counted_at w16)) _ (Limited-called file most Long end field.Value (counted_at w16) (Limited-counted file most Long end w16 long16)) (λ value. last (record { tag = tag; value = value }))))

    Limited-header_fields : (bound before : ℕ) → Is (header_fields_at bound before)
    Limited-header_fields zero before = last []
    Limited-header_fields (suc bound) before =
        unless (λ s. is_at_end (bounded end None) s) is_at_end [] _ (λ limit s. refl)
        (next (in_part (parts.Header before) header_field_at) _ (Limited-header_field before) (λ first. next (header_fields_at bound (suc before)) _ (Limited-header_fields bound (suc before)) (λ others. last (first ∷ others))))

-- ---- what is before the credentials
-- fields up to an end
Limited-within : {A : Type 0} (file : List ℕ) (most : ℕ) (Long : ℕ → ℕ → Type 0) (size : ℕ) (inner : Reader A) → ((end : Option ℕ) → Limited file most Long end inner) → Limited file most Long None (within size inner)
Limited-within file most Long size inner limited = record {
  stays = λ s v t is e. (limited (Some (s.place + size))).stays s v t is e;
  same = λ s is. (limited (Some (s.place + size))).same s is;
}

Limited-header : (file : List ℕ) (most : ℕ) (Long : ℕ → ℕ → Type 0) → ((place : ℕ) → most < number_before w16 file place → Long place (number_before w16 file place)) → Limited file most Long None header_at
Limited-header file most Long long16 =
    Limited-then file most Long None (called field.HeaderLength (number_at w16)) _ (number16 file most Long None field.HeaderLength) (λ size.
    Limited-then file most Long None (within size (header_fields_at size 0)) _ (Limited-within file most Long size (header_fields_at size 0) (λ end. Limited-header_fields file most Long end long16 size 0)) (λ fields. Limited-succeed file most Long None (record { fields = fields })))

Limited-start : (file : List ℕ) (most : ℕ) (Long : ℕ → ℕ → Type 0) (versions : List ℕ) → ((place : ℕ) → most < number_before w16 file place → Long place (number_before w16 file place)) → ((place : ℕ) → most < number_before w32 file place → Long place (number_before w32 file place)) → Limited file most Long None (start_at versions)
Limited-start file most Long versions long16 long32 =
    Limited-then file most Long None (version_at versions) _ (Limited-version file most Long None versions) (λ version.
    Limited-then file most Long None (header_in version) _ (either_one file most Long None (version == 3) (succeed no_header) header_at (Limited-succeed file most Long None no_header) (Limited-header file most Long long16)) (λ header.
    Limited-then file most Long None (principal_in parts.Principal) _ (Limited-principal_in file most Long None long32 parts.Principal) (λ principal. Limited-succeed file most Long None (record { version = version; header = header; principal = principal }))))

-- ---- the credentials
module _ (most : ℕ) (file : List ℕ) (version : ℕ) where
  abbrev Long : ℕ → ℕ → Type 0
  Long place size = (most < size) × (size ≡ number_before w32 file place)

  abbrev item_at : Reader Credential
  item_at = credential_at one_enctype version

  each : Limited file most Long None item_at
  each = Limited-credential file most Long None (λ place lt. (lt, refl)) version

  cut-here : (r : Result (Credential × Source) Fault) (others : Source → CacheItems Credential) (whole : CacheItems Credential) → IsTooLong Long r → AreCut most file (item_and r others) whole
  cut-here r others whole l =
      subst (λ (x : Result (Credential × Source) Fault). AreCut most file (item_and x others) whole) (sym l.is)
      (record { others = whole.items; items = refl; fault = l.fault; end = refl; octets = l.size; reason = l.reason; long = l.long })

  cut-after : (c : Credential) (under whole : CacheItems Credential) → (under ≡ whole) ⊎ AreCut most file under whole → (with_first c under ≡ with_first c whole) ⊎ AreCut most file (with_first c under) (with_first c whole)
  cut-after c under whole (inl e) = inl (ap (with_first c) e)
  cut-after c under whole (inr cut) = inr (record { others = cut.others; items = ap (λ (cs : List Credential). c ∷ cs) cut.items; fault = cut.fault; end = cut.end; octets = cut.octets; reason = cut.reason; long = cut.long })

  cut-step : (under whole : Source → CacheItems Credential) → ((t : Source) → IsOf file t → (under t ≡ whole t) ⊎ AreCut most file (under t) (whole t))
      → (r : Result (Credential × Source) Fault) → ((c : Credential) (t : Source) → r ≡ Ok (c, t) → IsOf file t) → (item_and r under ≡ item_and r whole) ⊎ AreCut most file (item_and r under) (item_and r whole)
  cut-step under whole rest (Err f) stays = inl refl
  cut-step under whole rest (Ok (c, t)) stays = cut-after c (under t) (whole t) (rest t (stays c t refl))

  cut-either : (under whole : Source → CacheItems Credential) (r w : Result (Credential × Source) Fault) → IsSameOrTooLong Long r w → (item_and w under ≡ item_and w whole) ⊎ AreCut most file (item_and w under) (item_and w whole)
      → (item_and r under ≡ item_and w whole) ⊎ AreCut most file (item_and r under) (item_and w whole)
  cut-either under whole r w (inl e) step = subst (λ (x : Result (Credential × Source) Fault). (item_and x under ≡ item_and w whole) ⊎ AreCut most file (item_and x under) (item_and w whole)) (sym e) step
  cut-either under whole r w (inr l) step = inr (cut-here r under (item_and w whole) l)

  within-cut : (bound place : ℕ) (octets : List ℕ) → IsOf file (at place octets)
      → (items_within bound item_at (Some most) (at place octets) ≡ items_within bound item_at None (at place octets)) ⊎ AreCut most file (items_within bound item_at (Some most) (at place octets)) (items_within bound item_at None (at place octets))
  within-cut (suc bound) place (octet ∷ octets) is =
      let s = at place (octet ∷ octets) in
      cut-either (items_within bound item_at (Some most)) (items_within bound item_at None) (item_at (limited (Some most)) s) (item_at (limited None) s) (each.same s is)
      (cut-step (items_within bound item_at (Some most)) (items_within bound item_at None) (λ t h. within-cut bound t.place t.octets h) (item_at (limited None) s) (λ c t e. each.stays s c t is e))
  within-cut other place another is = inl refl

-- ---- a whole file
pub limits-add : (most : ℕ) (file : List ℕ)
    → StartIsTooLong most file ⊎ ((file_start (Some most) file ≡ file_start None file) × ((credentials (Some most) file ≡ credentials None file) ⊎ AreCut most file (credentials (Some most) file) (credentials None file)))
limits-add most file = go (start.same s of)
  where
    s : Source
    s = source_of file

    of : IsOf file s
    of = record { octets = refl }

    start : Limited file most (IsLongStart most file) None (start_at (3 ∷ 4 ∷ []))
    start = Limited-start file most (IsLongStart most file) (3 ∷ 4 ∷ []) (λ place lt. (lt, inl refl)) (λ place lt. (lt, inr refl))

    after : (r : Result (Start × Source) Fault) → file_start None file ≡ r → (credentials_of (Some most) r ≡ credentials_of None r) ⊎ AreCut most file (credentials_of (Some most) r) (credentials_of None r)
    after (Err f) e = inl refl
    after (Ok (st, t)) e = within-cut most file st.version (length t.octets) t.place t.octets (start.stays s st t of e)

    go : IsSameOrTooLong (IsLongStart most file) (file_start (Some most) file) (file_start None file)
        → StartIsTooLong most file ⊎ ((file_start (Some most) file ≡ file_start None file) × ((credentials (Some most) file ≡ credentials None file) ⊎ AreCut most file (credentials (Some most) file) (credentials None file)))
    go (inl e) = inr (e, subst (λ (r : Result (Start × Source) Fault). (credentials_of (Some most) r ≡ credentials None file) ⊎ AreCut most file (credentials_of (Some most) r) (credentials None file)) (sym e) (after (file_start None file) refl))
    go (inr l) = inl (record { fault = l.fault; is = l.is; octets = l.size; reason = l.reason; long = l.long })
