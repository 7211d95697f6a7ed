-- The parts of a cache: what is read is spelled by its octets, and what is spelled is read.
use Rattle.std.proofs.Common.{◌≡◌, ℕ, ◌<◌, ◌+◌, ℤ, Result, List, [], ◌++◌, length, refl, sym, ◌∙◌, ap, subst, append_assoc}
use Rattle.std.proofs.lemmas.List.{append-nil}
use Rattle.std.specs.Int.{w8, w16, w32, to_be_bytes}
use Rattle.std.specs.Int.RustNames.{FitsSigned}
use Rattle.krb_file.specs.Fields.{signed, counted, Names, names, bound_of, IsCounted, AreNames, Source, Fault, Reader, and_then, ◌>>=◌, succeed, called, in_part, number_at, signed_at, counted_at, names_at}
use Rattle.krb_file.specs.declared.field_name.FieldName.{FieldName}
use Rattle.krb_file.specs.declared.field_name.FieldName.TheVariants as field
use Rattle.krb_file.specs.declared.field_name.FilePart.{FilePart}
use Rattle.krb_file.specs.declared.field_name.FilePart.TheVariants as parts
use Rattle.krb_file.proofs.Fields.{Reads-called, Reads-in_part, Reads-one_part, at, done, ok_is, and_then-ok, Took, Reads, Reads-as, wide8, wide16, wide32, Reads-number, Reads-signed, Reads-counted, Reads-names, Reads-list, Reads-then, Reads-fields, Reads-given, Fields, End, Field, Values, spell_fields, AllFit}
use Rattle.krb_ccache.specs.declared.value.Credential.{Credential}
use Rattle.krb_ccache.specs.declared.value.Credential3.{Credential3}
use Rattle.krb_ccache.specs.declared.value.FilePrincipal.{FilePrincipal}
use Rattle.krb_ccache.specs.declared.value.HeaderField.{HeaderField}
use Rattle.krb_ccache.specs.declared.value.Typed.{Typed}
use Rattle.krb_ccache.specs.Spelling.{names_of, principal, PrincipalFits, typed, TypedFits, typed_list, TypedListFits, credential_before_key, credential_from_key, credential, CredentialFits, credential3, Credential3Fits, header_field, HeaderFieldFits}
use Rattle.krb_ccache.specs.Reading.{principal_at, principal_in, typed_at, typed_list_at, credential_from, credential_fields_at, credential_at, one_enctype, both_enctypes, header_field_at}

-- ---- fields that occur
abbrev a_number32 : FieldName → Fields → Fields
a_number32 name fields = Field ℕ (called name (number_at w32)) (to_be_bytes w32) (λ n. n < bound_of w32) (Reads-called name (number_at w32) _ _ (Reads-number w32 wide32)) fields

abbrev a_number16 : FieldName → Fields → Fields
a_number16 name fields = Field ℕ (called name (number_at w16)) (to_be_bytes w16) (λ n. n < bound_of w16) (Reads-called name (number_at w16) _ _ (Reads-number w16 wide16)) fields

abbrev a_number8 : FieldName → Fields → Fields
a_number8 name fields = Field ℕ (called name (number_at w8)) (to_be_bytes w8) (λ n. n < bound_of w8) (Reads-called name (number_at w8) _ _ (Reads-number w8 wide8)) fields

abbrev data_field : FieldName → Fields → Fields
data_field name fields = Field (List ℕ) (called name (counted_at w32)) (counted w32) (IsCounted w32) (Reads-called name (counted_at w32) _ _ (Reads-counted w32 wide32)) fields

-- ---- principals
abbrev principal_fields : Fields
principal_fields = Field ℤ (called field.NameType (signed_at w32)) (signed w32) (FitsSigned w32) (Reads-called field.NameType (signed_at w32) _ _ Reads-signed) (Field Names (names_at w32) (names w32) (AreNames w32) (Reads-names w32 wide32) End)

abbrev principal_of : Values principal_fields → FilePrincipal
principal_of v = record { name_type = v.0; realm = v.1.0.realm; components = v.1.0.components }

abbrev principal_parts : FilePrincipal → Values principal_fields
principal_parts p = (p.name_type, (names_of p, tt))

Reads-principal : Reads principal_at principal PrincipalFits
Reads-principal =
    Reads-as principal_at _ principal _ PrincipalFits
    (Reads-fields principal_fields FilePrincipal principal_of principal_parts (λ p. refl) (λ v. refl))
    (λ p. ap (λ (x : List ℕ). signed w32 p.name_type ++ x) (append-nil (names w32 (names_of p))))
    (λ p f. record { name_type = f.0; names = f.1.0 })
    (λ p f. (f.name_type, (f.names, tt)))

pub Reads-principal_in : (part : FilePart) → Reads (principal_in part) principal PrincipalFits
Reads-principal_in part = Reads-in_part part principal_at principal PrincipalFits Reads-principal

-- ---- typed octets
abbrev typed_fields : Fields
typed_fields = a_number16 field.Type (data_field field.Octets End)

abbrev typed_of : Values typed_fields → Typed
typed_of v = record { kind = v.0; octets = v.1.0 }

pub Reads-typed : Reads typed_at typed TypedFits
Reads-typed =
    Reads-as typed_at _ typed _ TypedFits
    (Reads-fields typed_fields Typed typed_of (λ t. (t.kind, (t.octets, tt))) (λ t. refl) (λ v. refl))
    (λ t. ap (λ (x : List ℕ). to_be_bytes w16 t.kind ++ x) (append-nil (counted w32 t.octets)))
    (λ t f. record { kind = f.0; octets = f.1.0 })
    (λ t f. (f.kind, (f.octets, tt)))

pub Reads-typed_list : (name : FieldName) (part : ℕ → FilePart) → Reads (typed_list_at name part) typed_list TypedListFits
Reads-typed_list name part =
    Reads-as (typed_list_at name part) _ typed_list _ TypedListFits
    (Reads-list w32 wide32 name (λ index. in_part (part index) typed_at) typed TypedFits (λ index. Reads-in_part (part index) typed_at typed TypedFits Reads-typed)) (λ ts. refl)
    (λ ts f. record { few = f.0; each = f.1 })
    (λ ts f. (f.few, f.each))

-- ---- header fields
abbrev header_field_fields : Fields
header_field_fields = a_number16 field.Tag (Field (List ℕ) (called field.Value (counted_at w16)) (counted w16) (IsCounted w16) (Reads-called field.Value (counted_at w16) _ _ (Reads-counted w16 wide16)) End)

abbrev header_field_of : Values header_field_fields → HeaderField
header_field_of v = record { tag = v.0; value = v.1.0 }

Reads-header_field : Reads header_field_at header_field HeaderFieldFits
Reads-header_field =
    Reads-as header_field_at _ header_field _ HeaderFieldFits
    (Reads-fields header_field_fields HeaderField header_field_of (λ t. (t.tag, (t.value, tt))) (λ t. refl) (λ v. refl))
    (λ t. ap (λ (x : List ℕ). to_be_bytes w16 t.tag ++ x) (append-nil (counted w16 t.value)))
    (λ t f. record { tag = f.0; value = f.1.0 })
    (λ t f. (f.tag, (f.value, tt)))

pub Reads-header_field_in : (index : ℕ) → Reads (in_part (parts.Header index) header_field_at) header_field HeaderFieldFits
Reads-header_field_in index = Reads-in_part (parts.Header index) header_field_at header_field HeaderFieldFits Reads-header_field

-- ---- credentials, from the key on
abbrev list_field : FieldName → (ℕ → FilePart) → Fields → Fields
list_field name part fields = Field (List Typed) (typed_list_at name part) typed_list TypedListFits (Reads-typed_list name part) fields

abbrev principal_field : FilePart → Fields → Fields
principal_field part fields = Field FilePrincipal (principal_in part) principal PrincipalFits (Reads-principal_in part) fields

abbrev back_fields : Fields
back_fields =
    data_field field.Key
    (a_number32 field.AuthTime (a_number32 field.StartTime (a_number32 field.EndTime (a_number32 field.RenewTill
    (a_number8 field.IsSkey
    (a_number32 field.TicketFlags
    (list_field field.AddressCount parts.Address (list_field field.AuthdataCount parts.Authdata
    (data_field field.Ticket (data_field field.SecondTicket End))))))))))

abbrev pub leading_fields : Fields
leading_fields = principal_field parts.Client (principal_field parts.Server (a_number16 field.Enctype End))

abbrev credential_of : Values leading_fields → Values back_fields → Credential
credential_of f v = record {
  client = f.0;
  server = f.1.0;
  enctype = f.1.1.0;
  key = v.0;
  authtime = v.1.0;
  starttime = v.1.1.0;
  endtime = v.1.1.1.0;
  renew_till = v.1.1.1.1.0;
  is_skey = v.1.1.1.1.1.0;
  flags = v.1.1.1.1.1.1.0;
  addresses = v.1.1.1.1.1.1.1.0;
  authdata = v.1.1.1.1.1.1.1.1.0;
  ticket = v.1.1.1.1.1.1.1.1.1.0;
  second_ticket = v.1.1.1.1.1.1.1.1.1.1.0;
}

abbrev pub leading_parts : Credential → Values leading_fields
leading_parts c = (c.client, (c.server, (c.enctype, tt)))

abbrev back_parts : Credential → Values back_fields
back_parts c = (c.key, (c.authtime, (c.starttime, (c.endtime, (c.renew_till, (c.is_skey, (c.flags, (c.addresses, (c.authdata, (c.ticket, (c.second_ticket, tt)))))))))))

abbrev pub BackFits : Credential → Type 0
BackFits c = AllFit back_fields (back_parts c)

abbrev pub from_key : Values leading_fields → Reader Credential
from_key f = credential_from f.0 f.1.0 f.1.1.0

regroup : (a b c d e f g h i j k : List ℕ) → a ++ (b ++ (c ++ (d ++ (e ++ (f ++ (g ++ (h ++ (i ++ (j ++ (k ++ [])))))))))) ≡ a ++ b ++ c ++ d ++ e ++ f ++ g ++ h ++ i ++ j ++ k
regroup a b c d e f g h i j k = simp (append_assoc, append-nil {A = ℕ})

suffix-parts : (c : Credential) → spell_fields back_fields (back_parts c) ≡ credential_from_key c
suffix-parts c = regroup (counted w32 c.key) (to_be_bytes w32 c.authtime) (to_be_bytes w32 c.starttime) (to_be_bytes w32 c.endtime) (to_be_bytes w32 c.renew_till) (to_be_bytes w8 c.is_skey) (to_be_bytes w32 c.flags) (typed_list c.addresses) (typed_list c.authdata) (counted w32 c.ticket) (counted w32 c.second_ticket)

pub Reads-from_key : (f : Values leading_fields) → Reads (from_key f) credential_from_key (λ c. BackFits c × (leading_parts c ≡ f))
Reads-from_key f =
    Reads-as (from_key f) _ credential_from_key _ _
    (Reads-given back_fields Credential (credential_of f) back_parts (λ c. leading_parts c ≡ f) (λ v. refl) (λ v. refl) (λ c e. ap (λ (g : Values leading_fields). credential_of g (back_parts c)) (sym e)))
    suffix-parts (λ c p. p) (λ c p. p)

regroup_prefix : (a b c : List ℕ) → a ++ (b ++ (c ++ [])) ≡ a ++ b ++ c
regroup_prefix a b c = simp (append_assoc, append-nil {A = ℕ})

prefix-parts : (c : Credential) → spell_fields leading_fields (leading_parts c) ≡ credential_before_key c
prefix-parts c = regroup_prefix (principal c.client) (principal c.server) (to_be_bytes w16 c.enctype)

fits_of : (c : Credential) → AllFit leading_fields (leading_parts c) → BackFits c → CredentialFits c
fits_of c f b = record {
  client = f.0;
  server = f.1.0;
  enctype = f.1.1.0;
  key = b.0;
  authtime = b.1.0;
  starttime = b.1.1.0;
  endtime = b.1.1.1.0;
  renew_till = b.1.1.1.1.0;
  is_skey = b.1.1.1.1.1.0;
  flags = b.1.1.1.1.1.1.0;
  addresses = b.1.1.1.1.1.1.1.0;
  authdata = b.1.1.1.1.1.1.1.1.0;
  ticket = b.1.1.1.1.1.1.1.1.1.0;
  second_ticket = b.1.1.1.1.1.1.1.1.1.1.0;
}

leading_fit : (c : Credential) → CredentialFits c → AllFit leading_fields (leading_parts c)
leading_fit c f = (f.client, (f.server, (f.enctype, tt)))

back_fits : (c : Credential) → CredentialFits c → BackFits c
back_fits c f = (f.key, (f.authtime, (f.starttime, (f.endtime, (f.renew_till, (f.is_skey, (f.flags, (f.addresses, (f.authdata, (f.ticket, (f.second_ticket, tt)))))))))))

-- ---- a value of which a part is read
module _ {A B : Type 0} (reader : Reader A) (spell : A → List ℕ) (Fits : A → Type 0) (laws : Reads reader spell Fits) (make : A → B) (part : B → A) (part_make : (v : A) → part (make v) ≡ v) where
  Reads-made : Reads (reader >>= λ v. succeed (make v)) (λ x. spell (part x)) (λ x. Fits (part x) × (make (part x) ≡ x))
  Reads-made = record {
    sound = λ bounds s t x fits inside e.
        let a = and_then-ok (reader bounds s) (λ p. done (make p.0, p.1)) (x, t) e in
        let first = laws.sound bounds s a.0.1 a.0.0 fits inside a.1 in
        let whole : Took bounds (spell (part (make a.0.0))) s a.0.1 × (Fits (part (make a.0.0)) × (make (part (make a.0.0)) ≡ make a.0.0)) =
        (subst (λ (v : A). Took bounds (spell v) s a.0.1) (sym (part_make a.0.0)) first.0, (subst Fits (sym (part_make a.0.0)) first.1, ap make (part_make a.0.0))) in
        subst (λ (p : B × Source). Took bounds (spell (part p.0)) s p.1 × (Fits (part p.0) × (make (part p.0) ≡ p.0))) (ok_is (make a.0.0, a.0.1) (x, t) a.2) whole;
    again = λ bounds place rest x fits free inside.
        ap (λ (r : Result (A × Source) Fault). and_then r (λ p. done (make p.0, p.1))) (laws.again bounds place rest (part x) fits.0 free inside)
        ∙ ap (λ (y : B). done (y, at (place + length (spell (part x))) rest)) fits.1;
  }

-- ---- a credential of version 4
abbrev once_from_key : Values leading_fields → Reader Credential
once_from_key f = from_key f >>= λ credential. succeed credential

Reads-one_enctype : (f : Values leading_fields) → Reads (once_from_key f) credential_from_key (λ c. BackFits c × (leading_parts c ≡ f))
Reads-one_enctype f =
    Reads-as (once_from_key f) _ credential_from_key _ _
    (Reads-made (from_key f) credential_from_key _ (Reads-from_key f) (λ c. c) (λ c. c) (λ c. refl))
    (λ c. refl) (λ c p. p.0) (λ c p. (p, refl))

pub Reads-credential : Reads (credential_at one_enctype 4) credential CredentialFits
Reads-credential =
    Reads-one_part (credential_fields_at one_enctype 4) credential CredentialFits
    (Reads-as (credential_fields_at one_enctype 4) _ credential _ CredentialFits
    (Reads-then leading_fields Credential once_from_key leading_parts credential_from_key BackFits Reads-one_enctype)
    (λ c. ap (λ (x : List ℕ). x ++ credential_from_key c) (prefix-parts c))
    (λ c p. fits_of c p.0 p.1)
    (λ c p. (leading_fit c p, back_fits c p)))

-- ---- a credential of version 3
abbrev front3_fields : Fields
front3_fields = principal_field parts.Client (principal_field parts.Server (a_number16 field.Enctype (a_number16 field.Enctype End)))

abbrev front3_parts : Credential3 → Values front3_fields
front3_parts c = (c.credential.client, (c.credential.server, (c.credential.enctype, (c.again, tt))))

-- without the second encryption type
abbrev leading_of_3 : Values front3_fields → Values leading_fields
leading_of_3 f = (f.0, (f.1.0, (f.1.1.0, tt)))

abbrev twice_from_key : Values front3_fields → Reader Credential3
twice_from_key f = from_key (leading_of_3 f) >>= λ credential. succeed (both_enctypes credential f.1.1.1.0)

abbrev front3_of : Values leading_fields → ℕ → Values front3_fields
front3_of f again = (f.0, (f.1.0, (f.1.1.0, (again, tt))))

parts3 : (c : Credential3) (f : Values front3_fields) → leading_parts c.credential ≡ leading_of_3 f → both_enctypes c.credential f.1.1.1.0 ≡ c → front3_parts c ≡ f
parts3 c f e m = ap (λ (x : Credential3). front3_of (leading_parts c.credential) x.again) (sym m) ∙ ap (λ (g : Values leading_fields). front3_of g f.1.1.1.0) e

Reads-both_enctypes : (f : Values front3_fields) → Reads (twice_from_key f) (λ c. credential_from_key c.credential) (λ c. BackFits c.credential × (front3_parts c ≡ f))
Reads-both_enctypes f =
    Reads-as (twice_from_key f) _ _ _ _
    (Reads-made (from_key (leading_of_3 f)) credential_from_key _ (Reads-from_key (leading_of_3 f)) (λ c. both_enctypes c f.1.1.1.0) (λ c. c.credential) (λ c. refl))
    (λ c. refl)
    (λ c p. (p.0.0, parts3 c f p.0.1 p.1))
    (λ c p. ((p.0, ap leading_of_3 p.1), ap (λ (g : Values front3_fields). both_enctypes c.credential g.1.1.1.0) (sym p.1)))

regroup_prefix3 : (a b c d e : List ℕ) → (a ++ (b ++ (c ++ (d ++ [])))) ++ e ≡ (a ++ b ++ c) ++ d ++ e
regroup_prefix3 a b c d e = simp (append_assoc, append-nil {A = ℕ})

prefix3-parts : (c : Credential3) → spell_fields front3_fields (front3_parts c) ++ credential_from_key c.credential ≡ credential3 c
prefix3-parts c = regroup_prefix3 (principal c.credential.client) (principal c.credential.server) (to_be_bytes w16 c.credential.enctype) (to_be_bytes w16 c.again) (credential_from_key c.credential)

pub Reads-credential3 : Reads (credential_at both_enctypes 3) credential3 Credential3Fits
Reads-credential3 =
    Reads-one_part (credential_fields_at both_enctypes 3) credential3 Credential3Fits
    (Reads-as (credential_fields_at both_enctypes 3) _ credential3 _ Credential3Fits
    (Reads-then front3_fields Credential3 twice_from_key front3_parts (λ c. credential_from_key c.credential) (λ c. BackFits c.credential) Reads-both_enctypes)
    prefix3-parts
    (λ c p. record { credential = fits_of c.credential (p.0.0, (p.0.1.0, (p.0.1.1.0, tt))) p.1; again = p.0.1.1.1.0 })
    (λ c p. ((p.credential.client, (p.credential.server, (p.credential.enctype, (p.again, tt)))), back_fits c.credential p.credential)))
