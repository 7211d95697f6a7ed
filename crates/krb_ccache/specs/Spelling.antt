-- Credential cache files (MIT krb5) of versions 4 and 3: the octets that spell each cache.
use Rattle.std.specs.Prelude.{ℕ, ℤ, ◌^◌, ◌<◌, ◌≡◌, Bool, false, ◌&&◌, ◌==◌, codes, List, [], ◌∷◌, ◌++◌, length, map, take, drop, Option, Some, None}
use Rattle.std.specs.List.{flat_map, AllByRecursion}
use Rattle.std.specs.Int.{w8, w16, w32, to_be_bytes, from_be_bytes, cast_signed}
use Rattle.std.specs.Int.RustNames.{FitsSigned}
use Rattle.std.specs.Str.{bytes_eq}
use Rattle.krb_der.specs.Octets.{when}
use Rattle.krb_file.specs.Fields.{signed, counted, Names, names, IsCounted, AreNames, zeros}
use Rattle.krb_ccache.specs.declared.value.Cache3.{Cache3}
use Rattle.krb_ccache.specs.declared.value.Ccache.{Ccache}
use Rattle.krb_ccache.specs.declared.value.Credential.{Credential}
use Rattle.krb_ccache.specs.declared.value.Credential3.{Credential3}
use Rattle.krb_ccache.specs.declared.value.FilePrincipal.{FilePrincipal}
use Rattle.krb_ccache.specs.declared.value.Header.{Header}
use Rattle.krb_ccache.specs.declared.value.HeaderField.{HeaderField}
use Rattle.krb_ccache.specs.declared.value.Typed.{Typed}

-- ---- a principal

abbrev pub names_of : FilePrincipal → Names
names_of p = record { realm = p.realm; components = p.components }

abbrev pub principal : FilePrincipal → List ℕ
principal p = signed w32 p.name_type ++ names w32 (names_of p)

pub record PrincipalFits (p : FilePrincipal) : Type 0 where
  pub name_type : FitsSigned w32 p.name_type
  pub names : AreNames w32 (names_of p)

-- ---- addresses and authorization data

-- the type, and the octets after their length
abbrev pub typed : Typed → List ℕ
typed t = to_be_bytes w16 t.kind ++ counted w32 t.octets

abbrev pub typed_list : List Typed → List ℕ
typed_list ts = to_be_bytes w32 (length ts) ++ flat_map typed ts

pub record TypedFits (t : Typed) : Type 0 where
  pub kind : t.kind < 2 ^ 16
  pub octets : IsCounted w32 t.octets

pub record TypedListFits (ts : List Typed) : Type 0 where
  pub few : length ts < 2 ^ 32
  pub each : AllByRecursion TypedFits ts

-- ---- a credential

-- up to the encryption type
abbrev pub credential_before_key : Credential → List ℕ
credential_before_key c = principal c.client ++ principal c.server ++ to_be_bytes w16 c.enctype

-- from the key on
abbrev pub credential_from_key : Credential → List ℕ
credential_from_key c =
    counted w32 c.key
    ++ to_be_bytes w32 c.authtime
    ++ to_be_bytes w32 c.starttime
    ++ to_be_bytes w32 c.endtime
    ++ to_be_bytes w32 c.renew_till
    ++ to_be_bytes w8 c.is_skey
    ++ to_be_bytes w32 c.flags
    ++ typed_list c.addresses
    ++ typed_list c.authdata
    ++ counted w32 c.ticket
    ++ counted w32 c.second_ticket

abbrev pub credential : Credential → List ℕ
credential c = credential_before_key c ++ credential_from_key c

pub record CredentialFits (c : Credential) : Type 0 where
  pub client : PrincipalFits c.client
  pub server : PrincipalFits c.server
  pub enctype : c.enctype < 2 ^ 16
  pub key : IsCounted w32 c.key
  pub authtime : c.authtime < 2 ^ 32
  pub starttime : c.starttime < 2 ^ 32
  pub endtime : c.endtime < 2 ^ 32
  pub renew_till : c.renew_till < 2 ^ 32
  pub is_skey : c.is_skey < 2 ^ 8
  pub flags : c.flags < 2 ^ 32
  pub addresses : TypedListFits c.addresses
  pub authdata : TypedListFits c.authdata
  pub ticket : IsCounted w32 c.ticket
  pub second_ticket : IsCounted w32 c.second_ticket

-- ---- the header

abbrev pub header_field : HeaderField → List ℕ
header_field f = to_be_bytes w16 f.tag ++ counted w16 f.value

abbrev pub header_fields : List HeaderField → List ℕ
header_fields fields = flat_map header_field fields

-- the fields, after their length
abbrev pub header : Header → List ℕ
header h = counted w16 (header_fields h.fields)

pub record HeaderFieldFits (f : HeaderField) : Type 0 where
  pub tag : f.tag < 2 ^ 16
  pub value : IsCounted w16 f.value

pub record HeaderFits (h : Header) : Type 0 where
  pub each : AllByRecursion HeaderFieldFits h.fields
  pub short : length (header_fields h.fields) < 2 ^ 16

-- ---- a cache of version 4

-- the version, the header, the default principal, and the credentials up to the end
abbrev pub ccache : Ccache → List ℕ
ccache v = 5 ∷ 4 ∷ header v.header ++ principal v.principal ++ flat_map credential v.credentials

-- Each number and each length has a spelling.
pub record CcacheFits (v : Ccache) : Type 0 where
  pub header : HeaderFits v.header
  pub principal : PrincipalFits v.principal
  pub credentials : AllByRecursion CredentialFits v.credentials

pub record CcacheSpells (v : Ccache) (b : List ℕ) : Type 0 where
  pub fits : CcacheFits v
  pub octets : b ≡ ccache v

-- ---- a cache of version 3: no header, and the encryption type of each credential twice

abbrev pub credential3 : Credential3 → List ℕ
credential3 c = credential_before_key c.credential ++ to_be_bytes w16 c.again ++ credential_from_key c.credential

abbrev pub cache3 : Cache3 → List ℕ
cache3 v = 5 ∷ 3 ∷ principal v.principal ++ flat_map credential3 v.credentials

pub record Credential3Fits (c : Credential3) : Type 0 where
  pub credential : CredentialFits c.credential
  pub again : c.again < 2 ^ 16

pub record Cache3Fits (v : Cache3) : Type 0 where
  pub principal : PrincipalFits v.principal
  pub credentials : AllByRecursion Credential3Fits v.credentials

pub record Spells3 (v : Cache3) (b : List ℕ) : Type 0 where
  pub fits : Cache3Fits v
  pub octets : b ≡ cache3 v

abbrev pub no_header : Header
no_header = record { fields = [] }

-- the same principal and credentials, in the same order, in version 4
abbrev pub upgraded : Cache3 → Ccache
upgraded v = record { header = no_header; principal = v.principal; credentials = map (λ c. c.credential) v.credentials }

-- ---- what is read out of a cache

-- the seconds and microseconds in the first field with tag 1 and eight octets
abbrev pub offset_of : List HeaderField → Option (ℤ × ℤ)
offset_of [] = None
offset_of (f ∷ fields) =
    when ((f.tag == 1) && (length f.value == 8))
    (λ _. Some (cast_signed w32 (from_be_bytes w32 (take 4 f.value)), cast_signed w32 (from_be_bytes w32 (drop 4 f.value))))
    (λ _. offset_of fields)

abbrev pub offset : Header → Option (ℤ × ℤ)
offset h = offset_of h.fields

abbrev pub first_is : List (List ℕ) → List ℕ → Bool
first_is [] octets = false
first_is (first ∷ others) octets = bytes_eq first octets

-- whether a credential is a configuration entry, by the realm and the first component of its server
abbrev pub is_config : Credential → Bool
is_config c = bytes_eq c.server.realm (codes "X-CACHECONF:") && first_is c.server.components (codes "krb5_ccache_conf_data")

-- ---- keys masked

abbrev pub masked_credential : Credential → Credential
masked_credential c = record c { key = zeros (length c.key) }

-- the cache with each octet of each key 00
abbrev pub masked : Ccache → Ccache
masked v = record v { credentials = map masked_credential v.credentials }

abbrev pub masked_credential3 : Credential3 → Credential3
masked_credential3 c = record c { credential = masked_credential c.credential }

abbrev pub masked3 : Cache3 → Cache3
masked3 v = record v { credentials = map masked_credential3 v.credentials }
