-- Worked examples, computed by the definitions: octets in hexadecimal, and what they are.
use Rattle.std.specs.Prelude.{ℕ, zero, suc, pos, negsuc, ◌≡◌, Bool, true, false, Option, Some, None, Result, Ok, Err, List, [], ◌∷◌, ◌++◌, codes, take, map, refl}
use Rattle.krb_der.specs.Octets.{when}
use Rattle.krb_der.specs.Hex.{hex}
use Rattle.krb_file.specs.Fields.{Fault}
use Rattle.krb_source.specs.declared.file_why.FileWhy.{FileWhy}
use Rattle.krb_source.specs.declared.file_why.FileWhy.TheVariants as why
use Rattle.krb_file.specs.declared.field_name.FieldName.{FieldName}
use Rattle.krb_file.specs.declared.field_name.FieldName.TheVariants as words
use Rattle.krb_file.specs.declared.field_name.FilePart.{FilePart}
use Rattle.krb_file.specs.declared.field_name.FilePart.TheVariants as parts
use Rattle.krb_ccache.specs.declared.value.Cache3.{Cache3}
use Rattle.krb_ccache.specs.declared.value.Ccache.{Ccache}
use Rattle.krb_ccache.specs.declared.value.Credential.{Credential}
use Rattle.krb_ccache.specs.declared.value.FilePrincipal.{FilePrincipal}
use Rattle.krb_ccache.specs.declared.value.Header.{Header}
use Rattle.krb_ccache.specs.declared.value.HeaderField.{HeaderField}
use Rattle.krb_ccache.specs.Spelling.{ccache, cache3, upgraded, offset, is_config, masked}
use Rattle.krb_ccache.specs.Reading.{read, read3}
use Rattle.krb_ccache.specs.Streaming.{file_start}
use Rattle.krb_ccache.specs.Laws.{IsUpToKey}

-- ---- a cache of u@A: an offset of 0, a configuration entry and a credential for h@A
abbrev user_octets : List ℕ
user_octets = hex (codes "00000001 00000001 00000001 41 00000001 75")

abbrev start_octets : List ℕ
start_octets = hex (codes "0504 000C 0001 0008 00000000 00000000") ++ user_octets

abbrev config_octets : List ℕ
config_octets =
    user_octets
    ++ hex (codes "00000000 00000002 0000000C 582D4341434845434F4E463A 00000015 6B7262355F6363616368655F636F6E665F64617461 00000007 70615F74797065")
    ++ hex (codes "0000 00000000 00000000 00000000 00000000 00000000 00 00000000 00000000 00000000 00000001 32 00000000")

-- with these octets for the encryption type
abbrev credential_with : List ℕ → List ℕ
credential_with enctype =
    user_octets
    ++ hex (codes "00000002 00000001 00000001 41 00000001 68")
    ++ enctype
    ++ hex (codes "00000002 ABCD 386D4380 386D4380 386D5190 00000000 00 40E10000 00000000 00000000 00000002 6180 00000000")

abbrev credential_octets : List ℕ
credential_octets = credential_with (hex (codes "0012"))

abbrev cache_octets : List ℕ
cache_octets = start_octets ++ config_octets ++ credential_octets

abbrev user : FilePrincipal
user = record { name_type = pos 1; realm = codes "A"; components = codes "u" ∷ [] }

abbrev header : Header
header = record { fields = record { tag = 1; value = hex (codes "00000000 00000000") } ∷ [] }

abbrev config : Credential
config = record {
  client = user;
  server = record { name_type = pos 0; realm = codes "X-CACHECONF:"; components = codes "krb5_ccache_conf_data" ∷ codes "pa_type" ∷ [] };
  enctype = 0;
  key = [];
  authtime = 0;
  starttime = 0;
  endtime = 0;
  renew_till = 0;
  is_skey = 0;
  flags = 0;
  addresses = [];
  authdata = [];
  ticket = codes "2";
  second_ticket = [];
}

abbrev credential : Credential
credential = record {
  client = user;
  server = record { name_type = pos 2; realm = codes "A"; components = codes "h" ∷ [] };
  enctype = 18;
  key = hex (codes "ABCD");
  authtime = 946684800;
  starttime = 946684800;
  endtime = 946688400;
  renew_till = 0;
  is_skey = 0;
  flags = 0x40E10000;
  addresses = [];
  authdata = [];
  ticket = hex (codes "6180");
  second_ticket = [];
}

abbrev pub cache : Ccache
cache = record { header = header; principal = user; credentials = config ∷ credential ∷ [] }

cache_read : read cache_octets ≡ Ok cache
cache_read = refl

cache_written : ccache cache ≡ cache_octets
cache_written = refl

header_offset : offset header ≡ Some (pos 0, pos 0)
header_offset = refl

config_is_recognized : map is_config cache.credentials ≡ true ∷ false ∷ []
config_is_recognized = refl

key_masked : masked cache ≡ record cache { credentials = config ∷ record credential { key = 0 ∷ 0 ∷ [] } ∷ [] }
key_masked = refl

-- no header field and no credential
empty_read : read (hex (codes "0504 0000") ++ user_octets) ≡ Ok (record { header = record { fields = [] }; principal = user; credentials = [] })
empty_read = refl

-- ---- the offset is that of the first field with tag 1 and eight octets
abbrev field : ℕ → List ℕ → HeaderField
field tag value = record { tag = tag; value = value }

offset_after_others : offset (record { fields = field 1 (7 ∷ []) ∷ field 2 (hex (codes "00000000 00000000")) ∷ field 1 (hex (codes "FFFFFFFF 00000002")) ∷ [] }) ≡ Some (negsuc 0, pos 2)
offset_after_others = refl

offset_none : offset (record { fields = field 1 (7 ∷ []) ∷ [] }) ≡ None
offset_none = refl

-- ---- the first octets of a file
abbrev is_read : {A : Type 0} → Result A Fault → Bool
is_read (Ok value) = true
is_read (Err fault) = false

-- the numbers n, from 0 to k, for which the first n octets of a file are read
abbrev lengths_read : {A : Type 0} → (List ℕ → Result A Fault) → List ℕ → ℕ → List ℕ
lengths_read reads file zero = when (is_read (reads [])) (λ _. 0 ∷ []) (λ _. [])
lengths_read reads file (suc k) = lengths_read reads file k ++ when (is_read (reads (take (suc k) file))) (λ _. suc k ∷ []) (λ _. [])

cache_lengths : lengths_read read cache_octets 239 ≡ 34 ∷ 156 ∷ 239 ∷ []
cache_lengths = refl

-- ---- faults
-- in a credential, in a part before the credentials, or in itself, which begins at the first number
abbrev fault : ℕ → ℕ → FileWhy → Option FilePart → FieldName → Fault
fault begin place reason part name = record { place = place; why = reason; field = Some (record { part = part; name = name }); begin = begin }

no_octet : read ([]) ≡ Err (fault 0 0 why.Truncated None words.Magic)
no_octet = refl

one_octet : read (hex (codes "05")) ≡ Err (fault 1 1 why.Truncated None words.Version)
one_octet = refl

not_five : read (hex (codes "0601")) ≡ Err (fault 0 0 why.Magic None words.Magic)
not_five = refl

other_version : read (hex (codes "0503")) ≡ Err (fault 1 1 why.Version None words.Version)
other_version = refl

field_overruns : read (hex (codes "0504 0003 000100")) ≡ Err (fault 4 6 why.Overrun (Some (parts.Header 0)) words.Value)
field_overruns = refl

value_overruns : read (hex (codes "0504 0005 0001 0002 00")) ≡ Err (fault 4 8 why.Overrun (Some (parts.Header 0)) words.Value)
value_overruns = refl

header_cut : read (hex (codes "0504 000C 0001")) ≡ Err (fault 4 6 why.Truncated (Some (parts.Header 0)) words.Value)
header_cut = refl

-- addresses are read one after another, so the first one that is missing is refused, however many are announced
addresses_announced : read (take 221 cache_octets ++ hex (codes "FFFFFFFF")) ≡ Err (fault 156 225 why.Truncated (Some (parts.Address 0)) words.Type)
addresses_announced = refl

-- ---- a limit on fields of octets
header_too_long : file_start (Some 1) cache_octets ≡ Err (fault 4 8 (why.TooLong 8) (Some (parts.Header 0)) words.Value)
header_too_long = refl

-- ---- a cache of version 3 of u@A: the credential for h@A
abbrev cache3_octets : List ℕ
cache3_octets = hex (codes "0503") ++ user_octets ++ credential_with (hex (codes "0012 0012"))

abbrev cache_of_3 : ℕ → Cache3
cache_of_3 again = record { principal = user; credentials = record { credential = credential; again = again } ∷ [] }

cache3_read : read3 cache3_octets ≡ Ok (cache_of_3 18)
cache3_read = refl

cache3_written : cache3 (cache_of_3 18) ≡ cache3_octets
cache3_written = refl

-- the second encryption type may differ
again_differs : read3 (hex (codes "0503") ++ user_octets ++ credential_with (hex (codes "0012 0011"))) ≡ Ok (cache_of_3 17)
again_differs = refl

cache3_upgraded : ccache (upgraded (cache_of_3 17)) ≡ hex (codes "0504 0000") ++ user_octets ++ credential_octets
cache3_upgraded = refl

cache3_lengths : lengths_read read3 cache3_octets 105 ≡ 20 ∷ 105 ∷ []
cache3_lengths = refl

-- the encryption type is there, and is not written again
again_cut : read3 (take 58 cache3_octets) ≡ Err (fault 20 58 why.Truncated None words.Enctype)
again_cut = refl

nothing_after_3 : read3 (hex (codes "0503")) ≡ Err (fault 2 2 why.Truncated (Some parts.Principal) words.NameType)
nothing_after_3 = refl

start_cut : file_start None (hex (codes "0503")) ≡ Err (fault 2 2 why.Truncated (Some parts.Principal) words.NameType)
start_cut = refl

not_three : read3 (hex (codes "0504")) ≡ Err (fault 1 1 why.Version None words.Version)
not_three = refl

not_three_or_four : file_start None (hex (codes "0502")) ≡ Err (fault 1 1 why.Version None words.Version)
not_three_or_four = refl

-- ---- the octets before a key
abbrev before_key : List ℕ
before_key = start_octets ++ user_octets ++ hex (codes "00000002 00000001 00000001 41 00000001 68 0012 00000002")

up_to_key : IsUpToKey before_key 2
up_to_key = record {
  whole = 34;
  start = record { version = 4; header = header; principal = user };
  after = record { place = 34; octets = [] };
  begins = refl;
  ended = refl;
  end = record { place = 76; octets = [] };
  fields = refl;
  all = refl;
}
