-- Laws of caches and their octets. Each is the contract of a function of the module `law`.
use Rattle.std.specs.Prelude.{ℕ, ◌<◌, ◌≤◌, ◌≡◌, ◌⊎◌, Option, Some, None, Result, Ok, Err, List, [], ◌++◌, length, map, take, drop}
use Rattle.std.specs.Int.{w16, w32}
use Rattle.krb_der.specs.Octets.{AreOctets}
use Rattle.krb_file.specs.Fields.{Source, Fault, limited, Reader, and_then, ◌>>=◌, called, number_at}
use Rattle.krb_file.specs.Limits.{number_before}
use Rattle.krb_source.specs.declared.file_why.FileWhy.TheVariants as why
use Rattle.krb_file.specs.declared.field_name.FieldName.TheVariants as field
use Rattle.krb_file.specs.declared.field_name.FilePart.TheVariants as parts
use Rattle.krb_ccache.specs.declared.value.Cache3.{Cache3}
use Rattle.krb_ccache.specs.declared.value.Ccache.{Ccache}
use Rattle.krb_ccache.specs.declared.value.Credential.{Credential}
use Rattle.krb_ccache.specs.declared.reading.Start.{Start}
use Rattle.krb_ccache.specs.Spelling.{CcacheSpells, ccache, Spells3, upgraded, masked_credential}
use Rattle.krb_ccache.specs.Reading.{principal_in, again_at, CacheItems}
use Rattle.krb_ccache.specs.Streaming.{file_start, credentials, Holds}

-- Octets spell at most one cache.
abbrev pub SpellsOne : Type 0
SpellsOne = (v other : Ccache) (b : List ℕ) → CcacheSpells v b → CcacheSpells other b → v ≡ other

-- Octets spell at most one cache of version 3.
abbrev pub Spells3One : Type 0
Spells3One = (v other : Cache3) (b : List ℕ) → Spells3 v b → Spells3 other b → v ≡ other

-- A file of version 3 that has no fault under a limit has the same contents as the file of its upgrade.
abbrev pub UpgradeHoldsTheSame : Type 0
UpgradeHoldsTheSame = (limit : Option ℕ) (v : Cache3) (b : List ℕ) (size : ℕ) → AreOctets b → Spells3 v b → (credentials limit b).end ≡ Ok size → Holds limit b (upgraded v) × Holds limit (ccache (upgraded v)) (upgraded v)

-- ---- under a limit, and before a fault

-- what is before the credentials, and credentials, as a cache of version 4
abbrev pub contents : Start → List Credential → Ccache
contents start found = record { header = start.header; principal = start.principal; credentials = found }

-- Octets spell these contents, in version 4 or 3.
abbrev pub SpellsContents : Start → List Credential → List ℕ → Type 0
SpellsContents start found octets = ((start.version ≡ 4) × CcacheSpells (contents start found) octets) ⊎ ((start.version ≡ 3) × (v : Cache3) × Spells3 v octets × (upgraded v ≡ contents start found))

-- The first `size` octets of a file spell what is before the credentials, and these credentials.
pub record AreFirst (file : List ℕ) (start : Start) (found : List Credential) (size : ℕ) : Type 0 where
  pub there : length (take size file) ≡ size
  pub spelled : SpellsContents start found (take size file)

-- the first `size` octets are before the end of the file, or before the credential that a fault is in and up to where the fault says that this begins
abbrev pub AreBefore : ℕ → Result ℕ Fault → Type 0
AreBefore size (Ok end) = size ≤ end
AreBefore size (Err fault) = (size ≡ fault.begin) × (size ≤ fault.place)

-- The start and the credentials that are read of a file are spelled by its octets before the credential at fault or up to the end.
abbrev pub CredentialsAreSpelled : Type 0
CredentialsAreSpelled = (limit : Option ℕ) (file : List ℕ) (start : Start) (after : Source) → AreOctets file → file_start limit file ≡ Ok (start, after) → (size : ℕ) × AreFirst file start (credentials limit file).items size × AreBefore size (credentials limit file).end

-- The field at a place has so many octets, more than a limit, as the two or the four octets before it say.
abbrev pub IsLongStart : (most : ℕ) (file : List ℕ) (place size : ℕ) → Type 0
IsLongStart most file place size = (most < size) × ((size ≡ number_before w16 file place) ⊎ (size ≡ number_before w32 file place))

-- A longer field before the credentials is refused, with the number of its octets.
pub record StartIsTooLong (most : ℕ) (file : List ℕ) : Type 0 where
  pub fault : Fault
  pub is : file_start (Some most) file ≡ Err fault
  pub octets : ℕ
  pub reason : fault.why ≡ why.TooLong octets
  pub long : IsLongStart most file fault.place octets

-- What a limit leaves of the credentials of a file: those before a longer field, and its fault, with the number of its octets.
pub record AreCut (most : ℕ) (file : List ℕ) (under whole : CacheItems Credential) : Type 0 where
  pub others : List Credential
  pub items : whole.items ≡ under.items ++ others
  pub fault : Fault
  pub end : under.end ≡ Err fault
  pub octets : ℕ
  pub reason : fault.why ≡ why.TooLong octets
  pub long : (most < octets) × (octets ≡ number_before w32 file fault.place)

-- Under a limit a file is read as without one, or up to a field that is longer.
abbrev pub LimitsAddTooLong : Type 0
LimitsAddTooLong = (most : ℕ) (file : List ℕ) → StartIsTooLong most file ⊎ ((file_start (Some most) file ≡ file_start None file) × ((credentials (Some most) file ≡ credentials None file) ⊎ AreCut most file (credentials (Some most) file) (credentials None file)))

-- ---- files that differ in octets of keys

-- the fields of a credential before the octets of its key, the last of which is their number
abbrev pub key_size_at : ℕ → Reader ℕ
key_size_at version = do
  client ← principal_in parts.Client
  server ← principal_in parts.Server
  enctype ← called field.Enctype (number_at w16)
  again ← again_at version enctype
  called field.Key (number_at w32)

-- Octets end before the first octet of a key, of which there are to be `size`: the first `whole` of them are a cache, and then there are, of a credential, its fields before the key.
pub record IsUpToKey (octets : List ℕ) (size : ℕ) : Type 0 where
  pub whole : ℕ
  pub start : Start
  pub after : Source
  pub begins : file_start None (take whole octets) ≡ Ok (start, after)
  pub ended : (credentials None (take whole octets)).end ≡ Ok whole
  pub end : Source
  pub fields : key_size_at start.version (limited None) (record { place = whole; octets = drop whole octets }) ≡ Ok (size, end)
  pub all : end.octets ≡ []

-- the credentials with each octet of each key 00, and the end or the fault
abbrev pub masked_items : CacheItems Credential → CacheItems Credential
masked_items found = record { items = map masked_credential found.items; end = found.end }

-- what is before the credentials, or the fault there
abbrev pub start_alone : Result (Start × Source) Fault → Result Start Fault
start_alone read = and_then read (λ start. Ok start.0)

-- Files are read as the same but for the octets of keys, up to the same end or the same fault.
pub record AreAlike (limit : Option ℕ) (file other : List ℕ) : Type 0 where
  pub starts : start_alone (file_start limit file) ≡ start_alone (file_start limit other)
  pub credentials : masked_items (credentials limit file) ≡ masked_items (credentials limit other)

-- If octets of a key are others, a file is read as the same but for these.
abbrev pub SessionKeysChangeNothingElse : Type 0
SessionKeysChangeNothingElse = (limit : Option ℕ) (before key other after : List ℕ) (size : ℕ) → IsUpToKey before size → length key ≤ size → length other ≡ length key → AreAlike limit (before ++ (key ++ after)) (before ++ (other ++ after))
