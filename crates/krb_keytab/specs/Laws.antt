-- Laws of keytabs and their octets. Each is the contract of a function of the module `law`.
use Rattle.std.specs.Prelude.{ℕ, suc, pos, ◌+◌, ◌<◌, ◌≤◌, ◌≡◌, ◌⊎◌, Option, Some, None, Result, Ok, Err, List, [], ◌++◌, length, map, take, drop}
use Rattle.std.specs.Int.{w8, w16, w32, cast_signed}
use Rattle.krb_der.specs.Octets.{AreOctets}
use Rattle.krb_file.specs.Fields.{Source, Fault, limited, Reader, ◌>>=◌, called, number_at, signed_at, names_at, within}
use Rattle.krb_file.specs.Limits.{number_from, number_before}
use Rattle.krb_source.specs.declared.file_why.FileWhy.TheVariants as why
use Rattle.krb_file.specs.declared.field_name.FieldName.TheVariants as fields
use Rattle.krb_keytab.specs.declared.value.Keytab.{Keytab}
use Rattle.krb_keytab.specs.declared.value.Record.{Record}
use Rattle.krb_keytab.specs.declared.value.Stop.{Stop}
use Rattle.krb_keytab.specs.declared.value.Stop.TheVariants as stops
use Rattle.krb_keytab.specs.Spelling.{KeytabSpells, ReadAs, masked_record}
use Rattle.krb_keytab.specs.Reading.{content_size, Records, items}

-- A file is read as at most one keytab, and as at most one number of its octets.
abbrev pub ReadAsOne : Type 0
ReadAsOne = (file : List ℕ) (v other : Keytab) (k n : ℕ) → ReadAs file v k → ReadAs file other n → (v ≡ other) × (k ≡ n)

-- Octets spell at most one keytab.
abbrev pub SpellsOne : Type 0
SpellsOne = (v other : Keytab) (b : List ℕ) → KeytabSpells v b → KeytabSpells other b → v ≡ other

-- ---- under a limit, and before a fault

-- The first `size` octets of a file spell the version and these records.
pub record AreFirst (file : List ℕ) (records : List Record) (size : ℕ) : Type 0 where
  pub there : length (take size file) ≡ size
  pub spelled : KeytabSpells (record { records = records; stop = stops.File }) (take size file)

-- the first `size` octets are before the end of the records, or before the record that a fault is in and up to where the fault says that this begins
abbrev pub AreBefore : ℕ → Result (Stop × ℕ) Fault → Type 0
AreBefore size (Ok end) = size ≤ end.1
AreBefore size (Err fault) = (size ≡ fault.begin) × (size ≤ fault.place)

-- The records that are read of a file, if there are any, are spelled by its octets before the record at fault or up to the end.
abbrev pub RecordsAreSpelled : Type 0
RecordsAreSpelled = (limit : Option ℕ) (file : List ℕ) → AreOctets file → ((items limit file).items ≡ []) ⊎ ((size : ℕ) × AreFirst file (items limit file).items size × AreBefore size (items limit file).end)

-- The field at a place has so many octets, more than a limit, as the two octets before it say; or, after the key of an entry, as the length of the record says, which begins at `start`.
abbrev pub IsLong : (most : ℕ) (file : List ℕ) (start place size : ℕ) → Type 0
IsLong most file start place size = (most < size) × ((size ≡ number_before w16 file place) ⊎ (place + size ≡ start + 4 + content_size (cast_signed w32 (number_from w32 file start))))

-- What a limit leaves of the records of a file: those before a longer field, and its fault, which tells how many octets the field has and where its record begins.
pub record AreCut (most : ℕ) (file : List ℕ) (under whole : Records) : Type 0 where
  pub size : ℕ
  pub first : AreFirst file under.items size
  pub others : List Record
  pub records : whole.items ≡ under.items ++ others
  pub fault : Fault
  pub end : under.end ≡ Err fault
  pub octets : ℕ
  pub reason : fault.why ≡ why.TooLong octets
  pub begin : fault.begin ≡ size
  pub long : IsLong most file size fault.place octets

-- Under a limit a file is read as without one, or up to a field that is longer.
abbrev pub LimitsAddTooLong : Type 0
LimitsAddTooLong = (most : ℕ) (file : List ℕ) → AreOctets file → (items (Some most) file ≡ items None file) ⊎ AreCut most file (items (Some most) file) (items None file)

-- ---- files that differ in octets of keys

-- the fields of an entry before the octets of its key, the last of which is their number
abbrev pub key_size_at : Reader ℕ
key_size_at = do
  names ← names_at w16
  name_type ← called fields.NameType (signed_at w32)
  time ← called fields.Timestamp (number_at w32)
  vno8 ← called fields.KeyVersion (number_at w8)
  enctype ← called fields.Enctype (number_at w16)
  called fields.Key (number_at w16)

-- Octets end before the first octet of a key, of which there are to be `size`: they are the version and records up to `start`, and then, of an entry, its length and its fields before the key.
pub record IsUpToKey (octets : List ℕ) (size : ℕ) : Type 0 where
  pub records : List Record
  pub start : ℕ
  pub first : AreFirst octets records start
  pub content : ℕ
  pub after : Source
  pub announced : signed_at w32 (limited None) (record { place = start; octets = drop start octets }) ≡ Ok (pos (suc content), after)
  pub end : Source
  pub fields : within (suc content) key_size_at (limited None) after ≡ Ok (size, end)
  pub all : end.octets ≡ []

-- the records with each octet of each key 00, and the end or the fault
abbrev pub masked_items : Records → Records
masked_items found = record { items = map masked_record found.items; end = found.end }

-- If octets of a key are others, a file is read as the same but for these, up to the same end or the same fault.
abbrev pub KeysChangeNothingElse : Type 0
KeysChangeNothingElse =
    (limit : Option ℕ) (before key other after : List ℕ) (size : ℕ) → IsUpToKey before size → length key ≤ size → length other ≡ length key
    → masked_items (items limit (before ++ (key ++ after))) ≡ masked_items (items limit (before ++ (other ++ after)))
