-- Keytab files of format 0x0502 (MIT krb5): which octets spell a keytab.
use Rattle.std.specs.Prelude.{ℕ, zero, suc, ℤ, pos, negsuc, ◌^◌, ◌<◌, ◌≤◌, ◌≡◌, ◌⊎◌, ◌&&◌, nat_lt, nat_le, List, [], ◌∷◌, ◌++◌, length, map, take}
use Rattle.std.specs.Int.{w8, w16, w32, to_be_bytes, from_be_bytes}
use Rattle.std.specs.Int.RustNames.{FitsSigned}
use Rattle.krb_der.specs.Octets.{when, AreOctets}
use Rattle.krb_file.specs.Fields.{signed, counted, Names, names, IsCounted, AreNames, zeros, are_zero}
use Rattle.krb_keytab.specs.Holes.{HoleModel, IsHoleSize}
use Rattle.krb_keytab.specs.declared.value.Keytab.{Keytab}
use Rattle.krb_keytab.specs.declared.value.Record.{Record}
use Rattle.krb_keytab.specs.declared.value.Record.TheVariants as records
use Rattle.krb_keytab.specs.declared.value.Stop.{Stop}
use Rattle.krb_keytab.specs.declared.value.Stop.TheVariants as stops
use Rattle.krb_keytab.specs.declared.value.Entry.{Entry}

-- ---- an entry

abbrev pub names_of : Entry → Names
names_of e = record { realm = e.realm; components = e.components }

-- the octets of an entry: its fields in order
abbrev pub entry : Entry → List ℕ
entry e =
    names w16 (names_of e)
    ++ signed w32 e.name_type
    ++ to_be_bytes w32 e.time
    ++ to_be_bytes w8 e.vno8
    ++ to_be_bytes w16 e.enctype
    ++ counted w16 e.key
    ++ e.rest

-- Each field has a spelling, and the entry is short enough for a length of 32 bits.
pub record EntryFits (e : Entry) : Type 0 where
  pub names : AreNames w16 (names_of e)
  pub name_type : FitsSigned w32 e.name_type
  pub time : e.time < 2 ^ 32
  pub vno8 : e.vno8 < 2 ^ 8
  pub enctype : e.enctype < 2 ^ 16
  pub key : IsCounted w16 e.key
  pub rest : AreOctets e.rest
  pub short : length (entry e) < 2 ^ 31

-- the version of the key: the first four octets of `rest` if they are there and not 0, else the one of 8 bits
abbrev pub kvno : Entry → ℕ
kvno e =
    let wide = from_be_bytes w32 (take 4 e.rest) in
    when (nat_le 4 (length e.rest) && nat_lt 0 wide) (λ _. wide) (λ _. e.vno8)

-- ---- records

abbrev pub negated : ℕ → ℤ
negated zero = pos 0
negated (suc n) = negsuc n

-- The octets of a hole.
pub record IsHole (hole : HoleModel) (octets : List ℕ) : Type 0 where
  pub range : IsHoleSize hole.size
  pub are_octets : AreOctets octets
  pub size : length octets ≡ hole.size
  pub clean : are_zero octets ≡ hole.clean

-- an entry after its length, or the octets of a hole after its negated size
abbrev pub RecordSpells : Record → List ℕ → Type 0
RecordSpells (records.Entry e) b = EntryFits e × (b ≡ signed w32 (pos (length (entry e))) ++ entry e)
RecordSpells (records.Hole hole) b = (octets : List ℕ) × IsHole hole octets × (b ≡ signed w32 (negated hole.size) ++ octets)

-- records, one after another
abbrev pub RecordsSpell : List Record → List ℕ → Type 0
RecordsSpell [] b = b ≡ []
RecordsSpell (first ∷ others) b = (prefix suffix : List ℕ) × (b ≡ prefix ++ suffix) × RecordSpells first prefix × RecordsSpell others suffix

-- ---- a keytab

-- the octets that end the records: a record of length 0, or none
abbrev pub stop_octets : Stop → List ℕ
stop_octets stops.File = []
stop_octets stops.Zero = 0 ∷ 0 ∷ 0 ∷ 0 ∷ []

-- the version, the records, and their end
abbrev pub KeytabSpells : Keytab → List ℕ → Type 0
KeytabSpells v b = (body : List ℕ) × RecordsSpell v.records body × (b ≡ 5 ∷ 2 ∷ body ++ stop_octets v.stop)

-- The first k octets of a file spell a keytab; they are all octets of the file unless a record of length 0 ends it.
pub record ReadAs (file : List ℕ) (v : Keytab) (k : ℕ) : Type 0 where
  pub spelled : KeytabSpells v (take k file)
  pub there : k ≤ length file
  pub stop : (v.stop ≡ stops.Zero) ⊎ (k ≡ length file)

-- ---- keys masked

abbrev pub masked_record : Record → Record
masked_record (records.Entry e) = records.Entry (record e { key = zeros (length e.key) })
masked_record (records.Hole hole) = records.Hole hole

-- the keytab with each octet of each key 00
abbrev pub masked : Keytab → Keytab
masked v = record v { records = map masked_record v.records }
