-- Reading a keytab from left to right, up to the first fault.
use Rattle.std.specs.Prelude.{ℕ, zero, suc, ◌+◌, ℤ, pos, negsuc, List, [], ◌∷◌, length, Option, None, Result, Ok, Err}
use Rattle.std.specs.Int.{w8, w16, w32}
use Rattle.krb_der.specs.Octets.{when}
use Rattle.krb_file.specs.Fields.{Source, source_of, Fault, Bounds, limited, Reader, ◌>>=◌, succeed, called, one_part, next_octets_at, rest_at, is_empty, number_at, signed_at, counted_at, names_at, within, version_at, are_zero}
use Rattle.krb_file.specs.Items.{Items, no_items, with_first}
use Rattle.krb_file.specs.declared.field_name.FieldName.TheVariants as fields
use Rattle.krb_keytab.specs.declared.value.Keytab.{Keytab}
use Rattle.krb_keytab.specs.declared.value.Record.{Record}
use Rattle.krb_keytab.specs.declared.value.Record.TheVariants as records
use Rattle.krb_keytab.specs.declared.reading.Next.{Next}
use Rattle.krb_keytab.specs.declared.reading.Next.TheVariants as nexts
use Rattle.krb_keytab.specs.declared.value.Stop.{Stop}
use Rattle.krb_keytab.specs.declared.value.Stop.TheVariants as stops
use Rattle.krb_keytab.specs.declared.value.Entry.{Entry}

-- ---- one record

abbrev pub entry_at : Reader Entry
entry_at = do
  names ← names_at w16
  name_type ← called fields.NameType (signed_at w32)
  time ← called fields.Timestamp (number_at w32)
  vno8 ← called fields.KeyVersion (number_at w8)
  enctype ← called fields.Enctype (number_at w16)
  key ← called fields.Key (counted_at w16)
  rest ← called fields.Rest rest_at
  succeed (record { realm = names.realm; components = names.components; name_type = name_type; time = time; vno8 = vno8; enctype = enctype; key = key; rest = rest })

-- what follows the length of a record: nothing after 0, which ends the records; an entry of n octets after n; a hole of n octets after -n
abbrev pub record_of : ℤ → Reader Next
record_of (pos zero) = succeed (nexts.Done stops.Zero)
record_of (pos (suc n)) = do
  entry ← within (suc n) entry_at
  succeed (nexts.Item (records.Entry entry))
record_of (negsuc n) = do
  octets ← called fields.Hole (next_octets_at None (suc n))
  succeed (nexts.Item (records.Hole (record { size = suc n; clean = are_zero octets })))

-- the next record, or the end of the records
abbrev pub next_record_at : Reader Next
next_record_at bounds source =
    when (is_empty source.octets) (λ _. Ok (nexts.Done stops.File, source)) (λ _. (called fields.Length (signed_at w32) >>= record_of) bounds source)

-- the same; a fault is in the record, which begins with its length
abbrev pub record_at : Reader Next
record_at = one_part next_record_at

-- ---- the number of octets that a record announces

-- those after its length
abbrev pub content_size : ℤ → ℕ
content_size (pos n) = n
content_size (negsuc n) = suc n

abbrev pub announced_by : Result (ℤ × Source) Fault → ℕ
announced_by (Err fault) = 4
announced_by (Ok read) = 4 + content_size read.0

-- the four of its length, and, if all of these are there, the number of octets after it
abbrev pub announced : Bounds → Source → ℕ
announced bounds source = announced_by (signed_at w32 bounds source)

-- ---- records up to their end

-- The records before the first fault or the end of the records; and the fault, or how the records end and the number of octets read.
abbrev pub Records : Type 0
Records = Items Record (Result (Stop × ℕ) Fault)

abbrev pub after : Next → Source → (Source → Records) → Records
after (nexts.Done stop) source others = no_items (Ok (stop, source.place))
after (nexts.Item first) source others = with_first first (others source)

abbrev pub items_from : Result (Next × Source) Fault → (Source → Records) → Records
items_from (Err fault) others = no_items (Err fault)
items_from (Ok read) others = after read.0 read.1 others

-- at most as many records as the first number
abbrev pub items_within : ℕ → Option ℕ → Source → Records
items_within zero limit source = no_items (Ok (stops.File, source.place))
items_within (suc bound) limit source = items_from (record_at (limited limit) source) (items_within bound limit)

-- the records of what is left of a file, of which any number of records was read
abbrev pub items_after : Option ℕ → Source → Records
items_after limit source = items_within (length source.octets) limit source

-- ---- a file: the version, and the records

abbrev pub after_version : Result (ℕ × Source) Fault → (Source → Records) → Records
after_version (Err fault) others = no_items (Err fault)
after_version (Ok read) others = others read.1

-- those of a source that begins with the version, under a field limit
abbrev pub all_after : Option ℕ → Source → Records
all_after limit source = after_version (version_at (2 ∷ []) (limited limit) source) (items_after limit)

-- the records of a file
abbrev pub items : Option ℕ → List ℕ → Records
items limit file = all_after limit (source_of file)

-- a keytab, and the number of its octets
abbrev pub keytab_of : List Record → Result (Stop × ℕ) Fault → Result (Keytab × ℕ) Fault
keytab_of records (Err fault) = Err fault
keytab_of records (Ok end) = Ok (record { records = records; stop = end.0 }, end.1)

abbrev pub keytab_of_items : Records → Result (Keytab × ℕ) Fault
keytab_of_items items = keytab_of items.items items.end

-- the keytab in a file, or the first fault
abbrev pub read : List ℕ → Result (Keytab × ℕ) Fault
read file = keytab_of_items (items None file)
