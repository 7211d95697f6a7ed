-- The octets that are written for a keytab, and why one cannot be written.
use Rattle.std.specs.Prelude.{ℕ, pos, ◌≡◌, Bool, true, ◌||◌, nat_lt, Option, Some, None, List, [], ◌∷◌, ◌++◌, length}
use Rattle.std.specs.List.{flat_map, list_any}
use Rattle.std.specs.Int.{w32}
use Rattle.krb_der.specs.Octets.{when}
use Rattle.krb_file.specs.Fields.{signed, zeros}
use Rattle.krb_files.specs.Parts.{is_long16, greatest}
use Rattle.krb_keytab.specs.Holes.{IsHoleSize}
use Rattle.krb_keytab.specs.declared.value.Keytab.{Keytab}
use Rattle.krb_keytab.specs.declared.value.Record.{Record}
use Rattle.krb_keytab.specs.declared.value.Record.TheVariants as records
use Rattle.krb_keytab.specs.declared.value.Entry.{Entry}
use Rattle.krb_files.specs.declared.keytab.writing.KeytabFault.{KeytabFault}
use Rattle.krb_files.specs.declared.keytab.writing.KeytabFault.TheVariants as faults
use Rattle.krb_keytab.specs.Spelling.{entry, EntryFits, negated, stop_octets}

-- ---- the octets; those of a hole are all 00

abbrev pub written_record : Record → List ℕ
written_record (records.Entry e) = signed w32 (pos (length (entry e))) ++ entry e
written_record (records.Hole hole) = signed w32 (negated hole.size) ++ zeros hole.size

abbrev pub written : Keytab → List ℕ
written v = 5 ∷ 2 ∷ flat_map written_record v.records ++ stop_octets v.stop

-- the records that can be written
abbrev pub CanWrite : Record → Type 0
CanWrite (records.Entry e) = EntryFits e
CanWrite (records.Hole hole) = IsHoleSize hole.size × (hole.clean ≡ true)

-- ---- the faults

-- whether an entry has too many components, or a field of octets that is too long
abbrev pub has_long_part : Entry → Bool
has_long_part e = is_long16 e.components || is_long16 e.realm || list_any is_long16 e.components || is_long16 e.key

-- whether a part of an entry is too long, or the entry is
abbrev pub is_long_entry : Entry → Bool
is_long_entry e = has_long_part e || nat_lt 2147483647 (length (entry e))

abbrev pub record_fault : Record → Option KeytabFault
record_fault (records.Entry e) = when (is_long_entry e) (λ _. Some faults.TooLong) (λ _. None)
record_fault (records.Hole hole) = when hole.clean (λ _. None) (λ _. Some faults.Dirty)

abbrev pub or_else : Option KeytabFault → (Unit {0} → Option KeytabFault) → Option KeytabFault
or_else (Some fault) other = Some fault
or_else None other = other tt

-- the fault of the first record that has one
abbrev pub records_fault : List Record → Option KeytabFault
records_fault [] = None
records_fault (first ∷ others) = or_else (record_fault first) (λ _. records_fault others)

-- why a keytab cannot be written: a fault of a record, and then more octets than a file may have
abbrev pub write_fault : Keytab → Option KeytabFault
write_fault v = or_else (records_fault v.records) (λ _. when (nat_lt greatest (length (written v))) (λ _. Some faults.TooLong) (λ _. None))
