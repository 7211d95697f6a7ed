-- Worked examples, computed by the definitions: octets in hexadecimal, and what they are.
use Rattle.std.specs.Prelude.{ℕ, zero, suc, pos, ◌≡◌, Bool, true, false, Some, None, Result, Ok, Err, List, [], ◌∷◌, ◌++◌, codes, take, refl}
use Rattle.krb_der.specs.Octets.{when}
use Rattle.krb_der.specs.Hex.{hex}
use Rattle.krb_file.specs.Fields.{Fault}
use Rattle.krb_source.specs.declared.file_why.FileWhy.{FileWhy}
use Rattle.krb_source.specs.declared.file_why.FileWhy.TheVariants as why
use Rattle.krb_file.specs.declared.field_name.FieldName.{FieldName}
use Rattle.krb_file.specs.declared.field_name.FieldName.TheVariants as fields
use Rattle.krb_keytab.specs.declared.value.Keytab.{Keytab}
use Rattle.krb_keytab.specs.declared.value.Entry.{Entry}
use Rattle.krb_keytab.specs.declared.value.Record.TheVariants as records
use Rattle.krb_keytab.specs.declared.value.Stop.TheVariants as stops
use Rattle.krb_keytab.specs.Spelling.{kvno, masked}
use Rattle.krb_keytab.specs.Reading.{items, read}
use Rattle.krb_keytab.specs.Laws.{IsUpToKey}

-- ---- an entry of h@A, a hole of eight octets, and a record of length 0, with two octets after it
abbrev pub keytab_octets : List ℕ
keytab_octets = hex (codes "0502 0000001B 0001 000141 000168 00000001 386D4380 02 0012 0002ABCD 00000102 FFFFFFF8 0000000000000000 00000000 DEAD")

abbrev pub entry : Entry
entry = record { realm = codes "A"; components = codes "h" ∷ []; name_type = pos 1; time = 946684800; vno8 = 2; enctype = 18; key = hex (codes "ABCD"); rest = hex (codes "00000102") }

abbrev pub keytab : Keytab
keytab = record { records = records.Entry entry ∷ records.Hole (record { size = 8; clean = true }) ∷ []; stop = stops.Zero }

keytab_read : read keytab_octets ≡ Ok (keytab, 49)
keytab_read = refl

-- the key version
wide_version : kvno entry ≡ 258
wide_version = refl

wide_version_0 : kvno (record entry { rest = hex (codes "00000000") }) ≡ 2
wide_version_0 = refl

short_rest : kvno (record entry { rest = hex (codes "000001") }) ≡ 2
short_rest = refl

key_masked : masked keytab ≡ record keytab { records = records.Entry (record entry { key = 0 ∷ 0 ∷ [] }) ∷ records.Hole (record { size = 8; clean = true }) ∷ [] }
key_masked = refl

-- ---- the first octets of a file
abbrev is_read : {A : Type 0} → Result A Fault → Bool
is_read (Ok value) = true
is_read (Err fault) = false

-- the numbers n, from 0 to k, for which the first n octets of a file are read
abbrev lengths_read : List ℕ → ℕ → List ℕ
lengths_read file zero = when (is_read (read [])) (λ _. 0 ∷ []) (λ _. [])
lengths_read file (suc k) = lengths_read file k ++ when (is_read (read (take (suc k) file))) (λ _. suc k ∷ []) (λ _. [])

keytab_lengths : lengths_read keytab_octets 51 ≡ 2 ∷ 33 ∷ 45 ∷ 49 ∷ 50 ∷ 51 ∷ []
keytab_lengths = refl

-- ---- holes
hole_not_clean : read (hex (codes "0502 FFFFFFFE 0001")) ≡ Ok (record { records = records.Hole (record { size = 2; clean = false }) ∷ []; stop = stops.File }, 8)
hole_not_clean = refl

hole_clean : read (hex (codes "0502 FFFFFFFE 0000")) ≡ Ok (record { records = records.Hole (record { size = 2; clean = true }) ∷ []; stop = stops.File }, 8)
hole_clean = refl

no_record : read (hex (codes "0502")) ≡ Ok (record { records = []; stop = stops.File }, 2)
no_record = refl

-- ---- faults
-- in a part that begins at the first number
abbrev fault : ℕ → ℕ → FileWhy → FieldName → Fault
fault begin place reason name = record { place = place; why = reason; field = Some (record { part = None; name = name }); begin = begin }

-- of a field of so many octets
abbrev long : ℕ → ℕ → ℕ → FieldName → Fault
long begin place size name = fault begin place (why.TooLong size) name

no_octet : read ([]) ≡ Err (fault 0 0 why.Truncated fields.Magic)
no_octet = refl

one_octet : read (hex (codes "05")) ≡ Err (fault 1 1 why.Truncated fields.Version)
one_octet = refl

not_five : read (hex (codes "0601")) ≡ Err (fault 0 0 why.Magic fields.Magic)
not_five = refl

not_five_alone : read (hex (codes "06")) ≡ Err (fault 0 0 why.Magic fields.Magic)
not_five_alone = refl

other_version : read (hex (codes "0501")) ≡ Err (fault 1 1 why.Version fields.Version)
other_version = refl

length_cut : read (hex (codes "0502 0000")) ≡ Err (fault 2 2 why.Truncated fields.Length)
length_cut = refl

count_overruns : read (hex (codes "0502 00000001 00")) ≡ Err (fault 2 6 why.Overrun fields.ComponentCount)
count_overruns = refl

realm_overruns : read (hex (codes "0502 00000003 0001 00")) ≡ Err (fault 2 8 why.Overrun fields.Realm)
realm_overruns = refl

component_overruns_at_the_end : read (hex (codes "0502 00000004 0001 0000")) ≡ Err (fault 2 10 why.Overrun (fields.Component 0))
component_overruns_at_the_end = refl

realm_cut : read (hex (codes "0502 0000001B 0001 0003 41")) ≡ Err (fault 2 10 why.Truncated fields.Realm)
realm_cut = refl

hole_cut : read (hex (codes "0502 80000000")) ≡ Err (fault 2 6 why.Truncated fields.Hole)
hole_cut = refl

-- ---- a limit on fields of octets
limit_1 : items (Some 1) keytab_octets ≡ record { items = []; end = Err (long 2 27 2 fields.Key) }
limit_1 = refl

limit_2 : items (Some 2) keytab_octets ≡ record { items = []; end = Err (long 2 29 4 fields.Rest) }
limit_2 = refl

limit_4 : items (Some 4) keytab_octets ≡ record { items = keytab.records; end = Ok (stops.Zero, 49) }
limit_4 = refl

too_long_before_truncated : items (Some 1) (hex (codes "0502 0000001B 0001 0003 41")) ≡ record { items = []; end = Err (long 2 10 3 fields.Realm) }
too_long_before_truncated = refl

overrun_before_too_long : items (Some 1) (hex (codes "0502 00000005 0001 0003 41")) ≡ record { items = []; end = Err (fault 2 10 why.Overrun fields.Realm) }
overrun_before_too_long = refl

cut_in_a_hole : items (Some 16777216) (take 40 keytab_octets) ≡ record { items = records.Entry entry ∷ []; end = Err (fault 33 37 why.Truncated fields.Hole) }
cut_in_a_hole = refl

-- ---- the octets before a key
before_key : IsUpToKey (take 27 keytab_octets) 2
before_key = record {
  records = [];
  start = 2;
  first = record { there = refl; spelled = ([], refl, refl) };
  content = 26;
  after = record { place = 6; octets = hex (codes "0001 000141 000168 00000001 386D4380 02 0012 0002") };
  announced = refl;
  end = record { place = 27; octets = [] };
  fields = refl;
  all = refl;
}
