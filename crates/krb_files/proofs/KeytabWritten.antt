-- What is written spells the keytab, and is read back.
use Rattle.std.proofs.Common.{◌≡◌, ℕ, zero, suc, true, Ok, List, [], ◌∷◌, ◌++◌, length, refl, sym, ◌∙◌, ap}
use Rattle.std.proofs.lemmas.List.{append-nil}
use Rattle.std.specs.List.{flat_map, AllByRecursion}
use Rattle.std.proofs.lemmas.List.Concat.{flat_map-cons}
use Rattle.krb_file.specs.Fields.{zeros, are_zero}
use Rattle.krb_file.proofs.Zeros.{length-zeros, AreOctets-zeros}
use Rattle.krb_keytab.specs.declared.value.Keytab.{Keytab}
use Rattle.krb_keytab.specs.declared.value.Record.{Record}
use Rattle.krb_keytab.specs.declared.value.Record.TheVariants as records
use Rattle.krb_keytab.specs.Spelling.{RecordSpells, RecordsSpell, stop_octets, KeytabSpells}
use Rattle.krb_keytab.specs.Reading.{read}
use Rattle.krb_files.specs.KeytabWriting.{written_record, written, CanWrite}
use Rattle.krb_keytab.proofs.Keytabs.{read-again}

are_zero-zeros : (n : ℕ) → are_zero (zeros n) ≡ true
are_zero-zeros zero = refl
are_zero-zeros (suc n) = are_zero-zeros n

pub record-written : (r : Record) → CanWrite r → RecordSpells r (written_record r)
record-written (records.Entry e) can = (can, refl)
record-written (records.Hole h) can = (zeros h.size, record { range = can.0; are_octets = AreOctets-zeros h.size; size = length-zeros h.size; clean = are_zero-zeros h.size ∙ sym can.1 }, refl)

records-written : (rs : List Record) → AllByRecursion CanWrite rs → RecordsSpell rs (flat_map written_record rs)
records-written [] can = refl
records-written (r ∷ rs) can = (written_record r, flat_map written_record rs, flat_map-cons written_record r rs, record-written r can.0, records-written rs can.1)

pub spells-written : (v : Keytab) → AllByRecursion CanWrite v.records → KeytabSpells v (written v)
spells-written v can = (flat_map written_record v.records, records-written v.records can, refl)

-- what is written is read back
pub read-written : (v : Keytab) → AllByRecursion CanWrite v.records → read (written v) ≡ Ok (v, length (written v))
read-written v can = ap read (sym (append-nil (written v))) ∙ read-again v (written v) [] (spells-written v can) (λ _. refl)

-- the octets of three parts, one after another
pub octets_written : (v : Keytab) (none prefix after whole : List ℕ) → none ≡ [] → prefix ≡ none ++ 5 ∷ 2 ∷ [] → after ≡ prefix ++ flat_map written_record v.records → whole ≡ after ++ stop_octets v.stop → whole ≡ written v
octets_written v none prefix after whole a b c d = rw (d, c, b, a) refl
