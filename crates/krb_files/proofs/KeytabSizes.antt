-- The number of octets of a keytab, and the first fault of its records.
use Rattle.std.proofs.Common.{◌≡◌, ℕ, zero, suc, ◌+◌, ◌<◌, Option, Some, None, List, [], ◌∷◌, ◌++◌, length, get_or, take, drop, refl, sym, ap, ◌∙◌, arith, length-append}
use native.Mathlib.Numerals.{unary_clauses}
use Rattle.std.proofs.lemmas.List.{take_more}
use Rattle.std.proofs.lemmas.List.Concat.{flat_map-append, flat_map-cons}
use Rattle.std.specs.List.{flat_map}
use Rattle.krb_file.specs.Fields.{zeros}
use Rattle.krb_file.proofs.Zeros.{length-zeros}
use Rattle.krb_keytab.specs.Holes.{HoleModel}
use Rattle.krb_keytab.specs.declared.value.Entry.{Entry}
use Rattle.krb_keytab.specs.declared.value.Record.{Record}
use Rattle.krb_keytab.specs.declared.value.Record.TheVariants as records
use Rattle.krb_files.specs.declared.keytab.writing.KeytabFault.{KeytabFault}
use Rattle.krb_keytab.specs.Spelling.{entry}
use Rattle.krb_files.specs.KeytabWriting.{or_else, record_fault, records_fault, written_record}

-- ---- a record
pub zeros-more : (n : ℕ) → zeros (n + 1) ≡ zeros n ++ 0 ∷ []
zeros-more zero = refl
zeros-more (suc n) = simp unary_clauses (ap (λ (l : List ℕ). 0 ∷ l) (simp unary_clauses at (zeros-more n)))

pub size-entry : (r : Record) (e : Entry) → r ≡ records.Entry e → length (written_record r) ≡ 4 + length (entry e)
size-entry r e is = ap (λ (r : Record). length (written_record r)) is ∙ omega arith

pub size-hole : (r : Record) (hole : HoleModel) → r ≡ records.Hole hole → length (written_record r) ≡ 4 + hole.size
size-hole r hole is = ap (λ (r : Record). length (written_record r)) is ∙ omega (arith, length-zeros hole.size)

-- ---- records in order
or_else-none : (fault : Option KeytabFault) (other : Unit {0} → Option KeytabFault) → or_else fault other ≡ None → (fault ≡ None) × (other tt ≡ None)
or_else-none (Some fault) other e = absurd cc
or_else-none None other e = (refl, e)

records_fault-append : (rs more : List Record) → records_fault rs ≡ None → records_fault (rs ++ more) ≡ records_fault more
records_fault-append [] more e = refl
records_fault-append (r ∷ rs) more e =
    let p = or_else-none (record_fault r) (λ _. records_fault rs) e in
    ap (λ (fault : Option KeytabFault). or_else fault (λ _. records_fault (rs ++ more))) p.0 ∙ records_fault-append rs more p.1

pub fault-none : (rs : List Record) (i : ℕ) (r : Record) → i < length rs → r ≡ get_or rs i r → records_fault rs ≡ None → record_fault r ≡ None
fault-none [] i r lt is e = absurd (omega arith)
fault-none (first ∷ rs) zero r lt is e = ap record_fault is ∙ (or_else-none (record_fault first) (λ _. records_fault rs) e).0
fault-none (first ∷ rs) (suc i) r lt is e = fault-none rs i r (omega arith) is (or_else-none (record_fault first) (λ _. records_fault rs) e).1

pub fault-more : (rs : List Record) (i : ℕ) (r : Record) → i < length rs → r ≡ get_or rs i r → records_fault (take i rs) ≡ None → record_fault r ≡ None → records_fault (take (i + 1) rs) ≡ None
fault-more rs i r lt is none e =
    ap records_fault (take_more rs i r lt) ∙ records_fault-append (take i rs) (get_or rs i r ∷ []) none
    ∙ ap (λ (r : Record). records_fault (r ∷ [])) (sym is) ∙ ap (λ (fault : Option KeytabFault). or_else fault (λ _. None)) e

split_at : (rs : List Record) (i : ℕ) (r : Record) → i < length rs → rs ≡ take i rs ++ get_or rs i r ∷ drop (suc i) rs
split_at [] i r lt = absurd (omega arith)
split_at (first ∷ rs) zero r lt = refl
split_at (first ∷ rs) (suc i) r lt = ap (λ (l : List Record). first ∷ l) (split_at rs i r (omega arith))

pub fault-at : (rs : List Record) (i : ℕ) (r : Record) (fault : KeytabFault) → i < length rs → r ≡ get_or rs i r → records_fault (take i rs) ≡ None → record_fault r ≡ Some fault → records_fault rs ≡ Some fault
fault-at rs i r fault lt is none e =
    ap records_fault (split_at rs i r lt) ∙ records_fault-append (take i rs) (get_or rs i r ∷ drop (suc i) rs) none
    ∙ ap (λ (r : Record). records_fault (r ∷ drop (suc i) rs)) (sym is) ∙ ap (λ (fault : Option KeytabFault). or_else fault (λ _. records_fault (drop (suc i) rs))) e

pub size-more : (rs : List Record) (i : ℕ) (r : Record) → i < length rs → r ≡ get_or rs i r → length (flat_map written_record (take (i + 1) rs)) ≡ length (flat_map written_record (take i rs)) + length (written_record r)
size-more rs i r lt is =
    ap (λ (l : List Record). length (flat_map written_record l)) (take_more rs i r lt)
    ∙ ap length (flat_map-append written_record (take i rs) (get_or rs i r ∷ []))
    ∙ length-append (flat_map written_record (take i rs)) (flat_map written_record (get_or rs i r ∷ []))
    ∙ ap (λ (r : Record). length (flat_map written_record (take i rs)) + length (flat_map written_record (r ∷ []))) (sym is)
    ∙ ap (λ (l : List ℕ). length (flat_map written_record (take i rs)) + length l) (flat_map-cons written_record r [])
    ∙ omega (arith, length-append (written_record r) [])
