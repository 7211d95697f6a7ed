-- The items of a cache that readers of fields read, one after another.
use Rattle.std.proofs.Common.{◌≡◌, ℕ, ◌+◌, ◌-◌, ◌<◌, ◌≤◌, Some, Result, Ok, Err, List, [], ◌∷◌, ◌++◌, length, refl, sym, ◌∙◌, ap, subst, arith}
use Rattle.krb_file.specs.Fields.{Source, Fault, Bounds, Reader, and_then, ◌>>=◌, in_part, with_part, fails_at, fails_begun, within}
use Rattle.krb_file.specs.FieldReaders.{Cursor, MayRemain, source_at, HasRead, FailsBy, Follows, bounded}
use Rattle.krb_file.specs.declared.fault.FileFault.{FileFault}
use Rattle.krb_file.specs.declared.fault.FileFault.TheVariants as faults
use Rattle.krb_file.specs.declared.field_name.FilePart.{FilePart}
use Rattle.krb_file.specs.declared.field_name.FilePart.TheVariants as parts
use Rattle.krb_file.proofs.FieldReaders.{SomeRest, some_rest, follows_in_part}
use Rattle.krb_file.proofs.Loops.{with_prefix}
use Rattle.krb_ccache.proofs.Loops.{field-goes_on, field-few, field-less, field-fails, fields-done}
use Rattle.krb_ccache.specs.Reading.{header_field_at, header_fields_at}
use Rattle.krb_ccache.specs.declared.value.HeaderField.{HeaderField}

-- ---- what was read of a part, which begins at a place
pub follows_part : {A B : Type 0} (part : FilePart) (reader : Reader A) (view : B → A) (read result : Result B FileFault) (begin : ℕ) (MayFail : Type 0) (old new : Cursor) → begin ≡ old.place → result ≡ fails_begun begin (fails_at (with_part part) read)
    → Follows view read reader MayFail old new → Follows view result (in_part part reader) MayFail old new
follows_part {A} {B} part reader view read result begin MayFail old new here is follows =
    let same : fails_begun old.place (fails_at (with_part part) read) ≡ result = ap (λ (place : ℕ). fails_begun place (fails_at (with_part part) read)) (sym here) ∙ sym is in
    subst (λ (r : Result B FileFault). Follows view r (in_part part reader) MayFail old new) same (follows_in_part part reader view read MayFail old new follows)

-- ---- a value was read, and then a fault was met
pub then-fails : {A B : Type 0} (first : Reader A) (next : A → Reader B) (v : A) (old mid : Cursor) (e : FileFault) (MayFail : Type 0) → HasRead first v old mid → FailsBy e (next v) MayFail mid → FailsBy e (first >>= next) MayFail old
then-fails first next v old mid faults.Memory MayFail read fails = tt
then-fails first next v old mid faults.Read MayFail read fails = fails
then-fails {A} {B} first next v old mid (faults.Refused fault) MayFail read fails =
    let a = read.from fails.octets fails.there in
    record {
      octets = a.0;
      there = a.1;
      refused =
          ap (λ (r : Result (A × Source) Fault). and_then r (λ p. next p.0 old.bounds p.1)) a.2
          ∙ subst (λ (k : Bounds). next v k (source_at mid.place fails.octets) ≡ Err fault) read.same_bounds fails.refused;
    }

-- ---- the fields of a header, read by a loop
abbrev pub field_at : ℕ → Reader HeaderField
field_at index = in_part (parts.Header index) header_field_at

-- The first fields were read, and the others follow from whatever may remain.
pub record HavePrefix (size end : ℕ) (prefix : List HeaderField) (s t : Cursor) : Type 0 where
  pub same_bounds : t.bounds ≡ s.bounds
  pub from : (rest : List ℕ) → MayRemain t rest → (octets : List ℕ) × MayRemain s octets × (with_prefix prefix (header_fields_at (size - length prefix) (length prefix) s.bounds (source_at t.place rest)) ≡ header_fields_at size 0 s.bounds (source_at s.place octets))
  pub few : length prefix + (end - t.place) ≤ size

module _ (size : ℕ) (h : Cursor) where
  -- the end of the header, and the reader inside it
  abbrev pub header_end : ℕ
  header_end = h.place + size

  abbrev pub inside : Cursor
  inside = bounded (Some (h.place + size)) h

  whole_prefix : (r : Result (List HeaderField × Source) Fault) → with_prefix [] r ≡ r
  whole_prefix (Ok (fields, s)) = refl
  whole_prefix (Err f) = refl

  all_left : (rest : List ℕ) → with_prefix [] (header_fields_at (size - 0) 0 inside.bounds (source_at inside.place rest)) ≡ header_fields_at size 0 inside.bounds (source_at inside.place rest)
  all_left rest =
      let e : size - 0 ≡ size = omega arith in
      rw e (whole_prefix (header_fields_at size 0 inside.bounds (source_at inside.place rest)))

  pub prefix-none : HavePrefix size header_end [] inside inside
  prefix-none = record {
    same_bounds = refl;
    from = λ rest there. (rest, there, all_left rest);
    few = omega arith;
  }

  pub prefix-more : (prefix : List HeaderField) (t u : Cursor) (f : HeaderField) → t.place < header_end → HavePrefix size header_end prefix inside t → HasRead (field_at (length prefix)) f t u → HavePrefix size header_end (prefix ++ f ∷ []) inside u
  prefix-more prefix t u f lt before item = record {
    same_bounds = item.same_bounds ∙ before.same_bounds;
    from = λ rest there.
        let b = item.from rest there in
        let a = before.from b.0 b.1 in
        (a.0, a.1, field-goes_on h.bounds.limit size header_end prefix (source_at t.place b.0) (source_at u.place rest) f (header_fields_at size 0 inside.bounds (source_at inside.place a.0)) lt before.few (read rest there) a.2);
    few = field-few h.bounds.limit size header_end prefix (source_at t.place (item.from now.rest now.there).0) (source_at u.place now.rest) f lt before.few (read now.rest now.there);
  }
    where
      now : SomeRest u
      now = some_rest u

      read : (rest : List ℕ) (there : MayRemain u rest) → field_at (length prefix) inside.bounds (source_at t.place (item.from rest there).0) ≡ Ok (f, source_at u.place rest)
      read rest there = subst (λ (k : Bounds). field_at (length prefix) k (source_at t.place (item.from rest there).0) ≡ Ok (f, source_at u.place rest)) before.same_bounds (item.from rest there).2

  pub prefix-less : (prefix : List HeaderField) (t u : Cursor) (f : HeaderField) → t.place < header_end → HavePrefix size header_end prefix inside t → HasRead (field_at (length prefix)) f t u → header_end - u.place < header_end - t.place
  prefix-less prefix t u f lt before item =
      let now = some_rest u in
      let a = item.from now.rest now.there in
      field-less (length prefix) header_end t.bounds (source_at t.place a.0) (source_at u.place now.rest) f lt a.2

  pub prefix-fails : (e : FileFault) (MayFail : Type 0) (prefix : List HeaderField) (t : Cursor) → t.place < header_end → HavePrefix size header_end prefix inside t → FailsBy e (field_at (length prefix)) MayFail t → FailsBy e (within size (header_fields_at size 0)) MayFail h
  prefix-fails faults.Memory MayFail prefix t lt before fails = tt
  prefix-fails faults.Read MayFail prefix t lt before fails = fails
  prefix-fails (faults.Refused fault) MayFail prefix t lt before fails =
      let a = before.from fails.octets fails.there in
      record {
        octets = a.0;
        there = a.1;
        refused = field-fails h.bounds.limit fault size header_end prefix (source_at t.place fails.octets) (header_fields_at size 0 inside.bounds (source_at inside.place a.0)) lt before.few
            (subst (λ (k : Bounds). field_at (length prefix) k (source_at t.place fails.octets) ≡ Err fault) before.same_bounds fails.refused) a.2;
      }

  pub prefix-done : (prefix : List HeaderField) (t : Cursor) → header_end ≤ t.place → HavePrefix size header_end prefix inside t → HasRead (within size (header_fields_at size 0)) prefix h (bounded h.bounds.end t)
  prefix-done prefix t le before = record {
    same_bounds = ap (λ (b : Bounds). let it : Bounds = record { end = h.bounds.end; limit = b.limit } in it) before.same_bounds;
    from = λ rest there.
        let a = before.from rest there in
        (a.0, a.1, fields-done h.bounds.limit size header_end prefix (source_at t.place rest) (header_fields_at size 0 inside.bounds (source_at inside.place a.0)) le a.2);
  }
