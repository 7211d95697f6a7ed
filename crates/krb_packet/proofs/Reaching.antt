-- How many octets the fields of a capture file have, and the places of their faults.
use Rattle.std.proofs.Common.{◌≡◌, ℕ, ◌+◌, ◌≤◌, inl, inr, Bool, true, false, Option, Some, None, Result, Ok, Err, length, refl, ap, ◌∙◌, subst, arith, length-drop}
use Rattle.std.specs.Int.{Width, byte_len, from_be_bytes}
use Rattle.krb_der.specs.Octets.{when}
use Rattle.krb_file.specs.Fields.{Source, Fault, fault_of, Bounds, Reader, ◌>>=◌, succeed, with_name, with_part, called, are_zero, next_octets_at, octets_at, number_at}
use Rattle.krb_file.specs.FieldReaders.{Cursor, HasRead, source_at, skipped_at}
use Rattle.krb_source.specs.declared.file_why.FileWhy.{FileWhy}
use Rattle.krb_file.specs.declared.field_name.FieldName.{FieldName}
use Rattle.krb_file.specs.declared.field_name.FileField.{FileField}
use Rattle.krb_file.specs.declared.field_name.FilePart.{FilePart}
use Rattle.krb_file.proofs.Fields.{ok_is, err_is, and_then-ok, and_then-err, refused_at-ok, refused_at-err, begun_at-ok, begun_at-err, at_field, piece-ok}
use Rattle.krb_file.proofs.FieldReaders.{some_rest}
use Rattle.krb_file.proofs.Steps.{Steps-piece, Steps-octets}
use Rattle.krb_packet.specs.declared.order.ByteOrder.{ByteOrder}
use Rattle.krb_packet.specs.Blocks.{part_from}
use Rattle.krb_packet.specs.Numbers.{in_order, number_in, field_in, checked_at, from_here, checked_number, moved_to, refused_at}

-- ---- n octets at least are read, and no more than there are
pub record Passed (n : ℕ) (s t : Source) : Type 0 where
  pub on : s.place + n ≤ t.place
  pub same : t.place + length t.octets ≡ s.place + length s.octets

pub record Passes {A : Type 0} (n : ℕ) (reader : Reader A) : Type 0 where
  pub goes : (bounds : Bounds) (s : Source) (v : A) (t : Source) → reader bounds s ≡ Ok (v, t) → Passed n s t

pub Passes-succeed : {A : Type 0} (value : A) → Passes 0 (succeed value)
Passes-succeed {A} value = record { goes = λ bounds s v t e. subst (λ (p : A × Source). Passed 0 s p.1) (ok_is (value, s) (v, t) e) (record { on = omega arith; same = refl }) }

pub Passes-then : {A B : Type 0} (m n : ℕ) (reader : Reader A) (next : A → Reader B) → Passes m reader → ((value : A) → Passes n (next value)) → Passes (m + n) (reader >>= next)
Passes-then m n reader next first others = record {
  goes = λ bounds s v t e.
      let a = and_then-ok (reader bounds s) (λ p. next p.0 bounds p.1) (v, t) e in
      let one = first.goes bounds s a.0.0 a.0.1 a.1 in
      let two = (others a.0.0).goes bounds a.0.1 v t a.2 in
      record { on = omega (arith, one.on, two.on); same = two.same ∙ one.same };
}

pub Passes-fewer : {A : Type 0} (n : ℕ) (reader : Reader A) → Passes n reader → Passes 0 reader
Passes-fewer n reader p = record { goes = λ bounds s v t e. let q = p.goes bounds s v t e in record { on = omega (arith, q.on); same = q.same } }

piece_passes : (limit : Option ℕ) (size : ℕ) → Passes size (next_octets_at limit size)
piece_passes limit size = record {
  goes = λ bounds s v t e. let p = piece-ok limit size bounds s t v e in rw p.source (record { on = omega arith; same = omega (arith, length-drop size s.octets, p.long) });
}

pub Passes-piece : (size : ℕ) → Passes size (next_octets_at None size)
Passes-piece size = piece_passes None size

pub Passes-octets : (size : ℕ) → Passes size (octets_at size)
Passes-octets size = record { goes = λ bounds s v t e. (piece_passes bounds.limit size).goes bounds s v t e }

pub Passes-made : {A B : Type 0} (n : ℕ) (reader : Reader A) (make : A → B) → Passes n reader → Passes n (reader >>= λ x. succeed (make x))
Passes-made n reader make first =
    let p = Passes-then n 0 reader (λ x. succeed (make x)) first (λ x. Passes-succeed (make x)) in
    record { goes = λ bounds s v t e. let q = p.goes bounds s v t e in record { on = omega (arith, q.on); same = q.same } }

pub Passes-skipped : (size : ℕ) → Passes size (skipped_at size)
Passes-skipped size = Passes-made size (next_octets_at None size) are_zero (Passes-piece size)

pub Passes-number_at : (w : Width) → Passes (byte_len w) (number_at w)
Passes-number_at w = Passes-made (byte_len w) (next_octets_at None (byte_len w)) (from_be_bytes w) (Passes-piece (byte_len w))

pub Passes-number : (w : Width) (order : ByteOrder) → Passes (byte_len w) (number_in w order)
Passes-number w order = Passes-made (byte_len w) (next_octets_at None (byte_len w)) (in_order w order) (Passes-piece (byte_len w))

-- the same reader, whose faults are of another field
Passes-at : {A : Type 0} (n : ℕ) (field : Option FileField → Option FileField) (reader : Reader A) → Passes n reader → Passes n (at_field field reader)
Passes-at n field reader p = record { goes = λ bounds s v t e. p.goes bounds s v t (refused_at-ok field (reader bounds s) (v, t) e) }

pub Passes-called : {A : Type 0} (n : ℕ) (name : FieldName) (reader : Reader A) → Passes n reader → Passes n (called name reader)
Passes-called n name reader p = Passes-at n (with_name name) reader p

pub Passes-field : (name : FieldName) (w : Width) (order : ByteOrder) → Passes (byte_len w) (field_in name w order)
Passes-field name w order = Passes-called (byte_len w) name (number_in w order) (Passes-number w order)

pub Passes-check : {A : Type 0} (name : FieldName) (place : ℕ) (check : Result A FileWhy) → Passes 0 (checked_at name place check)
Passes-check name place (Ok value) = Passes-succeed value
Passes-check name place (Err why) = record { goes = λ bounds s v t e. absurd cc }

pub Passes-from_here : {A : Type 0} (n : ℕ) (reader : ℕ → Reader A) → ((place : ℕ) → Passes n (reader place)) → Passes n (from_here reader)
Passes-from_here n reader each = record { goes = λ bounds s v t e. (each s.place).goes bounds s v t e }

pub Passes-checked_at : {A : Type 0} (name : FieldName) (w : Width) (order : ByteOrder) (check : ℕ → Result A FileWhy) → Passes (byte_len w + 0) (checked_number name w order check)
Passes-checked_at name w order check = Passes-from_here (byte_len w + 0) _ (λ place. Passes-then (byte_len w) 0 (field_in name w order) _ (Passes-field name w order) (λ number. Passes-check name place (check number)))

pub moved-ok : {A : Type 0} (place : ℕ) (r : Result A Fault) (v : A) → moved_to place r ≡ Ok v → r ≡ Ok v
moved-ok place (Ok read) v e = e
moved-ok place (Err fault) v e = absurd cc

pub Passes-refused : {A : Type 0} (n place : ℕ) (reader : Reader A) → Passes n reader → Passes n (refused_at place reader)
Passes-refused n place reader p = record { goes = λ bounds s v t e. p.goes bounds s v t (moved-ok place (reader bounds s) (v, t) e) }

pub Passes-when : {A : Type 0} (n : ℕ) (test : Bool) (one two : Unit {0} → Reader A) → Passes n (one tt) → Passes n (two tt) → Passes n (when test one two)
Passes-when n true one two p q = p
Passes-when n false one two p q = q

-- ---- the same of a cursor
pub read_goes : {A : Type 0} (n : ℕ) (reader : Reader A) (value : A) (old new : Cursor) → Passes n reader → HasRead reader value old new → old.place + n ≤ new.place
read_goes n reader value old new passes read =
    let now = some_rest new in
    let a = read.from now.rest now.there in
    (passes.goes old.bounds (source_at old.place a.0) value (source_at new.place now.rest) a.2).on

-- ---- a fault is at the place of an octet or at the end
pub record Stops {A : Type 0} (reader : Reader A) : Type 0 where
  pub passes : Passes 0 reader
  pub upto : (bounds : Bounds) (s : Source) (f : Fault) → reader bounds s ≡ Err f → f.place ≤ s.place + length s.octets

pub Stops-succeed : {A : Type 0} (value : A) → Stops (succeed value)
Stops-succeed value = record { passes = Passes-succeed value; upto = λ bounds s f e. absurd cc }

pub Stops-then : {A B : Type 0} (reader : Reader A) (next : A → Reader B) → Stops reader → ((value : A) → Stops (next value)) → Stops (reader >>= next)
Stops-then reader next first others = record {
  passes = Passes-then 0 0 reader next first.passes (λ value. (others value).passes);
  upto = λ bounds s f e.
      elim (and_then-err (reader bounds s) (λ p. next p.0 bounds p.1) f e) [
        | inl a ↦ first.upto bounds s f a
        | inr a ↦
            let there = (others a.0.0).upto bounds a.0.1 f a.2 in
            let same = (first.passes.goes bounds s a.0.0 a.0.1 a.1).same in
            omega (arith, there, same)
      ];
}

pub Stops-piece : (size : ℕ) → Stops (next_octets_at None size)
Stops-piece size = record { passes = Passes-fewer size _ (Passes-piece size); upto = λ bounds s f e. ((Steps-piece size).faults bounds s f e).upto }

pub Stops-octets : (size : ℕ) → Stops (octets_at size)
Stops-octets size = record { passes = Passes-fewer size _ (Passes-octets size); upto = λ bounds s f e. ((Steps-octets size).faults bounds s f e).upto }

-- the same reader, whose faults are of another field
pub Stops-at : {A : Type 0} (field : Option FileField → Option FileField) (reader : Reader A) → Stops reader → Stops (at_field field reader)
Stops-at field reader stops = record {
  passes = Passes-at 0 field reader stops.passes;
  upto = λ bounds s f e.
      let a = refused_at-err field (reader bounds s) f e in
      let upto = stops.upto bounds s a.0 a.1 in
      omega (arith, upto, ap (λ (x : Fault). x.place) a.2);
}

pub Stops-called : {A : Type 0} (name : FieldName) (reader : Reader A) → Stops reader → Stops (called name reader)
Stops-called name reader stops = Stops-at (with_name name) reader stops

-- the same reader, of a part that begins at a place
pub Passes-part : {A : Type 0} (part : FilePart) (start : ℕ → ℕ) (reader : Reader A) → Passes 0 reader → Passes 0 (from_here (λ place. part_from part (start place) reader))
Passes-part part start reader p = record { goes = λ bounds s v t e. (Passes-at 0 (with_part part) reader p).goes bounds s v t (begun_at-ok (start s.place) (at_field (with_part part) reader bounds s) (v, t) e) }

pub Stops-part : {A : Type 0} (part : FilePart) (start : ℕ → ℕ) (reader : Reader A) → Stops reader → Stops (from_here (λ place. part_from part (start place) reader))
Stops-part part start reader stops = record {
  passes = Passes-part part start reader stops.passes;
  upto = λ bounds s f e.
      let a = begun_at-err (start s.place) (at_field (with_part part) reader bounds s) f e in
      let upto = (Stops-at (with_part part) reader stops).upto bounds s a.0 a.1 in
      omega (arith, upto, ap (λ (x : Fault). x.place) a.2);
}

pub Stops-field : (name : FieldName) (w : Width) (order : ByteOrder) → Stops (field_in name w order)
Stops-field name w order = Stops-called name (number_in w order) (Stops-then (next_octets_at None (byte_len w)) _ (Stops-piece (byte_len w)) (λ octets. Stops-succeed (in_order w order octets)))

pub checked_at-err : {A : Type 0} (name : FieldName) (place : ℕ) (check : Result A FileWhy) (bounds : Bounds) (s : Source) (f : Fault) → checked_at name place check bounds s ≡ Err f → f.place ≡ place
checked_at-err name place (Ok value) bounds s f e = absurd cc
checked_at-err {A} name place (Err why) bounds s f e =
    let refused : Fault = record (fault_of place why) { field = Some (record { part = None; name = name }) } in
    ap (λ (x : Fault). x.place) (err_is (A × Source) f refused cc)

pub Stops-check : {A : Type 0} (name : FieldName) (check : Result A FileWhy) → Stops (from_here (λ place. checked_at name place check))
Stops-check name check = record {
  passes = Passes-from_here 0 _ (λ place. Passes-check name place check);
  upto = λ bounds s f e. let here = checked_at-err name s.place check bounds s f e in omega (arith, here);
}

pub Stops-checked_at : {A : Type 0} (name : FieldName) (w : Width) (order : ByteOrder) (check : ℕ → Result A FileWhy) → Stops (checked_number name w order check)
Stops-checked_at name w order check = record {
  passes = Passes-fewer (byte_len w + 0) _ (Passes-checked_at name w order check);
  upto = λ bounds s f e.
      elim (and_then-err (field_in name w order bounds s) (λ p. checked_at name s.place (check p.0) bounds p.1) f e) [
        | inl a ↦ (Stops-field name w order).upto bounds s f a
        | inr a ↦ let here = checked_at-err name s.place (check a.0.0) bounds a.0.1 f a.2 in omega (arith, here)
      ];
}

pub moved-err : {A : Type 0} (place : ℕ) (r : Result A Fault) (f : Fault) → moved_to place r ≡ Err f → f.place ≡ place
moved-err place (Ok read) f e = absurd cc
moved-err {A} place (Err fault) f e = let moved : Fault = record fault { place = place } in ap (λ (x : Fault). x.place) (err_is A f moved cc)

-- a reader whose faults are at its first octet
pub Stops-whole : {A : Type 0} (reader : Reader A) → Passes 0 reader → Stops (from_here (λ place. refused_at place reader))
Stops-whole reader p = record {
  passes = Passes-from_here 0 _ (λ place. Passes-refused 0 place reader p);
  upto = λ bounds s f e. let here = moved-err s.place (reader bounds s) f e in omega (arith, here);
}
