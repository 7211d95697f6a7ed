-- The fields of a header, read one after another by a loop.
use Rattle.std.proofs.Common.{◌≡◌, ℕ, ◌<◌, ◌≤◌, ◌-◌, ◌+◌, zero, suc, Bool, true, false, leb, le-leb, Option, Some, Result, Ok, Err, List, [], ◌∷◌, ◌++◌, length, sym, ◌∙◌, ap, length-append, arith}
use Rattle.std.proofs.lemmas.Bool.{lt-leb}
use Rattle.std.proofs.lemmas.List.{append-nil}
use Rattle.krb_file.specs.Fields.{Source, Reader, Bounds, Fault, and_then, ◌>>=◌, succeed, in_part}
use Rattle.krb_der.specs.Octets.{when}
use Rattle.krb_file.proofs.Loops.{with_prefix, regroup as fields-regroup}
use Rattle.krb_file.specs.declared.field_name.FilePart.TheVariants as parts
use Rattle.krb_ccache.specs.Reading.{header_field_at, header_fields_at}
use Rattle.krb_ccache.specs.declared.value.HeaderField.{HeaderField}
use Rattle.krb_ccache.proofs.Faults.{Steps-header_field_in}
use Rattle.krb_ccache.proofs.Stepwise.{Shortens-header_field_in}

abbrev field_at : ℕ → Reader HeaderField
field_at index = in_part (parts.Header index) header_field_at

field-moves : (index : ℕ) (bounds : Bounds) (s t : Source) (f : HeaderField) → field_at index bounds s ≡ Ok (f, t) → s.place < t.place
field-moves index bounds s t f e = omega (arith, ((Steps-header_field_in index).moves bounds s f t e).same, (Shortens-header_field_in index).shorter bounds s f t e)

pub field-less : (index end : ℕ) (bounds : Bounds) (s t : Source) (f : HeaderField) → s.place < end → field_at index bounds s ≡ Ok (f, t) → end - t.place < end - s.place
field-less index end bounds s t f lt e = omega (arith, field-moves index bounds s t f e)

-- ---- the fields of a header with an end, under a limit
module _ (limit : Option ℕ) where
  abbrev upto : ℕ → Bounds
  upto end = record { end = Some end; limit = limit }

  abbrev fields_left : ℕ → ℕ → List HeaderField → Source → Result (List HeaderField × Source) Fault
  fields_left size end prefix s = with_prefix prefix (header_fields_at (size - length prefix) (length prefix) (upto end) s)

  abbrev next_field : ℕ → ℕ → ℕ → Source → Result (List HeaderField × Source) Fault
  next_field bound before end s = (field_at before >>= λ first. header_fields_at bound (suc before) >>= λ others. succeed (first ∷ others)) (upto end) s

  fields_left-some : (size end : ℕ) (prefix : List HeaderField) (s : Source) (k : ℕ) → s.place < end → size - length prefix ≡ suc k → fields_left size end prefix s ≡ with_prefix prefix (next_field k (length prefix) end s)
  fields_left-some size end prefix s k lt e =
      let not_yet : leb end s.place ≡ false = lt-leb end s.place lt in
      ap (λ (bound : ℕ). with_prefix prefix (header_fields_at bound (length prefix) (upto end) s)) e
      ∙ ap (λ (b : Bool). with_prefix prefix (when b (λ _. Ok ([], s)) (λ _. next_field k (length prefix) end s))) not_yet

  pub field-goes_on : (size end : ℕ) (prefix : List HeaderField) (s t : Source) (f : HeaderField) (total : Result (List HeaderField × Source) Fault) → s.place < end → length prefix + (end - s.place) ≤ size → field_at (length prefix) (upto end) s ≡ Ok (f, t)
      → with_prefix prefix (header_fields_at (size - length prefix) (length prefix) (upto end) s) ≡ total → with_prefix (prefix ++ f ∷ []) (header_fields_at (size - length (prefix ++ f ∷ [])) (length (prefix ++ f ∷ [])) (upto end) t) ≡ total
  field-goes_on size end prefix s t f total lt few e so_far =
      let k : ℕ = size - length (prefix ++ f ∷ []) in
      let bound : size - length prefix ≡ suc (size - length (prefix ++ f ∷ [])) = omega (arith, length-append prefix (f ∷ [])) in
      let after : suc (length prefix) ≡ length (prefix ++ f ∷ []) = omega (arith, length-append prefix (f ∷ [])) in
      sym (fields_left-some size end prefix s k lt bound
      ∙ ap (λ (r : Result (HeaderField × Source) Fault). with_prefix prefix (and_then r (λ p. and_then (header_fields_at k (suc (length prefix)) (upto end) p.1) (λ q. Ok (p.0 ∷ q.0, q.1))))) e
      ∙ fields-regroup prefix f (header_fields_at k (suc (length prefix)) (upto end) t)
      ∙ ap (λ (n : ℕ). with_prefix (prefix ++ f ∷ []) (header_fields_at k n (upto end) t)) after)
      ∙ so_far

  pub field-few : (size end : ℕ) (prefix : List HeaderField) (s t : Source) (f : HeaderField) → s.place < end → length prefix + (end - s.place) ≤ size → field_at (length prefix) (upto end) s ≡ Ok (f, t) → length (prefix ++ f ∷ []) + (end - t.place) ≤ size
  field-few size end prefix s t f lt few e = omega (arith, field-moves (length prefix) (upto end) s t f e, length-append prefix (f ∷ []))

  pub field-fails : (fault : Fault) (size end : ℕ) (prefix : List HeaderField) (s : Source) (total : Result (List HeaderField × Source) Fault) → s.place < end → length prefix + (end - s.place) ≤ size → field_at (length prefix) (upto end) s ≡ Err fault
      → with_prefix prefix (header_fields_at (size - length prefix) (length prefix) (upto end) s) ≡ total → total ≡ Err fault
  field-fails fault size end prefix s total lt few h so_far =
      let k : ℕ = size - length prefix - 1 in
      let bound : size - length prefix ≡ suc (size - length prefix - 1) = omega arith in
      sym so_far ∙ fields_left-some size end prefix s k lt bound
      ∙ ap (λ (r : Result (HeaderField × Source) Fault). with_prefix prefix (and_then r (λ p. and_then (header_fields_at k (suc (length prefix)) (upto end) p.1) (λ q. Ok (p.0 ∷ q.0, q.1))))) h

  pub fields-done : (size end : ℕ) (prefix : List HeaderField) (s : Source) (total : Result (List HeaderField × Source) Fault) → end ≤ s.place → with_prefix prefix (header_fields_at (size - length prefix) (length prefix) (upto end) s) ≡ total → total ≡ Ok (prefix, s)
  fields-done size end prefix s total le so_far = sym so_far ∙ go (size - length prefix)
    where
      go : (bound : ℕ) → with_prefix prefix (header_fields_at bound (length prefix) (upto end) s) ≡ Ok (prefix, s)
      go zero = ap (λ (fields : List HeaderField). Ok (fields, s)) (append-nil prefix)
      go (suc bound) =
          let at_end : leb end s.place ≡ true = le-leb end s.place le in
          ap (λ (b : Bool). with_prefix prefix (when b (λ _. Ok ([], s)) (λ _. next_field bound (length prefix) end s))) at_end ∙ ap (λ (fields : List HeaderField). Ok (fields, s)) (append-nil prefix)
