-- A hole: its octets are skipped, and what is kept of them is whether all are 00.
use Rattle.std.proofs.Common.{◌≡◌, ℕ, zero, suc, Bool, false, ℤ, pos, negsuc, None, Result, Ok, List, refl, sym, ◌∙◌, ap, subst, arith}
use Rattle.std.proofs.lemmas.Bool.{ltb-false}
use Rattle.std.proofs.lemmas.Int.{to_z-of_z}
use Rattle.std.specs.Int.{w32}
use Rattle.std.specs.Int.RustNames.{FitsSigned}
use lib.IntN.{nat_abs}
use lib.Signed.{lt_z}
use mir.Val.{to_z, of_z}
use Rattle.krb_file.specs.Fields.{Source, Fault, Bounds, and_then, with_name, refused_at, next_octets_at, are_zero}
use Rattle.krb_file.specs.FieldReaders.{Cursor, source_at, HasRead, skipped_at}
use Rattle.krb_file.specs.declared.field_name.FieldName.TheVariants as fields
use Rattle.krb_file.proofs.Fields.{done, ok_is, and_then-ok}
use Rattle.krb_keytab.specs.declared.value.Record.TheVariants as records
use Rattle.krb_keytab.specs.declared.reading.Next.{Next}
use Rattle.krb_keytab.specs.declared.reading.Next.TheVariants as nexts
use Rattle.krb_keytab.specs.Holes.{HoleModel}
use Rattle.krb_keytab.specs.Reading.{record_of}

abbrev hole : ℕ → Bool → Next
hole size clean = nexts.Item (records.Hole (record { size = size; clean = clean }))

passed : (n : ℕ) (b : Bounds) (s t : Source) (clean : Bool) → skipped_at (suc n) b s ≡ Ok (clean, t) → record_of (negsuc n) b s ≡ Ok (hole (suc n) clean, t)
passed n b s t clean e =
    let a = and_then-ok (next_octets_at None (suc n) b s) (λ p. done (are_zero p.0, p.1)) (clean, t) e in
    ap (λ (r : Result (List ℕ × Source) Fault). and_then (refused_at (with_name fields.Hole) r) (λ p. done (hole (suc n) (are_zero p.0), p.1))) a.1
    ∙ ap (λ (p : Bool × Source). done (hole (suc n) p.0, p.1)) (ok_is (are_zero a.0.0, a.0.1) (clean, t) a.2)

negative : (n : ℕ) (clean : Bool) (s t : Cursor) → HasRead (skipped_at (suc n)) clean s t → HasRead (record_of (negsuc n)) (hole (suc n) clean) s t
negative n clean s t read = record {
  same_bounds = read.same_bounds;
  from = λ rest there.
      let a = read.from rest there in
      (a.0, a.1, passed n s.bounds (source_at s.place a.0) (source_at t.place rest) clean a.2);
}

pub hole_read : (z : ℤ) (size k : ℕ) (made : HoleModel) (clean : Bool) (s t : Cursor) → FitsSigned w32 z → (of_z w32 z ≡ 0 → ⊥) → lt_z (pos 0) (to_z w32 (of_z w32 z)) ≡ false
    → size ≡ nat_abs (to_z w32 (of_z w32 z)) → k ≡ size → made ≡ record { size = size; clean = clean } → HasRead (skipped_at k) clean s t → HasRead (record_of z) (nexts.Item (records.Hole made)) s t
hole_read (pos zero) size k made clean s t fits some positive is same of read = absurd (some refl)
hole_read (pos (suc n)) size k made clean s t fits some positive is same of read =
    let h : lt_z (pos 0) (pos (suc n)) ≡ false = subst (λ (z : ℤ). lt_z (pos 0) z ≡ false) (to_z-of_z w32 (pos (suc n)) fits) positive in
    absurd (omega (arith, ltb-false 0 (suc n) h))
hole_read (negsuc n) size k made clean s t fits some positive is same of read =
    let long : size ≡ suc n = is ∙ ap nat_abs (to_z-of_z w32 (negsuc n) fits) in
    let here : HasRead (skipped_at (suc n)) clean s t = subst (λ (m : ℕ). HasRead (skipped_at m) clean s t) (same ∙ long) read in
    let it : record { size = suc n; clean = clean } ≡ made = sym (of ∙ ap (λ (m : ℕ). let h : HoleModel = record { size = m; clean = clean } in h) long) in
    subst (λ (h : HoleModel). HasRead (record_of (negsuc n)) (nexts.Item (records.Hole h)) s t) it (negative n clean s t here)
