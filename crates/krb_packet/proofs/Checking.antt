-- Numbers that have a meaning, or are refused.
use Rattle.std.proofs.Common.{◌≡◌, ℕ, Result, Ok, Err, refl, ap, sym, ◌∙◌}
use Rattle.std.specs.Int.{Width}
use Rattle.krb_file.specs.Fields.{Source, Fault, fault_of, with_name, fault_at, Reader, and_then, ◌>>=◌}
use Rattle.krb_file.specs.FieldReaders.{Cursor, HasRead, FailsBy, Follows, source_at}
use Rattle.krb_source.specs.declared.file_why.FileWhy.{FileWhy}
use Rattle.krb_file.specs.declared.fault.FileFault.{FileFault}
use Rattle.krb_file.specs.declared.fault.FileFault.TheVariants as faults
use Rattle.krb_file.specs.declared.field_name.FieldName.{FieldName}
use Rattle.krb_file.proofs.FieldReaders.{some_rest}
use Rattle.krb_packet.specs.declared.order.ByteOrder.{ByteOrder}
use Rattle.krb_packet.specs.Numbers.{field_in, checked_at, from_here, checked_number, checked}
use Rattle.krb_packet.proofs.Options.{Continues}

module _ {A : Type 0} (name : FieldName) (w : Width) (order : ByteOrder) (check : ℕ → Result A FileWhy) (MayFail : Type 0) (number : ℕ) (old new : Cursor) (read : HasRead (field_in name w order) number old new) where
  checked_so : (r : Result A FileWhy) → check number ≡ r → Follows (λ (value : A). value) (checked name old.place r) (checked_number name w order check) MayFail old new
  checked_so (Ok value) e = record {
    same_bounds = read.same_bounds;
    from = λ rest there.
        let a = read.from rest there in
        let s = source_at old.place a.0 in
        let t = source_at new.place rest in (
          a.0,
          a.1,
          ap (λ (r : Result (ℕ × Source) Fault). and_then r (λ p. checked_at name old.place (check p.0) old.bounds p.1)) a.2
              ∙ ap (λ (r : Result A FileWhy). checked_at name old.place r old.bounds t) e,
        );
  }
  checked_so (Err why) e =
      let now = some_rest new in
      let a = read.from now.rest now.there in
      let t = source_at new.place now.rest in
      record {
        octets = a.0;
        there = a.1;
        refused =
            ap (λ (r : Result (ℕ × Source) Fault). and_then r (λ p. checked_at name old.place (check p.0) old.bounds p.1)) a.2
            ∙ ap (λ (r : Result A FileWhy). checked_at name old.place r old.bounds t) e;
      }

  pub telling_follows : (place : ℕ) (result : Result A FileFault) → place ≡ old.place → result ≡ checked name place (check number) → Follows (λ (value : A). value) result (checked_number name w order check) MayFail old new
  telling_follows place result here is = rw (is, here) (checked_so (check number) refl)

module _ {A : Type 0} (name : FieldName) (check : Result A FileWhy) (MayFail : Type 0) (cursor : Cursor) where
  checked_here : (r : Result A FileWhy) → check ≡ r → Follows (λ (value : A). value) (checked name cursor.place r) (from_here (λ place. checked_at name place check)) MayFail cursor cursor
  checked_here (Ok value) e = record { same_bounds = refl; from = λ rest there. (rest, there, ap (λ (r : Result A FileWhy). checked_at name cursor.place r cursor.bounds (source_at cursor.place rest)) e) }
  checked_here (Err why) e =
      let now = some_rest cursor in
      record { octets = now.rest; there = now.there; refused = ap (λ (r : Result A FileWhy). checked_at name cursor.place r cursor.bounds (source_at cursor.place now.rest)) e }

  pub checked_follows : (place : ℕ) (result : Result A FileFault) → place ≡ cursor.place → result ≡ checked name place check → Follows (λ (value : A). value) result (from_here (λ place. checked_at name place check)) MayFail cursor cursor
  checked_follows place result is e = rw (e, is) (checked_here check refl)

-- a number after fields that were read is refused if it has no meaning
pub checked_fails : {A B : Type 0} (reader : Reader B) (name : FieldName) (place : ℕ) (check : Result A FileWhy) (next : A → Reader B) (e : FileFault) (MayFail : Type 0) (old mid : Cursor) → checked name place check ≡ Err e → Continues reader (checked_at name place check >>= next) old mid → FailsBy e reader MayFail old
checked_fails reader name place (Ok value) next e MayFail old mid is on = absurd cc
checked_fails reader name place (Err why) next e MayFail old mid is on =
    let same : fault_at (with_name name) (faults.Refused (fault_of place why)) ≡ e = cc in
    let now = some_rest mid in
    let a = on.from now.rest now.there in
    rw (sym same) (record { octets = a.0; there = a.1; refused = a.2 })
