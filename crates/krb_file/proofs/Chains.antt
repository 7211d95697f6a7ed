-- Values that readers read, one after another.
use Rattle.std.proofs.Common.{◌≡◌, Result, Ok, refl, ◌∙◌, ap, subst}
use Rattle.krb_file.specs.Fields.{Source, Fault, Bounds, Reader, and_then, ◌>>=◌, succeed}
use Rattle.krb_file.specs.FieldReaders.{Cursor, HasRead, source_at}

pub read_none : {A : Type 0} {v : A} {h : Cursor} → HasRead (succeed v) v h h
read_none = record { same_bounds = refl; from = λ rest there. (rest, there, refl) }

pub read_from : {A : Type 0} {reader : Reader A} {v : A} {here old new : Cursor} → here ≡ old → HasRead reader v here new → HasRead reader v old new
read_from {A} {reader} {v} {here} {old} {new} same read = subst (λ (h : Cursor). HasRead reader v h new) same read

pub read_then : {A B : Type 0} (first : Reader A) (next : A → Reader B) {v : A} {w : B} {old mid new : Cursor} → HasRead first v old mid → HasRead (next v) w mid new → HasRead (first >>= next) w old new
read_then {A} {B} first next {v} {w} {old} {mid} {new} one two = record {
  same_bounds = two.same_bounds ∙ one.same_bounds;
  from = λ rest there.
      let b = two.from rest there in
      let a = one.from b.0 b.1 in
      (a.0, a.1, ap (λ (r : Result (A × Source) Fault). and_then r (λ p. next p.0 old.bounds p.1)) a.2 ∙ subst (λ (k : Bounds). next v k (source_at mid.place b.0) ≡ Ok (w, source_at new.place rest)) one.same_bounds b.2);
}

-- after a call that reads nothing
pub read_after : {A : Type 0} {reader : Reader A} {v : A} {old mid new : Cursor} → HasRead (succeed (tt {0})) (tt {0}) old mid → HasRead reader v mid new → HasRead reader v old new
read_after {A} {reader} none read = read_then (succeed (tt {0})) (λ _. reader) none read
