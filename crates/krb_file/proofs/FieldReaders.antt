-- Readers of fields, one after another.
use Rattle.std.proofs.Common.{◌≡◌, ℕ, zero, suc, ◌+◌, ◌<◌, ◌≤◌, Bool, Option, Some, None, Result, Ok, Err, List, [], ◌∷◌, ◌++◌, refl, sym, ◌∙◌, ap, subst, arith}
use Rattle.krb_file.specs.Fields.{Source, Fault, Bounds, ended, Fails, Reader, and_then, ◌>>=◌, succeed, refused_at, begun_at, one_part, with_part, in_part, fault_at, fails_at, fault_begun, fails_begun, next_octets_at, are_zero, times}
use Rattle.krb_file.specs.FieldReaders.{Cursor, BeginsWith, MayRemain, source_at, fetched, FetchesTo, Stays, Keeps, HasRead, FailsBy, Follows, skipped_at, Slice, of_slice}
use Rattle.krb_file.specs.declared.fault.FileFault.{FileFault}
use Rattle.krb_file.specs.declared.fault.FileFault.TheVariants as faults
use Rattle.krb_file.specs.declared.field_name.FileField.{FileField}
use Rattle.krb_file.specs.declared.field_name.FilePart.{FilePart}
use Rattle.krb_file.proofs.Fields.{done, ok_is, and_then-ok, refused_at-ok, at_field}

-- some octets may always remain
pub record SomeRest (cursor : Cursor) : Type 0 where
  pub rest : List ℕ
  pub there : MayRemain cursor rest

some_end : (prefix : List ℕ) (left : Option (List ℕ)) → (rest : List ℕ) × BeginsWith prefix left rest
some_end prefix None = (prefix ++ [], ([], refl))
some_end prefix (Some known) = (prefix ++ known, refl)

pub some_rest : (cursor : Cursor) → SomeRest cursor
some_rest cursor = let a = some_end cursor.ahead cursor.left in record { rest = a.0; there = a.1 }

-- ---- how many octets were fetched
pub Stays-same : {old new : Cursor} → new ≡ old → Stays old new
Stays-same {old} {new} same = rw same (record { on = omega arith; within = λ more. omega arith })

pub Stays-then : {old mid new : Cursor} → Stays old mid → Stays mid new → Stays old new
Stays-then {old} {mid} {new} p q = record {
  on = omega (arith, p.on, q.on);
  within = λ more. let first : fetched new ≤ fetched mid = q.within more in let second : fetched mid ≤ fetched old = p.within (omega (arith, q.on)) in omega (arith, first, second);
}

pub Keeps-same : {old new : Cursor} → new ≡ old → Keeps old new
Keeps-same {old} {new} same = rw same (record { stays = Stays-same refl; same_bounds = refl; inside = λ end is more. omega arith })

pub Keeps-then : {old mid new : Cursor} → Keeps old mid → Keeps mid new → Keeps old new
Keeps-then {old} {mid} {new} p q = record {
  stays = Stays-then p.stays q.stays;
  same_bounds = q.same_bounds ∙ p.same_bounds;
  inside = λ end is more.
      let first : fetched new ≤ fetched mid = q.inside end (ap (λ (b : Bounds). b.end) p.same_bounds ∙ is) more in
      let second : fetched mid ≤ fetched old = p.inside end is (omega (arith, first, more)) in
      omega (arith, first, second);
}

pub FetchesTo-then : (most : ℕ) (old mid new : Cursor) → FetchesTo most old mid → FetchesTo most mid new → FetchesTo most old new
FetchesTo-then most old mid new p q = λ more.
    let first : fetched new ≤ fetched mid = q more in
    let second : fetched mid ≤ fetched old = p (omega (arith, first, more)) in
    omega (arith, first, second)

-- ---- a value made of one that was read
pub made_of : {A B : Type 0} (reader : Reader A) (make : A → B) (v : A) (s t : Cursor) → HasRead reader v s t → HasRead (reader >>= λ x. succeed (make x)) (make v) s t
made_of {A} {B} reader make v s t read = record {
  same_bounds = read.same_bounds;
  from = λ rest there.
      let a = read.from rest there in
      (a.0, a.1, ap (λ (r : Result (A × Source) Fault). and_then r (λ p. done (make p.0, p.1))) a.2);
}

pub skipped : (size : ℕ) (octets : List ℕ) (zeros : Bool) (s t : Cursor) → zeros ≡ are_zero octets → HasRead (next_octets_at None size) octets s t → HasRead (skipped_at size) zeros s t
skipped size octets zeros s t is read = subst (λ (b : Bool). HasRead (skipped_at size) b s t) (sym is) (made_of (next_octets_at None size) are_zero octets s t read)

less : (m n : ℕ) → suc m < suc n → m < n
less m n lt = omega arith

-- ---- the same reader, whose faults are of another field
module _ {A : Type 0} (field : Option FileField → Option FileField) (reader : Reader A) where
  abbrev otherwise : Result (A × Source) Fault → Result (A × Source) Fault
  otherwise r = refused_at field r

  pub read_so : {v : A} {old new : Cursor} → HasRead reader v old new → HasRead (at_field field reader) v old new
  read_so {v} {old} {new} read = record { same_bounds = read.same_bounds; from = λ rest there. let a = read.from rest there in (a.0, a.1, ap otherwise a.2) }

  pub is_read : {v : A} {old new : Cursor} → HasRead (at_field field reader) v old new → HasRead reader v old new
  is_read {v} {old} {new} read = record { same_bounds = read.same_bounds; from = λ rest there. let a = read.from rest there in (a.0, a.1, refused_at-ok field (reader old.bounds (source_at old.place a.0)) (v, source_at new.place rest) a.2) }

  pub fails_so : (e : FileFault) (MayFail : Type 0) (old : Cursor) → FailsBy e reader MayFail old → FailsBy (fault_at field e) (at_field field reader) MayFail old
  fails_so faults.Memory MayFail old fails = tt
  fails_so faults.Read MayFail old fails = fails
  fails_so (faults.Refused fault) MayFail old fails = record { octets = fails.octets; there = fails.there; refused = ap otherwise fails.refused }

  pub follows_so : {B : Type 0} (view : B → A) (result : Result B FileFault) (MayFail : Type 0) (old new : Cursor) → Follows view result reader MayFail old new → Follows view (fails_at field result) (at_field field reader) MayFail old new
  follows_so view (Ok value) MayFail old new read = read_so read
  follows_so view (Err fault) MayFail old new fails = fails_so fault MayFail old fails

-- ---- the same reader, whose faults tell where it begins
module _ {A : Type 0} (reader : Reader A) where
  pub part_read : {v : A} {old new : Cursor} → HasRead reader v old new → HasRead (one_part reader) v old new
  part_read {v} {old} {new} read = record { same_bounds = read.same_bounds; from = λ rest there. let a = read.from rest there in (a.0, a.1, ap (begun_at old.place) a.2) }

  pub part_fails : (e : FileFault) (MayFail : Type 0) (old : Cursor) → FailsBy e reader MayFail old → FailsBy (fault_begun old.place e) (one_part reader) MayFail old
  part_fails faults.Memory MayFail old fails = tt
  part_fails faults.Read MayFail old fails = fails
  part_fails (faults.Refused fault) MayFail old fails = record { octets = fails.octets; there = fails.there; refused = ap (begun_at old.place) fails.refused }

  pub part_follows : {B : Type 0} (view : B → A) (result : Result B FileFault) (MayFail : Type 0) (old new : Cursor) → Follows view result reader MayFail old new → Follows view (fails_begun old.place result) (one_part reader) MayFail old new
  part_follows view (Ok value) MayFail old new read = part_read read
  part_follows view (Err fault) MayFail old new fails = part_fails fault MayFail old fails

-- the fault of a part that begins at a place
pub fails_part : {A : Type 0} (reader : Reader A) (e told : FileFault) (begin : ℕ) (MayFail : Type 0) (old : Cursor) → begin ≡ old.place → told ≡ fault_begun begin e → FailsBy e reader MayFail old → FailsBy told (one_part reader) MayFail old
fails_part reader e told begin MayFail old here is fails =
    let same : fault_begun old.place e ≡ told = ap (λ (place : ℕ). fault_begun place e) (sym here) ∙ sym is in
    subst (λ (f : FileFault). FailsBy f (one_part reader) MayFail old) same (part_fails reader e MayFail old fails)

-- in a part
pub follows_in_part : {A B : Type 0} (part : FilePart) (reader : Reader A) (view : B → A) (result : Result B FileFault) (MayFail : Type 0) (old new : Cursor) → Follows view result reader MayFail old new → Follows view (fails_begun old.place (fails_at (with_part part) result)) (in_part part reader) MayFail old new
follows_in_part part reader view result MayFail old new follows =
    part_follows (at_field (with_part part) reader) view (fails_at (with_part part) result) MayFail old new (follows_so (with_part part) reader view result MayFail old new follows)

-- ---- a number of items, read by a loop
module _ {A : Type 0} (b : Bounds) where
  abbrev read_all : List A → Source → Result (List A × Source) Fault
  read_all xs s = Ok (xs, s)

  abbrev later : (ℕ → Reader A) → ℕ → Reader A
  later item_at = λ index. item_at (suc index)

  pub times-more : (item_at : ℕ → Reader A) (n : ℕ) (s t u : Source) (xs : List A) (x : A) → times n item_at b s ≡ Ok (xs, t) → item_at n b t ≡ Ok (x, u) → times (suc n) item_at b s ≡ Ok (xs ++ x ∷ [], u)
  times-more item_at zero s t u xs x e f =
      let same : ([], s) ≡ (xs, t) = ok_is ([], s) (xs, t) e in
      let nothing : [] ≡ xs = ap (λ (p : List A × Source). p.0) same in
      let here : item_at 0 b s ≡ Ok (x, u) = ap (λ (p : List A × Source). item_at 0 b p.1) same ∙ f in
      ap (λ (r : Result (A × Source) Fault). and_then r (λ p. read_all (p.0 ∷ []) p.1)) here ∙ ap (λ (l : List A). read_all (l ++ x ∷ []) u) nothing
  times-more item_at (suc n) s t u xs x e f =
      let first = and_then-ok (item_at 0 b s) (λ p. and_then (times n (later item_at) b p.1) (λ q. read_all (p.0 ∷ q.0) q.1)) (xs, t) e in
      let others = and_then-ok (times n (later item_at) b first.0.1) (λ q. read_all (first.0.0 ∷ q.0) q.1) (xs, t) first.2 in
      let same : (first.0.0 ∷ others.0.0, others.0.1) ≡ (xs, t) = ok_is (first.0.0 ∷ others.0.0, others.0.1) (xs, t) others.2 in
      let after : item_at (suc n) b others.0.1 ≡ Ok (x, u) = ap (λ (p : List A × Source). item_at (suc n) b p.1) same ∙ f in
      let more = times-more (later item_at) n first.0.1 others.0.1 u others.0.0 x others.1 after in
      ap (λ (r : Result (A × Source) Fault). and_then r (λ p. and_then (times (suc n) (later item_at) b p.1) (λ q. read_all (p.0 ∷ q.0) q.1))) first.1
      ∙ ap (λ (r : Result (List A × Source) Fault). and_then r (λ q. read_all (first.0.0 ∷ q.0) q.1)) more
      ∙ ap (λ (p : List A × Source). read_all (p.0 ++ x ∷ []) u) same

  pub times-fails : (item_at : ℕ → Reader A) (n count : ℕ) (s t : Source) (xs : List A) (fault : Fault) → n < count → times n item_at b s ≡ Ok (xs, t) → item_at n b t ≡ Err fault → times count item_at b s ≡ Err fault
  times-fails item_at n zero s t xs fault lt e f = absurd (omega arith)
  times-fails item_at zero (suc count) s t xs fault lt e f =
      let same : ([], s) ≡ (xs, t) = ok_is ([], s) (xs, t) e in
      let here : item_at 0 b s ≡ Err fault = ap (λ (p : List A × Source). item_at 0 b p.1) same ∙ f in
      ap (λ (r : Result (A × Source) Fault). and_then r (λ p. and_then (times count (later item_at) b p.1) (λ q. read_all (p.0 ∷ q.0) q.1))) here
  times-fails item_at (suc n) (suc count) s t xs fault lt e f =
      let first = and_then-ok (item_at 0 b s) (λ p. and_then (times n (later item_at) b p.1) (λ q. read_all (p.0 ∷ q.0) q.1)) (xs, t) e in
      let others = and_then-ok (times n (later item_at) b first.0.1) (λ q. read_all (first.0.0 ∷ q.0) q.1) (xs, t) first.2 in
      let same : (first.0.0 ∷ others.0.0, others.0.1) ≡ (xs, t) = ok_is (first.0.0 ∷ others.0.0, others.0.1) (xs, t) others.2 in
      let after : item_at (suc n) b others.0.1 ≡ Err fault = ap (λ (p : List A × Source). item_at (suc n) b p.1) same ∙ f in
      let more : times count (later item_at) b first.0.1 ≡ Err fault = times-fails (later item_at) n count first.0.1 others.0.1 others.0.0 fault (less n count lt) others.1 after in
      ap (λ (r : Result (A × Source) Fault). and_then r (λ p. and_then (times count (later item_at) b p.1) (λ q. read_all (p.0 ∷ q.0) q.1))) first.1
      ∙ ap (λ (r : Result (List A × Source) Fault). and_then r (λ q. read_all (first.0.0 ∷ q.0) q.1)) more

module _ {A : Type 0} (item_at : ℕ → Reader A) where
  pub none_read : (h : Cursor) → HasRead (times 0 item_at) [] h h
  none_read h = record { same_bounds = refl; from = λ rest there. (rest, there, refl) }

  pub one_more : (n : ℕ) (s t u : Cursor) (xs : List A) (x : A) → HasRead (times n item_at) xs s t → HasRead (item_at n) x t u → HasRead (times (n + 1) item_at) (xs ++ x ∷ []) s u
  one_more n s t u xs x before item = subst (λ (k : ℕ). HasRead (times k item_at) (xs ++ x ∷ []) s u) next (record {
    same_bounds = item.same_bounds ∙ before.same_bounds;
    from = λ rest there.
        let b = item.from rest there in
        let a = before.from b.0 b.1 in
        (a.0, a.1, times-more s.bounds item_at n (source_at s.place a.0) (source_at t.place b.0) (source_at u.place rest) xs x a.2 (subst (λ (k : Bounds). item_at n k (source_at t.place b.0) ≡ Ok (x, source_at u.place rest)) before.same_bounds b.2));
  })
    where
      next : suc n ≡ n + 1
      next = omega arith

  pub one_fails : (n count : ℕ) (s t : Cursor) (xs : List A) (e : FileFault) (MayFail : Type 0) → n < count → HasRead (times n item_at) xs s t → FailsBy e (item_at n) MayFail t → FailsBy e (times count item_at) MayFail s
  one_fails n count s t xs faults.Memory MayFail lt before fails = tt
  one_fails n count s t xs faults.Read MayFail lt before fails = fails
  one_fails n count s t xs (faults.Refused fault) MayFail lt before fails =
      let a = before.from fails.octets fails.there in
      record {
        octets = a.0;
        there = a.1;
        refused = times-fails s.bounds item_at n count (source_at s.place a.0) (source_at t.place fails.octets) xs fault lt a.2 (subst (λ (k : Bounds). item_at n k (source_at t.place fails.octets) ≡ Err fault) before.same_bounds fails.refused);
      }

-- ---- of a slice it is known which octets remain
pub known : {A : Type 0} (reader : Reader A) (v : A) (s t : Slice) → HasRead reader v (of_slice s) (of_slice t) → reader (ended s.end) (source_at s.place s.octets) ≡ Ok (v, source_at t.place t.octets)
known {A} reader v s t read =
    let a = read.from t.octets refl in
    subst (λ (o : List ℕ). reader (ended s.end) (source_at s.place o) ≡ Ok (v, source_at t.place t.octets)) a.1 a.2

pub known_end : {A : Type 0} (reader : Reader A) (v : A) (s t : Slice) → HasRead reader v (of_slice s) (of_slice t) → t.end ≡ s.end
known_end reader v s t read = ap (λ (b : Bounds). b.end) read.same_bounds

pub known_fault : {A : Type 0} (reader : Reader A) (e : FileFault) (s : Slice) → FailsBy e reader ⊥ (of_slice s) → Fails e (reader (ended s.end) (source_at s.place s.octets))
known_fault reader faults.Memory s fails = tt
known_fault reader faults.Read s fails = fails
known_fault reader (faults.Refused fault) s fails =
    subst (λ (o : List ℕ). reader (ended s.end) (source_at s.place o) ≡ Err fault) fails.there fails.refused
