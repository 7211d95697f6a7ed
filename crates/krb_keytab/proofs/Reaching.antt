-- A record is read to its end: no octet that was fetched for it stays ahead.
use Rattle.std.proofs.Common.{◌≡◌, ℕ, ◌+◌, ◌≤◌, Bool, false, ℤ, pos, negsuc, Result, Ok, Err, [], ◌∷◌, ◌∙◌, ap, subst, arith}
use Rattle.std.proofs.lemmas.Int.{to_z-of_z}
use Rattle.std.specs.Int.RustNames.{FitsSigned}
use lib.IntN.{nat_abs}
use mir.Val.{to_z, of_z}
use Rattle.std.specs.Prelude.{OnErr, OnOk}
use Rattle.std.specs.Int.{w8, w16, w32}
use Rattle.krb_file.specs.Fields.{Source, Fault, Bounds, succeed, called, is_empty, number_at, signed_at, counted_at, names_at, rest_at, within, version_at}
use Rattle.krb_file.specs.FieldReaders.{Cursor, source_at, fetched, FetchesTo, FetchesToAnnounced, Stays, LooksAheadTo, HasRead, ended_at}
use Rattle.krb_file.proofs.FieldReaders.{some_rest, Stays-then}
use Rattle.krb_file.specs.declared.field_name.FieldName.TheVariants as fields
use Rattle.krb_file.proofs.Fields.{ok_is}
use Rattle.krb_file.proofs.Reaching.{ToEnd, ToEnd-then, ToEnd-made, ToEnd-called, ToEnd-rest, AtLeast-within, AtLeast-signed, Exactly-signed, Exactly-version, goes_on, goes_to, keeps_least, keeps_then, looked, item_stays}
use Rattle.krb_keytab.specs.declared.value.Entry.{Entry}
use Rattle.krb_keytab.specs.Reading.{entry_at, content_size, announced_by, announced}
use Rattle.krb_keytab.specs.Streaming.{announced_after, announced_in}
use Rattle.krb_file.specs.declared.progress.Progress.TheVariants as states

ToEnd-entry : ToEnd entry_at
ToEnd-entry =
    ToEnd-then (names_at w16) _ (λ names.
    ToEnd-then (called fields.NameType (signed_at w32)) _ (λ name_type.
    ToEnd-then (called fields.Timestamp (number_at w32)) _ (λ time.
    ToEnd-then (called fields.KeyVersion (number_at w8)) _ (λ vno8.
    ToEnd-then (called fields.Enctype (number_at w16)) _ (λ enctype.
    ToEnd-then (called fields.Key (counted_at w16)) _ (λ key.
    ToEnd-made (called fields.Rest rest_at) (λ rest. record { realm = names.realm; components = names.components; name_type = name_type; time = time; vno8 = vno8; enctype = enctype; key = key; rest = rest }) (ToEnd-called fields.Rest rest_at ToEnd-rest)))))))

pub entry_stays : (size told : ℕ) (entry : Entry) (old mid new : Cursor) → told ≡ size → LooksAheadTo told old mid → HasRead (within size entry_at) entry mid new → Stays mid new → Stays old new
entry_stays size told entry old mid new same looks read stays =
    let far : mid.place + size ≤ new.place = goes_on size (within size entry_at) entry mid new (AtLeast-within size entry_at ToEnd-entry) read in
    looked told old mid new looks stays (omega (arith, same, far))

-- the same at its end or at a fault
pub entry_fetches : (most size told : ℕ) (old mid new : Cursor) → size ≡ most → told ≡ size → LooksAheadTo told old mid → FetchesTo (mid.place + size) mid new → FetchesTo (old.place + most) old new
entry_fetches most size told old mid new is same looks within = λ far.
    let first : fetched new ≤ fetched mid = within (omega (arith, looks.same, is, far)) in
    let second : fetched mid ≤ fetched old = looks.within (omega (arith, looks.same, is, same, far, first)) in
    omega (arith, first, second)

-- a record after its length
pub record_stays : (length : ℤ) (old mid some after new : Cursor) → LooksAheadTo 4 old mid → LooksAheadTo 1 mid some → HasRead (signed_at w32) length some after → Stays some after → Stays after new → Stays old new
record_stays length old mid some after new looks more read first second =
    let far : some.place + 4 ≤ after.place = goes_on 4 (signed_at w32) length some after (AtLeast-signed w32) read in
    item_stays 4 old mid some new (omega arith) looks more (Stays-then first second) (omega (arith, far, second.on))

-- ---- at a fault
least : (read : Result (ℤ × Source) Fault) → 4 ≤ announced_by read
least (Err fault) = omega arith
least (Ok read) = omega arith

pub length_announced : (bounds : Bounds) (s : Source) → 4 ≤ announced bounds s
length_announced bounds s = least (signed_at w32 bounds s)

pub size_of_content : (z : ℤ) (size k : ℕ) → FitsSigned w32 z → size ≡ nat_abs (to_z w32 (of_z w32 z)) → k ≡ size → k ≡ content_size z
size_of_content (pos n) size k fits is same = same ∙ is ∙ ap nat_abs (to_z-of_z w32 (pos n) fits)
size_of_content (negsuc n) size k fits is same = same ∙ is ∙ ap nat_abs (to_z-of_z w32 (negsuc n) fits)

pub on_err : {T E P : Type 0} (r : Result T E) → P → OnErr r P
on_err (Ok x) p = tt
on_err (Err e) p = p

pub on_err_so : {T E P Q : Type 0} (r : Result T E) → (P → Q) → OnErr r P → OnErr r Q
on_err_so (Ok x) so p = tt
on_err_so (Err e) so p = so p

pub on_ok_so : {T E P Q : Type 0} (r : Result T E) → (P → Q) → OnOk r P → OnOk r Q
on_ok_so (Ok x) so p = so p
on_ok_so (Err e) so p = tt

pub look_keeps : (old new : Cursor) → LooksAheadTo 4 old new → FetchesToAnnounced announced old new
look_keeps old new looks = keeps_least announced 4 old new length_announced (λ far. looks.within (omega (arith, looks.same, far)))

pub asked_keeps : (old mid new : Cursor) → LooksAheadTo 4 old mid → LooksAheadTo 1 mid new → FetchesToAnnounced announced old new
asked_keeps old mid new looks more = keeps_least announced 4 old new length_announced (λ far.
    let first : fetched new ≤ fetched mid = more.within (omega (arith, looks.same, more.same, far)) in
    let second : fetched mid ≤ fetched old = looks.within (omega (arith, looks.same, far, first)) in
    omega (arith, first, second))

-- an octet was fetched, and no length was read
pub length_keeps : (old mid some new : Cursor) → LooksAheadTo 4 old mid → LooksAheadTo 1 mid some → FetchesTo (some.place + 4) some new → FetchesToAnnounced announced old new
length_keeps old mid some new looks more within = keeps_least announced 4 old new length_announced (λ far.
    let first : fetched new ≤ fetched some = within (omega (arith, looks.same, more.same, far)) in
    let second : fetched some ≤ fetched mid = more.within (omega (arith, looks.same, more.same, far, first)) in
    let third : fetched mid ≤ fetched old = looks.within (omega (arith, looks.same, far, first, second)) in
    omega (arith, first, second, third))

-- a length was read, and its record was not
pub content_keeps : (length : ℤ) (nothing : Bool) (old mid some after new : Cursor) → LooksAheadTo 4 old mid → HasRead (succeed (tt {0})) (tt {0}) old mid → LooksAheadTo 1 mid some → HasRead ended_at nothing mid some → HasRead (signed_at w32) length some after → Stays some after
    → FetchesTo (after.place + content_size length) after new → FetchesToAnnounced announced old new
content_keeps length nothing old mid some after new looks looked more asked read stays within =
    let rest = some_rest after in
    let a = read.from rest.rest rest.there in
    let b = asked.from a.0 a.1 in
    let c = looked.from b.0 b.1 in
    let one : (is_empty b.0, source_at mid.place b.0) ≡ (nothing, source_at some.place a.0) = ok_is (is_empty b.0, source_at mid.place b.0) (nothing, source_at some.place a.0) b.2 in
    let two : (tt {0}, source_at old.place c.0) ≡ (tt {0}, source_at mid.place b.0) = ok_is (tt {0}, source_at old.place c.0) (tt {0}, source_at mid.place b.0) c.2 in
    let same : source_at old.place c.0 ≡ source_at some.place a.0 = ap (λ (p : Unit {0} × Source). p.1) two ∙ ap (λ (p : Bool × Source). p.1) one in
    let bounds : some.bounds ≡ old.bounds = asked.same_bounds ∙ looked.same_bounds in
    let there : signed_at w32 old.bounds (source_at old.place c.0) ≡ Ok (length, source_at after.place rest.rest) =
    ap (λ (s : Source). signed_at w32 old.bounds s) same ∙ subst (λ (k : Bounds). signed_at w32 k (source_at some.place a.0) ≡ Ok (length, source_at after.place rest.rest)) bounds a.2 in
    let size : announced old.bounds (source_at old.place c.0) ≡ 4 + content_size length = ap announced_by there in
    let place : after.place ≡ some.place + 4 = goes_to 4 (signed_at w32) length some after (Exactly-signed w32) read in
    record {
      octets = c.0;
      there = c.1;
      within = λ far.
          let first : fetched new ≤ fetched after = within (omega (arith, looks.same, more.same, place, size, far)) in
          let second : fetched after ≤ fetched some = stays.within (omega (arith, looks.same, more.same, place, size, far, first)) in
          let third : fetched some ≤ fetched mid = more.within (omega (arith, looks.same, more.same, size, far, first, second)) in
          let fourth : fetched mid ≤ fetched old = looks.within (omega (arith, looks.same, size, far, first, second, third)) in
          omega (arith, first, second, third, fourth);
    }

-- ---- the version before the first record
version_least : (read : Result (ℕ × Source) Fault) (bounds : Bounds) → 2 ≤ announced_after read bounds
version_least (Err fault) bounds = omega arith
version_least (Ok read) bounds = omega arith

pub version_keeps : (old new : Cursor) → FetchesTo (old.place + 2) old new → FetchesToAnnounced (announced_in (states.Open false)) old new
version_keeps old new within = keeps_least (announced_in (states.Open false)) 2 old new (λ bounds s. version_least (version_at (2 ∷ []) bounds s) bounds) within

pub opened_keeps : (version : ℕ) (old mid new : Cursor) → HasRead (version_at (2 ∷ [])) version old mid → Stays old mid → FetchesToAnnounced announced mid new → FetchesToAnnounced (announced_in (states.Open false)) old new
opened_keeps version old mid new read stays keeps =
    keeps_then (announced_in (states.Open false)) announced 2 (version_at (2 ∷ [])) version old mid new read stays
    (goes_to 2 (version_at (2 ∷ [])) version old mid (Exactly-version (2 ∷ [])) read)
    (λ bounds s t e. ap (λ (r : Result (ℕ × Source) Fault). announced_after r bounds) e) keeps

-- a reader that does not change
pub same_keeps : (announced : Bounds → Source → ℕ) (cursor : Cursor) → FetchesToAnnounced announced cursor cursor
same_keeps announced cursor = keeps_least announced 0 cursor cursor (λ bounds s. omega arith) (λ far. omega arith)
