-- How far readers read: a number of octets at least, or up to the end of the entry or header.
use Rattle.std.proofs.Common.{◌≡◌, ℕ, ◌+◌, ◌-◌, ◌<◌, ◌≤◌, Bool, true, false, Option, Some, None, Ok, List, [], ◌∷◌, length, refl, ap, subst, arith}
use Rattle.std.specs.Int.{Width, w8, byte_len, from_be_bytes, cast_signed}
use Rattle.krb_file.specs.Fields.{Source, Bounds, Reader, ◌>>=◌, succeed, is_empty, next_octets_at, octets_at, octets_to_end, rest_at, number_at, signed_at, counted_at, with_name, with_part, called, one_part, in_part, within, is_one_of, expect, version_at, refused}
use Rattle.krb_der.specs.Octets.{when}
use Rattle.krb_source.specs.declared.file_why.FileWhy.{FileWhy}
use Rattle.krb_source.specs.declared.file_why.FileWhy.TheVariants as why
use Rattle.krb_file.specs.FieldReaders.{Cursor, BeginsWith, source_at, fetched, FetchesTo, FetchesToAnnounced, Stays, LooksAheadTo, HasRead, ended_at}
use Rattle.krb_file.specs.declared.field_name.FieldName.{FieldName}
use Rattle.krb_file.specs.declared.field_name.FieldName.TheVariants as words
use Rattle.krb_file.specs.declared.field_name.FilePart.{FilePart}
use Rattle.krb_file.specs.declared.field_name.FileField.{FileField}
use Rattle.krb_file.proofs.Fields.{refused_at-ok, begun_at-ok, at_field, done, ok_is, and_then-ok, piece-ok, when-ok_else}
use Rattle.krb_file.proofs.FieldReaders.{some_rest, Stays-same, Stays-then}
use Rattle.krb_file.proofs.Steps.{Steps, Steps-succeed, Steps-octets}

-- it reads n octets at least
pub record AtLeast {A : Type 0} (n : ℕ) (reader : Reader A) : Type 0 where
  pub goes : (bounds : Bounds) (s : Source) (v : A) (t : Source) → reader bounds s ≡ Ok (v, t) → s.place + n ≤ t.place

pub AtLeast-none : {A : Type 0} (reader : Reader A) → Steps reader → AtLeast 0 reader
AtLeast-none reader steps = record { goes = λ bounds s v t e. let m = steps.moves bounds s v t e in omega (arith, m.on) }

pub AtLeast-then : {A B : Type 0} (m n : ℕ) (reader : Reader A) (next : A → Reader B) → AtLeast m reader → ((value : A) → AtLeast n (next value)) → AtLeast (m + n) (reader >>= next)
AtLeast-then m n reader next first others = record {
  goes = λ bounds s v t e.
      let a = and_then-ok (reader bounds s) (λ p. next p.0 bounds p.1) (v, t) e in
      let one = first.goes bounds s a.0.0 a.0.1 a.1 in
      let two = (others a.0.0).goes bounds a.0.1 v t a.2 in
      omega (arith, one, two);
}

pub AtLeast-piece : (size : ℕ) → AtLeast size (next_octets_at None size)
AtLeast-piece size = record {
  goes = λ bounds s v t e. let p = piece-ok None size bounds s t v e in rw p.source (omega arith);
}

pub AtLeast-number : (w : Width) → AtLeast (byte_len w) (number_at w)
AtLeast-number w = record {
  goes = λ bounds s v t e.
      let a = and_then-ok (next_octets_at None (byte_len w) bounds s) (λ p. Ok (from_be_bytes w p.0, p.1)) (v, t) e in
      let one = (AtLeast-piece (byte_len w)).goes bounds s a.0.0 a.0.1 a.1 in
      let same : a.0.1 ≡ t = ap (λ (x : ℕ × Source). x.1) (ok_is (from_be_bytes w a.0.0, a.0.1) (v, t) a.2) in
      subst (λ (x : Source). s.place + byte_len w ≤ x.place) same one;
}

AtLeast-at : {A : Type 0} (n : ℕ) (field : Option FileField → Option FileField) (reader : Reader A) → AtLeast n reader → AtLeast n (at_field field reader)
AtLeast-at n field reader long = record { goes = λ bounds s v t e. long.goes bounds s v t (refused_at-ok field (reader bounds s) (v, t) e) }

pub AtLeast-called : {A : Type 0} (n : ℕ) (name : FieldName) (reader : Reader A) → AtLeast n reader → AtLeast n (called name reader)
AtLeast-called n name reader long = AtLeast-at n (with_name name) reader long

pub AtLeast-one_part : {A : Type 0} (n : ℕ) (reader : Reader A) → AtLeast n reader → AtLeast n (one_part reader)
AtLeast-one_part n reader long = record { goes = λ bounds s v t e. long.goes bounds s v t (begun_at-ok s.place (reader bounds s) (v, t) e) }

pub AtLeast-in_part : {A : Type 0} (n : ℕ) (part : FilePart) (reader : Reader A) → AtLeast n reader → AtLeast n (in_part part reader)
AtLeast-in_part n part reader long = AtLeast-one_part n (at_field (with_part part) reader) (AtLeast-at n (with_part part) reader long)

pub AtLeast-fewer : {A : Type 0} (m n : ℕ) (reader : Reader A) → m ≤ n → AtLeast n reader → AtLeast m reader
AtLeast-fewer m n reader few long = record { goes = λ bounds s v t e. let m = long.goes bounds s v t e in omega (arith, m, few) }

pub AtLeast-signed : (w : Width) → AtLeast (byte_len w) (signed_at w)
AtLeast-signed w = AtLeast-fewer (byte_len w) (byte_len w + 0) (signed_at w) (omega arith) (AtLeast-then (byte_len w) 0 (number_at w) _ (AtLeast-number w) (λ n. AtLeast-none (succeed (cast_signed w n)) (Steps-succeed (cast_signed w n))))

pub AtLeast-counted : (w : Width) → AtLeast (byte_len w) (counted_at w)
AtLeast-counted w = AtLeast-fewer (byte_len w) (byte_len w + 0) (counted_at w) (omega arith) (AtLeast-then (byte_len w) 0 (number_at w) octets_at (AtLeast-number w) (λ size. AtLeast-none (octets_at size) (Steps-octets size)))

-- it reads n octets
pub record Exactly {A : Type 0} (n : ℕ) (reader : Reader A) : Type 0 where
  pub goes : (bounds : Bounds) (s : Source) (v : A) (t : Source) → reader bounds s ≡ Ok (v, t) → t.place ≡ s.place + n

Exactly-piece : (size : ℕ) → Exactly size (next_octets_at None size)
Exactly-piece size = record { goes = λ bounds s v t e. rw (piece-ok None size bounds s t v e).source refl }

pub Exactly-made : {A B : Type 0} (n : ℕ) (reader : Reader A) (make : A → B) → Exactly n reader → Exactly n (reader >>= λ x. succeed (make x))
Exactly-made {A} {B} n reader make first = record {
  goes = λ bounds s v t e.
      let a = and_then-ok (reader bounds s) (λ p. succeed (make p.0) bounds p.1) (v, t) e in
      let same : a.0.1 ≡ t = ap (λ (x : B × Source). x.1) (ok_is (make a.0.0, a.0.1) (v, t) a.2) in
      subst (λ (x : Source). x.place ≡ s.place + n) same (first.goes bounds s a.0.0 a.0.1 a.1);
}

pub Exactly-number : (w : Width) → Exactly (byte_len w) (number_at w)
Exactly-number w = Exactly-made (byte_len w) (next_octets_at None (byte_len w)) (from_be_bytes w) (Exactly-piece (byte_len w))

pub Exactly-signed : (w : Width) → Exactly (byte_len w) (signed_at w)
Exactly-signed w = Exactly-made (byte_len w) (number_at w) (cast_signed w) (Exactly-number w)

pub Exactly-expect : (wanted : List ℕ) (reason : FileWhy) → Exactly 1 (expect wanted reason)
Exactly-expect wanted reason = record {
  goes = λ bounds s v t e.
      let a = and_then-ok (number_at w8 bounds s) (λ p. when (is_one_of p.0 wanted) (λ _. done p) (λ _. refused s reason)) (v, t) e in
      let b = when-ok_else (is_one_of a.0.0 wanted) _ a.0 (v, t) a.2 in
      subst (λ (p : ℕ × Source). p.1.place ≡ s.place + 1) b.1 ((Exactly-number w8).goes bounds s a.0.0 a.0.1 a.1);
}

pub Exactly-then : {A B : Type 0} (m n : ℕ) (reader : Reader A) (next : A → Reader B) → Exactly m reader → ((value : A) → Exactly n (next value)) → Exactly (m + n) (reader >>= next)
Exactly-then m n reader next first others = record {
  goes = λ bounds s v t e.
      let a = and_then-ok (reader bounds s) (λ p. next p.0 bounds p.1) (v, t) e in
      let one = first.goes bounds s a.0.0 a.0.1 a.1 in
      let two = (others a.0.0).goes bounds a.0.1 v t a.2 in
      omega (arith, one, two);
}

pub Exactly-called : {A : Type 0} (n : ℕ) (name : FieldName) (reader : Reader A) → Exactly n reader → Exactly n (called name reader)
Exactly-called n name reader long = record { goes = λ bounds s v t e. long.goes bounds s v t (refused_at-ok (with_name name) (reader bounds s) (v, t) e) }

pub Exactly-version : (versions : List ℕ) → Exactly 2 (version_at versions)
Exactly-version versions =
    Exactly-then 1 1 (called words.Magic (expect (5 ∷ []) why.Magic)) _ (Exactly-called 1 words.Magic (expect (5 ∷ []) why.Magic) (Exactly-expect (5 ∷ []) why.Magic))
    (λ _. Exactly-called 1 words.Version (expect versions why.Version) (Exactly-expect versions why.Version))

-- ---- up to the end
pub record ToEnd {A : Type 0} (reader : Reader A) : Type 0 where
  pub goes : (end : ℕ) (bounds : Bounds) (s : Source) (v : A) (t : Source) → bounds.end ≡ Some end → reader bounds s ≡ Ok (v, t) → end ≤ t.place

pub ToEnd-rest : ToEnd rest_at
ToEnd-rest = record {
  goes = λ end bounds s v t is e.
      let p = piece-ok bounds.limit (octets_to_end bounds.end s.place) bounds s t v e in
      let long : octets_to_end bounds.end s.place ≡ end - s.place = rw is refl in
      rw p.source (omega (arith, long));
}

pub ToEnd-called : {A : Type 0} (name : FieldName) (reader : Reader A) → ToEnd reader → ToEnd (called name reader)
ToEnd-called name reader whole = record { goes = λ end bounds s v t is e. whole.goes end bounds s v t is (refused_at-ok (with_name name) (reader bounds s) (v, t) e) }

pub ToEnd-then : {A B : Type 0} (reader : Reader A) (next : A → Reader B) → ((value : A) → ToEnd (next value)) → ToEnd (reader >>= next)
ToEnd-then reader next others = record {
  goes = λ end bounds s v t is e.
      let a = and_then-ok (reader bounds s) (λ p. next p.0 bounds p.1) (v, t) e in
      (others a.0.0).goes end bounds a.0.1 v t is a.2;
}

pub ToEnd-made : {A B : Type 0} (reader : Reader A) (make : A → B) → ToEnd reader → ToEnd (reader >>= λ x. succeed (make x))
ToEnd-made {A} {B} reader make first = record {
  goes = λ end bounds s v t is e.
      let a = and_then-ok (reader bounds s) (λ p. succeed (make p.0) bounds p.1) (v, t) e in
      let same : a.0.1 ≡ t = ap (λ (x : B × Source). x.1) (ok_is (make a.0.0, a.0.1) (v, t) a.2) in
      subst (λ (x : Source). end ≤ x.place) same (first.goes end bounds s a.0.0 a.0.1 is a.1);
}

pub AtLeast-within : {A : Type 0} (size : ℕ) (inner : Reader A) → ToEnd inner → AtLeast size (within size inner)
AtLeast-within size inner whole = record {
  goes = λ bounds s v t e. whole.goes (s.place + size) (record { end = Some (s.place + size); limit = bounds.limit }) s v t refl e;
}

-- ---- of a cursor
pub goes_on : {A : Type 0} (n : ℕ) (reader : Reader A) (v : A) (old new : Cursor) → AtLeast n reader → HasRead reader v old new → old.place + n ≤ new.place
goes_on n reader v old new long read =
    let now = some_rest new in
    let a = read.from now.rest now.there in
    long.goes old.bounds (source_at old.place a.0) v (source_at new.place now.rest) a.2

pub goes_to : {A : Type 0} (n : ℕ) (reader : Reader A) (v : A) (old new : Cursor) → Exactly n reader → HasRead reader v old new → new.place ≡ old.place + n
goes_to n reader v old new long read =
    let now = some_rest new in
    let a = read.from now.rest now.there in
    long.goes old.bounds (source_at old.place a.0) v (source_at new.place now.rest) a.2

no_prefix : (prefix : List ℕ) (left : Option (List ℕ)) (octets : List ℕ) → BeginsWith prefix left octets → is_empty octets ≡ true → prefix ≡ []
no_prefix [] left octets there none = refl
no_prefix (x ∷ prefix) None octets there none = let some : is_empty octets ≡ false = rw there.1 refl in absurd cc
no_prefix (x ∷ prefix) (Some known) octets there none = let some : is_empty octets ≡ false = rw there refl in absurd cc

-- if no octet is left, none is ahead
pub none_left : (old new : Cursor) → HasRead ended_at true old new → new.ahead ≡ []
none_left old new read =
    let now = some_rest new in
    let a = read.from now.rest now.there in
    let same : (is_empty a.0, source_at old.place a.0) ≡ (true, source_at new.place now.rest) = ok_is (is_empty a.0, source_at old.place a.0) (true, source_at new.place now.rest) a.2 in
    let rest : a.0 ≡ now.rest = ap (λ (p : Bool × Source). p.1.octets) same in
    let none : is_empty a.0 ≡ true = ap (λ (p : Bool × Source). p.0) same in
    no_prefix new.ahead new.left now.rest now.there (subst (λ (o : List ℕ). is_empty o ≡ true) rest none)

nothing_more : (ahead : List ℕ) (place most : ℕ) → (place < place + length ahead → place + length ahead ≤ most) → most ≤ place → ahead ≡ []
nothing_more [] place most within le = refl
nothing_more (x ∷ ahead) place most within le = absurd (omega (arith, within (omega arith)))

-- if no octet was ahead before, none is ahead now
pub none_ahead : (old new : Cursor) → Stays old new → old.ahead ≡ [] → new.ahead ≡ []
none_ahead old new stays none = let at : length old.ahead ≡ 0 = ap length none in nothing_more new.ahead new.place (fetched old) stays.within (omega (arith, at, stays.on))

-- if the least number of octets that may be announced was fetched
pub keeps_least : (announced : Bounds → Source → ℕ) (least : ℕ) (old new : Cursor) → ((bounds : Bounds) (s : Source) → least ≤ announced bounds s) → FetchesTo (old.place + least) old new → FetchesToAnnounced announced old new
keeps_least announced least old new few within =
    let now = some_rest old in
    record { octets = now.rest; there = now.there; within = λ more. within (omega (arith, more, few old.bounds (source_at old.place now.rest))) }

-- a value was read, and then octets were fetched
pub keeps_then : {A : Type 0} (announced after : Bounds → Source → ℕ) (size : ℕ) (reader : Reader A) (v : A) (old mid new : Cursor) → HasRead reader v old mid → Stays old mid → mid.place ≡ old.place + size
    → ((bounds : Bounds) (s t : Source) → reader bounds s ≡ Ok (v, t) → announced bounds s ≡ size + after bounds t) → FetchesToAnnounced after mid new → FetchesToAnnounced announced old new
keeps_then announced after size reader v old mid new read stays place is keeps =
    let a = read.from keeps.octets keeps.there in
    let same : announced old.bounds (source_at old.place a.0) ≡ size + after old.bounds (source_at mid.place keeps.octets) = is old.bounds (source_at old.place a.0) (source_at mid.place keeps.octets) a.2 in
    let whose : after mid.bounds (source_at mid.place keeps.octets) ≡ after old.bounds (source_at mid.place keeps.octets) = ap (λ (b : Bounds). after b (source_at mid.place keeps.octets)) read.same_bounds in
    record {
      octets = a.0;
      there = a.1;
      within = λ more.
          let first : fetched new ≤ fetched mid = keeps.within (omega (arith, place, same, whose, more)) in
          let second : fetched mid ≤ fetched old = stays.within (omega (arith, place, same, more, first)) in
          omega (arith, first, second);
    }

-- nothing stays ahead after fields that were fetched ahead, if they have at least that many octets
pub looked : (size : ℕ) (old mid new : Cursor) → LooksAheadTo size old mid → Stays mid new → mid.place + size ≤ new.place → Stays old new
looked size old mid new looks stays far = record {
  on = omega (arith, looks.same, stays.on);
  within = λ more.
      let first : fetched new ≤ fetched mid = stays.within more in
      let second : fetched mid ≤ fetched old = looks.within (omega (arith, looks.same, far, first)) in
      omega (arith, first, second);
}

-- an item with at least the number of octets that were fetched ahead, read after a test whether any octet is left
pub item_stays : (size : ℕ) (old mid some new : Cursor) → 0 < size → LooksAheadTo size old mid → LooksAheadTo 1 mid some → Stays some new → some.place + size ≤ new.place → Stays old new
item_stays size old mid some new one looks more stays far = looked size old mid new looks (looked 1 mid some new more stays (omega (arith, far, one))) (omega (arith, more.same, far))

-- no item, if no octet is left
pub end_stays : (size : ℕ) (none : Bool) (old mid new : Cursor) → none ≡ true → LooksAheadTo size old mid → LooksAheadTo 1 mid new → HasRead ended_at none mid new → Stays old new
end_stays size none old mid new is looks more read =
    let nothing : length new.ahead ≡ 0 = ap length (none_left mid new (subst (λ (b : Bool). HasRead ended_at b mid new) is read)) in
    record { on = omega (arith, looks.same, more.same); within = λ ahead. omega (arith, nothing) }

-- ---- fields one after another, with a number of octets at least
pub record Goes (n : ℕ) (old new : Cursor) : Type 0 where
  pub on : old.place + n ≤ new.place
  pub stays : Stays old new

pub goes : {A : Type 0} {v : A} {old new : Cursor} (n : ℕ) (reader : Reader A) → AtLeast n reader → HasRead reader v old new → Stays old new → Goes n old new
goes {A} {v} {old} {new} n reader long read stays = record { on = goes_on n reader v old new long read; stays = stays }

pub same_goes : {old new : Cursor} → new ≡ old → Goes 0 old new
same_goes {old} {new} same = record { on = omega (arith, ap (λ (cursor : Cursor). cursor.place) same); stays = Stays-same same }

infixr 10 ◌then◌
pub ◌then◌ : {m n : ℕ} {old mid new : Cursor} → Goes m old mid → Goes n mid new → Goes (m + n) old new
◌then◌ {m} {n} {old} {mid} {new} first second = record { on = omega (arith, first.on, second.on); stays = Stays-then first.stays second.stays }
