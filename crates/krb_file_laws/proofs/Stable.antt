-- Fields that octets have, whatever follows these octets, and under any limit.
use Rattle.std.proofs.Common.{◌≡◌, ℕ, zero, suc, ◌+◌, ◌≤◌, Bool, true, false, ltb, Option, Some, None, Result, Ok, Err, List, [], ◌∷◌, ◌++◌, length, take, drop, refl, sym, ◌∙◌, ap, ap₂, subst, arith, length-append, length-take, le-ltb, ◌-◌}
use Rattle.std.proofs.lemmas.List.{take-append-le, drop-append-le}
use Rattle.std.proofs.Math.Seq.{drop-append-add}
use Rattle.std.specs.Int.{Width, w8, byte_len, from_be_bytes, cast_signed}
use Rattle.krb_der.specs.Octets.{when}
use Rattle.krb_file.specs.Fields.{Source, Fault, Bounds, Reader, and_then, ◌>>=◌, succeed, fault_of, refused, refused_at, exceeds, next_octets_at, octets_at, octets_to_end, rest_at, number_at, signed_at, counted_at, times, component_at, names_at, with_name, with_part, called, begun_at, one_part, in_part, within, is_one_of, expect, version_at}
use Rattle.krb_source.specs.declared.file_why.FileWhy.{FileWhy}
use Rattle.krb_source.specs.declared.file_why.FileWhy.TheVariants as why
use Rattle.krb_file.specs.declared.field_name.FieldName.{FieldName}
use Rattle.krb_file.specs.declared.field_name.FieldName.TheVariants as words
use Rattle.krb_file.specs.declared.field_name.FilePart.{FilePart}
use Rattle.krb_file.specs.declared.field_name.FileField.{FileField}
use Rattle.krb_file.proofs.Fields.{at, at_field, done, ok_is, and_then-ok, refused_at-ok, begun_at-ok, IsPiece, piece-ok, when-ok_else}
use Rattle.krb_file_laws.proofs.FileLimits.{bounded}

-- before any others, the octets are read as a value, or refused
pub data IsReadBefore {A : Type 0} (reader : Reader A) (bounds : Bounds) (place : ℕ) (octets : List ℕ) (v : A) (t : Source) : Type 0 where
  Read : ((others : List ℕ) → reader bounds (at place (octets ++ others)) ≡ Ok (v, at t.place (t.octets ++ others))) → IsReadBefore reader bounds place octets v t
  Fails : (f : Fault) → ((others : List ℕ) → reader bounds (at place (octets ++ others)) ≡ Err f) → IsReadBefore reader bounds place octets v t

-- what is read of octets alone is read of them before any others, or refused under a limit
pub record Stable {A : Type 0} (reader : Reader A) : Type 0 where
  pub stable : (end limit : Option ℕ) (place : ℕ) (octets : List ℕ) (v : A) (t : Source) → reader (bounded end None) (at place octets) ≡ Ok (v, t) → IsReadBefore reader (bounded end limit) place octets v t

pub Stable-then : {A B : Type 0} (reader : Reader A) (next : A → Reader B) → Stable reader → ((value : A) → Stable (next value)) → Stable (reader >>= next)
Stable-then {A} {B} reader next first others = record {
  stable = λ end limit place octets v t e.
      let a = and_then-ok (reader (bounded end None) (at place octets)) (λ p. next p.0 (bounded end None) p.1) (v, t) e in
      both end limit place octets v t a.0.0 a.0.1 (first.stable end limit place octets a.0.0 a.0.1 a.1) ((others a.0.0).stable end limit a.0.1.place a.0.1.octets v t a.2);
}
  where
    both : (end limit : Option ℕ) (place : ℕ) (octets : List ℕ) (v : B) (t : Source) (x : A) (u : Source) → IsReadBefore reader (bounded end limit) place octets x u → IsReadBefore (next x) (bounded end limit) u.place u.octets v t → IsReadBefore (reader >>= next) (bounded end limit) place octets v t
    both end limit place octets v t x u (Fails f e) after = Fails f (λ others. ap (λ (r : Result (A × Source) Fault). and_then r (λ p. next p.0 (bounded end limit) p.1)) (e others))
    both end limit place octets v t x u (Read e) (Fails f after) = Fails f (λ others. ap (λ (r : Result (A × Source) Fault). and_then r (λ p. next p.0 (bounded end limit) p.1)) (e others) ∙ after others)
    both end limit place octets v t x u (Read e) (Read after) = Read (λ others. ap (λ (r : Result (A × Source) Fault). and_then r (λ p. next p.0 (bounded end limit) p.1)) (e others) ∙ after others)

pub Stable-succeed : {A : Type 0} (value : A) → Stable (succeed value)
Stable-succeed {A} value = record {
  stable = λ end limit place octets v t e.
      subst (λ (p : A × Source). IsReadBefore (succeed value) (bounded end limit) place octets p.0 p.1) (ok_is (value, at place octets) (v, t) e) (Read (λ others. refl));
}

-- the same reader, whose faults are of another field
Stable-at : {A : Type 0} (field : Option FileField → Option FileField) (reader : Reader A) → Stable reader → Stable (at_field field reader)
Stable-at {A} field reader one = record {
  stable = λ end limit place octets v t e. same end limit place octets v t (one.stable end limit place octets v t (refused_at-ok field (reader (bounded end None) (at place octets)) (v, t) e));
}
  where
    same : (end limit : Option ℕ) (place : ℕ) (octets : List ℕ) (v : A) (t : Source) → IsReadBefore reader (bounded end limit) place octets v t → IsReadBefore (at_field field reader) (bounded end limit) place octets v t
    same end limit place octets v t (Read e) = Read (λ others. ap (refused_at field) (e others))
    same end limit place octets v t (Fails f e) = Fails (record f { field = field f.field }) (λ others. ap (refused_at field) (e others))

pub Stable-called : {A : Type 0} (name : FieldName) (reader : Reader A) → Stable reader → Stable (called name reader)
Stable-called name reader one = Stable-at (with_name name) reader one

pub Stable-one_part : {A : Type 0} (reader : Reader A) → Stable reader → Stable (one_part reader)
Stable-one_part {A} reader one = record {
  stable = λ end limit place octets v t e. same end limit place octets v t (one.stable end limit place octets v t (begun_at-ok place (reader (bounded end None) (at place octets)) (v, t) e));
}
  where
    same : (end limit : Option ℕ) (place : ℕ) (octets : List ℕ) (v : A) (t : Source) → IsReadBefore reader (bounded end limit) place octets v t → IsReadBefore (one_part reader) (bounded end limit) place octets v t
    same end limit place octets v t (Read e) = Read (λ others. ap (begun_at place) (e others))
    same end limit place octets v t (Fails f e) = Fails (record f { begin = place }) (λ others. ap (begun_at place) (e others))

pub Stable-in_part : {A : Type 0} (part : FilePart) (reader : Reader A) → Stable reader → Stable (in_part part reader)
Stable-in_part part reader one = Stable-one_part (at_field (with_part part) reader) (Stable-at (with_part part) reader one)

-- ---- n octets
piece-before : (most end limit : Option ℕ) (size place : ℕ) (octets v : List ℕ) (t : Source) → IsPiece None size (bounded end None) (at place octets) t v → exceeds size most ≡ false → (others : List ℕ) → next_octets_at most size (bounded end limit) (at place (octets ++ others)) ≡ Ok (v, at t.place (t.octets ++ others))
piece-before most end limit size place octets v t p under others =
    let long : ltb (length (octets ++ others)) size ≡ false = le-ltb _ _ (omega (arith, length-append octets others, p.long)) in
    let inside : exceeds (place + size) end ≡ false = p.inside.inside in
    let read : next_octets_at most size (bounded end limit) (at place (octets ++ others)) ≡ Ok (take size octets, at (place + size) (drop size octets ++ others)) =
    rw (inside, under, long, take-append-le size octets others p.long, drop-append-le size octets others p.long) refl in
    rw (p.octets, p.source) read

pub Stable-piece : (size : ℕ) → Stable (next_octets_at None size)
Stable-piece size = record {
  stable = λ end limit place octets v t e. Read (piece-before None end limit size place octets v t (piece-ok None size (bounded end None) (at place octets) t v e) refl);
}

pub Stable-octets : (size : ℕ) → Stable (octets_at size)
Stable-octets size = record {
  stable = λ end limit place octets v t e. by_limit end limit place octets v t (piece-ok None size (bounded end None) (at place octets) t v e) (exceeds size limit) refl;
}
  where
    by_limit : (end limit : Option ℕ) (place : ℕ) (octets v : List ℕ) (t : Source) → IsPiece None size (bounded end None) (at place octets) t v → (b : Bool) → exceeds size limit ≡ b → IsReadBefore (octets_at size) (bounded end limit) place octets v t
    by_limit end limit place octets v t p false under = Read (piece-before limit end limit size place octets v t p under)
    by_limit end limit place octets v t p true over =
        let inside : exceeds (place + size) end ≡ false = p.inside.inside in
        Fails (fault_of place (why.TooLong size)) (λ others. rw (inside, over) refl)

pub Stable-rest : Stable rest_at
Stable-rest = record {
  stable = λ end limit place octets v t e. same end limit place octets v t ((Stable-octets (octets_to_end end place)).stable end limit place octets v t e);
}
  where
    same : (end limit : Option ℕ) (place : ℕ) (octets v : List ℕ) (t : Source) → IsReadBefore (octets_at (octets_to_end end place)) (bounded end limit) place octets v t → IsReadBefore rest_at (bounded end limit) place octets v t
    same end limit place octets v t (Read e) = Read e
    same end limit place octets v t (Fails f e) = Fails f e

-- ---- readers made of these
pub Stable-number : (w : Width) → Stable (number_at w)
Stable-number w = Stable-then (next_octets_at None (byte_len w)) _ (Stable-piece (byte_len w)) (λ octets. Stable-succeed (from_be_bytes w octets))

pub Stable-signed : (w : Width) → Stable (signed_at w)
Stable-signed w = Stable-then (number_at w) _ (Stable-number w) (λ n. Stable-succeed (cast_signed w n))

pub Stable-counted : (w : Width) → Stable (counted_at w)
Stable-counted w = Stable-then (number_at w) octets_at (Stable-number w) Stable-octets

pub Stable-times : {A : Type 0} (item_at : ℕ → Reader A) → ((index : ℕ) → Stable (item_at index)) → (n : ℕ) → Stable (times n item_at)
Stable-times item_at each zero = Stable-succeed []
Stable-times item_at each (suc n) =
    Stable-then (item_at 0) _ (each 0) (λ first.
    Stable-then (times n (λ index. item_at (suc index))) _ (Stable-times (λ index. item_at (suc index)) (λ index. each (suc index)) n) (λ others. Stable-succeed (first ∷ others)))

pub Stable-names : (w : Width) → Stable (names_at w)
Stable-names w =
    Stable-then (called words.ComponentCount (number_at w)) _ (Stable-called words.ComponentCount (number_at w) (Stable-number w)) (λ count.
    Stable-then (called words.Realm (counted_at w)) _ (Stable-called words.Realm (counted_at w) (Stable-counted w)) (λ realm.
    Stable-then (times count (component_at w)) _ (Stable-times (component_at w) (λ index. Stable-called (words.Component index) (counted_at w) (Stable-counted w)) count) (λ components. Stable-succeed (record { realm = realm; components = components }))))

pub Stable-expect : (wanted : List ℕ) (reason : FileWhy) → Stable (expect wanted reason)
Stable-expect wanted reason = record {
  stable = λ end limit place octets v t e.
      let a = and_then-ok (number_at w8 (bounded end None) (at place octets)) (λ p. when (is_one_of p.0 wanted) (λ _. done p) (λ _. refused (at place octets) reason)) (v, t) e in
      let b = when-ok_else (is_one_of a.0.0 wanted) _ a.0 (v, t) a.2 in
      subst (λ (p : ℕ × Source). IsReadBefore (expect wanted reason) (bounded end limit) place octets p.0 p.1) b.1 (tested end limit place octets a.0.0 a.0.1 b.0 ((Stable-number w8).stable end limit place octets a.0.0 a.0.1 a.1));
}
  where
    tested : (end limit : Option ℕ) (place : ℕ) (octets : List ℕ) (n : ℕ) (t : Source) → is_one_of n wanted ≡ true → IsReadBefore (number_at w8) (bounded end limit) place octets n t → IsReadBefore (expect wanted reason) (bounded end limit) place octets n t
    tested end limit place octets n t is (Read e) = Read (λ others. ap (λ (r : Result (ℕ × Source) Fault). and_then r (λ p. when (is_one_of p.0 wanted) (λ _. done p) (λ _. refused (at place (octets ++ others)) reason))) (e others) ∙ ap (λ (b : Bool). when b (λ _. done (n, at t.place (t.octets ++ others))) (λ _. refused (at place (octets ++ others)) reason)) is)
    tested end limit place octets n t is (Fails f e) = Fails f (λ others. ap (λ (r : Result (ℕ × Source) Fault). and_then r (λ p. when (is_one_of p.0 wanted) (λ _. done p) (λ _. refused (at place (octets ++ others)) reason))) (e others))

pub Stable-version : (versions : List ℕ) → Stable (version_at versions)
Stable-version versions =
    Stable-then (called words.Magic (expect (5 ∷ []) why.Magic)) _ (Stable-called words.Magic (expect (5 ∷ []) why.Magic) (Stable-expect (5 ∷ []) why.Magic))
    (λ _. Stable-called words.Version (expect versions why.Version) (Stable-expect versions why.Version))

pub Stable-within : {A : Type 0} (size : ℕ) (inner : Reader A) → Stable inner → Stable (within size inner)
Stable-within {A} size inner one = record {
  stable = λ end limit place octets v t e. same end limit place octets v t (one.stable (Some (place + size)) limit place octets v t e);
}
  where
    same : (end limit : Option ℕ) (place : ℕ) (octets : List ℕ) (v : A) (t : Source) → IsReadBefore inner (bounded (Some (place + size)) limit) place octets v t → IsReadBefore (within size inner) (bounded end limit) place octets v t
    same end limit place octets v t (Read e) = Read e
    same end limit place octets v t (Fails f e) = Fails f e

-- ---- octets that differ after those that are read

-- what is made of the read is the same, if it is of the value and of what is left
pub alike : {A R : Type 0} (F : Result (A × Source) Fault → R) (reader : Reader A) → Stable reader → (end limit : Option ℕ) (place : ℕ) (octets : List ℕ) (x : A) (u : Source) (after other : List ℕ) → reader (bounded end None) (at place octets) ≡ Ok (x, u)
    → F (Ok (x, at u.place (u.octets ++ after))) ≡ F (Ok (x, at u.place (u.octets ++ other))) → F (reader (bounded end limit) (at place (octets ++ after))) ≡ F (reader (bounded end limit) (at place (octets ++ other)))
alike {A} {R} F reader one end limit place octets x u after other e same = by_read (one.stable end limit place octets x u e)
  where
    by_read : IsReadBefore reader (bounded end limit) place octets x u → F (reader (bounded end limit) (at place (octets ++ after))) ≡ F (reader (bounded end limit) (at place (octets ++ other)))
    by_read (Read is) = ap F (is after) ∙ same ∙ sym (ap F (is other))
    by_read (Fails f is) = ap F (is after) ∙ sym (ap F (is other))

-- what was read, masked
abbrev pub masked_read : {A B : Type 0} → (A → B) → Result (A × Source) Fault → Result (B × Source) Fault
masked_read mask (Ok p) = Ok (mask p.0, p.1)
masked_read mask (Err f) = Err f

-- octets are read alike, but for what a mask hides, whichever of two follow them
pub record IsAlike {A B : Type 0} (mask : A → B) (reader : Reader A) (end : Option ℕ) (place : ℕ) (octets after other : List ℕ) : Type 0 where
  pub same : (limit : Option ℕ) → masked_read mask (reader (bounded end limit) (at place (octets ++ after))) ≡ masked_read mask (reader (bounded end limit) (at place (octets ++ other)))

pub alike-then : {A B C : Type 0} {mask : B → C} {end : Option ℕ} {place : ℕ} {octets after other : List ℕ} (reader : Reader A) (next : A → Reader B) → Stable reader → (x : A) (u : Source) → reader (bounded end None) (at place octets) ≡ Ok (x, u) → IsAlike mask (next x) end u.place u.octets after other → IsAlike mask (reader >>= next) end place octets after other
alike-then {A} {B} {C} {mask} {end} {place} {octets} {after} {other} reader next one x u e later = record {
  same = λ limit. alike (λ r. masked_read mask (and_then r (λ p. next p.0 (bounded end limit) p.1))) reader one end limit place octets x u after other e (later.same limit);
}

masked_read-begun : {A B : Type 0} (mask : A → B) (place : ℕ) (r : Result (A × Source) Fault) → masked_read mask (begun_at place r) ≡ begun_at place (masked_read mask r)
masked_read-begun mask place (Ok p) = refl
masked_read-begun mask place (Err f) = refl

pub alike-one_part : {A B : Type 0} {mask : A → B} {end : Option ℕ} {place : ℕ} {octets after other : List ℕ} (reader : Reader A) → IsAlike mask reader end place octets after other → IsAlike mask (one_part reader) end place octets after other
alike-one_part {A} {B} {mask} {end} {place} {octets} {after} {other} reader same = record {
  same = λ limit.
      masked_read-begun mask place (reader (bounded end limit) (at place (octets ++ after)))
      ∙ ap (begun_at place) (same.same limit)
      ∙ sym (masked_read-begun mask place (reader (bounded end limit) (at place (octets ++ other))));
}

-- a field of octets of which there are n, what is left after it, and what it has
abbrev field_of : ℕ → Bounds → ℕ → ℕ → List ℕ → List ℕ → Result (List ℕ × Source) Fault
field_of size bounds place n left v =
    when (exceeds (place + size) bounds.end) (λ _. refused (at place []) why.Overrun) (λ _.
    when (exceeds size bounds.limit) (λ _. refused (at place []) (why.TooLong size)) (λ _.
    when (ltb n size) (λ _. refused (at place []) why.Truncated) (λ _. Ok (v, at (place + size) left))))

-- two such fields that begin differently
pub octets-alike : {R : Type 0} (F : Result (List ℕ × Source) Fault → R) (size : ℕ) (bounds : Bounds) (place : ℕ) (octets other after : List ℕ) → length octets ≤ size → length other ≡ length octets
    → ((v w : List ℕ) (t : Source) → length v ≡ length w → F (Ok (v, t)) ≡ F (Ok (w, t))) → F (octets_at size bounds (at place (octets ++ after))) ≡ F (octets_at size bounds (at place (other ++ after)))
octets-alike {R} F size bounds place octets other after le same_length same =
    ap₂ (λ (n : ℕ) (left : List ℕ). F (field_of size bounds place n left v)) lengths (left octets refl ∙ sym (left other same_length))
    ∙ by_tests (exceeds (place + size) bounds.end) (exceeds size bounds.limit) (ltb (length (other ++ after)) size)
  where
    v : List ℕ
    v = take size (octets ++ after)

    w : List ℕ
    w = take size (other ++ after)

    lengths : length (octets ++ after) ≡ length (other ++ after)
    lengths = omega (arith, length-append octets after, length-append other after)

    left : (first : List ℕ) → length first ≡ length octets → drop size (first ++ after) ≡ drop (size - length octets) after
    left first e = ap (λ (k : ℕ). drop k (first ++ after)) (omega (arith, le, e)) ∙ drop-append-add first after (size - length octets)

    by_tests : (a b c : Bool)
        → F (when a (λ _. refused (at place []) why.Overrun) (λ _. when b (λ _. refused (at place []) (why.TooLong size)) (λ _. when c (λ _. refused (at place []) why.Truncated) (λ _. Ok (v, at (place + size) (drop size (other ++ after)))))))
        ≡ F (when a (λ _. refused (at place []) why.Overrun) (λ _. when b (λ _. refused (at place []) (why.TooLong size)) (λ _. when c (λ _. refused (at place []) why.Truncated) (λ _. Ok (w, at (place + size) (drop size (other ++ after)))))))
    by_tests true b c = refl
    by_tests false true c = refl
    by_tests false false true = refl
    by_tests false false false = same v w (at (place + size) (drop size (other ++ after))) (omega (arith, length-take size (octets ++ after), length-take size (other ++ after), lengths))

-- two readers that read the same but for what a mask hides
pub record IsSame {A B : Type 0} (mask : A → B) (one other : Reader A) : Type 0 where
  pub same : (bounds : Bounds) (s : Source) → masked_read mask (one bounds s) ≡ masked_read mask (other bounds s)

and_then-same : {A B C : Type 0} (mask : B → C) (r : Result (A × Source) Fault) (f g : A × Source → Result (B × Source) Fault) → ((p : A × Source) → masked_read mask (f p) ≡ masked_read mask (g p)) → masked_read mask (and_then r f) ≡ masked_read mask (and_then r g)
and_then-same mask (Ok p) f g same = same p
and_then-same mask (Err e) f g same = refl

pub same-then : {A B C : Type 0} {mask : B → C} (reader : Reader A) (next others : A → Reader B) → ((x : A) → IsSame mask (next x) (others x)) → IsSame mask (reader >>= next) (reader >>= others)
same-then {A} {B} {C} {mask} reader next others each = record {
  same = λ bounds s. and_then-same mask (reader bounds s) (λ p. next p.0 bounds p.1) (λ p. others p.0 bounds p.1) (λ p. (each p.0).same bounds p.1);
}

pub same-last : {A B : Type 0} {mask : A → B} (value other : A) → mask value ≡ mask other → IsSame mask (succeed value) (succeed other)
same-last {A} {B} value other e = record { same = λ bounds s. ap (λ (x : B). let it : Result (B × Source) Fault = Ok (x, s) in it) e }

-- a field of octets after their number, of which the first ones differ, and what follows it
pub field-alike : {A B : Type 0} (mask : A → B) (w : Width) (name : FieldName) (next : List ℕ → Reader A) → ((v u : List ℕ) → length v ≡ length u → IsSame mask (next v) (next u)) → (end : Option ℕ) (place : ℕ) (octets : List ℕ) (size : ℕ) (t : Source) (first other after : List ℕ)
    → called name (number_at w) (bounded end None) (at place octets) ≡ Ok (size, t) → t.octets ≡ [] → length first ≤ size → length other ≡ length first → IsAlike mask (called name (counted_at w) >>= next) end place octets (first ++ after) (other ++ after)
field-alike {A} {B} mask w name next each end place octets size t first other after e none le len = record {
  same = λ limit.
      let b = bounded end limit in
      let F = λ (r : Result (List ℕ × Source) Fault). masked_read mask (and_then (refused_at (with_name name) r) (λ p. next p.0 b p.1)) in
      let read = refused_at-ok (with_name name) (number_at w (bounded end None) (at place octets)) (size, t) e in
      let field = octets-alike F size b t.place first other after le len (λ v u s l. (each v u l).same b s) in
      alike (λ (r : Result (ℕ × Source) Fault). F (and_then r (λ p. octets_at p.0 b p.1))) (number_at w) (Stable-number w) end limit place octets size t (first ++ after) (other ++ after) read
      (subst (λ (x : List ℕ). F (octets_at size b (at t.place (x ++ (first ++ after)))) ≡ F (octets_at size b (at t.place (x ++ (other ++ after))))) (sym none) field);
}
