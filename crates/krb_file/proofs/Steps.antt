-- Reading moves forward within the file, a fault is at a place of the file or at its end, and without a field limit none is TooLong.
use Rattle.std.proofs.Common.{◌≡◌, ℕ, zero, suc, ◌+◌, ◌≤◌, ◌⊎◌, inl, inr, Bool, true, false, ltb, Option, Some, None, Result, Ok, Err, List, [], ◌∷◌, length, take, drop, refl, subst, arith, length-drop, ℤ, ap, ◌∙◌, sym, ◌<◌}
use Rattle.std.specs.Int.{Width, w8, byte_len, from_be_bytes, cast_signed, w32}
use Rattle.krb_der.specs.Octets.{when}
use Rattle.krb_file.specs.Fields.{Source, Fault, Bounds, Reader, ◌>>=◌, succeed, fault_of, refused, exceeds, next_octets_at, octets_at, octets_to_end, rest_at, number_at, signed_at, counted_at, times, component_at, names_at, with_name, with_part, called, one_part, in_part, within, is_one_of, expect, version_at}
use Rattle.krb_source.specs.declared.file_why.FileWhy.{FileWhy}
use Rattle.krb_source.specs.declared.file_why.FileWhy.TheVariants as why
use Rattle.krb_file.specs.declared.field_name.FieldName.{FieldName}
use Rattle.krb_file.specs.declared.field_name.FieldName.TheVariants as words
use Rattle.krb_file.specs.declared.field_name.FilePart.{FilePart}
use Rattle.krb_file.specs.declared.field_name.FileField.{FileField}
use Rattle.krb_file.proofs.Fields.{refused_at-ok, refused_at-err, begun_at-ok, begun_at-err, at_field, at, done, failed, ok_is, err_is, and_then-ok, and_then-err, piece-ok, when-err_err, when-ok_else}

pub record IsFault (bounds : Bounds) (s : Source) (f : Fault) : Type 0 where
  pub from : s.place ≤ f.place
  pub upto : f.place ≤ s.place + length s.octets
  pub limited : bounds.limit ≡ None → (size : ℕ) → f.why ≡ why.TooLong size → ⊥

pub record Moved (s t : Source) : Type 0 where
  pub on : s.place ≤ t.place
  pub same : t.place + length t.octets ≡ s.place + length s.octets

pub record Steps {A : Type 0} (reader : Reader A) : Type 0 where
  pub moves : (bounds : Bounds) (s : Source) (v : A) (t : Source) → reader bounds s ≡ Ok (v, t) → Moved s t
  pub faults : (bounds : Bounds) (s : Source) (f : Fault) → reader bounds s ≡ Err f → IsFault bounds s f

pub Moved-then : (s t u : Source) → Moved s t → Moved t u → Moved s u
Moved-then s t u p q = record { on = omega (arith, p.on, q.on); same = omega (arith, p.same, q.same) }

pub IsFault-then : (bounds : Bounds) (s t : Source) (f : Fault) → Moved s t → IsFault bounds t f → IsFault bounds s f
IsFault-then bounds s t f p q = record { from = omega (arith, p.on, q.from); upto = omega (arith, p.same, q.upto); limited = q.limited }

pub Steps-then : {A B : Type 0} (reader : Reader A) (next : A → Reader B) → Steps reader → ((value : A) → Steps (next value)) → Steps (reader >>= next)
Steps-then {A} {B} reader next first others = record {
  moves = λ bounds s v t e.
      let a = and_then-ok (reader bounds s) (λ p. next p.0 bounds p.1) (v, t) e in
      Moved-then s a.0.1 t (first.moves bounds s a.0.0 a.0.1 a.1) ((others a.0.0).moves bounds a.0.1 v t a.2);
  faults = λ bounds s f e.
      elim (and_then-err (reader bounds s) (λ p. next p.0 bounds p.1) f e) [
        | inl a ↦ first.faults bounds s f a
        | inr a ↦ IsFault-then bounds s a.0.1 f (first.moves bounds s a.0.0 a.0.1 a.1) ((others a.0.0).faults bounds a.0.1 f a.2)
      ];
}

pub Steps-succeed : {A : Type 0} (value : A) → Steps (succeed value)
Steps-succeed {A} value = record {
  moves = λ bounds s v t e. subst (λ (p : A × Source). Moved s p.1) (ok_is (value, s) (v, t) e) (record { on = omega arith; same = refl });
  faults = λ bounds s f e. absurd cc;
}

-- ---- the same reader, whose faults are of another field
Steps-at : {A : Type 0} (field : Option FileField → Option FileField) (reader : Reader A) → Steps reader → Steps (at_field field reader)
Steps-at field reader steps = record {
  moves = λ bounds s v t e. steps.moves bounds s v t (refused_at-ok field (reader bounds s) (v, t) e);
  faults = λ bounds s f e.
      let a = refused_at-err field (reader bounds s) f e in
      let p = steps.faults bounds s a.0 a.1 in
      subst (IsFault bounds s) a.2 (record { from = p.from; upto = p.upto; limited = p.limited });
}

pub Steps-called : {A : Type 0} (name : FieldName) (reader : Reader A) → Steps reader → Steps (called name reader)
Steps-called name reader steps = Steps-at (with_name name) reader steps

-- the same reader, whose faults tell where it begins
pub Steps-one_part : {A : Type 0} (reader : Reader A) → Steps reader → Steps (one_part reader)
Steps-one_part reader steps = record {
  moves = λ bounds s v t e. steps.moves bounds s v t (begun_at-ok s.place (reader bounds s) (v, t) e);
  faults = λ bounds s f e.
      let a = begun_at-err s.place (reader bounds s) f e in
      let p = steps.faults bounds s a.0 a.1 in
      subst (IsFault bounds s) a.2 (record { from = p.from; upto = p.upto; limited = p.limited });
}

pub Steps-in_part : {A : Type 0} (part : FilePart) (reader : Reader A) → Steps reader → Steps (in_part part reader)
Steps-in_part part reader steps = Steps-one_part (at_field (with_part part) reader) (Steps-at (with_part part) reader steps)

-- ---- n octets
fault_here : (bounds : Bounds) (s : Source) (reason : FileWhy) (here f : Fault) → here.place ≡ s.place → here.why ≡ reason → (bounds.limit ≡ None → (size : ℕ) → reason ≡ why.TooLong size → ⊥) → here ≡ f → IsFault bounds s f
fault_here bounds s reason here f at is free e = subst (IsFault bounds s) e (record { from = omega (arith, at); upto = omega (arith, at); limited = λ none size long. free none size (sym is ∙ long) })

piece-faults : (limit : Option ℕ) (size : ℕ) (bounds : Bounds) (s : Source) (f : Fault) → (bounds.limit ≡ None → limit ≡ None) → next_octets_at limit size bounds s ≡ Err f → IsFault bounds s f
piece-faults limit size bounds s f free e = overrun (when-err_err (exceeds (s.place + size) bounds.end) _ f (λ _. when (exceeds size limit) (λ _. refused s (why.TooLong size)) last) e)
  where
    taken : Unit {0} → Result (List ℕ × Source) Fault
    taken u = Ok (take size s.octets, at (s.place + size) (drop size s.octets))

    last : Unit {0} → Result (List ℕ × Source) Fault
    last u = when (ltb (length s.octets) size) (λ _. refused s why.Truncated) taken

    no_limit : limit ≡ None → exceeds size limit ≡ true → ⊥
    no_limit e t = let h : exceeds size limit ≡ false = rw e in absurd cc

    truncated : ((ltb (length s.octets) size ≡ true) × (fault_of s.place why.Truncated ≡ f)) ⊎ (taken tt ≡ Err f) → IsFault bounds s f
    truncated (inl p) = fault_here bounds s why.Truncated (fault_of s.place why.Truncated) f refl refl (λ _ _ e. absurd cc) p.1
    truncated (inr p) = absurd cc

    long : ((exceeds size limit ≡ true) × (fault_of s.place (why.TooLong size) ≡ f)) ⊎ (last tt ≡ Err f) → IsFault bounds s f
    long (inl p) = fault_here bounds s (why.TooLong size) (fault_of s.place (why.TooLong size)) f refl refl (λ none _ _. no_limit (free none) p.0) p.1
    long (inr p) = truncated (when-err_err (ltb (length s.octets) size) _ f taken p)

    overrun : ((exceeds (s.place + size) bounds.end ≡ true) × (fault_of s.place why.Overrun ≡ f)) ⊎ (when (exceeds size limit) (λ _. refused s (why.TooLong size)) last ≡ Err f) → IsFault bounds s f
    overrun (inl p) = fault_here bounds s why.Overrun (fault_of s.place why.Overrun) f refl refl (λ _ _ e. absurd cc) p.1
    overrun (inr p) = long (when-err_err (exceeds size limit) _ f last p)

piece-moves : (limit : Option ℕ) (size : ℕ) (bounds : Bounds) (s : Source) (v : List ℕ) (t : Source) → next_octets_at limit size bounds s ≡ Ok (v, t) → Moved s t
piece-moves limit size bounds s v t e =
    let p = piece-ok limit size bounds s t v e in
    rw p.source (record { on = omega arith; same = omega (arith, length-drop size s.octets, p.long) })

pub Steps-piece : (size : ℕ) → Steps (next_octets_at None size)
Steps-piece size = record { moves = piece-moves None size; faults = λ bounds s f e. piece-faults None size bounds s f (λ _. refl) e }

pub Steps-octets : (size : ℕ) → Steps (octets_at size)
Steps-octets size = record { moves = λ bounds s v t e. piece-moves bounds.limit size bounds s v t e; faults = λ bounds s f e. piece-faults bounds.limit size bounds s f (λ h. h) e }

pub Steps-rest : Steps rest_at
Steps-rest = record {
  moves = λ bounds s v t e. (Steps-octets (octets_to_end bounds.end s.place)).moves bounds s v t e;
  faults = λ bounds s f e. (Steps-octets (octets_to_end bounds.end s.place)).faults bounds s f e;
}

-- ---- readers made of these
pub Steps-number : (w : Width) → Steps (number_at w)
Steps-number w = Steps-then (next_octets_at None (byte_len w)) _ (Steps-piece (byte_len w)) (λ octets. Steps-succeed (from_be_bytes w octets))

pub Steps-signed : (w : Width) → Steps (signed_at w)
Steps-signed w = Steps-then (number_at w) _ (Steps-number w) (λ n. Steps-succeed (cast_signed w n))

pub Steps-counted : (w : Width) → Steps (counted_at w)
Steps-counted w = Steps-then (number_at w) octets_at (Steps-number w) Steps-octets

pub Steps-times : {A : Type 0} (item_at : ℕ → Reader A) → ((index : ℕ) → Steps (item_at index)) → (n : ℕ) → Steps (times n item_at)
Steps-times item_at steps zero = Steps-succeed []
Steps-times item_at steps (suc n) =
    Steps-then (item_at 0) _ (steps 0) (λ first.
    Steps-then (times n (λ index. item_at (suc index))) _ (Steps-times (λ index. item_at (suc index)) (λ index. steps (suc index)) n) (λ others. Steps-succeed (first ∷ others)))

pub Steps-component : (w : Width) (index : ℕ) → Steps (component_at w index)
Steps-component w index = Steps-called (words.Component index) (counted_at w) (Steps-counted w)

pub Steps-names : (w : Width) → Steps (names_at w)
Steps-names w =
    Steps-then (called words.ComponentCount (number_at w)) _ (Steps-called words.ComponentCount (number_at w) (Steps-number w)) (λ count.
    Steps-then (called words.Realm (counted_at w)) _ (Steps-called words.Realm (counted_at w) (Steps-counted w)) (λ realm.
    Steps-then (times count (component_at w)) _ (Steps-times (component_at w) (Steps-component w) count) (λ components. Steps-succeed (record { realm = realm; components = components }))))

pub Steps-within : {A : Type 0} (size : ℕ) (inner : Reader A) → Steps inner → Steps (within size inner)
Steps-within size inner steps = record {
  moves = λ bounds s v t e. steps.moves (record { end = Some (s.place + size); limit = bounds.limit }) s v t e;
  faults = λ bounds s f e. let p = steps.faults (record { end = Some (s.place + size); limit = bounds.limit }) s f e in record { from = p.from; upto = p.upto; limited = p.limited };
}

expect_otherwise : (test : Bool) (x : ℕ × Source) (y d f : Fault) → when test (λ _. done x) (λ _. failed (ℕ × Source) d) ≡ failed (ℕ × Source) f → d ≡ f
expect_otherwise true x y d f e = absurd cc
expect_otherwise false x y d f e = err_is (ℕ × Source) d f e

pub Steps-expect : (wanted : List ℕ) (reason : FileWhy) → ((size : ℕ) → reason ≡ why.TooLong size → ⊥) → Steps (expect wanted reason)
Steps-expect wanted reason other = record {
  moves = λ bounds s v t e.
      let a = and_then-ok (number_at w8 bounds s) (λ p. when (is_one_of p.0 wanted) (λ _. done p) (λ _. refused s reason)) (v, t) e in
      let b = when-ok_else (is_one_of a.0.0 wanted) _ a.0 (v, t) a.2 in
      subst (λ (p : ℕ × Source). Moved s p.1) b.1 ((Steps-number w8).moves bounds s a.0.0 a.0.1 a.1);
  faults = λ bounds s f e.
      elim (and_then-err (number_at w8 bounds s) (λ p. when (is_one_of p.0 wanted) (λ _. done p) (λ _. refused s reason)) f e) [
        | inl a ↦ (Steps-number w8).faults bounds s f a
        | inr a ↦ fault_here bounds s reason (fault_of s.place reason) f refl refl (λ _ size h. other size h) (expect_otherwise (is_one_of a.0.0 wanted) a.0 f _ f a.2)
      ];
}

pub Steps-version : (versions : List ℕ) → Steps (version_at versions)
Steps-version versions =
    Steps-then (called words.Magic (expect (5 ∷ []) why.Magic)) _ (Steps-called words.Magic (expect (5 ∷ []) why.Magic) (Steps-expect (5 ∷ []) why.Magic (λ size e. cc)))
    (λ _. Steps-called words.Version (expect versions why.Version) (Steps-expect versions why.Version (λ size e. cc)))

-- a number of 32 bits has octets, whatever follows
pub signed-shorter : (bounds : Bounds) (s : Source) (z : ℤ) (t : Source) → signed_at w32 bounds s ≡ Ok (z, t) → length t.octets < length s.octets
signed-shorter bounds s z t e =
    let a = and_then-ok (number_at w32 bounds s) (λ p. Ok (cast_signed w32 p.0, p.1)) (z, t) e in
    let b = and_then-ok (next_octets_at None 4 bounds s) (λ p. Ok (from_be_bytes w32 p.0, p.1)) a.0 a.1 in
    let p = piece-ok None 4 bounds s b.0.1 b.0.0 b.1 in
    let first : b.0.1 ≡ a.0.1 = ap (λ (x : ℕ × Source). x.1) (ok_is (from_be_bytes w32 b.0.0, b.0.1) a.0 b.2) in
    let second : a.0.1 ≡ t = ap (λ (x : ℤ × Source). x.1) (ok_is (cast_signed w32 a.0.0, a.0.1) (z, t) a.2) in
    subst (λ (x : Source). length x.octets < length s.octets) (sym p.source ∙ first ∙ second) (omega (arith, length-drop 4 s.octets, p.long))

pub Moved-shorter : (s t : Source) → Moved s t → length t.octets ≤ length s.octets
Moved-shorter s t m = omega (arith, m.on, m.same)
