-- Fields of files: what is read is spelled by its octets, what is spelled is read, and a fault is at a place of the file.
use Rattle.std.proofs.Common.{◌≡◌, ℕ, zero, suc, ◌+◌, ◌%◌, ◌^◌, ◌<◌, ◌≤◌, ◌⊎◌, inl, inr, Bool, true, false, ltb, ℤ, pos, negsuc, Option, Some, None, Result, Ok, Err, List, [], ◌∷◌, ◌++◌, length, get_or, take, drop, refl, sym, ◌∙◌, ap, ap₂, subst, arith, append_assoc, length-append, length-take, le-ltb, take-append-drop, drop_at}
use Rattle.std.proofs.lemmas.Bool.{ltb-false}
use Rattle.std.proofs.lemmas.Bool.Decides.{nat_tests}
use Rattle.std.proofs.lemmas.List.{take_at, append-nil}
use Rattle.std.proofs.lemmas.List.Concat.{flat_map-cons}
use Rattle.std.proofs.lemmas.Nat.{be_bytes_2, be_bytes_4, from_be_bytes-to_be_bytes_2, from_be_bytes-to_be_bytes_4}
use Rattle.std.proofs.lemmas.Int.{to_z-of_z, of_z-to_z}
use borrow.Author.Gap.{read_sfits}
use Rattle.std.specs.List.{flat_map, AllByRecursion}
use Rattle.std.specs.Int.{Width, w8, w16, w32, byte_len, from_be_bytes, to_be_bytes, cast_signed, cast_unsigned}
use Rattle.std.specs.Int.RustNames.{FitsSigned}
use Rattle.krb_der.specs.Octets.{when, AreOctets}
use Rattle.krb_file.specs.Fields.{signed, counted, Names, names, bound_of, IsCounted, AreNames, Source, Fault, Bounds, Reader, and_then, ◌>>=◌, succeed, refused, exceeds, with_name, with_part, refused_at, called, begun_at, one_part, in_part, next_octets_at, octets_at, number_at, signed_at, counted_at, times, component_at, names_at, is_one_of, expect, version_at}
use Rattle.krb_source.specs.declared.file_why.FileWhy.{FileWhy}
use Rattle.krb_source.specs.declared.file_why.FileWhy.TheVariants as why
use Rattle.krb_file.specs.declared.field_name.FieldName.{FieldName}
use Rattle.krb_file.specs.declared.field_name.FieldName.TheVariants as words
use Rattle.krb_file.specs.declared.field_name.FilePart.{FilePart}
use Rattle.krb_file.specs.declared.field_name.FileField.{FileField}
use Rattle.krb_der.specs.inner.Numbers.{AreOctets-take, AreOctets-drop}

abbrev pub at : ℕ → List ℕ → Source
at place octets = record { place = place; octets = octets }

-- ---- steps without a fault, and with one
abbrev pub done : {A : Type 0} → A → Result A Fault
done x = Ok x

pub ok_is : {A : Type 0} (x y : A) → done x ≡ done y → x ≡ y
ok_is x y e = cc

abbrev pub failed : (A : Type 0) → Fault → Result A Fault
failed A d = Err d

pub err_is : (A : Type 0) (x y : Fault) → failed A x ≡ failed A y → x ≡ y
err_is A x y e = cc

pub and_then-ok : {A B : Type 0} (r : Result A Fault) (f : A → Result B Fault) (y : B) → and_then r f ≡ Ok y → (x : A) × (r ≡ Ok x) × (f x ≡ Ok y)
and_then-ok (Ok x) f y e = (x, refl, e)
and_then-ok (Err d) f y e = absurd cc

pub and_then-err : {A B : Type 0} (r : Result A Fault) (f : A → Result B Fault) (d : Fault) → and_then r f ≡ Err d → (r ≡ Err d) ⊎ ((x : A) × (r ≡ Ok x) × (f x ≡ Err d))
and_then-err (Ok x) f d e = inr (x, refl, e)
and_then-err {A} {B} (Err c) f d e = inl (ap (failed A) (err_is B c d e))

pub when-err_ok : {A : Type 0} (test : Bool) (d : Fault) (next : Unit {0} → Result A Fault) (y : A) → when test (λ _. Err d) next ≡ Ok y → (test ≡ false) × (next tt ≡ Ok y)
when-err_ok true d next y e = absurd cc
when-err_ok false d next y e = (refl, e)

pub when-err_err : {A : Type 0} (test : Bool) (d c : Fault) (next : Unit {0} → Result A Fault) → when test (λ _. Err d) next ≡ Err c → ((test ≡ true) × (d ≡ c)) ⊎ (next tt ≡ Err c)
when-err_err {A} true d c next e = inl (refl, err_is A d c e)
when-err_err false d c next e = inr e

-- ---- the place in the file
pub record Inside (bounds : Bounds) (place : ℕ) : Type 0 where
  pub inside : exceeds place bounds.end ≡ false

exceeds-before : (m n : ℕ) (end : Option ℕ) → m ≤ n → exceeds n end ≡ false → exceeds m end ≡ false
exceeds-before m n None le e = refl
exceeds-before m n (Some most) le e = le-ltb most m (omega (arith, ltb-false most n e))

pub Inside-before : (bounds : Bounds) (m n : ℕ) → m ≤ n → Inside bounds n → Inside bounds m
Inside-before bounds m n le h = record { inside = exceeds-before m n bounds.end le h.inside }

-- the octets that were read are the first ones
pub record Took (bounds : Bounds) (text : List ℕ) (s t : Source) : Type 0 where
  pub parts : s.octets ≡ text ++ t.octets
  pub place : t.place ≡ s.place + length text
  pub inside : Inside bounds t.place
  pub fits : AreOctets t.octets

pub Took-then : (bounds : Bounds) (x y : List ℕ) (s t u : Source) → Took bounds x s t → Took bounds y t u → Took bounds (x ++ y) s u
Took-then bounds x y s t u p q = record {
  parts = p.parts ∙ ap (λ (w : List ℕ). x ++ w) q.parts ∙ sym (append_assoc x y u.octets);
  place = omega (arith, length-append x y, p.place, q.place);
  inside = q.inside;
  fits = q.fits;
}

pub Took-none : (bounds : Bounds) (s : Source) → AreOctets s.octets → Inside bounds s.place → Took bounds [] s s
Took-none bounds s fits inside = record { parts = refl; place = omega arith; inside = inside; fits = fits }

-- ---- the two laws of a reader and a spelling
pub record Reads {A : Type 0} (reader : Reader A) (spell : A → List ℕ) (Fits : A → Type 0) : Type 0 where
  -- what is read is spelled by its octets
  pub sound : (bounds : Bounds) (s t : Source) (v : A) → AreOctets s.octets → Inside bounds s.place → reader bounds s ≡ Ok (v, t) → Took bounds (spell v) s t × Fits v
  -- what is spelled is read
  pub again : (bounds : Bounds) (place : ℕ) (rest : List ℕ) (v : A) → Fits v → bounds.limit ≡ None → Inside bounds (place + length (spell v)) → reader bounds (at place (spell v ++ rest)) ≡ Ok (v, at (place + length (spell v)) rest)

-- the same by another spelling
pub Reads-as : {A : Type 0} (reader : Reader A) (spell other : A → List ℕ) (Fits Others : A → Type 0) → Reads reader spell Fits → ((v : A) → spell v ≡ other v) → ((v : A) → Fits v → Others v) → ((v : A) → Others v → Fits v) → Reads reader other Others
Reads-as reader spell other Fits Others laws same there suffix = record {
  sound = λ bounds s t v fits inside e. let p = laws.sound bounds s t v fits inside e in (subst (λ (w : List ℕ). Took bounds w s t) (same v) p.0, there v p.1);
  again = λ bounds place rest v fits free inside.
      subst (λ (w : List ℕ). Inside bounds (place + length w) → reader bounds (at place (w ++ rest)) ≡ Ok (v, at (place + length w) rest)) (same v) (laws.again bounds place rest v (suffix v fits) free) inside;
}

-- ---- n octets
pub record IsPiece (limit : Option ℕ) (size : ℕ) (bounds : Bounds) (s t : Source) (taken : List ℕ) : Type 0 where
  pub inside : Inside bounds (s.place + size)
  pub under : exceeds size limit ≡ false
  pub long : size ≤ length s.octets
  pub octets : taken ≡ take size s.octets
  pub source : t ≡ at (s.place + size) (drop size s.octets)

pub piece-ok : (limit : Option ℕ) (size : ℕ) (bounds : Bounds) (s t : Source) (octets : List ℕ) → next_octets_at limit size bounds s ≡ Ok (octets, t) → IsPiece limit size bounds s t octets
piece-ok limit size bounds s t octets e =
    let a = when-err_ok (exceeds (s.place + size) bounds.end) _ (λ _. when (exceeds size limit) (λ _. refused s (why.TooLong size)) (λ _. when (ltb (length s.octets) size) (λ _. refused s why.Truncated) (λ _. Ok (take size s.octets, at (s.place + size) (drop size s.octets))))) (octets, t) e in
    let b = when-err_ok (exceeds size limit) _ (λ _. when (ltb (length s.octets) size) (λ _. refused s why.Truncated) (λ _. Ok (take size s.octets, at (s.place + size) (drop size s.octets)))) (octets, t) a.1 in
    let c = when-err_ok (ltb (length s.octets) size) _ (λ _. Ok (take size s.octets, at (s.place + size) (drop size s.octets))) (octets, t) b.1 in
    let same = ok_is (take size s.octets, at (s.place + size) (drop size s.octets)) (octets, t) c.1 in
    record {
      inside = record { inside = a.0 };
      under = b.0;
      long = ltb-false (length s.octets) size c.0;
      octets = sym (ap (λ (p : List ℕ × Source). p.0) same);
      source = sym (ap (λ (p : List ℕ × Source). p.1) same);
    }

pub piece-took : (limit : Option ℕ) (size : ℕ) (bounds : Bounds) (s t : Source) (octets : List ℕ) → AreOctets s.octets → IsPiece limit size bounds s t octets → Took bounds octets s t × (length octets ≡ size) × AreOctets octets
piece-took limit size bounds s t octets fits p =
    rw (p.octets, p.source) (
      record {
        parts = sym (take-append-drop size s.octets);
        place = omega (arith, length-take size s.octets, p.long);
        inside = p.inside;
        fits = AreOctets-drop size s.octets fits;
      },
      omega (arith, length-take size s.octets, p.long),
      AreOctets-take size s.octets fits,
    )

pub piece-again : (limit : Option ℕ) (bounds : Bounds) (place : ℕ) (octets rest : List ℕ) → limit ≡ None → Inside bounds (place + length octets) → next_octets_at limit (length octets) bounds (at place (octets ++ rest)) ≡ Ok (octets, at (place + length octets) rest)
piece-again limit bounds place octets rest free inside =
    let long : ltb (length (octets ++ rest)) (length octets) ≡ false = le-ltb _ _ (omega (arith, length-append octets rest)) in
    rw (inside.inside, free, long, take_at octets rest (length octets) refl, drop_at octets rest (length octets) refl)

-- ---- numbers
AreOctets-get : (octets : List ℕ) → AreOctets octets → (i : ℕ) → get_or octets i 0 < 256
AreOctets-get [] fits i = omega arith
AreOctets-get (octet ∷ octets) fits zero = fits.0
AreOctets-get (octet ∷ octets) fits (suc i) = AreOctets-get octets fits.1 i

pub record IsWide (w : Width) : Type 0 where
  pub len : (n : ℕ) → length (to_be_bytes w n) ≡ byte_len w
  pub suffix : (octets : List ℕ) → length octets ≡ byte_len w → AreOctets octets → to_be_bytes w (from_be_bytes w octets) ≡ octets
  pub again : (n : ℕ) → n < bound_of w → from_be_bytes w (to_be_bytes w n) ≡ n
  pub below : (octets : List ℕ) → AreOctets octets → from_be_bytes w octets < bound_of w

one_octet : (octets : List ℕ) → length octets ≡ 1 → AreOctets octets → to_be_bytes w8 (from_be_bytes w8 octets) ≡ octets
one_octet [] len fits = absurd (omega arith)
one_octet (o ∷ []) len fits =
    let e : from_be_bytes w8 (o ∷ []) % 256 ≡ o = omega (arith, fits.0) in
    ap (λ (n : ℕ). n ∷ []) e
one_octet (o ∷ p ∷ octets) len fits = absurd (omega arith)

pub wide8 : IsWide w8
wide8 = record {
  len = λ n. refl;
  suffix = one_octet;
  again = λ n lt. omega arith;
  below = λ octets fits. let g = AreOctets-get octets fits in omega (arith, g 0);
}

pub wide16 : IsWide w16
wide16 = record {
  len = λ n. refl;
  suffix = λ octets len fits. be_bytes_2 octets _ len (AreOctets-get octets fits) refl;
  again = λ n lt. from_be_bytes-to_be_bytes_2 n lt;
  below = λ octets fits. let g = AreOctets-get octets fits in omega (arith, g 0, g 1);
}

pub wide32 : IsWide w32
wide32 = record {
  len = λ n. refl;
  suffix = λ octets len fits. be_bytes_4 octets _ len (AreOctets-get octets fits) refl;
  again = λ n lt. from_be_bytes-to_be_bytes_4 n lt;
  below = λ octets fits. let g = AreOctets-get octets fits in omega (arith, g 0, g 1, g 2, g 3);
}

number-sound : (w : Width) → IsWide w → (bounds : Bounds) (s t : Source) (n : ℕ) → AreOctets s.octets → Inside bounds s.place → number_at w bounds s ≡ Ok (n, t) → Took bounds (to_be_bytes w n) s t × (n < bound_of w)
number-sound w wide bounds s t n fits inside e =
    let a = and_then-ok (next_octets_at None (byte_len w) bounds s) (λ p. Ok (from_be_bytes w p.0, p.1)) (n, t) e in
    let took = piece-took None (byte_len w) bounds s a.0.1 a.0.0 fits (piece-ok None (byte_len w) bounds s a.0.1 a.0.0 a.1) in
    let whole : Took bounds (to_be_bytes w (from_be_bytes w a.0.0)) s a.0.1 = rw (wide.suffix a.0.0 took.1 took.2) took.0 in
    subst (λ (p : ℕ × Source). Took bounds (to_be_bytes w p.0) s p.1 × (p.0 < bound_of w)) (ok_is (from_be_bytes w a.0.0, a.0.1) (n, t) a.2) (whole, wide.below a.0.0 took.2)

number-again : (w : Width) → IsWide w → (bounds : Bounds) (place : ℕ) (rest : List ℕ) (n : ℕ) → n < bound_of w → Inside bounds (place + length (to_be_bytes w n)) → number_at w bounds (at place (to_be_bytes w n ++ rest)) ≡ Ok (n, at (place + length (to_be_bytes w n)) rest)
number-again w wide bounds place rest n lt inside =
    let p : next_octets_at None (byte_len w) bounds (at place (to_be_bytes w n ++ rest)) ≡ Ok (to_be_bytes w n, at (place + length (to_be_bytes w n)) rest) =
    subst (λ (k : ℕ). next_octets_at None k bounds (at place (to_be_bytes w n ++ rest)) ≡ Ok (to_be_bytes w n, at (place + length (to_be_bytes w n)) rest)) (wide.len n) (piece-again None bounds place (to_be_bytes w n) rest refl inside) in
    ap (λ (r : Result (List ℕ × Source) Fault). and_then r (λ p. done (from_be_bytes w p.0, p.1))) p ∙ ap (λ (k : ℕ). done (k, at (place + length (to_be_bytes w n)) rest)) (wide.again n lt)

pub Reads-number : (w : Width) → IsWide w → Reads (number_at w) (to_be_bytes w) (λ n. n < bound_of w)
Reads-number w wide = record {
  sound = number-sound w wide;
  again = λ bounds place rest n lt free inside. number-again w wide bounds place rest n lt inside;
}

unsigned-below : (z : ℤ) → FitsSigned w32 z → cast_unsigned w32 z < 2 ^ 32
unsigned-below (pos n) fits = omega (arith, fits.sfits)
unsigned-below (negsuc n) fits = omega arith

signed-sound : (bounds : Bounds) (s t : Source) (z : ℤ) → AreOctets s.octets → Inside bounds s.place → signed_at w32 bounds s ≡ Ok (z, t) → Took bounds (signed w32 z) s t × FitsSigned w32 z
signed-sound bounds s t z fits inside e =
    let a = and_then-ok (number_at w32 bounds s) (λ p. Ok (cast_signed w32 p.0, p.1)) (z, t) e in
    let p = number-sound w32 wide32 bounds s a.0.1 a.0.0 fits inside a.1 in
    let whole : Took bounds (signed w32 (cast_signed w32 a.0.0)) s a.0.1 = rw (of_z-to_z w32 a.0.0 p.1) p.0 in
    subst (λ (x : ℤ × Source). Took bounds (signed w32 x.0) s x.1 × FitsSigned w32 x.0) (ok_is (cast_signed w32 a.0.0, a.0.1) (z, t) a.2) (whole, read_sfits w32 a.0.0)

signed-again : (bounds : Bounds) (place : ℕ) (rest : List ℕ) (z : ℤ) → FitsSigned w32 z → Inside bounds (place + length (signed w32 z)) → signed_at w32 bounds (at place (signed w32 z ++ rest)) ≡ Ok (z, at (place + length (signed w32 z)) rest)
signed-again bounds place rest z fits inside =
    ap (λ (r : Result (ℕ × Source) Fault). and_then r (λ p. done (cast_signed w32 p.0, p.1))) (number-again w32 wide32 bounds place rest (cast_unsigned w32 z) (unsigned-below z fits) inside)
    ∙ ap (λ (k : ℤ). done (k, at (place + length (signed w32 z)) rest)) (to_z-of_z w32 z fits)

pub Reads-signed : Reads (signed_at w32) (signed w32) (FitsSigned w32)
Reads-signed = record {
  sound = signed-sound;
  again = λ bounds place rest z fits free inside. signed-again bounds place rest z fits inside;
}

-- ---- octets after their length
counted-sound : (w : Width) → IsWide w → (bounds : Bounds) (s t : Source) (octets : List ℕ) → AreOctets s.octets → Inside bounds s.place → counted_at w bounds s ≡ Ok (octets, t) → Took bounds (counted w octets) s t × IsCounted w octets
counted-sound w wide bounds s t octets fits inside e =
    let a = and_then-ok (number_at w bounds s) (λ p. octets_at p.0 bounds p.1) (octets, t) e in
    let n = number-sound w wide bounds s a.0.1 a.0.0 fits inside a.1 in
    let p = piece-took bounds.limit a.0.0 bounds a.0.1 t octets n.0.fits (piece-ok bounds.limit a.0.0 bounds a.0.1 t octets a.2) in
    let both = Took-then bounds (to_be_bytes w a.0.0) octets s a.0.1 t n.0 p.0 in
    (subst (λ (k : ℕ). Took bounds (to_be_bytes w k ++ octets) s t) (sym p.1) both, record { short = subst (λ (k : ℕ). k < bound_of w) (sym p.1) n.1; are_octets = p.2 })

counted-again : (w : Width) → IsWide w → (bounds : Bounds) (place : ℕ) (rest octets : List ℕ) → IsCounted w octets → bounds.limit ≡ None → Inside bounds (place + length (counted w octets)) → counted_at w bounds (at place (counted w octets ++ rest)) ≡ Ok (octets, at (place + length (counted w octets)) rest)
counted-again w wide bounds place rest octets fits free inside =
    let len : length (counted w octets) ≡ length (to_be_bytes w (length octets)) + length octets = length-append (to_be_bytes w (length octets)) octets in
    let before : Inside bounds (place + length (to_be_bytes w (length octets))) = Inside-before bounds _ (place + length (counted w octets)) (omega (arith, len)) inside in
    let places : (place + length (to_be_bytes w (length octets))) + length octets ≡ place + length (counted w octets) = omega (arith, len) in
    let first = number-again w wide bounds place (octets ++ rest) (length octets) fits.short before in
    let second : octets_at (length octets) bounds (at (place + length (to_be_bytes w (length octets))) (octets ++ rest)) ≡ Ok (octets, at (place + length (counted w octets)) rest) =
    subst (λ (k : ℕ). Inside bounds k → octets_at (length octets) bounds (at (place + length (to_be_bytes w (length octets))) (octets ++ rest)) ≡ Ok (octets, at k rest)) places (piece-again bounds.limit bounds (place + length (to_be_bytes w (length octets))) octets rest free) inside in
    ap (λ (x : List ℕ). counted_at w bounds (at place x)) (append_assoc (to_be_bytes w (length octets)) octets rest)
    ∙ ap (λ (r : Result (ℕ × Source) Fault). and_then r (λ p. octets_at p.0 bounds p.1)) first
    ∙ second

pub Reads-counted : (w : Width) → IsWide w → Reads (counted_at w) (counted w) (IsCounted w)
Reads-counted w wide = record { sound = counted-sound w wide; again = counted-again w wide }

-- ---- the same reader, whose faults are of another field
pub refused_at-ok : {A : Type 0} (field : Option FileField → Option FileField) (r : Result A Fault) (x : A) → refused_at field r ≡ Ok x → r ≡ Ok x
refused_at-ok field (Ok y) x e = e
refused_at-ok field (Err d) x e = absurd cc

pub refused_at-err : {A : Type 0} (field : Option FileField → Option FileField) (r : Result A Fault) (f : Fault) → refused_at field r ≡ Err f → (d : Fault) × (r ≡ Err d) × (record d { field = field d.field } ≡ f)
refused_at-err field (Ok y) f e = absurd cc
refused_at-err {A} field (Err d) f e = (d, refl, err_is A (record d { field = field d.field }) f e)

abbrev pub at_field : {A : Type 0} → (Option FileField → Option FileField) → Reader A → Reader A
at_field field reader = λ bounds source. refused_at field (reader bounds source)

Reads-at : {A : Type 0} (field : Option FileField → Option FileField) (reader : Reader A) (spell : A → List ℕ) (Fits : A → Type 0) → Reads reader spell Fits → Reads (at_field field reader) spell Fits
Reads-at {A} field reader spell Fits laws = record {
  sound = λ bounds s t v fits inside e. laws.sound bounds s t v fits inside (refused_at-ok field (reader bounds s) (v, t) e);
  again = λ bounds place rest v fits free inside. ap (λ (r : Result (A × Source) Fault). refused_at field r) (laws.again bounds place rest v fits free inside);
}

pub Reads-called : {A : Type 0} (name : FieldName) (reader : Reader A) (spell : A → List ℕ) (Fits : A → Type 0) → Reads reader spell Fits → Reads (called name reader) spell Fits
Reads-called name reader spell Fits laws = Reads-at (with_name name) reader spell Fits laws

-- ---- the same reader, whose faults tell where it begins
pub begun_at-ok : {A : Type 0} (place : ℕ) (r : Result A Fault) (x : A) → begun_at place r ≡ Ok x → r ≡ Ok x
begun_at-ok place (Ok y) x e = e
begun_at-ok place (Err d) x e = absurd cc

pub begun_at-err : {A : Type 0} (place : ℕ) (r : Result A Fault) (f : Fault) → begun_at place r ≡ Err f → (d : Fault) × (r ≡ Err d) × (record d { begin = place } ≡ f)
begun_at-err place (Ok y) f e = absurd cc
begun_at-err {A} place (Err d) f e = (d, refl, err_is A (record d { begin = place }) f e)

pub Reads-one_part : {A : Type 0} (reader : Reader A) (spell : A → List ℕ) (Fits : A → Type 0) → Reads reader spell Fits → Reads (one_part reader) spell Fits
Reads-one_part {A} reader spell Fits laws = record {
  sound = λ bounds s t v fits inside e. laws.sound bounds s t v fits inside (begun_at-ok s.place (reader bounds s) (v, t) e);
  again = λ bounds place rest v fits free inside. ap (λ (r : Result (A × Source) Fault). begun_at place r) (laws.again bounds place rest v fits free inside);
}

pub Reads-in_part : {A : Type 0} (part : FilePart) (reader : Reader A) (spell : A → List ℕ) (Fits : A → Type 0) → Reads reader spell Fits → Reads (in_part part reader) spell Fits
Reads-in_part part reader spell Fits laws = Reads-one_part (at_field (with_part part) reader) spell Fits (Reads-at (with_part part) reader spell Fits laws)

-- ---- n items
module _ {A : Type 0} (spell : A → List ℕ) (Fits : A → Type 0) where
  abbrev Items : (ℕ → Reader A) → Type 0
  Items item_at = (index : ℕ) → Reads (item_at index) spell Fits

  abbrev later : (ℕ → Reader A) → ℕ → Reader A
  later item_at = λ index. item_at (suc index)

  pub times-sound : (item_at : ℕ → Reader A) → Items item_at → (n : ℕ) (bounds : Bounds) (s t : Source) (vs : List A) → AreOctets s.octets → Inside bounds s.place → times n item_at bounds s ≡ Ok (vs, t) → Took bounds (flat_map spell vs) s t × (length vs ≡ n) × AllByRecursion Fits vs
  times-sound item_at laws zero bounds s t vs fits inside e =
      subst (λ (p : List A × Source). Took bounds (flat_map spell p.0) s p.1 × (length p.0 ≡ 0) × AllByRecursion Fits p.0) (ok_is ([], s) (vs, t) e) (Took-none bounds s fits inside, refl, tt)
  times-sound item_at laws (suc n) bounds s t vs fits inside e =
      let a = and_then-ok (item_at 0 bounds s) (λ p. and_then (times n (later item_at) bounds p.1) (λ q. Ok (p.0 ∷ q.0, q.1))) (vs, t) e in
      let b = and_then-ok (times n (later item_at) bounds a.0.1) (λ q. Ok (a.0.0 ∷ q.0, q.1)) (vs, t) a.2 in
      let first = (laws 0).sound bounds s a.0.1 a.0.0 fits inside a.1 in
      let others = times-sound (later item_at) (λ index. laws (suc index)) n bounds a.0.1 b.0.1 b.0.0 first.0.fits first.0.inside b.1 in
      let both = Took-then bounds (spell a.0.0) (flat_map spell b.0.0) s a.0.1 b.0.1 first.0 others.0 in
      subst (λ (p : List A × Source). Took bounds (flat_map spell p.0) s p.1 × (length p.0 ≡ suc n) × AllByRecursion Fits p.0) (ok_is (a.0.0 ∷ b.0.0, b.0.1) (vs, t) b.2) (rw flat_map-cons both, ap suc others.1, (first.1, others.2))

  pub times-again : (item_at : ℕ → Reader A) → Items item_at → (vs : List A) (bounds : Bounds) (place : ℕ) (rest : List ℕ) → AllByRecursion Fits vs → bounds.limit ≡ None → Inside bounds (place + length (flat_map spell vs)) → times (length vs) item_at bounds (at place (flat_map spell vs ++ rest)) ≡ Ok (vs, at (place + length (flat_map spell vs)) rest)
  times-again item_at laws [] bounds place rest fits free inside = ap (λ (k : ℕ). done ([], at k rest)) (omega arith)
  times-again item_at laws (v ∷ vs) bounds place rest fits free inside =
      let len : length (flat_map spell (v ∷ vs)) ≡ length (spell v) + length (flat_map spell vs) = ap length (flat_map-cons spell v vs) ∙ length-append (spell v) (flat_map spell vs) in
      let before : Inside bounds (place + length (spell v)) = Inside-before bounds _ (place + length (flat_map spell (v ∷ vs))) (omega (arith, len)) inside in
      let places : (place + length (spell v)) + length (flat_map spell vs) ≡ place + length (flat_map spell (v ∷ vs)) = omega (arith, len) in
      let first = (laws 0).again bounds place (flat_map spell vs ++ rest) v fits.0 free before in
      let second = times-again (later item_at) (λ index. laws (suc index)) vs bounds (place + length (spell v)) rest fits.1 free (subst (Inside bounds) (sym places) inside) in
      let regrouped : flat_map spell (v ∷ vs) ++ rest ≡ spell v ++ (flat_map spell vs ++ rest) = ap (λ (x : List ℕ). x ++ rest) (flat_map-cons spell v vs) ∙ append_assoc (spell v) (flat_map spell vs) rest in
      ap (λ (x : List ℕ). times (suc (length vs)) item_at bounds (at place x)) regrouped
      ∙ ap (λ (r : Result (A × Source) Fault). and_then r (λ p. and_then (times (length vs) (later item_at) bounds p.1) (λ q. done (p.0 ∷ q.0, q.1)))) first
      ∙ ap (λ (r : Result (List A × Source) Fault). and_then r (λ q. done (v ∷ q.0, q.1))) second
      ∙ ap (λ (k : ℕ). done (v ∷ vs, at k rest)) places

-- ---- fields in order
pub data Fields : Type 1 where
  End : Fields
  Field : (A : Type 0) (reader : Reader A) (spell : A → List ℕ) (Fits : A → Type 0) → Reads reader spell Fits → Fields → Fields

abbrev pub Values : Fields → Type 0
Values End = Unit {0}
Values (Field A reader spell Fits laws fields) = A × Values fields

abbrev pub spell_fields : (fields : Fields) → Values fields → List ℕ
spell_fields End values = []
spell_fields (Field A reader spell Fits laws fields) values = spell values.0 ++ spell_fields fields values.1

abbrev pub AllFit : (fields : Fields) → Values fields → Type 0
AllFit End values = Unit {0}
AllFit (Field A reader spell Fits laws fields) values = Fits values.0 × AllFit fields values.1

-- fields, and then a reader that depends on their values
abbrev pub read_fields : (fields : Fields) {X : Type 0} → (Values fields → Reader X) → Reader X
read_fields End next = next tt
read_fields (Field A reader spell Fits laws fields) next = reader >>= λ value. read_fields fields (λ values. next (value, values))

pub fields-sound : (fields : Fields) (X : Type 0) (next : Values fields → Reader X) (bounds : Bounds) (s t : Source) (x : X) → AreOctets s.octets → Inside bounds s.place → read_fields fields next bounds s ≡ Ok (x, t)
    → (values : Values fields) × (u : Source) × Took bounds (spell_fields fields values) s u × AllFit fields values × (next values bounds u ≡ Ok (x, t))
fields-sound End X next bounds s t x fits inside e = (tt, s, Took-none bounds s fits inside, tt, e)
fields-sound (Field A reader spell Fits laws fields) X next bounds s t x fits inside e =
    let a = and_then-ok (reader bounds s) (λ p. read_fields fields (λ values. next (p.0, values)) bounds p.1) (x, t) e in
    let first = laws.sound bounds s a.0.1 a.0.0 fits inside a.1 in
    let b = fields-sound fields X (λ values. next (a.0.0, values)) bounds a.0.1 t x first.0.fits first.0.inside a.2 in
    ((a.0.0, b.0), b.1, Took-then bounds (spell a.0.0) (spell_fields fields b.0) s a.0.1 b.1 first.0 b.2, (first.1, b.3), b.4)

pub fields-again : (fields : Fields) (X : Type 0) (next : Values fields → Reader X) (bounds : Bounds) (place : ℕ) (rest : List ℕ) (values : Values fields) → AllFit fields values → bounds.limit ≡ None → Inside bounds (place + length (spell_fields fields values))
    → read_fields fields next bounds (at place (spell_fields fields values ++ rest)) ≡ next values bounds (at (place + length (spell_fields fields values)) rest)
fields-again End X next bounds place rest values fits free inside = ap (λ (k : ℕ). next tt bounds (at k rest)) (omega arith)
fields-again (Field A reader spell Fits laws fields) X next bounds place rest values fits free inside =
    let prefix = spell values.0 in
    let suffix = spell_fields fields values.1 in
    let len : length (prefix ++ suffix) ≡ length prefix + length suffix = length-append prefix suffix in
    let places : (place + length prefix) + length suffix ≡ place + length (prefix ++ suffix) = omega (arith, len) in
    let before : Inside bounds (place + length prefix) = Inside-before bounds _ (place + length (prefix ++ suffix)) (omega (arith, len)) inside in
    let first = laws.again bounds place (suffix ++ rest) values.0 fits.0 free before in
    let second = fields-again fields X (λ others. next (values.0, others)) bounds (place + length prefix) rest values.1 fits.1 free (subst (Inside bounds) (sym places) inside) in
    ap (λ (w : List ℕ). read_fields (Field A reader spell Fits laws fields) next bounds (at place w)) (append_assoc prefix suffix rest)
    ∙ ap (λ (r : Result (A × Source) Fault). and_then r (λ p. read_fields fields (λ others. next (p.0, others)) bounds p.1)) first
    ∙ second
    ∙ ap (λ (k : ℕ). next values bounds (at k rest)) places

-- a record: its fields, and making it of them
module _ (fields : Fields) (X : Type 0) (make : Values fields → X) (parts : X → Values fields) (make_parts : (x : X) → make (parts x) ≡ x) (parts_make : (values : Values fields) → parts (make values) ≡ values) where
  pub Reads-fields : Reads (read_fields fields (λ values. succeed (make values))) (λ x. spell_fields fields (parts x)) (λ x. AllFit fields (parts x))
  Reads-fields = record {
    sound = λ bounds s t x fits inside e.
        let a = fields-sound fields X (λ values. succeed (make values)) bounds s t x fits inside e in
        let same : Took bounds (spell_fields fields (parts (make a.0))) s a.1 × AllFit fields (parts (make a.0)) = subst (λ (values : Values fields). Took bounds (spell_fields fields values) s a.1 × AllFit fields values) (sym (parts_make a.0)) (a.2, a.3) in
        subst (λ (p : X × Source). Took bounds (spell_fields fields (parts p.0)) s p.1 × AllFit fields (parts p.0)) (ok_is (make a.0, a.1) (x, t) a.4) same;
    again = λ bounds place rest x fits free inside.
        fields-again fields X (λ values. succeed (make values)) bounds place rest (parts x) fits free inside
        ∙ ap (λ (y : X). done (y, at (place + length (spell_fields fields (parts x))) rest)) (make_parts x);
  }

-- ---- a realm and components, after the number of components
module _ (w : Width) (wide : IsWide w) where
  abbrev count_and_realm : Fields
  count_and_realm =
      Field ℕ (called words.ComponentCount (number_at w)) (to_be_bytes w) (λ n. n < bound_of w) (Reads-called words.ComponentCount (number_at w) _ _ (Reads-number w wide))
      (Field (List ℕ) (called words.Realm (counted_at w)) (counted w) (IsCounted w) (Reads-called words.Realm (counted_at w) _ _ (Reads-counted w wide)) End)

  Reads-component : (index : ℕ) → Reads (component_at w index) (counted w) (IsCounted w)
  Reads-component index = Reads-called (words.Component index) (counted_at w) (counted w) (IsCounted w) (Reads-counted w wide)

  abbrev components_from : Values count_and_realm → Reader Names
  components_from values = times values.0 (component_at w) >>= λ components. succeed (record { realm = values.1.0; components = components })

  count_spelled : (count n : ℕ) (realm : List ℕ) → n ≡ count → to_be_bytes w count ++ (counted w realm ++ []) ≡ to_be_bytes w n ++ counted w realm
  count_spelled count n realm e = ap₂ (λ (k : ℕ) (x : List ℕ). to_be_bytes w k ++ x) (sym e) (append-nil (counted w realm))

  names-sound : (bounds : Bounds) (s t : Source) (n : Names) → AreOctets s.octets → Inside bounds s.place → names_at w bounds s ≡ Ok (n, t) → Took bounds (names w n) s t × AreNames w n
  names-sound bounds s t n fits inside e =
      let a = fields-sound count_and_realm Names components_from bounds s t n fits inside e in
      let made = λ (components : List (List ℕ)). let it : Names = record { realm = a.0.1.0; components = components } in it in
      let b = and_then-ok (times a.0.0 (component_at w) bounds a.1) (λ q. Ok (made q.0, q.1)) (n, t) a.4 in
      let c = times-sound (counted w) (IsCounted w) (component_at w) Reads-component a.0.0 bounds a.1 b.0.1 b.0.0 a.2.fits a.2.inside b.1 in
      let prefix : Took bounds (to_be_bytes w (length b.0.0) ++ counted w a.0.1.0) s a.1 = subst (λ (x : List ℕ). Took bounds x s a.1) (count_spelled a.0.0 (length b.0.0) a.0.1.0 c.1) a.2 in
      let whole = Took-then bounds (to_be_bytes w (length b.0.0) ++ counted w a.0.1.0) (flat_map (counted w) b.0.0) s a.1 b.0.1 prefix c.0 in
      subst (λ (p : Names × Source). Took bounds (names w p.0) s p.1 × AreNames w p.0) (ok_is (made b.0.0, b.0.1) (n, t) b.2) (whole, record { few = subst (λ (k : ℕ). k < bound_of w) (sym c.1) a.3.0; realm = a.3.1.0; components = c.2 })

  names-again : (bounds : Bounds) (place : ℕ) (rest : List ℕ) (n : Names) → AreNames w n → bounds.limit ≡ None → Inside bounds (place + length (names w n)) → names_at w bounds (at place (names w n ++ rest)) ≡ Ok (n, at (place + length (names w n)) rest)
  names-again bounds place rest n fits free inside =
      let prefix = to_be_bytes w (length n.components) ++ counted w n.realm in
      let suffix = flat_map (counted w) n.components in
      let values : Values count_and_realm = (length n.components, (n.realm, tt)) in
      let spelled : spell_fields count_and_realm values ≡ prefix = count_spelled (length n.components) (length n.components) n.realm refl in
      let len : length (prefix ++ suffix) ≡ length prefix + length suffix = length-append prefix suffix in
      let places : (place + length prefix) + length suffix ≡ place + length (prefix ++ suffix) = omega (arith, len) in
      let before : Inside bounds (place + length prefix) = Inside-before bounds _ (place + length (prefix ++ suffix)) (omega (arith, len)) inside in
      let first : names_at w bounds (at place (prefix ++ (suffix ++ rest))) ≡ components_from values bounds (at (place + length prefix) (suffix ++ rest)) =
      subst (λ (x : List ℕ). Inside bounds (place + length x) → names_at w bounds (at place (x ++ (suffix ++ rest))) ≡ components_from values bounds (at (place + length x) (suffix ++ rest))) spelled (fields-again count_and_realm Names components_from bounds place (suffix ++ rest) values (fits.few, (fits.realm, tt)) free) before in
      let second = times-again (counted w) (IsCounted w) (component_at w) Reads-component n.components bounds (place + length prefix) rest fits.components free (subst (Inside bounds) (sym places) inside) in
      ap (λ (x : List ℕ). names_at w bounds (at place x)) (append_assoc prefix suffix rest)
      ∙ first
      ∙ ap (λ (r : Result (List (List ℕ) × Source) Fault). and_then r (λ q. let made : Names = record { realm = n.realm; components = q.0 } in done (made, q.1))) second
      ∙ ap (λ (k : ℕ). done (n, at k rest)) places

  pub Reads-names : Reads (names_at w) (names w) (AreNames w)
  Reads-names = record { sound = names-sound; again = names-again }

-- ---- an octet that is one of some octets
pub when-ok_else : {A : Type 0} (test : Bool) (d : Fault) (x y : A) → when test (λ _. done x) (λ _. failed A d) ≡ done y → (test ≡ true) × (x ≡ y)
when-ok_else true d x y e = (refl, ok_is x y e)
when-ok_else false d x y e = absurd cc

pub expect-sound : (wanted : List ℕ) (reason : FileWhy) (bounds : Bounds) (s t : Source) (v : ℕ) → AreOctets s.octets → Inside bounds s.place → expect wanted reason bounds s ≡ Ok (v, t) → Took bounds (to_be_bytes w8 v) s t × (is_one_of v wanted ≡ true)
expect-sound wanted reason bounds s t v fits inside e =
    let a = and_then-ok (number_at w8 bounds s) (λ p. when (is_one_of p.0 wanted) (λ _. done p) (λ _. refused s reason)) (v, t) e in
    let b = when-ok_else (is_one_of a.0.0 wanted) _ a.0 (v, t) a.2 in
    let n = number-sound w8 wide8 bounds s a.0.1 a.0.0 fits inside a.1 in
    subst (λ (p : ℕ × Source). Took bounds (to_be_bytes w8 p.0) s p.1 × (is_one_of p.0 wanted ≡ true)) b.1 (n.0, b.0)

pub expect-again : (wanted : List ℕ) (reason : FileWhy) (bounds : Bounds) (place : ℕ) (rest : List ℕ) (v : ℕ) → v < 256 → is_one_of v wanted ≡ true → Inside bounds (place + length (to_be_bytes w8 v)) → expect wanted reason bounds (at place (to_be_bytes w8 v ++ rest)) ≡ Ok (v, at (place + length (to_be_bytes w8 v)) rest)
expect-again wanted reason bounds place rest v lt is_wanted inside =
    ap (λ (r : Result (ℕ × Source) Fault). and_then r (λ p. when (is_one_of p.0 wanted) (λ _. done p) (λ _. refused (at place (to_be_bytes w8 v ++ rest)) reason))) (number-again w8 wide8 bounds place rest v lt inside)
    ∙ ap (λ (b : Bool). when b (λ _. done (pair v)) (λ _. refused (at place (to_be_bytes w8 v ++ rest)) reason)) is_wanted
  where
    pair : ℕ → ℕ × Source
    pair n = (n, at (place + length (to_be_bytes w8 v)) rest)

is_one_of-one : (v w : ℕ) → is_one_of v (w ∷ []) ≡ true → v ≡ w
is_one_of-one v w e = grind (arith, nat_tests)

-- the first two octets
pub version-sound : (versions : List ℕ) (bounds : Bounds) (s t : Source) (v : ℕ) → AreOctets s.octets → Inside bounds s.place → version_at versions bounds s ≡ Ok (v, t) → Took bounds (5 ∷ to_be_bytes w8 v) s t × (is_one_of v versions ≡ true)
version-sound versions bounds s t v fits inside e =
    let a = and_then-ok (called words.Magic (expect (5 ∷ []) why.Magic) bounds s) (λ p. called words.Version (expect versions why.Version) bounds p.1) (v, t) e in
    let five = expect-sound (5 ∷ []) why.Magic bounds s a.0.1 a.0.0 fits inside (refused_at-ok (with_name words.Magic) (expect (5 ∷ []) why.Magic bounds s) a.0 a.1) in
    let first : Took bounds (5 ∷ []) s a.0.1 = subst (λ (n : ℕ). Took bounds (to_be_bytes w8 n) s a.0.1) (is_one_of-one a.0.0 5 five.1) five.0 in
    let second = expect-sound versions why.Version bounds a.0.1 t v first.fits first.inside (refused_at-ok (with_name words.Version) (expect versions why.Version bounds a.0.1) (v, t) a.2) in
    (Took-then bounds (5 ∷ []) (to_be_bytes w8 v) s a.0.1 t first second.0, second.1)

pub version-one : (version : ℕ) (bounds : Bounds) (s t : Source) (v : ℕ) → AreOctets s.octets → Inside bounds s.place → version_at (version ∷ []) bounds s ≡ Ok (v, t) → Took bounds (5 ∷ to_be_bytes w8 version) s t × (v ≡ version)
version-one version bounds s t v fits inside e =
    let a = version-sound (version ∷ []) bounds s t v fits inside e in
    let same = is_one_of-one v version a.1 in
    (subst (λ (n : ℕ). Took bounds (5 ∷ to_be_bytes w8 n) s t) same a.0, same)

pub version-again : (versions : List ℕ) (bounds : Bounds) (rest : List ℕ) (v : ℕ) → v < 256 → is_one_of v versions ≡ true → bounds.end ≡ None → version_at versions bounds (at 0 (5 ∷ to_be_bytes w8 v ++ rest)) ≡ Ok (v, at 2 rest)
version-again versions bounds rest v lt is_wanted free =
    let inside = λ (n : ℕ). let it : Inside bounds n = record { inside = rw free } in it in
    ap (λ (r : Result (ℕ × Source) Fault). and_then (refused_at (with_name words.Magic) r) (λ p. called words.Version (expect versions why.Version) bounds p.1)) (expect-again (5 ∷ []) why.Magic bounds 0 (to_be_bytes w8 v ++ rest) 5 (omega arith) refl (inside 1))
    ∙ ap (λ (r : Result (ℕ × Source) Fault). refused_at (with_name words.Version) r) (expect-again versions why.Version bounds 1 rest v lt is_wanted (inside 2))

-- ---- fields, and then a part that keeps their values
module _ (fields : Fields) (X : Type 0) (next : Values fields → Reader X) (prefix_of : X → Values fields) (suffix : X → List ℕ) (BackFits : X → Type 0) (laws : (values : Values fields) → Reads (next values) suffix (λ x. BackFits x × (prefix_of x ≡ values))) where
  pub Reads-then : Reads (read_fields fields next) (λ x. spell_fields fields (prefix_of x) ++ suffix x) (λ x. AllFit fields (prefix_of x) × BackFits x)
  Reads-then = record {
    sound = λ bounds s t x fits inside e.
        let a = fields-sound fields X next bounds s t x fits inside e in
        let b = (laws a.0).sound bounds a.1 t x a.2.fits a.2.inside a.4 in
        let both = Took-then bounds (spell_fields fields a.0) (suffix x) s a.1 t a.2 b.0 in
        subst (λ (values : Values fields). Took bounds (spell_fields fields values ++ suffix x) s t × (AllFit fields values × BackFits x)) (sym b.1.1) (both, (a.3, b.1.0));
    again = λ bounds place rest x fits free inside.
        let prefix = spell_fields fields (prefix_of x) in
        let len : length (prefix ++ suffix x) ≡ length prefix + length (suffix x) = length-append prefix (suffix x) in
        let places : (place + length prefix) + length (suffix x) ≡ place + length (prefix ++ suffix x) = omega (arith, len) in
        let before : Inside bounds (place + length prefix) = Inside-before bounds _ (place + length (prefix ++ suffix x)) (omega (arith, len)) inside in
        ap (λ (w : List ℕ). read_fields fields next bounds (at place w)) (append_assoc prefix (suffix x) rest)
        ∙ fields-again fields X next bounds place (suffix x ++ rest) (prefix_of x) fits.0 free before
        ∙ (laws (prefix_of x)).again bounds (place + length prefix) rest x (fits.1, refl) free (subst (Inside bounds) (sym places) inside)
        ∙ ap (λ (k : ℕ). done (x, at k rest)) places;
  }

-- ---- items after their count
module _ (w : Width) (wide : IsWide w) (name : FieldName) {A : Type 0} (item_at : ℕ → Reader A) (spell : A → List ℕ) (Fits : A → Type 0) (laws : (index : ℕ) → Reads (item_at index) spell Fits) where
  abbrev count_field : Fields
  count_field = Field ℕ (called name (number_at w)) (to_be_bytes w) (λ n. n < bound_of w) (Reads-called name (number_at w) _ _ (Reads-number w wide)) End

  counted_items : (n : ℕ) → Reads (times n item_at) (flat_map spell) (λ vs. AllByRecursion Fits vs × (length vs ≡ n))
  counted_items n = record {
    sound = λ bounds s t vs fits inside e. let p = times-sound spell Fits item_at laws n bounds s t vs fits inside e in (p.0, (p.2, p.1));
    again = λ bounds place rest vs fits free inside.
        subst (λ (k : ℕ). times k item_at bounds (at place (flat_map spell vs ++ rest)) ≡ Ok (vs, at (place + length (flat_map spell vs)) rest)) fits.1 (times-again spell Fits item_at laws vs bounds place rest fits.0 free inside);
  }

  items_then : (values : Values count_field) → Reads (times values.0 item_at) (flat_map spell) (λ vs. AllByRecursion Fits vs × (◌≡◌ {A = Values count_field} (length vs, tt) values))
  items_then values = Reads-as (times values.0 item_at) (flat_map spell) (flat_map spell) _ _ (counted_items values.0) (λ vs. refl) (λ vs p. (p.0, ap (λ (k : ℕ). let it : Values count_field = (k, tt) in it) p.1)) (λ vs p. (p.0, ap (λ (v : Values count_field). v.0) p.1))

  pub Reads-list : Reads (called name (number_at w) >>= λ count. times count item_at) (λ vs. to_be_bytes w (length vs) ++ flat_map spell vs) (λ vs. (length vs < bound_of w) × AllByRecursion Fits vs)
  Reads-list =
      Reads-as (called name (number_at w) >>= λ count. times count item_at) _ _ _ _
      (Reads-then count_field (List A) (λ values. times values.0 item_at) (λ vs. (length vs, tt)) (flat_map spell) (AllByRecursion Fits) items_then)
      (λ vs. ap (λ (x : List ℕ). x ++ flat_map spell vs) (append-nil (to_be_bytes w (length vs))))
      (λ vs p. (p.0.0, p.1))
      (λ vs p. ((p.0, tt), p.1))

-- fields that are part of a value, whose other parts are known
module _ (fields : Fields) (X : Type 0) (make : Values fields → X) (parts : X → Values fields) (Given : X → Type 0) (given_make : (values : Values fields) → Given (make values)) (parts_make : (values : Values fields) → parts (make values) ≡ values) (make_parts : (x : X) → Given x → make (parts x) ≡ x) where
  pub Reads-given : Reads (read_fields fields (λ values. succeed (make values))) (λ x. spell_fields fields (parts x)) (λ x. AllFit fields (parts x) × Given x)
  Reads-given = record {
    sound = λ bounds s t x fits inside e.
        let a = fields-sound fields X (λ values. succeed (make values)) bounds s t x fits inside e in
        let same : Took bounds (spell_fields fields (parts (make a.0))) s a.1 × (AllFit fields (parts (make a.0)) × Given (make a.0)) = subst (λ (values : Values fields). Took bounds (spell_fields fields values) s a.1 × (AllFit fields values × Given (make a.0))) (sym (parts_make a.0)) (a.2, (a.3, given_make a.0)) in
        subst (λ (p : X × Source). Took bounds (spell_fields fields (parts p.0)) s p.1 × (AllFit fields (parts p.0) × Given p.0)) (ok_is (make a.0, a.1) (x, t) a.4) same;
    again = λ bounds place rest x fits free inside.
        fields-again fields X (λ values. succeed (make values)) bounds place rest (parts x) fits.0 free inside
        ∙ ap (λ (y : X). done (y, at (place + length (spell_fields fields (parts x))) rest)) (make_parts x fits.1);
  }
