-- What a limit of fields changes: nothing, or that a field of more octets is refused as TooLong.
use Rattle.std.proofs.Common.{◌≡◌, ℕ, zero, suc, ◌+◌, ◌-◌, ◌<◌, ◌⊎◌, inl, inr, Bool, true, false, ℤ, Option, Some, None, Result, Ok, Err, List, [], ◌∷◌, drop, refl, sym, ◌∙◌, ap, subst, arith}
use Rattle.std.proofs.lemmas.List.{drop-drop}
use Rattle.std.proofs.lemmas.Bool.Decides.{nat_tests}
use Rattle.std.specs.Int.{Width, w8, byte_len, from_be_bytes, cast_signed}
use Rattle.krb_der.specs.Octets.{when}
use Rattle.krb_file.specs.Fields.{Source, Fault, Bounds, Reader, and_then, ◌>>=◌, succeed, fault_of, refused, refused_at, exceeds, next_octets_at, octets_at, octets_to_end, rest_at, number_at, signed_at, counted_at, times, component_at, names_at, with_name, with_part, called, begun_at, one_part, in_part, is_one_of, expect, version_at}
use Rattle.krb_file.specs.Limits.{number_from, number_before}
use Rattle.krb_source.specs.declared.file_why.FileWhy.{FileWhy}
use Rattle.krb_source.specs.declared.file_why.FileWhy.TheVariants as why
use Rattle.krb_file.specs.declared.field_name.FieldName.{FieldName}
use Rattle.krb_file.specs.declared.field_name.FieldName.TheVariants as words
use Rattle.krb_file.specs.declared.field_name.FilePart.{FilePart}
use Rattle.krb_file.specs.declared.field_name.FileField.{FileField}
use Rattle.krb_file.proofs.Fields.{at_field, done, ok_is, and_then-ok, refused_at-ok, begun_at-ok, piece-ok, when-ok_else}

abbrev pub bounded : Option ℕ → Option ℕ → Bounds
bounded end limit = record { end = end; limit = limit }

-- the octets of a source are those of a file from its place on
pub record IsOf (file : List ℕ) (s : Source) : Type 0 where
  pub octets : s.octets ≡ drop s.place file

-- a field of which `Long` holds is refused as TooLong
pub record IsTooLong {A : Type 0} (Long : ℕ → ℕ → Type 0) (r : Result A Fault) : Type 0 where
  pub fault : Fault
  pub is : r ≡ Err fault
  pub size : ℕ
  pub reason : fault.why ≡ why.TooLong size
  pub long : Long fault.place size

-- the same result, or such a refusal
abbrev pub IsSameOrTooLong : {A : Type 0} → (Long : ℕ → ℕ → Type 0) → (under whole : Result A Fault) → Type 0
IsSameOrTooLong Long under whole = (under ≡ whole) ⊎ IsTooLong Long under

-- Under a limit a reader of a file returns what it returns without one, or refuses a field as TooLong.
pub record Limited {A : Type 0} (file : List ℕ) (most : ℕ) (Long : ℕ → ℕ → Type 0) (end : Option ℕ) (reader : Reader A) : Type 0 where
  pub stays : (s : Source) (v : A) (t : Source) → IsOf file s → reader (bounded end None) s ≡ Ok (v, t) → IsOf file t
  pub same : (s : Source) → IsOf file s → IsSameOrTooLong Long (reader (bounded end (Some most)) s) (reader (bounded end None) s)

-- ---- one reader after another
pub too_long-then : {A B : Type 0} (Long : ℕ → ℕ → Type 0) (r : Result A Fault) (f : A → Result B Fault) → IsTooLong Long r → IsTooLong Long (and_then r f)
too_long-then {A} {B} Long r f l = record { fault = l.fault; is = ap (λ (x : Result A Fault). and_then x f) l.is; size = l.size; reason = l.reason; long = l.long }

pub same-then : {A B : Type 0} (Long : ℕ → ℕ → Type 0) (whole : Result A Fault) (f g : A → Result B Fault) → ((x : A) → whole ≡ Ok x → IsSameOrTooLong Long (f x) (g x)) → IsSameOrTooLong Long (and_then whole f) (and_then whole g)
same-then Long (Ok x) f g h = h x refl
same-then Long (Err d) f g h = inl refl

pub either-then : {A B : Type 0} (Long : ℕ → ℕ → Type 0) (under whole : Result A Fault) (f g : A → Result B Fault) → IsSameOrTooLong Long under whole → ((x : A) → whole ≡ Ok x → IsSameOrTooLong Long (f x) (g x)) → IsSameOrTooLong Long (and_then under f) (and_then whole g)
either-then {A} {B} Long under whole f g (inl e) h = subst (λ (r : Result A Fault). IsSameOrTooLong Long (and_then r f) (and_then whole g)) (sym e) (same-then Long whole f g h)
either-then Long under whole f g (inr l) h = inr (too_long-then Long under f l)

pub Limited-then : {A B : Type 0} (file : List ℕ) (most : ℕ) (Long : ℕ → ℕ → Type 0) (end : Option ℕ) (reader : Reader A) (next : A → Reader B) → Limited file most Long end reader → ((value : A) → Limited file most Long end (next value)) → Limited file most Long end (reader >>= next)
Limited-then {A} {B} file most Long end reader next first others = record {
  stays = λ s v t is e.
      let a = and_then-ok (reader (bounded end None) s) (λ p. next p.0 (bounded end None) p.1) (v, t) e in
      (others a.0.0).stays a.0.1 v t (first.stays s a.0.0 a.0.1 is a.1) a.2;
  same = λ s is.
      either-then Long (reader (bounded end (Some most)) s) (reader (bounded end None) s) (λ p. next p.0 (bounded end (Some most)) p.1) (λ p. next p.0 (bounded end None) p.1) (first.same s is)
      (λ x e. (others x.0).same x.1 (first.stays s x.0 x.1 is e));
}

pub Limited-succeed : {A : Type 0} (file : List ℕ) (most : ℕ) (Long : ℕ → ℕ → Type 0) (end : Option ℕ) (value : A) → Limited file most Long end (succeed value)
Limited-succeed {A} file most Long end value = record {
  stays = λ s v t is e. subst (λ (p : A × Source). IsOf file p.1) (ok_is (value, s) (v, t) e) is;
  same = λ s is. inl refl;
}

-- ---- the same reader, whose faults are of another field
Limited-at : {A : Type 0} (file : List ℕ) (most : ℕ) (Long : ℕ → ℕ → Type 0) (end : Option ℕ) (field : Option FileField → Option FileField) (reader : Reader A) → Limited file most Long end reader → Limited file most Long end (at_field field reader)
Limited-at {A} file most Long end field reader limited = record {
  stays = λ s v t is e. limited.stays s v t is (refused_at-ok field (reader (bounded end None) s) (v, t) e);
  same = λ s is. either (limited.same s is);
}
  where
    either : {r w : Result (A × Source) Fault} → IsSameOrTooLong Long r w → IsSameOrTooLong Long (refused_at field r) (refused_at field w)
    either (inl e) = inl (ap (refused_at field) e)
    either (inr l) = inr (record { fault = record l.fault { field = field l.fault.field }; is = ap (refused_at field) l.is; size = l.size; reason = l.reason; long = l.long })

pub Limited-called : {A : Type 0} (file : List ℕ) (most : ℕ) (Long : ℕ → ℕ → Type 0) (end : Option ℕ) (name : FieldName) (reader : Reader A) → Limited file most Long end reader → Limited file most Long end (called name reader)
Limited-called file most Long end name reader limited = Limited-at file most Long end (with_name name) reader limited

-- the same reader, whose faults tell where it begins
pub begun-same : {A : Type 0} (Long : ℕ → ℕ → Type 0) (place : ℕ) {under whole : Result A Fault} → IsSameOrTooLong Long under whole → IsSameOrTooLong Long (begun_at place under) (begun_at place whole)
begun-same Long place (inl e) = inl (ap (begun_at place) e)
begun-same Long place (inr l) = inr (record { fault = record l.fault { begin = place }; is = ap (begun_at place) l.is; size = l.size; reason = l.reason; long = l.long })

pub Limited-one_part : {A : Type 0} (file : List ℕ) (most : ℕ) (Long : ℕ → ℕ → Type 0) (end : Option ℕ) (reader : Reader A) → Limited file most Long end reader → Limited file most Long end (one_part reader)
Limited-one_part file most Long end reader limited = record {
  stays = λ s v t is e. limited.stays s v t is (begun_at-ok s.place (reader (bounded end None) s) (v, t) e);
  same = λ s is. begun-same Long s.place (limited.same s is);
}

pub Limited-in_part : {A : Type 0} (file : List ℕ) (most : ℕ) (Long : ℕ → ℕ → Type 0) (end : Option ℕ) (part : FilePart) (reader : Reader A) → Limited file most Long end reader → Limited file most Long end (in_part part reader)
Limited-in_part file most Long end part reader limited = Limited-one_part file most Long end (at_field (with_part part) reader) (Limited-at file most Long end (with_part part) reader limited)

-- ---- n octets
piece-stays : (file : List ℕ) (limit : Option ℕ) (size : ℕ) (bounds : Bounds) (s : Source) (v : List ℕ) (t : Source) → IsOf file s → next_octets_at limit size bounds s ≡ Ok (v, t) → IsOf file t
piece-stays file limit size bounds s v t is e =
    let p = piece-ok limit size bounds s t v e in
    rw p.source (record { octets = ap (drop size) is.octets ∙ drop-drop size s.place file ∙ ap (λ (k : ℕ). drop k file) (omega arith) })

pub Limited-piece : (file : List ℕ) (most : ℕ) (Long : ℕ → ℕ → Type 0) (end : Option ℕ) (size : ℕ) → Limited file most Long end (next_octets_at None size)
Limited-piece file most Long end size = record {
  stays = λ s v t is e. piece-stays file None size (bounded end None) s v t is e;
  same = λ s is. inl refl;
}

-- a field of octets at a place, at which `Long` holds if they are more than the limit
octets-same : (most : ℕ) (Long : ℕ → ℕ → Type 0) (end : Option ℕ) (size : ℕ) (s : Source) → (most < size → Long s.place size) → IsSameOrTooLong Long (octets_at size (bounded end (Some most)) s) (octets_at size (bounded end None) s)
octets-same most Long end size s long = either (exceeds (s.place + size) end) (exceeds size (Some most)) refl
  where
    last : Unit {0} → Result (List ℕ × Source) Fault
    last u = next_octets_at None size (bounded None None) s

    either : (overrun over : Bool) → over ≡ exceeds size (Some most)
        → IsSameOrTooLong Long (when overrun (λ _. refused s why.Overrun) (λ _. when over (λ _. refused s (why.TooLong size)) last)) (when overrun (λ _. refused s why.Overrun) last)
    either true over e = inl refl
    either false false e = inl refl
    either false true e = inr (record { fault = fault_of s.place (why.TooLong size); is = refl; size = size; reason = refl; long = long (grind (arith, nat_tests)) })

-- ---- readers made of these
pub Limited-number : (file : List ℕ) (most : ℕ) (Long : ℕ → ℕ → Type 0) (end : Option ℕ) (w : Width) → Limited file most Long end (number_at w)
Limited-number file most Long end w = Limited-then file most Long end (next_octets_at None (byte_len w)) _ (Limited-piece file most Long end (byte_len w)) (λ octets. Limited-succeed file most Long end (from_be_bytes w octets))

pub Limited-signed : (file : List ℕ) (most : ℕ) (Long : ℕ → ℕ → Type 0) (end : Option ℕ) (w : Width) → Limited file most Long end (signed_at w)
Limited-signed file most Long end w = Limited-then file most Long end (number_at w) _ (Limited-number file most Long end w) (λ n. Limited-succeed file most Long end (cast_signed w n))

-- a number is that of its octets, and what follows begins after them
pub record IsNumber (file : List ℕ) (w : Width) (s t : Source) (n : ℕ) : Type 0 where
  pub value : n ≡ number_from w file s.place
  pub place : t.place ≡ s.place + byte_len w

pub number-is : (file : List ℕ) (w : Width) (bounds : Bounds) (s t : Source) (n : ℕ) → IsOf file s → number_at w bounds s ≡ Ok (n, t) → IsNumber file w s t n
number-is file w bounds s t n is e =
    let a = and_then-ok (next_octets_at None (byte_len w) bounds s) (λ p. Ok (from_be_bytes w p.0, p.1)) (n, t) e in
    let p = piece-ok None (byte_len w) bounds s a.0.1 a.0.0 a.1 in
    let here : IsNumber file w s a.0.1 (from_be_bytes w a.0.0) = rw (p.source, p.octets, is.octets) (record { value = refl; place = refl }) in
    subst (λ (p : ℕ × Source). IsNumber file w s p.1 p.0) (ok_is (from_be_bytes w a.0.0, a.0.1) (n, t) a.2) here

pub signed-is : (file : List ℕ) (w : Width) (bounds : Bounds) (s t : Source) (z : ℤ) → IsOf file s → signed_at w bounds s ≡ Ok (z, t) → (z ≡ cast_signed w (number_from w file s.place)) × (t.place ≡ s.place + byte_len w)
signed-is file w bounds s t z is e =
    let a = and_then-ok (number_at w bounds s) (λ p. Ok (cast_signed w p.0, p.1)) (z, t) e in
    let n = number-is file w bounds s a.0.1 a.0.0 is a.1 in
    subst (λ (p : ℤ × Source). (p.0 ≡ cast_signed w (number_from w file s.place)) × (p.1.place ≡ s.place + byte_len w)) (ok_is (cast_signed w a.0.0, a.0.1) (z, t) a.2) (ap (cast_signed w) n.value, n.place)

-- a field of octets after their number
pub Limited-counted : (file : List ℕ) (most : ℕ) (Long : ℕ → ℕ → Type 0) (end : Option ℕ) (w : Width) → ((place : ℕ) → most < number_before w file place → Long place (number_before w file place)) → Limited file most Long end (counted_at w)
Limited-counted file most Long end w long = record {
  stays = λ s v t is e.
      let a = and_then-ok (number_at w (bounded end None) s) (λ p. octets_at p.0 (bounded end None) p.1) (v, t) e in
      piece-stays file None a.0.0 (bounded end None) a.0.1 v t ((Limited-number file most Long end w).stays s a.0.0 a.0.1 is a.1) a.2;
  same = λ s is.
      same-then Long (number_at w (bounded end None) s) (λ p. octets_at p.0 (bounded end (Some most)) p.1) (λ p. octets_at p.0 (bounded end None) p.1)
      (λ x e.
      let n = number-is file w (bounded end None) s x.1 x.0 is e in
      let here : x.1.place - byte_len w ≡ s.place = omega (arith, n.place) in
      let before : number_before w file x.1.place ≡ x.0 = ap (number_from w file) here ∙ sym n.value in
      octets-same most Long end x.0 x.1 (λ lt. subst (Long x.1.place) before (long x.1.place (omega (arith, lt, before)))));
}

-- the octets up to an end
pub Limited-rest : (file : List ℕ) (most : ℕ) (Long : ℕ → ℕ → Type 0) (end : ℕ) → ((place : ℕ) → place + most < end → Long place (end - place)) → Limited file most Long (Some end) rest_at
Limited-rest file most Long end long = record {
  stays = λ s v t is e. piece-stays file None (octets_to_end (Some end) s.place) (bounded (Some end) None) s v t is e;
  same = λ s is. octets-same most Long (Some end) (octets_to_end (Some end) s.place) s (λ lt. long s.place (omega (arith, lt)));
}

pub Limited-times : {A : Type 0} (file : List ℕ) (most : ℕ) (Long : ℕ → ℕ → Type 0) (end : Option ℕ) (item_at : ℕ → Reader A) → ((index : ℕ) → Limited file most Long end (item_at index)) → (n : ℕ) → Limited file most Long end (times n item_at)
Limited-times file most Long end item_at each zero = Limited-succeed file most Long end []
Limited-times file most Long end item_at each (suc n) =
    Limited-then file most Long end (item_at 0) _ (each 0) (λ first.
    Limited-then file most Long end (times n (λ index. item_at (suc index))) _ (Limited-times file most Long end (λ index. item_at (suc index)) (λ index. each (suc index)) n) (λ others. Limited-succeed file most Long end (first ∷ others)))

pub Limited-names : (file : List ℕ) (most : ℕ) (Long : ℕ → ℕ → Type 0) (end : Option ℕ) (w : Width) → ((place : ℕ) → most < number_before w file place → Long place (number_before w file place)) → Limited file most Long end (names_at w)
Limited-names file most Long end w long =
    let counted = Limited-counted file most Long end w long in
    Limited-then file most Long end (called words.ComponentCount (number_at w)) _ (Limited-called file most Long end words.ComponentCount (number_at w) (Limited-number file most Long end w)) (λ count.
    Limited-then file most Long end (called words.Realm (counted_at w)) _ (Limited-called file most Long end words.Realm (counted_at w) counted) (λ realm.
    Limited-then file most Long end (times count (component_at w)) _ (Limited-times file most Long end (component_at w) (λ index. Limited-called file most Long end (words.Component index) (counted_at w) counted) count) (λ components. Limited-succeed file most Long end (record { realm = realm; components = components }))))

expect-stays : (file : List ℕ) (most : ℕ) (Long : ℕ → ℕ → Type 0) (end : Option ℕ) (wanted : List ℕ) (reason : FileWhy) (s : Source) (v : ℕ) (t : Source) → IsOf file s → expect wanted reason (bounded end None) s ≡ Ok (v, t) → IsOf file t
expect-stays file most Long end wanted reason s v t is e =
    let a = and_then-ok (number_at w8 (bounded end None) s) (λ p. when (is_one_of p.0 wanted) (λ _. done p) (λ _. refused s reason)) (v, t) e in
    let b = when-ok_else (is_one_of a.0.0 wanted) _ a.0 (v, t) a.2 in
    subst (λ (p : ℕ × Source). IsOf file p.1) b.1 ((Limited-number file most Long end w8).stays s a.0.0 a.0.1 is a.1)

pub Limited-expect : (file : List ℕ) (most : ℕ) (Long : ℕ → ℕ → Type 0) (end : Option ℕ) (wanted : List ℕ) (reason : FileWhy) → Limited file most Long end (expect wanted reason)
Limited-expect file most Long end wanted reason = record {
  stays = expect-stays file most Long end wanted reason;
  same = λ s is. inl refl;
}

pub Limited-version : (file : List ℕ) (most : ℕ) (Long : ℕ → ℕ → Type 0) (end : Option ℕ) (versions : List ℕ) → Limited file most Long end (version_at versions)
Limited-version file most Long end versions =
    Limited-then file most Long end (called words.Magic (expect (5 ∷ []) why.Magic)) _ (Limited-called file most Long end words.Magic (expect (5 ∷ []) why.Magic) (Limited-expect file most Long end (5 ∷ []) why.Magic))
    (λ _. Limited-called file most Long end words.Version (expect versions why.Version) (Limited-expect file most Long end versions why.Version))
