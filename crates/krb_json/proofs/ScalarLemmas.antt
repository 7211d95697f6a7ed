-- What scalars are read from JSON by.
use Rattle.std.proofs.Common.{◌≡◌, ℕ, ℤ, pos, negsuc, zero, suc, ◌+◌, ◌-◌, ◌*◌, ◌/◌, ◌%◌, ◌^◌, ◌<◌, ◌≤◌, List, [], ◌∷◌, ◌++◌, length, take, drop, inl, inr, refl, sym, ◌∙◌, ap, ap₂, arith, append-nil, append_assoc, subst, true, false, Bool, Some, None, Option, FitsSigned}
use Rattle.std.proofs.Math.Nat.{div-div-eq-div-mul}
use Rattle.std.proofs.lemmas.Bool.{cases_lt, true≢false}
use Rattle.std.proofs.lemmas.Grind.{pow_more}
use Rattle.std.proofs.lemmas.List.{drop-map, drop-append-le, map-append}
use Rattle.std.proofs.lemmas.Int.{to_z-of_z}
use Rattle.std.proofs.Math.Seq.{drop-append_seam, take-length}
use Rattle.std.specs.Prelude.{codes, string_bytes, IsSome, IfSome, if◌then◌else◌, Result, Ok, Err, is_ok, OnOk, MatchResult}
use Rattle.std.specs.Result.{result_ok}
use Rattle.std.specs.Array.{IsWholeChunk}
use Rattle.std.specs.declared.alloc.AllocError.{AllocError}
use Rattle.std.specs.Int.{bytes_high_first, byte_at, to_be_bytes, cast_unsigned, w64}
use mir.Val.{to_z, of_z}
use Rattle.krb_der.specs.Octets.{spelled, complement, item, integer_octets}
use Rattle.krb_der.specs.Sizes.{magnitude}
use Rattle.krb_der.specs.inner.Numbers.{spelled-small, spelled-step, length-spelled-step, length-spelled-le}
use Rattle.krb_json.specs.declared.value_fault.ValueFault.{ValueFault}
use Rattle.krb_json.specs.declared.value_fault.ValueFault.TheVariants.{At, Memory}
use Rattle.krb_json.specs.declared.wrong.Wrong.{Wrong}
use Rattle.krb_json.specs.Faults.{Fault, fault, ◌>>=◌}
use Rattle.krb_json.specs.inner.Reading.{IsFaultAt, IsUnder}
use Rattle.krb_json.specs.Spelled.{or_fault, integer_spelled}
use Rattle.krb_json.specs.Spelling.{is_time_from}
use Rattle.krb_json.specs.inner.Scalars.{Gives, IsTimeOf, member_spelled}
use Rattle.krb_judge.specs.Paths.{field_path}
use Rattle.json.specs.Json.{Json}
use Rattle.json.specs.Find.{get}
use Rattle.krb_der.specs.Scalars.{IsTimeFrom}
use Rattle.krb_json.specs.declared.wrong.Wrong.TheVariants.{Missing}
use Rattle.krb_json.proofs.Leaves.{is-time}
use Rattle.krb_json.proofs.Fit.{time-shape}
use Rattle.krb_der.proofs.Sizes.{length-item, item_length-short, length-integer_octets}

-- ---- numbers: their fewest octets are the last of eight
byte-higher : (k n : ℕ) → byte_at (suc k) n ≡ byte_at k (n / 256)
byte-higher zero n = refl
byte-higher (suc k) n =
    let power : 256 ^ suc (suc k) ≡ 256 * 256 ^ suc k = omega (arith, pow_more 256 (suc k)) in
    ap (λ d. n / d % 256) power ∙ ap (λ q. q % 256) (sym (div-div-eq-div-mul n 256 (256 ^ suc k)))

bytes-last : (k n : ℕ) → bytes_high_first (suc k) n ≡ bytes_high_first k (n / 256) ++ n % 256 ∷ []
bytes-last zero n = refl
bytes-last (suc k) n = ap (λ byte. byte ∷ bytes_high_first (suc k) n) (byte-higher k n) ∙ ap (λ bytes. byte_at k (n / 256) ∷ bytes) (bytes-last k n)

length-bytes : (k n : ℕ) → length (bytes_high_first k n) ≡ k
length-bytes zero n = refl
length-bytes (suc k) n = ap suc (length-bytes k n)

drop-last : (k : ℕ) (xs : List ℕ) (last : ℕ) → length xs ≡ k → drop k (xs ++ last ∷ []) ≡ last ∷ []
drop-last k xs last size = ap (λ n. drop n (xs ++ last ∷ [])) (sym size) ∙ drop-append_seam xs (last ∷ [])

-- a number below 128 is its last octet
one-octet : (k n : ℕ) → n < 128 → drop (suc k - length (spelled 128 n)) (bytes_high_first (suc k) n) ≡ spelled 128 n
one-octet k n small =
    let alone : spelled 128 n ≡ n ∷ [] = spelled-small 128 n small in
    let size : suc k - length (spelled 128 n) ≡ k = omega (arith, ap length alone) in
    let last : n % 256 ≡ n = omega (arith, small) in
    ap (λ i. drop i (bytes_high_first (suc k) n)) size
    ∙ ap (drop k) (bytes-last k n)
    ∙ drop-last k (bytes_high_first k (n / 256)) (n % 256) (length-bytes k (n / 256))
    ∙ ap (λ octet. octet ∷ []) last
    ∙ sym alone

more-octets : (k n : ℕ) → 128 ≤ n → drop (suc k - length (spelled 128 (n / 256))) (bytes_high_first (suc k) (n / 256)) ≡ spelled 128 (n / 256) → drop (suc (suc k) - length (spelled 128 n)) (bytes_high_first (suc (suc k)) n) ≡ spelled 128 n
more-octets k n above rest =
    let size : suc (suc k) - length (spelled 128 n) ≡ suc k - length (spelled 128 (n / 256)) = omega (arith, length-spelled-step 128 n (omega arith) above) in
    ap (λ i. drop i (bytes_high_first (suc (suc k)) n)) size
    ∙ ap (drop (suc k - length (spelled 128 (n / 256)))) (bytes-last (suc k) n)
    ∙ drop-append-le (suc k - length (spelled 128 (n / 256))) (bytes_high_first (suc k) (n / 256)) (n % 256 ∷ []) (omega (arith, length-bytes (suc k) (n / 256)))
    ∙ ap (λ octets. octets ++ n % 256 ∷ []) rest
    ∙ sym (spelled-step 128 n (omega arith) above)

fewer : (k n : ℕ) → n < 128 * 256 ^ suc k → n / 256 < 128 * 256 ^ k
fewer k n small = omega (arith, pow_more 256 k, small)

pub last-octets : (k n : ℕ) → n < 128 * 256 ^ k → drop (suc k - length (spelled 128 n)) (bytes_high_first (suc k) n) ≡ spelled 128 n
last-octets zero n small = one-octet zero n (omega (arith, small))
last-octets (suc k) n small =
    let rest = last-octets k (n / 256) (fewer k n small) in
    elim (cases_lt n 128) as (λ _. drop (suc (suc k) - length (spelled 128 n)) (bytes_high_first (suc (suc k)) n) ≡ spelled 128 n) [ inl below ↦ one-octet (suc k) n below | inr above ↦ more-octets k n above rest ]

-- the octets of a negative number are those of its complement, complemented
bytes-complement : (k n : ℕ) → n < 256 ^ k → bytes_high_first k (256 ^ k - suc n) ≡ complement (bytes_high_first k n)
bytes-complement zero n small = refl
bytes-complement (suc k) n small =
    let power : 256 ^ suc k ≡ 256 * 256 ^ k = omega (arith, pow_more 256 k) in
    let high : (256 ^ suc k - suc n) / 256 ≡ 256 ^ k - suc (n / 256) = omega (arith, power, small) in
    let low : (256 ^ suc k - suc n) % 256 ≡ 255 - n % 256 = omega (arith, power, small) in
    let below : n / 256 < 256 ^ k = omega (arith, power, small) in
    bytes-last k (256 ^ suc k - suc n)
    ∙ ap (λ m. bytes_high_first k m ++ (256 ^ suc k - suc n) % 256 ∷ []) high
    ∙ ap (λ m. bytes_high_first k (256 ^ k - suc (n / 256)) ++ m ∷ []) low
    ∙ ap (λ octets. octets ++ (255 - n % 256) ∷ []) (bytes-complement k (n / 256) below)
    ∙ sym (map-append (λ octet. 255 - octet) (bytes_high_first k (n / 256)) (n % 256 ∷ []))
    ∙ ap complement (sym (bytes-last k n))

size-integer : (z : ℤ) → magnitude z < 2 ^ 63 → (length (item 0x02 (integer_octets z)) ≡ 2 + length (integer_octets z)) × (length (integer_octets z) ≤ 8)
size-integer z small =
    let few : length (integer_octets z) ≤ 8 = omega (arith, length-integer_octets z, length-spelled-le 128 7 (magnitude z) (omega arith) (omega (arith, small))) in
    (omega (arith, length-item 0x02 (integer_octets z), item_length-short (length (integer_octets z)) (omega (arith, few))), few)

fewest-last : (z : ℤ) → magnitude z < 2 ^ 63 → drop (8 - length (integer_octets z)) (to_be_bytes w64 (cast_unsigned w64 z)) ≡ integer_octets z
fewest-last (pos n) small = last-octets 7 n small
fewest-last (negsuc n) small =
    let size : length (complement (spelled 128 n)) ≡ length (spelled 128 n) = length-integer_octets (negsuc n) in
    ap (λ k. drop (8 - k) (bytes_high_first 8 (2 ^ 64 - suc n))) size
    ∙ ap (drop (8 - length (spelled 128 n))) (bytes-complement 8 n (omega (arith, small)))
    ∙ drop-map (λ octet. 255 - octet) (8 - length (spelled 128 n)) (bytes_high_first 8 n)
    ∙ ap complement (last-octets 7 n small)

-- where the fewest octets begin among eight
pub record Begins (z : ℤ) (size : ℕ) : Type 0 where
  pub within : size ≤ 10
  pub octets : take (8 - (10 - size)) (drop (10 - size) (to_be_bytes w64 (cast_unsigned w64 z))) ≡ integer_octets z

in-range : (z : ℤ) → FitsSigned w64 z → magnitude z < 2 ^ 63
in-range (pos n) fits = omega (arith, fits)
in-range (negsuc n) fits = omega (arith, fits)

pub begins : (z : ℤ) (size : ℕ) → FitsSigned w64 z → size ≡ length (item 0x02 (integer_octets (to_z w64 (of_z w64 z)))) → Begins z size
begins z size fits is =
    let small = in-range z fits in
    let known = size-integer z small in
    let same : size ≡ length (item 0x02 (integer_octets z)) = is ∙ ap (λ y. length (item 0x02 (integer_octets y))) (to_z-of_z w64 z fits) in
    let passed : 10 - size ≡ 8 - length (integer_octets z) = omega (arith, same, known.0, known.1) in
    let last : drop (10 - size) (to_be_bytes w64 (cast_unsigned w64 z)) ≡ integer_octets z = ap (λ k. drop k (to_be_bytes w64 (cast_unsigned w64 z))) passed ∙ fewest-last z small in
    let all : 8 - (10 - size) ≡ length (integer_octets z) = omega (arith, passed, known.1) in
    record {
      within = omega (arith, same, known.0, known.1);
      octets = ap₂ take all last ∙ take-length (integer_octets z);
    }

-- ---- what is appended
pub extended : (r : Result (Unit {0}) AllocError) (old new more octets : List ℕ) → new ≡ (if is_ok r then old ++ more else old) → more ≡ octets → OnOk r (new ≡ old ++ octets)
extended (Ok done) old new more octets is same = is ∙ ap (λ added. old ++ added) same
extended (Err error) old new more octets is same = tt

-- ---- what is returned
pub gives-fault : {R A : Type 0} (view : R → A) (read : (path : List ℕ) → Result A Fault) (more : List ℕ) (wrong : Wrong) (found : ValueFault) → ((path : List ℕ) → read path ≡ fault (path ++ more) wrong) → IsFaultAt more wrong found → Gives view read (Err found)
gives-fault view read more wrong (At found) is at = λ path. is path ∙ ap₂ (λ p w. fault (path ++ p) w) (sym at.0) (sym at.1)
gives-fault view read more wrong Memory is at = tt

pub gives-fault-here : {R A : Type 0} (view : R → A) (read : (path : List ℕ) → Result A Fault) (wrong : Wrong) (found : ValueFault) → ((path : List ℕ) → read path ≡ fault path wrong) → IsFaultAt [] wrong found → Gives view read (Err found)
gives-fault-here view read wrong found is at = gives-fault view read [] wrong found (λ path. is path ∙ ap (λ p. fault p wrong) (sym (append-nil path))) at

-- what is returned of a part of a value, with more in the path of its fault
under-gives : {R A : Type 0} (view : R → A) (read : (path : List ℕ) → Result A Fault) (more : List ℕ) (inner outer : Result R ValueFault) → IsUnder more inner outer → Gives view read inner → Gives view (λ path. read (path ++ more)) outer
under-gives view read more (Ok value) outer under given = subst (Gives view (λ path. read (path ++ more))) (sym under) (λ path. given (path ++ more))
under-gives view read more (Err Memory) outer under given = subst (Gives view (λ path. read (path ++ more))) (sym under) tt
under-gives view read more (Err (At found)) (Ok value) under given = absurd under
under-gives view read more (Err (At found)) (Err outer) under given =
    gives-fault view (λ path. read (path ++ more)) (more ++ string_bytes found.path) found.wrong outer
    (λ path. given (path ++ more) ∙ ap (λ p. fault p found.wrong) (append_assoc path more (string_bytes found.path))) under

same-gives : {R A : Type 0} (view : R → A) (read other : (path : List ℕ) → Result A Fault) (outcome : Result R ValueFault) → ((path : List ℕ) → other path ≡ read path) → Gives view read outcome → Gives view other outcome
same-gives view read other (Ok value) same given = λ path. same path ∙ given path
same-gives view read other (Err (At found)) same given = λ path. same path ∙ given path
same-gives view read other (Err Memory) same given = tt

-- and of a member
pub member-gives : {R A : Type 0} (view : R → A) (read : (path : List ℕ) → Json → Result A Fault) (name : List ℕ) (j part : Json) (inner outer : Result R ValueFault) → Some part ≡ get name j → IsUnder (codes "." ++ name) inner outer → Gives view (λ path. read path part) inner → Gives view (member_spelled read name j) outer
member-gives view read name j part inner outer found under given =
    same-gives view (λ path. read (path ++ (codes "." ++ name)) part) (member_spelled read name j) outer
    (λ path. ap (λ o. or_fault (field_path path name) Missing o >>= read (field_path path name)) (sym found) ∙ ap (λ p. read p part) (append_assoc path (codes ".") name))
    (under-gives view (λ path. read path part) (codes "." ++ name) inner outer under given)

-- a number, whose range a call passes
passed-range : (low high : ℤ) (j : Json) (r : Result ℤ ValueFault) → FitsSigned w64 low → FitsSigned w64 high → Gives (λ (n : ℤ). n) (λ path. integer_spelled (to_z w64 (of_z w64 low)) (to_z w64 (of_z w64 high)) path j) r → Gives (λ (n : ℤ). n) (λ path. integer_spelled low high path j) r
passed-range low high j r from to given =
    subst (λ l. Gives (λ (n : ℤ). n) (λ path. integer_spelled l high path j) r) (to_z-of_z w64 low from)
    (subst (λ h. Gives (λ (n : ℤ). n) (λ path. integer_spelled (to_z w64 (of_z w64 low)) h path j) r) (to_z-of_z w64 high to) given)

pub number-member : (low high : ℤ) (name : List ℕ) (j part : Json) (inner outer : Result ℤ ValueFault) → FitsSigned w64 low → FitsSigned w64 high → Some part ≡ get name j → IsUnder (codes "." ++ name) inner outer → Gives (λ (n : ℤ). n) (λ path. integer_spelled (to_z w64 (of_z w64 low)) (to_z w64 (of_z w64 high)) path part) inner
    → Gives (λ (n : ℤ). n) (member_spelled (integer_spelled low high) name j) outer
number-member low high name j part inner outer from to found under given =
    member-gives (λ (n : ℤ). n) (integer_spelled low high) name j part inner outer found under (passed-range low high part inner from to given)

-- ---- times
pub time-is : (text octets : List ℕ) (time : Option (List ℕ)) → octets ≡ text → (IsSome time → IsTimeFrom 14 octets) × (IsTimeFrom 14 octets → IsSome time) → IfSome time (λ t. t ≡ octets) → IsTimeOf text time
time-is text octets None same shape value = is-no-time (is_time_from 14 text) refl
  where
    is-no-time : (b : Bool) → is_time_from 14 text ≡ b → b ≡ false
    is-no-time true is = absurd (true≢false (sym (shape.1 (subst (IsTimeFrom 14) (sym same) (time-shape 14 text is)))))
    is-no-time false is = refl
time-is text octets (Some time) same shape value = (is-time 14 text (subst (IsTimeFrom 14) same (shape.0 refl)), value ∙ same)

pub same-octets : {E : Type 0} (r : Result (List ℕ) E) (text octets : List ℕ) (size : ℕ) (other : E → Type 0) → Some octets ≡ result_ok r → MatchResult r (λ whole. IsWholeChunk text whole size) other → octets ≡ text
same-octets (Ok whole) text octets size other is chunk = let same : octets ≡ whole = cc is in same ∙ chunk.same
same-octets (Err e) text octets size other is chunk = cc is
