-- Readers of the fields of files: what holds of the values that they give, and that the place of a part and a length are small where a field is at fault.
use Rattle.std.proofs.Common.{◌≡◌, ℕ, zero, suc, ◌+◌, ◌-◌, ◌^◌, ◌<◌, ◌≤◌, nat_lt, Bool, true, false, ℤ, pos, negsuc, unsigned_abs, List, [], ◌∷◌, length, take, drop, Option, Some, None, Result, Ok, Err, IfSome, refl, arith, length-drop, length-take}
use mir.Val.{sel}
use Rattle.std.proofs.lemmas.Bool.{ltb-false}
use Rattle.std.specs.Int.{Width, byte_len, cast_signed, from_be_bytes, w32, w8}
use Rattle.krb_der.specs.Octets.{AreOctets, when}
use Rattle.krb_der.specs.inner.Numbers.{AreOctets-drop, AreOctets-take}
use Rattle.krb_file.specs.Fields.{Bounds, Fault, Reader, Source, ◌>>=◌, and_then, begun_at, bound_of, called, component_at, counted_at, exceeds, expect, in_part, is_one_of, names_at, next_octets_at, number_at, octets_at, octets_to_end, one_part, refused, refused_at, rest_at, signed_at, succeed, times, version_at, with_name, with_part, within}
use Rattle.krb_file.specs.FieldReaders.{skipped_at}
use Rattle.krb_file.proofs.Fields.{IsWide, wide32, wide8}
use Rattle.krb_file.specs.declared.field_name.FieldName.{FieldName}
use Rattle.krb_file.specs.declared.field_name.FieldName.TheVariants as fields
use Rattle.krb_file.specs.declared.field_name.FileField.{FileField}
use Rattle.krb_file.specs.declared.field_name.FilePart.{FilePart}
use Rattle.krb_laws.specs.JsonLaws.{IsExtent}
use Rattle.krb_run.specs.Extents.{extent_of}
use Rattle.krb_source.specs.FileReasons.{file_reason_length}
use Rattle.krb_source.specs.declared.file_why.FileWhy.{FileWhy}
use Rattle.krb_source.specs.declared.file_why.FileWhy.TheVariants as why

-- octets that are not read yet, in a file of fewer than 2^64
pub record IsSource (source : Source) : Type 0 where
  pub octets : AreOctets source.octets
  pub few : source.place + length source.octets < 2 ^ 64

-- where a part ends that has an end
abbrev pub IsBounds : Bounds → Type 0
IsBounds bounds = IfSome bounds.end (λ end. end < 2 ^ 65)

-- the length that is at fault, if one is
abbrev pub IsReason : FileWhy → Type 0
IsReason reason = IfSome (file_reason_length reason) (λ n. n < 2 ^ 65)

-- where the part begins that is at fault
pub record IsFault (fault : Fault) : Type 0 where
  pub begin : fault.begin < 2 ^ 65
  pub length : IsReason fault.why

-- a value that was read, after which octets are left
abbrev pub IsRead : {A : Type 0} → (A → Type 0) → Result (A × Source) Fault → Type 0
IsRead P (Ok read) = P read.0 × IsSource read.1
IsRead P (Err fault) = IsFault fault

pub record Gives {A : Type 0} (P : A → Type 0) (reader : Reader A) : Type 0 where
  pub each : (bounds : Bounds) (source : Source) → IsBounds bounds → IsSource source → IsRead P (reader bounds source)

abbrev pub Anything : {A : Type 0} → A → Type 0
Anything value = Unit {0}

then_read : {A B : Type 0} (P : A → Type 0) (Q : B → Type 0) (next : A → Reader B) (bounds : Bounds) (read : Result (A × Source) Fault) → IsBounds bounds → IsRead P read → ((value : A) → P value → Gives Q (next value)) → IsRead Q (and_then read (λ r. next r.0 bounds r.1))
then_read P Q next bounds (Err fault) near is others = is
then_read P Q next bounds (Ok read) near is others = (others read.0 is.0).each bounds read.1 near is.1

pub then_gives : {A B : Type 0} (P : A → Type 0) (Q : B → Type 0) (reader : Reader A) (next : A → Reader B) → Gives P reader → ((value : A) → P value → Gives Q (next value)) → Gives Q (reader >>= next)
then_gives P Q reader next first others = record { each = λ bounds source near are. then_read P Q next bounds (reader bounds source) near (first.each bounds source near are) others }

pub gives : {A : Type 0} (P : A → Type 0) (value : A) → P value → Gives P (succeed value)
gives P value is = record { each = λ bounds source near are. (is, are) }

pub named_read : {A : Type 0} (P : A → Type 0) (field : Option FileField → Option FileField) (read : Result (A × Source) Fault) → IsRead P read → IsRead P (refused_at field read)
named_read P field (Ok read) is = is
named_read P field (Err fault) is = record { begin = is.begin; length = is.length }

pub begun_read : {A : Type 0} (P : A → Type 0) (place : ℕ) (read : Result (A × Source) Fault) → place < 2 ^ 64 → IsRead P read → IsRead P (begun_at place read)
begun_read P place (Ok read) small is = is
begun_read P place (Err fault) small is = record { begin = omega (arith, small); length = is.length }

pub called_gives : {A : Type 0} (P : A → Type 0) (name : FieldName) (reader : Reader A) → Gives P reader → Gives P (called name reader)
called_gives P name reader g = record { each = λ bounds source near are. named_read P (with_name name) (reader bounds source) (g.each bounds source near are) }

pub part_gives : {A : Type 0} (P : A → Type 0) (part : FilePart) (reader : Reader A) → Gives P reader → Gives P (in_part part reader)
part_gives P part reader g = record { each = λ bounds source near are. begun_read P source.place (refused_at (with_part part) (reader bounds source)) (omega (arith, are.few)) (named_read P (with_part part) (reader bounds source) (g.each bounds source near are)) }

pub one_gives : {A : Type 0} (P : A → Type 0) (reader : Reader A) → Gives P reader → Gives P (one_part reader)
one_gives P reader g = record { each = λ bounds source near are. begun_read P source.place (reader bounds source) (omega (arith, are.few)) (g.each bounds source near are) }

-- ---- octets and numbers
pub either_read : {A : Type 0} (P : A → Type 0) (test : Bool) (one other : Unit {0} → Result (A × Source) Fault) → IsRead P (one tt) → IsRead P (other tt) → IsRead P (when test one other)
either_read P true one other a b = a
either_read P false one other a b = b

pub either_gives : {A : Type 0} (P : A → Type 0) (test : Bool) (one other : Unit {0} → Reader A) → Gives P (one tt) → Gives P (other tt) → Gives P (when test one other)
either_gives P true one other a b = a
either_gives P false one other a b = b

-- octets, at most so many
abbrev pub AreAtMost : ℕ → List ℕ → Type 0
AreAtMost size octets = AreOctets octets × (length octets ≤ size)

pub refused_here : {A : Type 0} (P : A → Type 0) (source : Source) (reason : FileWhy) → IsSource source → IsReason reason → IsRead P (refused source reason)
refused_here P source reason are is = record { begin = omega (arith, are.few); length = is }

-- a size is compared with a limit only if there is one
pub piece_read : (limit : Option ℕ) (size : ℕ) (bounds : Bounds) (source : Source) → IfSome limit (λ most. size < 2 ^ 65) → IsSource source → IsRead (AreAtMost size) (next_octets_at limit size bounds source)
piece_read limit size bounds source small are =
    either_read (AreAtMost size) (exceeds (source.place + size) bounds.end) _ _ (refused_here (AreAtMost size) source why.Overrun are tt) (unless_long limit small)
  where
    piece : Bool → Result (List ℕ × Source) Fault
    piece short = when short (λ _. refused source why.Truncated) (λ _. Ok (take size source.octets, record { place = source.place + size; octets = drop size source.octets }))

    taken : (short : Bool) → nat_lt (length source.octets) size ≡ short → IsRead (AreAtMost size) (piece short)
    taken true e = refused_here (AreAtMost size) source why.Truncated are tt
    taken false e = (
      (AreOctets-take size source.octets are.octets, omega (arith, length-take size source.octets)),
      record { octets = AreOctets-drop size source.octets are.octets; few = omega (arith, are.few, length-drop size source.octets, ltb-false (length source.octets) size e) },
    )

    unless_long : (most : Option ℕ) → IfSome most (λ most. size < 2 ^ 65) → IsRead (AreAtMost size) (when (exceeds size most) (λ _. refused source (why.TooLong size)) (λ _. piece (nat_lt (length source.octets) size)))
    unless_long None few = taken (nat_lt (length source.octets) size) refl
    unless_long (Some most) few = either_read (AreAtMost size) (nat_lt most size) _ _ (refused_here (AreAtMost size) source (why.TooLong size) are few) (taken (nat_lt (length source.octets) size) refl)

pub piece_gives : (size : ℕ) → Gives (AreAtMost size) (next_octets_at None size)
piece_gives size = record { each = λ bounds source near are. piece_read None size bounds source tt are }

pub limited_read : (size : ℕ) (bounds : Bounds) (source : Source) → size < 2 ^ 65 → IsSource source → IsRead (AreAtMost size) (octets_at size bounds source)
limited_read size bounds source small are = piece_read bounds.limit size bounds source (by bounds.limit) are
  where
    by : (limit : Option ℕ) → IfSome limit (λ most. size < 2 ^ 65)
    by None = tt
    by (Some most) = small

pub octets_give : (size : ℕ) → size < 2 ^ 65 → Gives (AreAtMost size) (octets_at size)
octets_give size small = record { each = λ bounds source near are. limited_read size bounds source small are }

-- a number of a width
abbrev pub IsBelow : Width → ℕ → Type 0
IsBelow width n = n < bound_of width

pub number_gives : (width : Width) → IsWide width → Gives (IsBelow width) (number_at width)
number_gives width wide = then_gives (AreAtMost (byte_len width)) (IsBelow width) (next_octets_at None (byte_len width)) _ (piece_gives (byte_len width)) (λ octets is. gives (IsBelow width) (from_be_bytes width octets) (wide.below octets is.0))

pub any_gives : {A : Type 0} (P : A → Type 0) (reader : Reader A) → Gives P reader → Gives Anything reader
any_gives {A} P reader g = record { each = λ bounds source near are. forget (reader bounds source) (g.each bounds source near are) }
  where
    forget : (read : Result (A × Source) Fault) → IsRead P read → IsRead Anything read
    forget (Ok read) is = (tt, is.1)
    forget (Err fault) is = is

-- a number of 32 bits with a sign
signed_small : (n : ℕ) → IsBelow w32 n → unsigned_abs (cast_signed w32 n) < 2 ^ 33
signed_small n small = by (nat_lt n (2 ^ 31))
  where
    by : (b : Bool) → unsigned_abs (sel b (pos n) (negsuc (2 ^ 32 - suc n))) < 2 ^ 33
    by true = omega (arith, small)
    by false = omega (arith, small)

abbrev pub IsSigned : ℤ → Type 0
IsSigned z = unsigned_abs z < 2 ^ 33

pub signed_gives : Gives IsSigned (signed_at w32)
signed_gives = then_gives (IsBelow w32) IsSigned (number_at w32) _ (number_gives w32 wide32) (λ n small. gives IsSigned (cast_signed w32 n) (signed_small n small))

-- ---- readers made of these
pub skipped_gives : (size : ℕ) → Gives Anything (skipped_at size)
skipped_gives size = then_gives (AreAtMost size) Anything (next_octets_at None size) _ (piece_gives size) (λ octets _. gives Anything _ tt)

-- octets after their number, which is small
abbrev IsShort : Width → Type 0
IsShort width = (n : ℕ) → IsBelow width n → n < 2 ^ 65

pub counted_gives : (width : Width) → IsWide width → IsShort width → Gives Anything (counted_at width)
counted_gives width wide short =
    then_gives (IsBelow width) Anything (number_at width) octets_at (number_gives width wide) (λ size small. any_gives (AreAtMost size) (octets_at size) (octets_give size (short size small)))

pub times_give : {A : Type 0} (item_at : ℕ → Reader A) → ((index : ℕ) → Gives Anything (item_at index)) → (n : ℕ) → Gives Anything (times n item_at)
times_give item_at each zero = gives Anything [] tt
times_give item_at each (suc n) =
    then_gives Anything Anything (item_at 0) _ (each 0) (λ first _.
    then_gives Anything Anything (times n (λ index. item_at (suc index))) _ (times_give (λ index. item_at (suc index)) (λ index. each (suc index)) n) (λ others _. gives Anything _ tt))

pub names_give : (width : Width) → IsWide width → IsShort width → Gives Anything (names_at width)
names_give width wide short =
    then_gives (IsBelow width) Anything (called fields.ComponentCount (number_at width)) _ (called_gives (IsBelow width) fields.ComponentCount (number_at width) (number_gives width wide)) (λ count _.
    then_gives Anything Anything (called fields.Realm (counted_at width)) _ (called_gives Anything fields.Realm (counted_at width) (counted_gives width wide short)) (λ realm _.
    then_gives Anything Anything (times count (component_at width)) _ (times_give (component_at width) (λ index. called_gives Anything (fields.Component index) (counted_at width) (counted_gives width wide short)) count) (λ components _.
    gives Anything _ tt)))

-- in a part of so many octets
pub within_gives : {A : Type 0} (P : A → Type 0) (size : ℕ) (inner : Reader A) → size < 2 ^ 64 → Gives P inner → Gives P (within size inner)
within_gives P size inner small g = record { each = λ bounds source near are. g.each (record { end = Some (source.place + size); limit = bounds.limit }) source (omega (arith, are.few, small)) are }

left_small : (end : Option ℕ) (place : ℕ) → IfSome end (λ end. end < 2 ^ 65) → octets_to_end end place < 2 ^ 65
left_small None place near = omega arith
left_small (Some end) place near = omega (arith, near)

pub rest_gives : Gives Anything rest_at
rest_gives = record { each = λ bounds source near are. (any_gives (AreAtMost (octets_to_end bounds.end source.place)) (octets_at (octets_to_end bounds.end source.place)) (octets_give (octets_to_end bounds.end source.place) (left_small bounds.end source.place near))).each bounds source near are }

pub expect_gives : (wanted : List ℕ) (reason : FileWhy) → IsReason reason → Gives Anything (expect wanted reason)
expect_gives wanted reason is = record { each = λ bounds source near are. by bounds source are (number_at w8 bounds source) ((number_gives w8 wide8).each bounds source near are) }
  where
    by : (bounds : Bounds) (source : Source) → IsSource source → (read : Result (ℕ × Source) Fault) → IsRead (IsBelow w8) read → IsRead Anything (and_then read (λ r. when (is_one_of r.0 wanted) (λ _. Ok r) (λ _. refused source reason)))
    by bounds source are (Err fault) its = its
    by bounds source are (Ok r) its = either_read Anything (is_one_of r.0 wanted) (λ _. Ok r) (λ _. refused source reason) (tt, its.1) (refused_here {A = ℕ} Anything source reason are is)

pub version_gives : (versions : List ℕ) → Gives Anything (version_at versions)
version_gives versions =
    then_gives Anything Anything (called fields.Magic (expect (5 ∷ []) why.Magic)) _ (called_gives Anything fields.Magic (expect (5 ∷ []) why.Magic) (expect_gives (5 ∷ []) why.Magic tt)) (λ five _.
    called_gives Anything fields.Version (expect versions why.Version) (expect_gives versions why.Version tt))

-- ---- a fault with a small place and extent
pub record IsSmallFault (fault : Fault) : Type 0 where
  pub place : fault.place < 10 ^ 64
  pub extent : IsExtent (extent_of fault)

length_small : (size : Option ℕ) → IfSome size (λ n. n < 2 ^ 65) → IfSome size (λ n. n < 10 ^ 64)
length_small None is = tt
length_small (Some n) is = omega (arith, is)

pub small_fault : (fault : Fault) → fault.place < 2 ^ 64 → IsFault fault → IsSmallFault fault
small_fault fault near is = record { place = omega (arith, near); extent = record { at = omega (arith, is.begin); length = length_small (file_reason_length fault.why) is.length } }
