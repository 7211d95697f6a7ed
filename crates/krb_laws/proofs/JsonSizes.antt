-- The numbers of a value that fits and has fewer than 2^31 octets, and the lengths of its parts, are small.
use Rattle.std.proofs.Common.{◌≡◌, ℕ, ℤ, pos, negsuc, ◌+◌, ◌^◌, ◌<◌, ◌≤◌, ◌≤ℤ◌, ◌&&◌, Bool, true, List, [], ◌∷◌, length, length-append, Option, Some, None, arith}
use Rattle.std.specs.Prelude.{int_le}
use Rattle.std.proofs.lemmas.Bool.{and_parts}
use Rattle.std.proofs.lemmas.Int.{ints}
use Rattle.std.specs.List.{AllByRecursion, flat_map}
use Rattle.krb_der.specs.Octets.{item, length_octets, octets_of_option}
use Rattle.krb_msg.proofs.Accepts.{length-der}
use Rattle.krb_msg.proofs.Integers.{int_le-true}
use Rattle.krb_msg.specs.Term.{Term, Fields, Integer, Text, Octets, Time, Bits, Sequence, SequenceOf, Tagged, Application, End, Required, Optional, Value, Values, Fits, AllFit, IfPresent, der, der_of_fields}
use Rattle.krb_laws.specs.JsonLaws.{IsSmall}

abbrev mutual
  -- each INTEGER is small, and each string of octets or bits and each list has fewer than 2^31 parts
  pub IsBrief : (term : Term) → Value term → Type 0
  IsBrief (Integer low high) value = IsSmall value
  IsBrief (Text greatest) octets = Unit {0}
  IsBrief Octets octets = length octets < 2 ^ 31
  IsBrief Time octets = Unit {0}
  IsBrief (Bits least) bits = length bits.1 < 2 ^ 31
  IsBrief (Sequence fields) values = AreBrief fields values
  IsBrief (SequenceOf empty term) values = (length values < 2 ^ 31) × AllByRecursion (IsBrief term) values
  IsBrief (Tagged index term) value = IsBrief term value
  IsBrief (Application number term) value = IsBrief term value

  pub AreBrief : (fields : Fields) → Values fields → Type 0
  AreBrief End values = Unit {0}
  AreBrief (Required term fields) values = IsBrief term values.0 × AreBrief fields values.1
  AreBrief (Optional term fields) values = IfPresent (IsBrief term) values.0 × AreBrief fields values.1

abbrev mutual
  -- whether each INTEGER of a term is of 64 bits
  pub is_narrow : Term → Bool
  is_narrow (Integer low high) = int_le (negsuc 9223372036854775806) low && int_le high (pos 9223372036854775807)
  is_narrow (Sequence fields) = are_narrow fields
  is_narrow (SequenceOf empty term) = is_narrow term
  is_narrow (Tagged index term) = is_narrow term
  is_narrow (Application number term) = is_narrow term
  is_narrow other = true

  pub are_narrow : Fields → Bool
  are_narrow End = true
  are_narrow (Required term fields) = is_narrow term && are_narrow fields
  are_narrow (Optional term fields) = is_narrow term && are_narrow fields

-- ---- lengths
item-longer : (tag : ℕ) (contents : List ℕ) → length contents < length (item tag contents)
item-longer tag contents = omega (arith, length-append (length_octets (length contents)) contents)

as-many : (term : Term) (values : List (Value term)) → length values ≤ length (flat_map (der term) values)
as-many term [] = omega arith
as-many term (v ∷ values) = omega (arith, length-append (der term v) (flat_map (der term) values), length-der term v, as-many term values)

-- ---- numbers
small : (low high value : ℤ) → (int_le (negsuc 9223372036854775806) low && int_le high (pos 9223372036854775807)) ≡ true → low ≤ℤ value → value ≤ℤ high → IsSmall value
small low high value narrow above below =
    let parts = and_parts (int_le (negsuc 9223372036854775806) low) _ narrow in
    size value (int_le-true (negsuc 9223372036854775806) low parts.0) (int_le-true high (pos 9223372036854775807) parts.1) above below
  where
    size : (value : ℤ) → negsuc 9223372036854775806 ≤ℤ low → high ≤ℤ pos 9223372036854775807 → low ≤ℤ value → value ≤ℤ high → IsSmall value
    size (pos n) least most above below = omega (arith, ints, most, below)
    size (negsuc n) least most above below = omega (arith, ints, least, above)

-- ---- lists, and what may be absent
abbrev AreBriefAll : Term → Type 0
AreBriefAll term = (value : Value term) → Fits term value → length (der term value) < 2 ^ 31 → IsBrief term value

brief-items : (term : Term) → AreBriefAll term → (values : List (Value term)) → AllByRecursion (Fits term) values → length (flat_map (der term) values) < 2 ^ 31 → AllByRecursion (IsBrief term) values
brief-items term each [] fit short = tt
brief-items term each (v ∷ values) fit short =
    let both = length-append (der term v) (flat_map (der term) values) in
    (each v fit.0 (omega (arith, both, short)), brief-items term each values fit.1 (omega (arith, both, short)))

brief-if : (term : Term) → AreBriefAll term → (value : Option (Value term)) → IfPresent (Fits term) value → length (octets_of_option (der term) value) < 2 ^ 31 → IfPresent (IsBrief term) value
brief-if term each None fit short = tt
brief-if term each (Some v) fit short = each v fit short

mutual
  pub brief : (term : Term) → is_narrow term ≡ true → AreBriefAll term
  brief (Integer low high) narrow value fit short = small low high value narrow fit.0 fit.1
  brief Octets narrow octets fit short = omega (arith, item-longer 0x04 octets, short)
  brief (Bits least) narrow bits fit short = omega (arith, item-longer 0x03 (bits.0 ∷ bits.1), short)
  brief (Sequence fields) narrow values fit short = brief-fields fields narrow values fit (omega (arith, item-longer 0x30 (der_of_fields fields values), short))
  brief (SequenceOf empty term) narrow values fit short = (
    omega (arith, item-longer 0x30 (flat_map (der term) values), as-many term values, short),
    brief-items term (brief term narrow) values fit.1 (omega (arith, item-longer 0x30 (flat_map (der term) values), short)),
  )
  brief (Tagged index term) narrow value fit short = brief term narrow value fit (omega (arith, item-longer (0xA0 + index) (der term value), short))
  brief (Application number term) narrow value fit short = brief term narrow value fit (omega (arith, item-longer (0x60 + number) (der term value), short))
  brief other narrow octets fit short = tt

  brief-fields : (fields : Fields) → are_narrow fields ≡ true → (values : Values fields) → AllFit fields values → length (der_of_fields fields values) < 2 ^ 31 → AreBrief fields values
  brief-fields End narrow values fit short = tt
  brief-fields (Required term fields) narrow values fit short =
      let parts = and_parts (is_narrow term) (are_narrow fields) narrow in
      let both = length-append (der term values.0) (der_of_fields fields values.1) in
      (brief term parts.0 values.0 fit.0 (omega (arith, both, short)), brief-fields fields parts.1 values.1 fit.1 (omega (arith, both, short)))
  brief-fields (Optional term fields) narrow values fit short =
      let parts = and_parts (is_narrow term) (are_narrow fields) narrow in
      let both = length-append (octets_of_option (der term) values.0) (der_of_fields fields values.1) in
      (brief-if term (brief term parts.0) values.0 fit.0 (omega (arith, both, short)), brief-fields fields parts.1 values.1 fit.1 (omega (arith, both, short)))
