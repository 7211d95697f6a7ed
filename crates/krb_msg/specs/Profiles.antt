-- Profiles. A profile is a grammar: the terms of the strict one are those of the lenient one, narrowed. A value of a term is one of the narrowed term if no note holds of it (`Notes`).
use Rattle.std.specs.Prelude.{ℤ, pos, negsuc, min, max, Bool, true, false, not, ◌&&◌, ◌==◌, if◌then◌else◌, map}
use Rattle.std.specs.Option.{option_map}
use Rattle.krb_der.specs.declared.profile.Profile.{Profile}
use Rattle.krb_der.specs.declared.profile.Profile.TheVariants as profile
use Rattle.krb_msg.specs.Term.{Term, Fields, Integer, Text, Octets, Time, Bits, Sequence, SequenceOf, Tagged, Application, End, Required, Optional, Value, Values}

-- whether an INTEGER is a UInt32, by its greatest number (RFC 4120, 5.2.4)
abbrev pub is_unsigned : ℤ → Bool
is_unsigned (pos high) = high == 4294967295
is_unsigned (negsuc high) = false

abbrev pub not_negative : ℤ → ℤ
not_negative (pos number) = pos number
not_negative (negsuc number) = pos 0

abbrev mutual
  -- A term narrowed, of a field that is OPTIONAL or not. A UInt32 is not negative; a GeneralString has octets up to 7F (5.2.1); flags are 32 at least (5.2.8); a SEQUENCE OF that is OPTIONAL is not empty if it is there (5.4.1, 5.4.2).
  pub narrowed : (optional : Bool) → Term → Term
  narrowed optional (Integer low high) = Integer (if is_unsigned high then not_negative low else low) high
  narrowed optional (Text greatest) = Text (min greatest 0x7F)
  narrowed optional Octets = Octets
  narrowed optional Time = Time
  narrowed optional (Bits least) = Bits (max least 32)
  narrowed optional (Sequence fields) = Sequence (narrowed_fields fields)
  narrowed optional (SequenceOf empty term) = SequenceOf (empty && not optional) (narrowed false term)
  narrowed optional (Tagged index term) = Tagged index (narrowed optional term)
  narrowed optional (Application number term) = Application number (narrowed false term)

  pub narrowed_fields : Fields → Fields
  narrowed_fields End = End
  narrowed_fields (Required term fields) = Required (narrowed false term) (narrowed_fields fields)
  narrowed_fields (Optional term fields) = Optional (narrowed true term) (narrowed_fields fields)

-- the term of a profile that is the lenient profile's term, of a field that is OPTIONAL or not
abbrev pub profile_term : Profile → (optional : Bool) → Term → Term
profile_term profile.Lenient optional term = term
profile_term profile.Strict optional term = narrowed optional term

-- ---- values
abbrev mutual
  -- a value as one of the narrowed term, which is the same
  pub narrowed_value : (optional : Bool) → (term : Term) → Value term → Value (narrowed optional term)
  narrowed_value optional (Integer low high) value = value
  narrowed_value optional (Text greatest) octets = octets
  narrowed_value optional Octets octets = octets
  narrowed_value optional Time octets = octets
  narrowed_value optional (Bits least) bits = bits
  narrowed_value optional (Sequence fields) values = narrowed_values fields values
  narrowed_value optional (SequenceOf empty term) values = map (narrowed_value false term) values
  narrowed_value optional (Tagged index term) value = narrowed_value optional term value
  narrowed_value optional (Application number term) value = narrowed_value false term value

  pub narrowed_values : (fields : Fields) → Values fields → Values (narrowed_fields fields)
  narrowed_values End values = tt
  narrowed_values (Required term fields) values = (narrowed_value false term values.0, narrowed_values fields values.1)
  narrowed_values (Optional term fields) values = (option_map (narrowed_value true term) values.0, narrowed_values fields values.1)

abbrev pub profile_value : (profile : Profile) → (optional : Bool) → (term : Term) → Value term → Value (profile_term profile optional term)
profile_value profile.Lenient optional term value = value
profile_value profile.Strict optional term value = narrowed_value optional term value
