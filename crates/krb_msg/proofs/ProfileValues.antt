-- The values of a profile's terms, as those of the lenient terms.
use Rattle.std.proofs.Common.{◌≡◌, ℕ, Bool, true, false, List, refl, sym, ◌∙◌, ap, ap₂, subst}
use Rattle.krb_der.specs.declared.profile.Profile.{Profile}
use Rattle.krb_der.specs.declared.profile.Profile.TheVariants as profiles
use Rattle.krb_msg.specs.Term.{Term, Fields, Sequence, SequenceOf, Tagged, Application, End, Required, Optional, Value, Values, der, Fits}
use Rattle.krb_msg.specs.Profiles.{narrowed, narrowed_value, narrowed_values, profile_term, profile_value}
use Rattle.krb_msg.specs.Der.{IsDer}
use Rattle.krb_msg.proofs.Profiles.{maps_back, option_back, widened_value, widened_values, narrowed_widened, der_narrowed, fits_narrowed}

-- ---- to the lenient term and back
mutual
  widened_narrowed : (optional : Bool) (term : Term) (value : Value term) → widened_value optional term (narrowed_value optional term value) ≡ value
  widened_narrowed optional (Sequence fields) values = widened_narrowed_fields fields values
  widened_narrowed optional (SequenceOf empty term) values = maps_back (widened_value false term) (narrowed_value false term) (widened_narrowed false term) values
  widened_narrowed optional (Tagged index term) value = widened_narrowed optional term value
  widened_narrowed optional (Application number term) value = widened_narrowed false term value
  widened_narrowed optional other another = refl

  widened_narrowed_fields : (fields : Fields) (values : Values fields) → widened_values fields (narrowed_values fields values) ≡ values
  widened_narrowed_fields End values = refl
  widened_narrowed_fields (Required term fields) values = ap₂ (λ v vs. (v, vs)) (widened_narrowed false term values.0) (widened_narrowed_fields fields values.1)
  widened_narrowed_fields (Optional term fields) values =
      ap₂ (λ v vs. (v, vs)) (option_back (widened_value true term) (narrowed_value true term) (widened_narrowed true term) values.0) (widened_narrowed_fields fields values.1)

-- ---- of any profile
pub der_profile : (profile : Profile) (optional : Bool) (term : Term) (value : Value term) → der (profile_term profile optional term) (profile_value profile optional term value) ≡ der term value
der_profile profiles.Lenient optional term value = refl
der_profile profiles.Strict optional term value = der_narrowed optional term value

-- a value of the profile's term as one of the lenient term
abbrev pub lenient_value : (profile : Profile) (optional : Bool) (term : Term) → Value (profile_term profile optional term) → Value term
lenient_value profiles.Lenient optional term value = value
lenient_value profiles.Strict optional term value = widened_value optional term value

pub lenient_back : (profile : Profile) (optional : Bool) (term : Term) (value : Value term) → lenient_value profile optional term (profile_value profile optional term value) ≡ value
lenient_back profiles.Lenient optional term value = refl
lenient_back profiles.Strict optional term value = widened_narrowed optional term value

pub profile_back : (profile : Profile) (optional : Bool) (term : Term) (value : Value (profile_term profile optional term)) → profile_value profile optional term (lenient_value profile optional term value) ≡ value
profile_back profiles.Lenient optional term value = refl
profile_back profiles.Strict optional term value = narrowed_widened optional term value

pub lenient_fits : (profile : Profile) (optional : Bool) (term : Term) (value : Value (profile_term profile optional term)) → Fits (profile_term profile optional term) value → Fits term (lenient_value profile optional term value)
lenient_fits profiles.Lenient optional term value f = f
lenient_fits profiles.Strict optional term value f =
    (fits_narrowed optional term (widened_value optional term value) (subst (Fits (narrowed optional term)) (sym (narrowed_widened optional term value)) f)).0

-- the DER of a value of the profile's term is that of a value of the lenient term
pub lenient_der : {octets : List ℕ} (profile : Profile) (optional : Bool) (term : Term) → IsDer (profile_term profile optional term) octets → IsDer term octets
lenient_der profile optional term f = record {
  value = lenient_value profile optional term f.value;
  fits = lenient_fits profile optional term f.value f.fits;
  form = f.form ∙ ap (der (profile_term profile optional term)) (sym (profile_back profile optional term f.value)) ∙ der_profile profile optional term (lenient_value profile optional term f.value);
}
