-- What is found of what is not encrypted, in octets that are contents of a value, fields, or items: a path, after that of the value.
use Rattle.std.specs.Prelude.{ℕ, ◌≡◌, ◌==◌, ◌&&◌, if◌then◌else◌, Bool, false, length, slice_index, List, ◌∷◌, ◌++◌, Option}
use Rattle.std.specs.Option.{option_map}
use Rattle.std.specs.List.{AllByRecursion, flat_map}
use Rattle.krb_der.specs.declared.profile.Profile.TheVariants.{Lenient}
use Rattle.krb_msg.specs.Term.{Term, Fields, Value, Values, Fits, der}
use Rattle.krb_msg.specs.Viewed.{AreContents, AreFields}
use Rattle.krb_msg.specs.Views.{kind_of, message_der, IsInProfile}
use Rattle.krb_msg.specs.declared.message.Kind.{Kind}
use Rattle.krb_msg.specs.declared.message.Message.{Message}
use Rattle.krb_judge.specs.declared.locating.names.Names.{Names}
use Rattle.krb_json.specs.Unencrypted.{unencrypted, unencrypted_fields, unencrypted_items, unencrypted_in, is_encrypted_data, is_zero, begin_with_zero}

-- a path, and what follows it
abbrev pub after_path : List ℕ → Option (List ℕ) → Option (List ℕ)
after_path path more = option_map (λ text. path ++ text) more

abbrev pub Finds : (term : Term) → Names → (contents : List ℕ) → (more : Option (List ℕ)) → Type 0
Finds term names contents more = (value : Value term) → AreContents term contents value → (path : List ℕ) → unencrypted term names path value ≡ after_path path more

abbrev pub FindsInFields : (fields : Fields) → Names → (index : ℕ) → (octets : List ℕ) → (more : Option (List ℕ)) → Type 0
FindsInFields fields names index octets more = (values : Values fields) → AreFields fields octets values → (path : List ℕ) → unencrypted_fields fields names path index values ≡ after_path path more

abbrev pub FindsInItems : (term : Term) → Names → (octets : List ℕ) → (more : Option (List ℕ)) → Type 0
FindsInItems term names octets more =
    (values : List (Value term)) → AllByRecursion (Fits term) values → octets ≡ flat_map (der term) values → (path : List ℕ) → unencrypted_items (unencrypted term names) path 0 values ≡ after_path path more

-- whether octets are those of the number 0
abbrev pub is_single_zero : List ℕ → Bool
is_single_zero octets = if length octets == 1 then slice_index octets 0 == 0 else false

-- whether the value with these contents is the number 0
abbrev pub IsZero : (term : Term) → (contents : List ℕ) → Bool → Type 0
IsZero term contents zero = (value : Value term) → AreContents term contents value → is_zero term value ≡ zero

abbrev pub BeginWithZero : (fields : Fields) → (octets : List ℕ) → Bool → Type 0
BeginWithZero fields octets zero = (values : Values fields) → AreFields fields octets values → begin_with_zero fields values ≡ zero

abbrev pub AreUnencrypted : (fields : Fields) → Names → (octets : List ℕ) → Bool → Type 0
AreUnencrypted fields names octets result = (values : Values fields) → AreFields fields octets values → (is_encrypted_data names && begin_with_zero fields values) ≡ result

abbrev pub FindsInMessage : Kind → (octets : List ℕ) → (path : Option (List ℕ)) → Type 0
FindsInMessage kind octets path = (m : Message) → IsInProfile Lenient m → kind_of m ≡ kind → message_der m ≡ octets → unencrypted_in m ≡ path

-- octets that have those of the INTEGER 0 somewhere: its tag, its length, and 0
pub record HasZero (octets : List ℕ) : Type 0 where
  pub before : List ℕ
  pub after : List ℕ
  pub parts : octets ≡ before ++ 2 ∷ 1 ∷ 0 ∷ after
