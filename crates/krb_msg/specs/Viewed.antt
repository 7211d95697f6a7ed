-- Octets that a view is of: an item, its contents octets, fields, an INTEGER and lists.
use Rattle.std.specs.Prelude.{Bool, ℕ, ℤ, ◌^◌, ◌<◌, ◌≡◌, ◌≤ℤ◌, true, false, List, ◌∷◌, ◌++◌, length, Option, Some, None}
use Rattle.std.specs.List.{AllByRecursion, flat_map}
use Rattle.krb_der.specs.Octets.{item, length_octets, integer_octets, begins_with}
use Rattle.krb_msg.specs.Term.{Term, Fields, tag_of, Value, Values, der, der_of_fields, Fits, AllFit}
use Rattle.krb_msg.specs.Grammar.{pa_data, sequence_of}
use Rattle.krb_msg.specs.ValueOfDer.{value_of, value_of_der}
use Rattle.krb_msg.specs.Judgement.{term_judgement}
use Rattle.krb_der.specs.declared.verdict.Verdict.TheVariants as verdict

-- ---- identifier and length octets
-- the octets do not begin with an item of a tag
abbrev pub HasNoItem : ℕ → List ℕ → Type 0
HasNoItem tag octets = (contents rest : List ℕ) → octets ≡ item tag contents ++ rest → ⊥

-- the octets are no item of a tag
abbrev pub IsNoItem : ℕ → List ℕ → Type 0
IsNoItem tag octets = (contents : List ℕ) → octets ≡ item tag contents → ⊥

-- the octets do not begin with the length octets of fewer than 2147483648 contents octets
abbrev pub HasNoLength : List ℕ → Type 0
HasNoLength octets = (size : ℕ) (rest : List ℕ) → size < 2 ^ 31 → octets ≡ length_octets size ++ rest → ⊥

-- ---- an item, from its contents
-- the item with these contents is the DER of a value that fits
pub record AreContents (term : Term) (octets : List ℕ) (value : Value term) : Type 0 where
  pub fits : Fits term value
  pub form : item (tag_of term) octets ≡ der term value

-- they are contents octets of no value
abbrev pub AreNoContents : Term → List ℕ → Type 0
AreNoContents term octets = (value : Value term) → AreContents term octets value → ⊥

-- ---- fields
-- the octets are the DER of values that fit
pub record AreFields (fields : Fields) (octets : List ℕ) (values : Values fields) : Type 0 where
  pub fit : AllFit fields values
  pub form : octets ≡ der_of_fields fields values

abbrev pub AreNoFields : Fields → List ℕ → Type 0
AreNoFields fields octets = (values : Values fields) → AreFields fields octets values → ⊥

-- the octets begin with the DER of a value that fits
pub record BeginsWithValue (term : Term) (octets : List ℕ) (value : Value term) (rest : List ℕ) : Type 0 where
  pub fits : Fits term value
  pub form : octets ≡ der term value ++ rest

abbrev pub BeginsWithNoValue : Term → List ℕ → Type 0
BeginsWithNoValue term octets = (value : Value term) (rest : List ℕ) → BeginsWithValue term octets value rest → ⊥

-- the octets begin with an OPTIONAL field, or with another tag, or with nothing
abbrev pub MayBeginWithValue : (term : Term) → List ℕ → Option (Value term) → List ℕ → Type 0
MayBeginWithValue term octets None rest = (rest ≡ octets) × (begins_with (tag_of term) octets ≡ false)
MayBeginWithValue term octets (Some value) rest = BeginsWithValue term octets value rest

-- the octets begin with the tag of a field, and with no value of it
pub record IsMalformedField (term : Term) (octets : List ℕ) : Type 0 where
  pub tag : begins_with (tag_of term) octets ≡ true
  pub none : BeginsWithNoValue term octets

-- ---- an INTEGER
-- contents of a number in a range
pub record IsNumberIn (low high : ℤ) (octets : List ℕ) (number : ℤ) : Type 0 where
  pub low_le : low ≤ℤ number
  pub le_high : number ≤ℤ high
  pub form : octets ≡ integer_octets number

abbrev pub IsNoNumberIn : ℤ → ℤ → List ℕ → Type 0
IsNoNumberIn low high octets = (number : ℤ) → IsNumberIn low high octets number → ⊥

-- ---- items one after another
-- the octets are the DER of values that fit, one after another
pub record AreItems (term : Term) (octets : List ℕ) : Type 0 where
  pub values : List (Value term)
  pub fit : AllByRecursion (Fits term) values
  pub form : octets ≡ flat_map (der term) values

-- their values
abbrev pub items_of : (term : Term) → List ℕ → List (Value term)
items_of term octets = value_of (sequence_of term) octets

-- octets that were viewed as items
pub record AreViewed (term : Term) (octets : List ℕ) : Type 0 where
  pub items : AreContents (sequence_of term) octets (items_of term octets)
  pub short : length octets < 2 ^ 31

-- the first item, and the items after it
pub record IsFirstItem (term : Term) (octets : List ℕ) (value : Value term) (rest : List ℕ) : Type 0 where
  pub items : items_of term octets ≡ value ∷ items_of term rest
  pub viewed : AreViewed term rest
  pub shorter : length rest < length octets

-- the type of the first PA-DATA, and those after it
pub record IsFirstType (octets : List ℕ) (number : ℤ) (rest : List ℕ) : Type 0 where
  pub value : Value pa_data
  pub first : IsFirstItem pa_data octets value rest
  pub same : number ≡ value.0

-- one fact if a test passes, and another one if it does not
abbrev pub IfElse : Bool → Type 0 → Type 0 → Type 0
IfElse true passed failed = passed
IfElse false passed failed = failed

-- ---- an item that octets are
-- the octets are judged whole, and are the DER of the value, which is their value
pub record IsViewOf (term : Term) (octets : List ℕ) (value : Value term) : Type 0 where
  pub whole : term_judgement term (length octets) octets ≡ verdict.Whole
  pub fits : Fits term value
  pub form : der term value ≡ octets
  pub read : value ≡ value_of_der term octets

-- they are not judged whole
abbrev pub IsNotWhole : Term → List ℕ → Type 0
IsNotWhole term octets = term_judgement term (length octets) octets ≡ verdict.Whole → ⊥
