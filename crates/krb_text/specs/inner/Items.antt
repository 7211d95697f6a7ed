-- The numbers of lists as records show them.
use Rattle.std.specs.Prelude.{ℕ, ℤ, ◌≡◌, pos, Bool, false, List, [], ◌∷◌}
use Rattle.std.specs.Option.{is_none}
use Rattle.krb_registry.specs.Rows.{name_of}
use Rattle.krb_registry.specs.declared.registry.Registry.{Registry}
use Rattle.krb_msg.specs.Term.{Term, Integer, Sequence, Tagged, Required, Value}
use Rattle.krb_msg.specs.Viewed.{IsFirstItem}

-- the number that an item is, or that a SEQUENCE begins with
abbrev pub item_number : (term : Term) → Value term → ℤ
item_number (Integer low high) number = number
item_number (Tagged index term) value = item_number term value
item_number (Sequence (Required term fields)) values = item_number term values.0
item_number other value = pos 0

-- the number of the first of items that were viewed, and the items after it
pub record IsFirstNumber (term : Term) (octets : List ℕ) (number : ℤ) (rest : List ℕ) : Type 0 where
  pub value : Value term
  pub first : IsFirstItem term octets value rest
  pub same : number ≡ item_number term value

-- whether there is one number alone, and it has no name
abbrev pub is_nameless : Registry → List ℤ → Bool
is_nameless registry [] = false
is_nameless registry (number ∷ []) = is_none (name_of registry number)
is_nameless registry (first ∷ second ∷ others) = false
