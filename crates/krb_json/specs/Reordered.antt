-- JSON values that differ in nothing but the order in which the members of objects come.
use Rattle.std.specs.Prelude.{ℕ, ◌≡◌, ◌⊎◌, List}
use Rattle.json.specs.Json.{Json, null, boolean, number, string, array, object, Items, no_items, item, Members, no_members, member}

-- members are others with one more among them
abbrev pub IsInserted : (name : List ℕ) → Json → (others members : Members) → Type 0
IsInserted name j others no_members = ⊥
IsInserted name j others (member first i members) =
    ((first ≡ name) × (i ≡ j) × (members ≡ others)) ⊎ ((rest : Members) × (others ≡ member first i rest) × IsInserted name j rest members)

abbrev mutual
  pub Reordered : (j k : Json) → Type 0
  Reordered null k = null ≡ k
  Reordered (boolean b) k = boolean b ≡ k
  Reordered (number text) k = number text ≡ k
  Reordered (string text) k = string text ≡ k
  Reordered (array items) k = (others : Items) × (k ≡ array others) × AreReordered items others
  Reordered (object members) k = (others : Members) × (k ≡ object others) × HaveOtherOrder members others

  -- items, one by one
  pub AreReordered : (items others : Items) → Type 0
  AreReordered no_items others = others ≡ no_items
  AreReordered (item j items) others = (k : Json) × (rest : Items) × (others ≡ item k rest) × Reordered j k × AreReordered items rest

  -- members, which may come in another order
  pub HaveOtherOrder : (members others : Members) → Type 0
  HaveOtherOrder no_members others = others ≡ no_members
  HaveOtherOrder (member name j members) others = (k : Json) × (rest : Members) × IsInserted name k rest others × Reordered j k × HaveOtherOrder members rest
