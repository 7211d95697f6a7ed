-- Lists that are copied item by item.
use Rattle.std.proofs.Common.{◌≡◌, List, [], ◌∷◌, ◌++◌, map, Option, Some, None, refl, sym, ap, ◌∙◌, append_assoc}
use Rattle.std.specs.Option.{option_map}

-- the copies so far and those of the values that are left are the copies of all values
abbrev pub AreCopiesSoFar : {Seen Of Copy : Type 0} → (value : Seen → Of) → (copied : Seen → Copy) → (values left : List Of) → List Copy → Type 0
AreCopiesSoFar {Seen = Seen} {Of = Of} {Copy = Copy} value copied values left copies = (of : Of → Copy) → ((seen : Seen) → copied seen ≡ of (value seen)) → copies ++ map of left ≡ map of values

pub one_copied : {Seen Of Copy : Type 0} (value : Seen → Of) (copied : Seen → Copy) (values left others : List Of) (copies more : List Copy) (seen : Seen) (copy : Copy) → AreCopiesSoFar value copied values left copies → left ≡ value seen ∷ others → copy ≡ copied seen → more ≡ copies ++ (copy ∷ []) → AreCopiesSoFar value copied values others more
one_copied value copied values left others copies more seen copy so_far first same last of each =
    ap (λ l. l ++ map of others) last
    ∙ append_assoc copies (copy ∷ []) (map of others)
    ∙ ap (λ c. copies ++ (c ∷ map of others)) (same ∙ each seen)
    ∙ ap (λ l. copies ++ map of l) (sym first)
    ∙ so_far of each

-- ---- a value that may be left out, as a value of its term and then as one of its type
pub option_seen : {A B C : Type 0} (of : B → C) (value : A → B) (seen : Option A) → option_map (λ a. of (value a)) seen ≡ option_map of (option_map value seen)
option_seen of value None = refl
option_seen of value (Some a) = refl
