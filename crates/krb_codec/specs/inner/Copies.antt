-- Lists that are copied, by what is known of a copy of each item.
use Rattle.std.specs.Prelude.{◌≡◌, List, map, Option}
use Rattle.std.specs.Option.{option_map}

-- The items whose values as values of a term are these, in order: `value` is the value of a view, and `copied` the item that is copied out of it.
abbrev pub AreCopies : {Seen Of Copy : Type 0} → (value : Seen → Of) → (copied : Seen → Copy) → List Of → List Copy → Type 0
AreCopies {Seen = Seen} {Of = Of} {Copy = Copy} value copied values copies = (of : Of → Copy) → ((seen : Seen) → copied seen ≡ of (value seen)) → copies ≡ map of values

-- and of a list that may be left out
abbrev pub MayBeCopies : {Seen Of Copy : Type 0} → (value : Seen → Of) → (copied : Seen → Copy) → Option (List Of) → Option (List Copy) → Type 0
MayBeCopies {Seen = Seen} {Of = Of} {Copy = Copy} value copied values copies = (of : Of → Copy) → ((seen : Seen) → copied seen ≡ of (value seen)) → copies ≡ option_map (map of) values
