-- The paths of items, by the names of RFC 4120.
use Rattle.std.specs.Prelude.{ℕ, List, ◌++◌, codes}
use Rattle.std.specs.Fmt.{decimal}

-- a field, after the path of its SEQUENCE
abbrev pub field_path : List ℕ → List ℕ → List ℕ
field_path path name = path ++ codes "." ++ name

-- an item, by how many are before it, after the path of its SEQUENCE OF
abbrev pub element_path : List ℕ → ℕ → List ℕ
element_path path index = path ++ codes "[" ++ decimal index ++ codes "]"
