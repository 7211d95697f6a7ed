-- The first octet of the name that a word shows.
use Rattle.std.specs.Prelude.{ℕ, ◌≡◌, List, [], ◌∷◌, Option, Some, None}
use Rattle.std.specs.Borrow.{Bor}
use Rattle.krb_words.specs.Names.{named}

-- an octet and the text after what shows it, or nothing
abbrev pub IsFirstNamed : List ℕ → Option (ℕ × Bor (List ℕ)) → Type 0
IsFirstNamed text None = named text ≡ []
IsFirstNamed text (Some first) = named text ≡ first.0 ∷ named first.1.now
