-- The lines of a text.
use Rattle.std.specs.Prelude.{ℕ, ◌==◌, ◌||◌, Bool, List, [], ◌∷◌}
use Rattle.std.specs.List.{list_all, slice_split}

-- what is before, between and after the line feeds
abbrev pub parts : List ℕ → List (List ℕ)
parts text = slice_split (λ octet. octet == 10) text

abbrev pub without_empty_last : List (List ℕ) → List (List ℕ)
without_empty_last [] = []
without_empty_last ([] ∷ []) = []
without_empty_last (line ∷ lines) = line ∷ without_empty_last lines

-- the lines of a text: what comes before each line feed, and the rest if it is not empty
abbrev pub lines_of : List ℕ → List (List ℕ)
lines_of text = without_empty_last (parts text)

-- those that end in it
abbrev pub ended_of : List (List ℕ) → List (List ℕ)
ended_of [] = []
ended_of (last ∷ []) = []
ended_of (line ∷ next ∷ lines) = line ∷ ended_of (next ∷ lines)

-- what is after the last line feed
abbrev pub last_of : List (List ℕ) → List ℕ
last_of [] = []
last_of (last ∷ []) = last
last_of (line ∷ next ∷ lines) = last_of (next ∷ lines)

-- a space, a tab and CR
abbrev pub is_blank : ℕ → Bool
is_blank octet = octet == 32 || octet == 9 || octet == 13

abbrev pub is_blank_line : List ℕ → Bool
is_blank_line line = list_all is_blank line
