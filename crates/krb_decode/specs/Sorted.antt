-- A text of lines of which some are of messages and are written, and each other one is told.
use Rattle.std.specs.Prelude.{ℕ, ◌==◌, not, Bool, true, false, if◌then◌else◌, List, [], ◌∷◌, ◌++◌, filter, flat_map}
use Rattle.krb_run.specs.declared.run.RunEnd.{RunEnd}
use Rattle.krb_run.specs.declared.run.RunEnd.TheVariants as run

-- ---- the lines of a text that have ended, each with its line feed; some octets begin the first of them
abbrev pub lines_after : (begun : List ℕ) → List ℕ → List (List ℕ)
lines_after begun [] = []
lines_after begun (octet ∷ others) = if octet == 10 then (begun ++ octet ∷ []) ∷ lines_after [] others else lines_after (begun ++ octet ∷ []) others

-- what is after the last line feed
abbrev pub begun_after : (begun : List ℕ) → List ℕ → List ℕ
begun_after begun [] = begun
begun_after begun (octet ∷ others) = if octet == 10 then begun_after [] others else begun_after (begun ++ octet ∷ []) others

-- ---- the line of a message begins with a brace (7B), and so does what has come of it
abbrev pub is_of_message : List ℕ → Bool
is_of_message [] = false
is_of_message (first ∷ others) = first == 0x7B

abbrev pub written_of : List ℕ → List ℕ
written_of line = if is_of_message line then line else []

abbrev pub is_told : List ℕ → Bool
is_told line = not (is_of_message line)

-- ---- what is written of a text: the lines of messages, and of one that has not ended what has come
unfoldable pub message_lines : List ℕ → List ℕ
message_lines text = flat_map written_of (lines_after [] text) ++ written_of (begun_after [] text)

-- what is told: each other line that has ended
unfoldable pub told_lines : List ℕ → List (List ℕ)
told_lines text = filter is_told (lines_after [] text)

-- something is told
abbrev pub is_any : List (List ℕ) → Bool
is_any [] = false
is_any (line ∷ others) = true

-- how a run ends over a text that was sorted: at once if it was refused so, and else clean if nothing was told
abbrev pub sorted_end : RunEnd → (has_told : Bool) → RunEnd
sorted_end run.RefusedAtOnce has_told = run.RefusedAtOnce
sorted_end end true = run.Refused
sorted_end end false = run.Clean
