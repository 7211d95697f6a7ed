-- What follows a beginning of a text.
use Rattle.std.specs.Prelude.{ℕ, List, length, take, drop, Option, Some, None, codes, if◌then◌else◌}
use Rattle.std.specs.Str.{bytes_eq}

abbrev pub after : List ℕ → List ℕ → Option (List ℕ)
after beginning text = if bytes_eq (take (length beginning) text) beginning then Some (drop (length beginning) text) else None

-- what follows a kind and a dot
abbrev pub after_dot : Option (List ℕ) → Option (List ℕ)
after_dot None = None
after_dot (Some text) = after (codes ".") text

abbrev pub after_kind : List ℕ → List ℕ → Option (List ℕ)
after_kind kind word = after_dot (after kind word)
