-- Texts of ASCII.
use Rattle.std.proofs.Common.{◌≡◌, ℕ, List}
use Rattle.std.specs.Str.{IsAscii}

pub ascii_same : {xs ys : List ℕ} → xs ≡ ys → IsAscii ys → IsAscii xs
ascii_same e h = rw e h
