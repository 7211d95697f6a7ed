-- What is left of a reader whose first octets were read.
use Rattle.std.specs.Prelude.{ℕ, ◌≡◌, ◌≤◌, min, List, [], take, drop, Option, Some, ◌++◌, None}
use Rattle.std.specs.Io.KnownBytes.{prepend_known}
use Rattle.krb_run.specs.declared.begun.Begun.{Begun}
use Rattle.krb_run.specs.declared.begun.Then.{Then}
use Rattle.krb_run.specs.declared.piece.Piece.{Piece}
use Rattle.krb_run.specs.declared.begun.Then.TheVariants.{Others, End, Fault}

-- octets that were read and are to be given
abbrev pub octets_of : Piece → List ℕ
octets_of piece = drop piece.given (take piece.filled piece.room.items)

-- the first of those that a reader has, which tell what it is
abbrev pub first_of : {R : Type 0} → Begun R → List ℕ
first_of begun = take 16 (octets_of begun.piece)

-- what follows them
abbrev pub others_of : Then → Option (List ℕ) → Option (List ℕ)
others_of Others others = others
others_of End others = Some []
others_of (Fault error) others = others

abbrev pub begun_remaining : {R : Type 0} → (R → Option (List ℕ)) → Begun R → Option (List ℕ)
begun_remaining remaining begun = prepend_known (octets_of begun.piece) (others_of begun.then (remaining begun.reader))

-- what a reader has begins with octets, as far as it is known
abbrev pub BeginsWith : (first : List ℕ) → Option (List ℕ) → Type 0
BeginsWith first None = Unit {0}
BeginsWith first (Some octets) = (rest : List ℕ) × (octets ≡ first ++ rest)

-- As many octets are there as are awaited, or 16, unless the reader has ended or a read of it failed.
abbrev pub IsEnough : Then → (least size : ℕ) → Type 0
IsEnough Others least size = min least 16 ≤ size
IsEnough End least size = Unit {0}
IsEnough (Fault error) least size = Unit {0}
