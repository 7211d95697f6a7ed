-- What a lister that converts writes of octets, and how its run ends.
use Rattle.std.specs.Prelude.{ℕ, ◌≡◌, List, ◌++◌, Option}
use Rattle.std.specs.Io.KnownBytes.{IsAtEnd}
use Rattle.krb_run.specs.Conversions.{Converted}
use Rattle.krb_run.specs.Runs.{StopsInPiece}
use Rattle.krb_run.specs.Streams.{Rules}

pub record IsBeginning (text whole : List ℕ) : Type 0 where
  pub rest : List ℕ
  pub parts : whole ≡ text ++ rest

-- how a run ends that wrote what octets become
pub record EndsConversion {S : Type 0} (convert : List ℕ → Converted S) (GoesOn : List ℕ → Type 0) (octets : List ℕ) (left : Option (List ℕ)) (ended : S) : Type 0 where
  pub ended_so : ended ≡ (convert octets).end
  pub all_read : GoesOn octets → IsAtEnd left
  pub stops : StopsInPiece GoesOn octets

-- with what the whole parts of octets become
abbrev pub conversion_rules : {S E : Type 0} → (List ℕ → Converted S) → (of_whole : List ℕ → List ℕ) → (GoesOn : List ℕ → Type 0) → (E → S) → Rules E
conversion_rules convert of_whole GoesOn seen = record {
  IsListing = λ octets text. text ≡ (convert octets).text;
  AreLines = λ octets text. IsBeginning text (of_whole octets);
  AreAllLines = λ octets text. text ≡ of_whole octets;
  Ends = λ octets text listing left ended. EndsConversion convert GoesOn octets left (seen ended);
}
