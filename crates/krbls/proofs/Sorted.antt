-- A text that was sorted as it was decoded.
use Rattle.std.proofs.Common.{◌≡◌, ◌∙◌, Bool, ℕ, List, Option, ap, subst}
use Rattle.std.specs.Prelude.{All}
use Rattle.std.specs.Io.KnownBytes.{Appends}
use Rattle.krb_decode.specs.Sorted.{is_any, message_lines, told_lines}
use Rattle.krb_run.specs.Sources.{Outcome, Run}
use Rattle.krbls.specs.Commands.{ListsTo}
use Rattle.krbls.specs.Program.{DecodesSorted, sorted_outcome}

-- what was given to what sorts is the text
pub sorted-by : (IsTold : List ℕ → Type 0) (Decodes : Run) (before before' after : Option (List ℕ)) (text given : List ℕ) (result outcome : Outcome) (has_told : Bool) → given ≡ text → before' ≡ before → ListsTo Decodes text result → Appends before' after (message_lines given) → ∥ All IsTold (told_lines given) ∥₁
    → has_told ≡ is_any (told_lines given) → outcome ≡ sorted_outcome result has_told → DecodesSorted IsTold Decodes before after outcome
sorted-by IsTold Decodes before before' after text given result outcome has_told is same decoded written told has ends = record {
  text = text;
  result = result;
  decoded = decoded;
  written = subst (λ (b : Option (List ℕ)). Appends b after (message_lines text)) same (subst (λ (t : List ℕ). Appends before' after (message_lines t)) is written);
  told = subst (λ (t : List ℕ). ∥ All IsTold (told_lines t) ∥₁) is told;
  ends = ends ∙ ap (sorted_outcome result) (has ∙ ap (λ (t : List ℕ). is_any (told_lines t)) is);
}
