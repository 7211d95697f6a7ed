-- Runs that convert.
use Rattle.std.proofs.Common.{◌≡◌, ℕ, List, ◌++◌, Option, Result, refl, sym, ◌∙◌, ap, subst, append_assoc}
use Rattle.std.proofs.lemmas.Result.{IfErr-weaker}
use Rattle.std.specs.Prelude.{IfErr}
use Rattle.std.specs.Io.KnownBytes.{Appends}
use Rattle.krb_run.specs.Conversions.{Converted, after_text, Converts, FailsToConvert}
use Rattle.krb_run.specs.Runs.{WritesPrefix}
use Rattle.krb_run.specs.ConversionRules.{IsBeginning, conversion_rules}
use Rattle.krb_run.specs.Streams.{FailsBy, ListsBy}
use Rattle.krb_run.specs.declared.run.RunFault.{RunFault}
use Rattle.krb_run.specs.declared.run.RunFault.TheVariants as fault

-- a text before one before others
pub after_text-both : {E : Type 0} (first second : List ℕ) (others : Converted E) → after_text first (after_text second others) ≡ after_text (first ++ second) others
after_text-both first second others = ap (λ t. record { text = t; end = others.end }) (sym (append_assoc first second others.text))

module _ {S E : Type 0} (convert : List ℕ → Converted S) (of_whole : List ℕ → List ℕ) (GoesOn : List ℕ → Type 0) (seen : E → S) (had left written_before written_after : Option (List ℕ)) where
  -- a run has ended
  pub Converts-listed : (ended : E) → ListsBy (conversion_rules convert of_whole GoesOn seen) had left written_before written_after ended → Converts convert GoesOn had left written_before written_after (seen ended)
  Converts-listed ended l = record {
    read = l.read;
    taken = l.taken;
    added = subst (Appends written_before written_after) l.listing.listing l.added;
    ended_so = l.listing.ends.ended_so;
    all_read = l.listing.ends.all_read;
    stops = l.listing.ends.stops;
  }

  -- a run has failed, and what was written begins what whole parts become
  in_part : WritesPrefix (λ read text. IsBeginning text (of_whole read)) had left written_before written_after → WritesPrefix (λ read text. text ≡ of_whole read) had left written_before written_after
  in_part w = record {
    read = w.read;
    text = of_whole w.read;
    taken = w.taken;
    is_text = refl;
    added = record {
      prefix = w.added.prefix;
      rest = w.added.rest ++ w.is_text.rest;
      added = w.added.added;
      whole = w.is_text.parts ∙ ap (λ t. t ++ w.is_text.rest) w.added.whole ∙ append_assoc w.added.prefix w.added.rest w.is_text.rest;
    };
  }

  pub FailsToConvert-by : (failed : RunFault) → FailsBy (conversion_rules convert of_whole GoesOn seen) had left written_before written_after failed → FailsToConvert (λ read. (convert read).text) of_whole had left written_before written_after failed
  FailsToConvert-by (fault.Write error) w = w
  FailsToConvert-by (fault.Read error) w = w
  FailsToConvert-by fault.Memory w = in_part w

  pub FailsToConvert-failed : {T : Type 0} (r : Result T RunFault) → IfErr r (FailsBy (conversion_rules convert of_whole GoesOn seen) had left written_before written_after) → IfErr r (FailsToConvert (λ read. (convert read).text) of_whole had left written_before written_after)
  FailsToConvert-failed r w = IfErr-weaker r _ _ FailsToConvert-by w
