-- What is chosen of a listing.
use Rattle.std.proofs.Common.{◌≡◌, ◌∙◌, ℕ, Bool, false, List, [], ◌++◌, Option, Some, None, Result, Ok, Err, inl, inr, refl, sym, ap, subst}
use Rattle.std.specs.Prelude.{IfErr, IfSome, OnErr, OnOk}
use Rattle.std.specs.Io.KnownBytes.{Appends}
use Rattle.std.specs.declared.io.Error.{Error}
use Rattle.krb_choice.specs.Choices.{Choice}
use Rattle.krb_choosing.specs.Listings.{begun_after, chosen_after, chosen_listing, told_listing}
use Rattle.krb_choosing.specs.Writes.{AppendsFirst}
use Rattle.krb_choosing.specs.inner.Chooser.{Begins}
use Rattle.krb_choosing.proofs.Taken.{listing-append}
use Rattle.krb_choosing.proofs.Writes.{begin-more, begin-of}
use Rattle.krb_run.proofs.Transfers.{whole-prefix}
use Rattle.krb_run.specs.Faults.{IsWrite}
use Rattle.krb_run.specs.Records.{AppendsPrefix}
use Rattle.krb_run.specs.Sources.{Outcome, Run}
use Rattle.krb_run.specs.declared.run.RunFault.{RunFault}
use Rattle.krb_run.specs.declared.run.RunFault.TheVariants as fault
use Rattle.krbls.specs.Commands.{FailsToWrite, ListsChosen, ListsTo, TellsLast, WritesChosen}
use Rattle.krbls.specs.Program.{ListsAfterName, NamesSource}

prefix-of : (before after : Option (List ℕ)) (text : List ℕ) → Begins before after text → AppendsPrefix before after text
prefix-of before after text b = record { prefix = b.0; rest = b.1; added = b.2; whole = b.3 }

-- ---- what a writer was given, after numbers that tell which it is
-- as much as a write of octets gave it, whatever it returned
pub given-part : {T : Type 0} (result : Result T RunFault) (old new octets : List ℕ) → OnOk result (Appends (Some old) (Some new) octets) → OnErr result (AppendsPrefix (Some old) (Some new) octets) → AppendsPrefix (Some old) (Some new) octets
given-part (Ok done) old new octets all part = whole-prefix (Some old) (Some new) octets all
given-part (Err failed) old new octets all part = part

pub lists-to : (Lists : Run) (old new listing : List ℕ) (result : Outcome) → new ≡ old ++ listing → Lists (Some old) (Some new) result → ListsTo Lists listing result
lists-to Lists old new listing result is lists = record { had = old; lists = subst (λ (t : List ℕ). Lists (Some old) (Some t) result) is lists }

module _ (c c' : Choice) (goes_on goes_on' : Bool) (given listing : List ℕ) (same-choice : c' ≡ c) (same-goes-on : goes_on' ≡ goes_on) (is : given ≡ listing) where
  pub same-told : told_listing c' goes_on' given ≡ told_listing c goes_on listing
  same-told = ap (λ (k : Choice). told_listing k goes_on' given) same-choice ∙ ap (λ (b : Bool). told_listing c b given) same-goes-on ∙ ap (told_listing c goes_on) is

  pub same-chosen : (before before' after after' : Option (List ℕ)) (P : Option (List ℕ) → Option (List ℕ) → List ℕ → Type 0) → before' ≡ before → after ≡ after' → P before' after' (chosen_listing c' goes_on' given) → P before after (chosen_listing c goes_on listing)
  same-chosen before before' after after' P same-before same-after p =
      subst (λ (b : Option (List ℕ)). P b after (chosen_listing c goes_on listing)) same-before
      (subst (λ (a : Option (List ℕ)). P before' a (chosen_listing c goes_on listing)) (sym same-after)
      (subst (P before' after') (ap (λ (k : Choice). chosen_listing k goes_on' given) same-choice ∙ ap (λ (b : Bool). chosen_listing c b given) same-goes-on ∙ ap (chosen_listing c goes_on) is) p))

-- ---- what is written
-- all that is chosen was written, whatever the run returned
writes-all : (chosen : List ℕ) (before after : Option (List ℕ)) (outcome : Outcome) → Appends before after chosen → WritesChosen chosen before after outcome
writes-all chosen before after (Ok end) all = all
writes-all chosen before after (Err (fault.Read e)) all = all
writes-all chosen before after (Err (fault.Write e)) all = whole-prefix before after chosen all
writes-all chosen before after (Err fault.Memory) all = all

module _ (c : Choice) (goes_on : Bool) (before after : Option (List ℕ)) (listing : List ℕ) where
  -- a run ended, and a write may have failed
  pub chosen-by : (IsTold : List ℕ → Type 0) (Lists : Run) (result outcome : Outcome) (line : List ℕ) (failed : Option Error) → ListsTo Lists listing result → (failed ≡ None → outcome ≡ result) → IfSome failed (λ e. outcome ≡ Err (fault.Write e))
      → (failed ≡ None → Appends before after (chosen_listing c goes_on listing)) → AppendsFirst before after (chosen_listing c goes_on listing) → (failed ≡ None → line ≡ told_listing c goes_on listing) → TellsLast IsTold line outcome
      → ListsChosen c goes_on IsTold Lists before after outcome
  chosen-by IsTold Lists result outcome line None listed same is-fault all first is-line told = record {
    listing = listing;
    result = result;
    listed = listed;
    chosen = writes-all (chosen_listing c goes_on listing) before after outcome (all refl);
    told = subst (λ (l : List ℕ). TellsLast IsTold l outcome) (is-line refl) told;
    ends = inl (same refl);
  }
  chosen-by IsTold Lists result outcome line (Some e) listed same is-fault all first is-line told = record {
    listing = listing;
    result = result;
    listed = listed;
    chosen = subst (WritesChosen (chosen_listing c goes_on listing) before after) (sym is-fault) (prefix-of before after (chosen_listing c goes_on listing) (begin-of before after (chosen_listing c goes_on listing) first));
    told = subst (λ (o : Outcome). TellsLast IsTold (told_listing c goes_on listing) o) (sym is-fault) tt;
    ends = inr (subst FailsToWrite (sym is-fault) tt);
  }

module _ (c : Choice) (before after : Option (List ℕ)) (line part rest : List ℕ) (parts : line ≡ part ++ rest) where
  more : chosen_listing c false line ≡ chosen_listing c false part ++ chosen_after c false (begun_after [] part) rest
  more = ap (chosen_listing c false) parts ∙ listing-append c false part rest (begun_after [] part) refl

  in-part : Begins before after (chosen_listing c false part) → AppendsPrefix before after (chosen_listing c false line)
  in-part b = prefix-of before after (chosen_listing c false line) (subst (λ (t : List ℕ). Begins before after t) (sym more) (begin-more before after (chosen_listing c false part) (chosen_after c false (begun_after [] part) rest) b))

  unfailed : (outcome : Result (Unit {0}) RunFault) → OnOk outcome (part ≡ line) → IfErr outcome IsWrite → Appends before after (chosen_listing c false part) → AppendsFirst before after (chosen_listing c false part) → NamesSource (Some (chosen_listing c false line)) before after outcome
  unfailed (Ok done) whole is-write all first = subst (λ (t : List ℕ). Appends before after (chosen_listing c false t)) whole all
  unfailed (Err (fault.Read e)) whole is-write all first = absurd is-write
  unfailed (Err (fault.Write e)) whole is-write all first = in-part (begin-of before after (chosen_listing c false part) first)
  unfailed (Err fault.Memory) whole is-write all first = absurd is-write

  -- the record of a name was written, and a write may have failed
  pub named-by : (wrote outcome : Result (Unit {0}) RunFault) (failed : Option Error) → OnOk wrote (part ≡ line) → IfErr wrote IsWrite → (failed ≡ None → outcome ≡ wrote) → IfSome failed (λ e. outcome ≡ Err (fault.Write e))
      → (failed ≡ None → Appends before after (chosen_listing c false part)) → AppendsFirst before after (chosen_listing c false part) → NamesSource (Some (chosen_listing c false line)) before after outcome
  named-by wrote outcome None whole is-write same is-fault all first =
      subst (NamesSource (Some (chosen_listing c false line)) before after) (sym (same refl)) (unfailed wrote whole is-write (all refl) first)
  named-by wrote outcome (Some e) whole is-write same is-fault all first =
      subst (NamesSource (Some (chosen_listing c false line)) before after) (sym is-fault) (in-part (begin-of before after (chosen_listing c false part) first))

-- ---- what follows the record of a name
module _ (Lists : Run) (before : Option (List ℕ)) where
  pub after-name : (line : Option (List ℕ)) (between after : Option (List ℕ)) (done : Unit {0}) (outcome : Outcome) → NamesSource line before between (Ok done) → Lists between after outcome → ListsAfterName line Lists before after outcome
  after-name None between after done outcome n listed = subst (λ (w : Option (List ℕ)). Lists w after outcome) n.1 listed
  after-name (Some line) between after done outcome n listed = inl (record { between = between; begun = n; listed = listed })

  pub unnamed : (line : Option (List ℕ)) (after : Option (List ℕ)) (failed : RunFault) → NamesSource line before after (Err failed) → ListsAfterName line Lists before after (Err failed)
  unnamed None after failed n = let e = n.0 in cc
  unnamed (Some line) after failed n = inr n
