-- What is left of the items of a file, one line after another.
use Rattle.std.proofs.Common.{◌≡◌, ℕ, suc, List, [], ◌∷◌, ◌++◌, length, drop, Option, Some, None, Result, Ok, Err, refl, sym, ◌∙◌, ap, ap₂, subst, arith, append_assoc, length-append, drop_of_length-le, drop_at}
use Rattle.std.proofs.lemmas.List.Concat.{flat_map-cons}
use Rattle.std.specs.List.{flat_map}
use Rattle.krb_file.specs.Fields.{Fault}
use Rattle.krb_file.specs.Items.{Items, IsItem, EndsBy, FailsAfter}
use Rattle.krb_file.specs.declared.fault.FileFault.{FileFault}
use Rattle.krb_file.specs.declared.fault.FileFault.TheVariants as faults
use Rattle.krb_file.specs.declared.field_path.FileItem.{FileItem}
use Rattle.krb_record.specs.Labels.{Label}
use Rattle.krb_run.specs.Extents.{fault_line}
use Rattle.krb_run.specs.Paths.{file_path}
use Rattle.krb_run.specs.declared.run.RunEnd.{RunEnd}
use Rattle.krb_run.specs.declared.run.RunFault.{RunFault}
use Rattle.krb_run.specs.Records.{AddsLine, ListsRecords, RecordListing, after_line, end_of}
use Rattle.krb_run.proofs.Records.{ListsRecords-weaker}
use Rattle.krb_run.specs.Records.{AddsRefusal}
use Rattle.krb_file_run.specs.Files.{items_left}
use Rattle.krb_file_run.specs.inner.RecordRuns.{AreLeft}

-- of the same listing less is said of what is left
pub less_said : {IsLeft : RecordListing → Type 0} (all other : RecordListing) → all ≡ other → (WasLeft : RecordListing → Type 0) (written_before written_after : Option (List ℕ)) (result : Result RunEnd RunFault) → ListsRecords all IsLeft written_before written_after result → ((left : RecordListing) → IsLeft left → WasLeft left) → ListsRecords other WasLeft written_before written_after result
less_said {IsLeft = IsLeft} all other same WasLeft written_before written_after result listed weaker = ListsRecords-weaker other IsLeft WasLeft written_before written_after result weaker (subst (λ (l : RecordListing). ListsRecords l IsLeft written_before written_after result) same listed)

-- ---- what is left of items, one after another
module _ {A E : Type 0} (line : A → List ℕ) (last : ℕ → Result E Fault → List ℕ) (place : ℕ → FileItem) (all : Items A (Result E Fault)) (count : ℕ) where
  item_left : (item : A) → IsItem all count item → items_left line last place all count ≡ after_line (line item) (items_left line last place all (suc count))
  item_left item is =
      let here : drop count all.items ≡ item ∷ is.suffix = ap (drop count) is.parts ∙ drop_at is.prefix (item ∷ is.suffix) count is.counted in
      let there : drop (suc count) all.items ≡ is.suffix = ap (drop (suc count)) (is.parts ∙ sym (append_assoc is.prefix (item ∷ []) is.suffix)) ∙ drop_at (is.prefix ++ item ∷ []) is.suffix (suc count) (omega (arith, is.counted, length-append is.prefix (item ∷ []))) in
      let lines : flat_map line (drop count all.items) ≡ line item ++ flat_map line (drop (suc count) all.items) = ap (flat_map line) here ∙ flat_map-cons line item is.suffix ∙ ap (λ (xs : List A). line item ++ flat_map line xs) (sym there) in
      ap (λ (ls : List ℕ). let it : RecordListing = record { lines = ls; last = last (length all.items) all.end; end = end_of (place (length all.items)) all.end } in it) lines

  none_left : (end : Result E Fault) → EndsBy all count end → items_left line last place all count ≡ record { lines = []; last = last count end; end = end_of (place count) end }
  none_left end ends =
      ap (λ (ls : List ℕ). let it : RecordListing = record { lines = ls; last = last (length all.items) all.end; end = end_of (place (length all.items)) all.end } in it) (ap (flat_map line) (drop_of_length-le all.items {i = count} (omega (arith, ends.counted))))
      ∙ ap₂ (λ (n : ℕ) (e : Result E Fault). let it : RecordListing = record { lines = []; last = last n e; end = end_of (place n) e } in it) ends.counted ends.is

-- ---- what a line makes of what is left
module _ {A E : Type 0} (Same : Type 0) (line : A → List ℕ) (last : ℕ → Result E Fault → List ℕ) (place : ℕ → FileItem) (all : List ℕ → Items A (Result E Fault)) (Reads : List ℕ → ℕ → Type 0) (count : ℕ) (file : List ℕ) (left : RecordListing) (is_left : AreLeft Same line last place all Reads count file left) (old new : List ℕ) where
  pub item_added : (ReadsOn : List ℕ → ℕ → Type 0) (item : A) → ((file : List ℕ) → Reads file count → IsItem (all file) count item × ReadsOn file (suc count)) → new ≡ old ++ line item → AddsLine (AreLeft Same line last place all ReadsOn (suc count) file) left old new (Ok None)
  item_added ReadsOn item promises added =
      let given = promises file is_left.reads in
      (line item, items_left line last place (all file) (suc count), added, is_left.is ∙ item_left line last place (all file) count item given.0, record { same = is_left.same; reads = given.1; is = refl })

  pub end_added : (end : Result E Fault) → ((file : List ℕ) → Reads file count → EndsBy (all file) count end) → new ≡ old ++ last count end → AddsLine (λ l. ⊥) left old new (Ok (Some (end_of (place count) end)))
  end_added end promises added =
      let is = is_left.is ∙ none_left line last place (all file) count end (promises file is_left.reads) in (
        added ∙ ap (λ (l : RecordListing). old ++ l.last) (sym is),
        ap (λ (l : RecordListing). l.lines) is,
        ap (λ (l : RecordListing). l.end) (sym is),
      )

  pub refusal_added : (label : Label) → ((f : Fault) → last count (Err f) ≡ fault_line label f (file_path (place count) f.field)) → (e : FileFault) → ((file : List ℕ) → Reads file count → FailsAfter (λ f. Err f) (all file) count e) → (ended : RunEnd) → AddsRefusal (place count) label e old new ended → AddsLine (λ l. ⊥) left old new (Ok (Some ended))
  refusal_added label line faults.Read promises ended adds = absurd adds
  refusal_added label line faults.Memory promises ended adds = absurd adds
  refusal_added label line (faults.Refused fault) promises ended adds =
      subst (λ (end : RunEnd). AddsLine (λ l. ⊥) left old new (Ok (Some end))) (sym adds.0) (end_added (Err fault) promises (adds.1 ∙ ap (λ (l : List ℕ). old ++ l) (sym (line fault))))
