-- A run on records, one line after another.
use Rattle.std.proofs.Common.{◌≡◌, ℕ, List, [], ◌++◌, Option, Some, None, Result, Ok, Err, IfErr, ◌⊎◌, inl, inr, refl, sym, ◌∙◌, ap, subst, append_assoc}
use Rattle.std.proofs.lemmas.List.{append-nil}
use Rattle.std.specs.Io.KnownBytes.{Appends}
use Rattle.std.proofs.KnownBytes.{Appends-nil, Appends-trans}
use Rattle.krb_file.specs.declared.fault.FileFault.{FileFault}
use Rattle.krb_file.specs.declared.fault.FileFault.TheVariants as faults
use Rattle.krb_file.specs.declared.field_path.FileItem.TheVariants as items
use Rattle.krb_record.specs.Labels.{Label}
use Rattle.krb_run.specs.declared.run.RunEnd.{RunEnd}
use Rattle.krb_run.specs.declared.run.RunFault.{RunFault}
use Rattle.krb_run.specs.declared.run.RunFault.TheVariants as fault
use Rattle.krb_run.specs.Faults.{IsFaultAt, IsRead, IsWrite}
use Rattle.krb_run.specs.Records.{AddsLine, AddsRefusal, IsRefusal, RecordListing, text_of, after_line, AppendsPrefix, ListsFirst, ListsRecords, WritesSome}
use Rattle.krb_run.specs.inner.RecordRuns.{Moves, WritesBefore}

-- ---- what a run has written
-- What was written, then the text that is not written yet, and then what is left, are the listing.
pub record Listed (IsLeft : RecordListing → Type 0) (all : RecordListing) (written_before written_after : Option (List ℕ)) (text : List ℕ) : Type 0 where
  pub written : List ℕ
  pub left : RecordListing
  pub added : Appends written_before written_after written
  pub is_left : IsLeft left
  pub parts : all ≡ after_line (written ++ text) left

pub Listed-start : (IsLeft : RecordListing → Type 0) (left : RecordListing) (written_before : Option (List ℕ)) (text : List ℕ) → IsLeft left → Listed IsLeft (after_line text left) written_before written_before text
Listed-start IsLeft left written_before text is_left = record { written = []; left = left; added = Appends-nil written_before; is_left = is_left; parts = refl }

module _ (IsLeft : RecordListing → Type 0) (all : RecordListing) (written_before written_after : Option (List ℕ)) (text : List ℕ) (listed : Listed IsLeft all written_before written_after text) where
  -- the beginning of the text was written
  pub Listed-moved : (after : Option (List ℕ)) (new : List ℕ) → Moves written_after after text new → Listed IsLeft all written_before after new
  Listed-moved after new moves = record {
    written = listed.written ++ moves.0;
    left = listed.left;
    added = Appends-trans written_before written_after after listed.written moves.0 listed.added moves.1;
    is_left = listed.is_left;
    parts = listed.parts ∙ ap (λ (ls : List ℕ). after_line ls listed.left) (ap (λ (t : List ℕ). listed.written ++ t) moves.2 ∙ sym (append_assoc listed.written moves.0 new));
  }

  -- a line was added
  pub Listed-more : (IsLeftAfter : RecordListing → Type 0) (new : List ℕ) → AddsLine IsLeftAfter listed.left text new (Ok None) → Listed IsLeftAfter all written_before written_after new
  Listed-more IsLeftAfter new adds = record {
    written = listed.written;
    left = adds.1;
    added = listed.added;
    is_left = adds.4;
    parts =
        listed.parts
        ∙ ap (after_line (listed.written ++ text)) adds.3
        ∙ ap (λ (ls : List ℕ). let it : RecordListing = record { lines = ls; last = (adds.1).last; end = (adds.1).end } in it) (together (adds.1).lines)
        ∙ ap (λ (t : List ℕ). after_line (listed.written ++ t) adds.1) (sym adds.2);
  }
    where
      together : (ls : List ℕ) → (listed.written ++ text) ++ (adds.0 ++ ls) ≡ (listed.written ++ (text ++ adds.0)) ++ ls
      together ls = sym (append_assoc (listed.written ++ text) adds.0 ls) ∙ ap (λ (l : List ℕ). l ++ ls) (append_assoc listed.written text adds.0)

  -- the last line was added
  whole : (IsLeftAfter : RecordListing → Type 0) (new : List ℕ) (ended : RunEnd) → AddsLine IsLeftAfter listed.left text new (Ok (Some ended)) → text_of all ≡ listed.written ++ new
  whole IsLeftAfter new ended adds =
      ap text_of listed.parts
      ∙ ap (λ (ls : List ℕ). ((listed.written ++ text) ++ ls) ++ (listed.left).last) adds.1
      ∙ ap (λ (ls : List ℕ). ls ++ (listed.left).last) (append-nil (listed.written ++ text))
      ∙ append_assoc listed.written text (listed.left).last
      ∙ ap (λ (t : List ℕ). listed.written ++ t) (sym adds.0)

  pub Listed-ended : (IsLeftAfter WasLeft : RecordListing → Type 0) (new : List ℕ) (ended : RunEnd) (after : Option (List ℕ)) → AddsLine IsLeftAfter listed.left text new (Ok (Some ended)) → Appends written_after after new → ListsRecords all WasLeft written_before after (Ok ended)
  Listed-ended IsLeftAfter WasLeft new ended after adds added = (
    subst (Appends written_before after) (sym (whole IsLeftAfter new ended adds)) (Appends-trans written_before written_after after listed.written new listed.added added),
    adds.2 ∙ ap (λ (l : RecordListing). l.end) (sym listed.parts),
  )

  pub last-fails : (IsLeftAfter : RecordListing → Type 0) (new : List ℕ) (ended : RunEnd) (after : Option (List ℕ)) → AddsLine IsLeftAfter listed.left text new (Ok (Some ended)) → AppendsPrefix written_after after new → AppendsPrefix written_before after (text_of all)
  last-fails IsLeftAfter new ended after adds prefix = record {
    prefix = listed.written ++ prefix.prefix;
    rest = prefix.rest;
    added = Appends-trans written_before written_after after listed.written prefix.prefix listed.added prefix.added;
    whole = whole IsLeftAfter new ended adds ∙ ap (λ (t : List ℕ). listed.written ++ t) prefix.whole ∙ sym (append_assoc listed.written prefix.prefix prefix.rest);
  }

  -- a write of the text failed
  pub write-fails : (after : Option (List ℕ)) → AppendsPrefix written_after after text → AppendsPrefix written_before after (text_of all)
  write-fails after prefix = record {
    prefix = listed.written ++ prefix.prefix;
    rest = prefix.rest ++ ((listed.left).lines ++ (listed.left).last);
    added = Appends-trans written_before written_after after listed.written prefix.prefix listed.added prefix.added;
    whole =
        ap text_of listed.parts
        ∙ append_assoc (listed.written ++ text) (listed.left).lines (listed.left).last
        ∙ ap (λ (t : List ℕ). (listed.written ++ t) ++ ((listed.left).lines ++ (listed.left).last)) prefix.whole
        ∙ ap (λ (t : List ℕ). t ++ ((listed.left).lines ++ (listed.left).last)) (sym (append_assoc listed.written prefix.prefix prefix.rest))
        ∙ append_assoc (listed.written ++ prefix.prefix) prefix.rest ((listed.left).lines ++ (listed.left).last);
  }

  -- the text was not written
  Listed-stops : AppendsPrefix written_before written_after all.lines
  Listed-stops = record {
    prefix = listed.written;
    rest = text ++ (listed.left).lines;
    added = listed.added;
    whole = ap (λ (l : RecordListing). l.lines) listed.parts ∙ append_assoc listed.written text (listed.left).lines;
  }

  -- the text was written before the read that failed
  Listed-written : (WasLeft : RecordListing → Type 0) (after : Option (List ℕ)) → WasLeft listed.left → Appends written_after after text → ListsFirst all WasLeft written_before after
  Listed-written WasLeft after was added = record {
    lines = listed.written ++ text;
    left = listed.left;
    added = Appends-trans written_before written_after after listed.written text listed.added added;
    parts = listed.parts;
    is_left = was;
  }

  -- a fault, and if it is of a read the text was written before it
  pub Listed-before : (WasLeft : RecordListing → Type 0) (e : RunFault) (after : Option (List ℕ)) (kept : List ℕ) (result : Result RunEnd RunFault) → (IsRead e → WasLeft listed.left) → (IsRead e → kept ≡ text) → WritesBefore e written_after after kept result → ListsRecords all WasLeft written_before after result
  Listed-before WasLeft (fault.Read e) after kept (Ok ended) was same w = absurd w
  Listed-before WasLeft (fault.Read e) after kept (Err (fault.Read last)) was same w = Listed-written WasLeft after (was tt) (subst (Appends written_after after) (same tt) w)
  Listed-before WasLeft (fault.Read e) after kept (Err (fault.Write last)) was same w = write-fails after (subst (AppendsPrefix written_after after) (same tt) w)
  Listed-before WasLeft (fault.Read e) after kept (Err fault.Memory) was same w = absurd w
  Listed-before WasLeft (fault.Write e) after kept (Ok ended) was same w = absurd w
  Listed-before WasLeft (fault.Write e) after kept (Err last) was same w = absurd w
  Listed-before WasLeft fault.Memory after kept (Ok ended) was same w = absurd w
  Listed-before WasLeft fault.Memory after kept (Err last) was same w =
      subst (λ (f : RunFault). ListsRecords all WasLeft written_before after (Err f)) (sym w.0) (subst (λ (a : Option (List ℕ)). AppendsPrefix written_before a all.lines) (sym w.1) Listed-stops)

-- a write failed
pub write-fault : (all : RecordListing) (WasLeft : RecordListing → Type 0) (written_before after : Option (List ℕ)) (e : RunFault) → IsWrite e → AppendsPrefix written_before after (text_of all) → ListsRecords all WasLeft written_before after (Err e)
write-fault all WasLeft written_before after (fault.Write e) is prefix = prefix
write-fault all WasLeft written_before after (fault.Read e) is prefix = absurd is
write-fault all WasLeft written_before after fault.Memory is prefix = absurd is

-- less may be said of what is left
pub ListsRecords-weaker : (all : RecordListing) (IsLeft WasLeft : RecordListing → Type 0) (written_before written_after : Option (List ℕ)) (result : Result RunEnd RunFault) → ((left : RecordListing) → IsLeft left → WasLeft left) → ListsRecords all IsLeft written_before written_after result → ListsRecords all WasLeft written_before written_after result
ListsRecords-weaker all IsLeft WasLeft written_before written_after (Ok ended) weaker l = l
ListsRecords-weaker all IsLeft WasLeft written_before written_after (Err (fault.Read e)) weaker l = record { lines = l.lines; left = l.left; added = l.added; parts = l.parts; is_left = weaker l.left l.is_left }
ListsRecords-weaker all IsLeft WasLeft written_before written_after (Err (fault.Write e)) weaker l = l
ListsRecords-weaker all IsLeft WasLeft written_before written_after (Err fault.Memory) weaker l = l

-- What is written before a fault changes it only to that of a write.
unread : (e : RunFault) (written_before written_after : Option (List ℕ)) (text : List ℕ) (result : Result RunEnd RunFault) → IsRead e → WritesBefore e written_before written_after text result → IfErr result (λ f. IsRead f ⊎ IsWrite f)
unread (fault.Read e) written_before written_after text (Ok ended) is w = tt
unread (fault.Read e) written_before written_after text (Err (fault.Read last)) is w = inl tt
unread (fault.Read e) written_before written_after text (Err (fault.Write last)) is w = inr tt
unread (fault.Read e) written_before written_after text (Err fault.Memory) is w = absurd w
unread (fault.Write e) written_before written_after text result is w = absurd is
unread fault.Memory written_before written_after text result is w = absurd is

no_memory : (e : RunFault) (written_before written_after : Option (List ℕ)) (text : List ℕ) (result : Result RunEnd RunFault) → e ≡ fault.Memory → WritesBefore e written_before written_after text result → IfErr result (λ f. (f ≡ fault.Memory) ⊎ IsWrite f)
no_memory (fault.Read e) written_before written_after text result is w = absurd (subst IsRead is tt)
no_memory (fault.Write e) written_before written_after text result is w = absurd (subst IsWrite is tt)
no_memory fault.Memory written_before written_after text (Ok ended) is w = tt
no_memory fault.Memory written_before written_after text (Err last) is w = inl w.0

pub fault_stays : (cause : FileFault) (e : RunFault) (written_before written_after : Option (List ℕ)) (text : List ℕ) (result : Result RunEnd RunFault) → IsFaultAt cause e → WritesBefore e written_before written_after text result → IfErr result (λ f. IsFaultAt cause f ⊎ IsWrite f)
fault_stays faults.Read = unread
fault_stays (faults.Refused refusal) = no_memory
fault_stays faults.Memory = no_memory

-- memory ran out before anything was written
pub none_written : (all : RecordListing) (WasLeft : RecordListing → Type 0) (written_before : Option (List ℕ)) (e : RunFault) → e ≡ fault.Memory → ListsRecords all WasLeft written_before written_before (Err e)
none_written all WasLeft written_before e is = subst (λ (f : RunFault). ListsRecords all WasLeft written_before written_before (Err f)) (sym is) (record { prefix = []; rest = all.lines; added = Appends-nil written_before; whole = refl })

-- a file of which nothing but its refusal is listed
pub refusal_is : (label : Label) (fault : FileFault) (listing : RecordListing) (text : List ℕ) (ended : RunEnd) → IsRefusal label fault listing → AddsRefusal items.File label fault [] text ended → (text ≡ text_of listing) × (ended ≡ listing.end)
refusal_is label faults.Read listing text ended is adds = absurd adds
refusal_is label faults.Memory listing text ended is adds = absurd adds
refusal_is label (faults.Refused fault) listing text ended is adds = (adds.1 ∙ ap text_of (sym is), adds.0 ∙ ap (λ (l : RecordListing). l.end) (sym is))

-- ---- what is written only grows
pub some-none : (written : Option (List ℕ)) → WritesSome written written
some-none written = ([], Appends-nil written)

pub some-same : (written_before written_after : Option (List ℕ)) → written_after ≡ written_before → WritesSome written_before written_after
some-same written_before written_after same = subst (WritesSome written_before) (sym same) (some-none written_before)

pub some-then : (written_before written_after after : Option (List ℕ)) → WritesSome written_before written_after → WritesSome written_after after → WritesSome written_before after
some-then written_before written_after after first second = (first.0 ++ second.0, Appends-trans written_before written_after after first.0 second.0 first.1 second.1)

pub some-moved : (written_before written_after : Option (List ℕ)) (old new : List ℕ) → Moves written_before written_after old new → WritesSome written_before written_after
some-moved written_before written_after old new moves = (moves.0, moves.1)

pub some-prefix : (written_before written_after : Option (List ℕ)) (text : List ℕ) → AppendsPrefix written_before written_after text → WritesSome written_before written_after
some-prefix written_before written_after text prefix = (prefix.prefix, prefix.added)

-- before a fault
pub some-before : (e : RunFault) (written_before written_after : Option (List ℕ)) (text : List ℕ) (result : Result RunEnd RunFault) → WritesBefore e written_before written_after text result → WritesSome written_before written_after
some-before (fault.Read e) written_before written_after text (Ok ended) w = absurd w
some-before (fault.Read e) written_before written_after text (Err (fault.Read last)) w = (text, w)
some-before (fault.Read e) written_before written_after text (Err (fault.Write last)) w = some-prefix written_before written_after text w
some-before (fault.Read e) written_before written_after text (Err fault.Memory) w = absurd w
some-before (fault.Write e) written_before written_after text (Ok ended) w = absurd w
some-before (fault.Write e) written_before written_after text (Err last) w = absurd w
some-before fault.Memory written_before written_after text (Ok ended) w = absurd w
some-before fault.Memory written_before written_after text (Err last) w = some-same written_before written_after w.1
