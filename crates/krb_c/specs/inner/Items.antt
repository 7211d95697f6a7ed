-- An item of a file that is read, and whose octets are added.
use Rattle.std.specs.Prelude.{ℕ, ◌≡◌, ◌+◌, Bool, true, false, List, Result}
use Rattle.krb_file.specs.FieldReaders.{Cursor, MayRemain, source_at}
use Rattle.krb_file.specs.Fields.{Fault, Reader, Source}
use Rattle.krb_file.specs.declared.fault.FileFault.{FileFault}
use Rattle.krb_file.specs.declared.fault.FileFault.TheVariants as faults
use Rattle.krb_c.specs.FileSpans.{read_and}
use Rattle.krb_c.specs.Spans.{Spanned, both, refused_up_to}
use Rattle.krb_c.specs.inner.Adding.{Adds}
use Rattle.krb_c.specs.declared.spans.Spans.{Spans}

-- a refusal was added
abbrev pub AddsFault : FileFault → (all : ℕ) → (old new : Spans) → Type 0
AddsFault (faults.Refused refusal) all old new = Adds (refused_up_to refusal.begin all) old new
AddsFault faults.Read all old new = ⊥
AddsFault faults.Memory all old new = ⊥

-- What is read of octets that may have remained begins with this, and others follow in whatever may remain now, or it is this alone.
abbrev pub BeginsBy : {A : Type 0} → Reader A → (step : Result (A × Source) Fault → (Source → Spanned) → Spanned) → (old new : Cursor) → (first : Spanned) → (more : Bool) → Type 0
BeginsBy reader step old new first true =
    (new.bounds ≡ old.bounds) × ((rest : List ℕ) → MayRemain new rest → (octets : List ℕ) × MayRemain old octets × ((next : Source → Spanned) → step (reader old.bounds (source_at old.place octets)) next ≡ both first (next (source_at new.place rest))))
BeginsBy reader step old new first false =
    (octets : List ℕ) × MayRemain old octets × ((next : Source → Spanned) → step (reader old.bounds (source_at old.place octets)) next ≡ first)

pub record AddsItem {A : Type 0} (reader : Reader A) (is_item : A → Bool) (after all : ℕ) (old new : Cursor) (old_spans new_spans : Spans) (more : Bool) : Type 0 where
  pub first : Spanned
  pub adds : Adds first old_spans new_spans
  pub begins : BeginsBy reader (read_and is_item (old.place + after) all) old new first more
