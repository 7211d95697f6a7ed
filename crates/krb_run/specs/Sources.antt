-- What a run over several sources does to its writer, and the status that it returns.
use Rattle.std.specs.Prelude.{ℕ, ◌≡◌, ◌⊎◌, ◌&&◌, max, nat_lt, not, Bool, true, false, List, [], ◌∷◌, Option, None, Some, Result, Ok, Err, IfErr}
use Rattle.std.specs.Io.KnownBytes.{Appends}
use Rattle.krb_record.specs.declared.form.Form.{Form}
use Rattle.krb_record.specs.declared.form.Base.{Base}
use Rattle.krb_record.specs.declared.form.Base.TheVariants as bases
use Rattle.krb_record.specs.Forms.{base_of, is_marked}
use Rattle.krb_record.specs.Files.{file_line}
use Rattle.krb_record.specs.Labels.{Label, no_label}
use Rattle.krb_run.specs.declared.naming.Naming.{Naming}
use Rattle.krb_run.specs.declared.naming.Naming.TheVariants as namings
use Rattle.krb_run.specs.declared.run.RunEnd.{RunEnd}
use Rattle.krb_run.specs.declared.run.RunFault.{RunFault}
use Rattle.krb_run.specs.declared.run.RunFault.TheVariants as fault
use Rattle.krb_run.specs.declared.sources.Named.{Named as NamedByCode}
use Rattle.krb_run.specs.Records.{AppendsPrefix}
use Rattle.krb_run.specs.Statuses.{status_of}

-- the result of the run over one source
abbrev pub Outcome : Type 0
Outcome = Result RunEnd RunFault

-- What a run may do: what is written before it and after it, and its result.
abbrev pub Run : Type 1
Run = Option (List ℕ) → Option (List ℕ) → Outcome → Type 0

-- ---- a line before the listing of a source

-- It was not written whole, since a write failed or memory ran out.
abbrev pub FailsLine : (line : List ℕ) → Option (List ℕ) → Option (List ℕ) → RunFault → Type 0
FailsLine line written_before written_after (fault.Read error) = ⊥
FailsLine line written_before written_after (fault.Write error) = AppendsPrefix written_before written_after line
FailsLine line written_before written_after fault.Memory = written_after ≡ written_before

-- It was written, and then the source was listed.
pub record ListsNext (line : List ℕ) (Lists : Run) (written_before written_after : Option (List ℕ)) (outcome : Outcome) : Type 0 where
  pub between : Option (List ℕ)
  pub begun : Appends written_before between line
  pub listed : Lists between written_after outcome

abbrev pub FailsFirst : (line : List ℕ) → Run
FailsFirst line written_before written_after (Ok ended) = ⊥
FailsFirst line written_before written_after (Err fault) = FailsLine line written_before written_after fault

abbrev pub ListsAfterLine : (line : List ℕ) → Run → Run
ListsAfterLine line Lists written_before written_after outcome = ListsNext line Lists written_before written_after outcome ⊎ FailsFirst line written_before written_after outcome

-- ---- with a label in each of its records

-- the label of a source, if its records have one
abbrev pub label_of : Form → (has_label : Bool) → (name : List ℕ) → Label
label_of form false name = no_label form
label_of form true name = record { form = form; file = Some name }

-- a source is listed with its label, or memory ran out for the label
abbrev pub ListsLabelled : Form → (has_label : Bool) → (name : List ℕ) → (Label → Run) → Run
ListsLabelled form has_label name Lists written_before written_after outcome =
    Lists (label_of form has_label name) written_before written_after outcome ⊎ ((outcome ≡ Err fault.Memory) × (written_after ≡ written_before))

-- ---- how sources are told apart

-- there is a record of the name before a source, and its records have a label
pub record Named : Type 0 where
  pub has_record : Bool
  pub has_label : Bool

abbrev pub named_of : NamedByCode → Named
named_of how = record { has_record = how.has_record; has_label = how.has_label }

-- rows have the name of their file if it is wanted, and objects if there are several files
abbrev pub has_label_by : Option Base → (sources : ℕ) → Bool
has_label_by None sources = true
has_label_by (Some bases.Lines) sources = false
has_label_by (Some bases.NamedLines) sources = false
has_label_by (Some bases.Json) sources = nat_lt 1 sources

-- of so many sources; where records are chosen, what chooses writes those of the names
abbrev pub names_of : Naming → Form → (sources : ℕ) → Named
names_of namings.Several form sources = record { has_record = nat_lt 1 sources && not (is_marked form); has_label = has_label_by (base_of form) sources }
names_of namings.Each form sources = record { has_record = not (is_marked form); has_label = has_label_by (base_of form) sources }
names_of namings.Labels form sources = record { has_record = false; has_label = true }

abbrev pub unnamed : Named
unnamed = record { has_record = false; has_label = false }

abbrev pub ListsAfter : Form → (has_record : Bool) → (name : List ℕ) → Run → Run
ListsAfter form false name Lists written_before written_after outcome = Lists written_before written_after outcome
ListsAfter form true name Lists written_before written_after outcome = ListsAfterLine (file_line form name) Lists written_before written_after outcome

-- a source is listed after the line of its name, if it has one, with a label, if its records have one
abbrev pub ListsOne : Form → Named → (name : List ℕ) → (Label → Run) → Run
ListsOne form how name Lists = ListsAfter form how.has_record name (ListsLabelled form how.has_label name Lists)

-- a source is listed, and a fault by which its listing ends is reported
abbrev pub Reports : (RunFault → Type 0) → Run → Run
Reports IsReported Lists written_before written_after outcome = Lists written_before written_after outcome × IfErr outcome IsReported

-- ---- all sources

-- a write that failed and running out of memory end the run; a refusal and a read that failed do not
abbrev pub ends_run : Outcome → Bool
ends_run (Ok ended) = false
ends_run (Err (fault.Read error)) = false
ends_run (Err (fault.Write error)) = true
ends_run (Err fault.Memory) = true

-- What a run over sources may do: what is written before it and after it, and the status.
abbrev pub RunOver : Type 1
RunOver = Option (List ℕ) → Option (List ℕ) → ℕ → Type 0

-- the other sources follow, unless the run has ended
abbrev pub Follow : Bool → RunOver → RunOver
Follow true Others written_before written_after status = (written_after ≡ written_before) × (status ≡ 0)
Follow false Others written_before written_after status = Others written_before written_after status

-- The first source is listed and then the others, and the status is the greater of theirs.
pub record ListsFirst (First : Run) (Others : RunOver) (written_before written_after : Option (List ℕ)) (status : ℕ) : Type 0 where
  pub between : Option (List ℕ)
  pub outcome : Outcome
  pub others : ℕ
  pub first : First written_before between outcome
  pub follow : Follow (ends_run outcome) Others between written_after others
  pub greater : status ≡ max (status_of outcome) others

-- Each source is listed, one after another, and the status is the greatest of theirs.
abbrev pub ListsEach : {S : Type 0} → (S → Run) → List S → RunOver
ListsEach Lists [] written_before written_after status = (written_after ≡ written_before) × (status ≡ 0)
ListsEach Lists (first ∷ others) written_before written_after status = ListsFirst (Lists first) (ListsEach Lists others) written_before written_after status
