-- Files of items that are read one after another: their items, how these end, and what a reader of them returns.
use Rattle.std.specs.Prelude.{ℕ, ◌≡◌, List, [], ◌∷◌, ◌++◌, length, Option}
use Rattle.krb_file.specs.Fields.{Source, Fault, limited}
use Rattle.krb_file.specs.FieldReaders.{Cursor, MayRemain, source_at}
use Rattle.krb_file.specs.declared.fault.FileFault.{FileFault}
use Rattle.krb_file.specs.declared.fault.FileFault.TheVariants as faults
use Rattle.krb_file.specs.declared.progress.Progress.{Progress}
use Rattle.krb_file.specs.declared.progress.Progress.TheVariants as progress

-- The items before the end or the first fault; and that end or fault.
pub record Items (A E : Type 0) : Type 0 where
  pub items : List A
  pub end : E

abbrev pub no_items : {A E : Type 0} → E → Items A E
no_items end = record { items = []; end = end }

abbrev pub with_first : {A E : Type 0} → A → Items A E → Items A E
with_first first others = record { items = first ∷ others.items; end = others.end }

-- items, and then those of what is left
abbrev pub before : {A E : Type 0} → List A → Items A E → Items A E
before given left = record { items = given ++ left.items; end = left.end }

-- An item after `count` others.
pub record IsItem {A E : Type 0} (all : Items A E) (count : ℕ) (item : A) : Type 0 where
  pub prefix : List A
  pub suffix : List A
  pub counted : length prefix ≡ count
  pub parts : all.items ≡ prefix ++ item ∷ suffix

-- There are `count` items, and then this end.
pub record EndsBy {A E : Type 0} (all : Items A E) (count : ℕ) (end : E) : Type 0 where
  pub counted : length all.items ≡ count
  pub is : all.end ≡ end

-- There are `count` items, and then this fault, as an end. Else the device failed or memory ran out.
abbrev pub FailsAfter : {A E : Type 0} → (Fault → E) → Items A E → ℕ → FileFault → Type 0
FailsAfter refused all count (faults.Refused fault) = EndsBy all count (refused fault)
FailsAfter refused all count faults.Read = Unit {0}
FailsAfter refused all count faults.Memory = Unit {0}

-- A reader under a limit returned these items: these, and then those of whatever may remain, are all items.
pub record Gave {A E : Type 0} (left : Source → Items A E) (all : Items A E) (limit : Option ℕ) (cursor : Cursor) (given : List A) : Type 0 where
  pub bounds : cursor.bounds ≡ limited limit
  pub rest : (octets : List ℕ) → MayRemain cursor octets → before given (left (source_at cursor.place octets)) ≡ all

-- the reader returned the first `count` items
abbrev pub GaveFirst : {A E : Type 0} → (Source → Items A E) → Items A E → Option ℕ → Cursor → ℕ → Type 0
GaveFirst {A} left all limit cursor count = (given : List A) × Gave left all limit cursor given × (length given ≡ count)

-- The reader returned the first `count` items and goes on, where what is left of them follows from what it keeps.
abbrev pub GoesOn : {O X A E : Type 0} → (O → Source → Items A E) → Items A E → Option ℕ → Cursor → Progress O X → ℕ → Type 0
GoesOn left all limit cursor (progress.Open kept) count = GaveFirst (left kept) all limit cursor count
GoesOn left all limit cursor (progress.Done end) count = ⊥
GoesOn left all limit cursor (progress.Failed fault) count = ⊥
