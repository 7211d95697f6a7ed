-- Items that are read one after another: how each step changes what is left of them.
use Rattle.std.proofs.Common.{◌≡◌, ℕ, zero, suc, ◌<◌, ◌≤◌, Option, Result, Ok, Err, List, [], ◌∷◌, ◌++◌, length, sym, ◌∙◌, ap, subst, arith, append_assoc, append-nil, length-append}
use Rattle.krb_file.specs.Fields.{Source, Fault, Bounds, Reader, limited, Fails, IsStreamFaultIn}
use Rattle.krb_file.specs.FieldReaders.{Cursor, MayRemain, source_at, HasRead, FailsBy}
use Rattle.krb_file.specs.Items.{Items, no_items, with_first, before, IsItem, EndsBy, FailsAfter, Gave, GaveFirst}
use Rattle.krb_file.specs.declared.fault.FileFault.{FileFault}
use Rattle.krb_file.specs.declared.fault.FileFault.TheVariants as faults
use Rattle.krb_file.proofs.FieldReaders.{some_rest}

-- ---- Steps up to a bound: any bound is as good that is not less than the size of what is left.
module _ {P X : Type 0} (within : ℕ → P → X) (unroll : P → (P → X) → X) (size : P → ℕ) (step : (bound : ℕ) (p : P) → within (suc bound) p ≡ unroll p (within bound))
    (stops : (bound : ℕ) (p : P) → size p ≡ 0 → within bound p ≡ within zero p) (goes : (p : P) (f g : P → X) → ((q : P) → size q < size p → f q ≡ g q) → unroll p f ≡ unroll p g) where
  within-same : (b c : ℕ) (p : P) → size p ≤ b → size p ≤ c → within b p ≡ within c p
  within-same zero c p l m = sym (stops c p (omega (arith, l)))
  within-same (suc b) zero p l m = stops (suc b) p (omega (arith, m))
  within-same (suc b) (suc c) p l m =
      step b p ∙ goes p (within b) (within c) (λ q less. within-same b c q (omega (arith, l, less)) (omega (arith, m, less))) ∙ sym (step c p)

  pub unrolls : (p : P) → within (size p) p ≡ unroll p (λ q. within (size q) q)
  unrolls p =
      within-same (size p) (suc (size p)) p (omega arith) (omega arith) ∙ step (size p) p
      ∙ goes p (within (size p)) (λ q. within (size q) q) (λ q less. within-same (size p) (size q) q (omega (arith, less)) (omega arith))

pub regroup : {A E : Type 0} (given : List A) (x : A) (left : Items A E) → before given (with_first x left) ≡ before (given ++ x ∷ []) left
regroup {A} {E} given x left = ap (λ (xs : List A). let it : Items A E = record { items = xs; end = left.end } in it) (sym (append_assoc given (x ∷ []) left.items))

all_given : {A E : Type 0} (given : List A) (end : E) → before given (no_items end) ≡ record { items = given; end = end }
all_given {A} {E} given end = ap (λ (xs : List A). let it : Items A E = record { items = xs; end = end } in it) (append-nil given)

ends_by : {A E : Type 0} (all : Items A E) (given : List A) (end : E) (count : ℕ) → all ≡ record { items = given; end = end } → length given ≡ count → EndsBy all count end
ends_by {A} {E} all given end count is counted = record { counted = ap (λ (i : Items A E). length i.items) is ∙ counted; is = ap (λ (i : Items A E). i.end) is }

-- ---- A step of a reader: what is left follows from what it reads.
module _ {X A E : Type 0} (step : Reader X) (limit : Option ℕ) (left : Source → Items A E) (after : Result (X × Source) Fault → Items A E) (law : (s : Source) → left s ≡ after (step (limited limit) s)) (all : Items A E) (old : Cursor) where
  here : (given : List A) → Gave left all limit old given → (octets : List ℕ) → MayRemain old octets → (r : Result (X × Source) Fault) → step old.bounds (source_at old.place octets) ≡ r → before given (after r) ≡ all
  here given gave octets there r e =
      let s = source_at old.place octets in
      let is : step (limited limit) s ≡ r = subst (λ (k : Bounds). step k s ≡ r) gave.bounds e in
      ap (λ (x : Result (X × Source) Fault). before given (after x)) (sym is) ∙ ap (before given) (sym (law s)) ∙ gave.rest octets there

  -- others are left, after the items that were given or more
  pub goes_on : (given more : List A) → Gave left all limit old given → (x : X) (new : Cursor) (others : Source → Items A E) → HasRead step x old new → ((t : Source) → before given (after (Ok (x, t))) ≡ before more (others t)) → Gave others all limit new more
  goes_on given more gave x new others read is = record {
    bounds = read.same_bounds ∙ gave.bounds;
    rest = λ octets there. let a = read.from octets there in sym (is (source_at new.place octets)) ∙ here given gave a.0 a.1 (Ok (x, source_at new.place octets)) a.2;
  }

  pub item_read : (given : List A) → Gave left all limit old given → (x : X) (item : A) (new : Cursor) (others : Source → Items A E) → HasRead step x old new → ((t : Source) → after (Ok (x, t)) ≡ with_first item (others t)) → Gave others all limit new (given ++ item ∷ [])
  item_read given gave x item new others read is = goes_on given (given ++ item ∷ []) gave x new others read (λ t. ap (before given) (is t) ∙ regroup given item (others t))

  pub end_read : (given : List A) → Gave left all limit old given → (x : X) (end : ℕ → E) (new : Cursor) → HasRead step x old new → ((t : Source) → after (Ok (x, t)) ≡ no_items (end t.place)) → all ≡ record { items = given; end = end new.place }
  end_read given gave x end new read is =
      let now = some_rest new in
      let a = read.from now.rest now.there in
      let t = source_at new.place now.rest in
      sym (here given gave a.0 a.1 (Ok (x, t)) a.2) ∙ ap (before given) (is t) ∙ all_given given (end new.place)

  fault_met : (given : List A) → Gave left all limit old given → (refused : Fault → E) (fault : Fault) (MayFail : Type 0) → FailsBy (faults.Refused fault) step MayFail old → ((f : Fault) → after (Err f) ≡ no_items (refused f)) → all ≡ record { items = given; end = refused fault }
  fault_met given gave refused fault MayFail fails is =
      sym (here given gave fails.octets fails.there (Err fault) fails.refused) ∙ ap (before given) (is fault) ∙ all_given given (refused fault)

  -- what is made of all items, as the function that reads them by a loop fails
  pub loop_fails : {B : Type 0} (given : List A) → Gave left all limit old given → (refused : Fault → E) (made : Items A E → Result B Fault) (e : FileFault) → FailsBy e step ⊥ old → ((f : Fault) → after (Err f) ≡ no_items (refused f)) → ((f : Fault) → made (record { items = given; end = refused f }) ≡ Err f) → Fails e (made all)
  loop_fails given gave refused made faults.Memory fails is errs = tt
  loop_fails given gave refused made faults.Read fails is errs = absurd fails
  loop_fails given gave refused made (faults.Refused fault) fails is errs = ap made (fault_met given gave refused fault ⊥ fails is) ∙ errs fault

  -- ---- of a reader that counts
  pub item_given : (count : ℕ) → GaveFirst left all limit old count → (x : X) (item : A) (new : Cursor) (others : Source → Items A E) → HasRead step x old new → ((t : Source) → after (Ok (x, t)) ≡ with_first item (others t)) → IsItem all count item × GaveFirst others all limit new (suc count)
  item_given count reads x item new others read is =
      let more = item_read reads.0 reads.1 x item new others read is in
      let now = some_rest new in
      let left = others (source_at new.place now.rest) in (
        record {
          prefix = reads.0;
          suffix = left.items;
          counted = reads.2;
          parts = sym (ap (λ (i : Items A E). i.items) (more.rest now.rest now.there)) ∙ append_assoc reads.0 (item ∷ []) left.items;
        },
        (reads.0 ++ item ∷ [], more, omega (arith, length-append reads.0 (item ∷ []), reads.2)),
      )

  pub end_given : (count : ℕ) → GaveFirst left all limit old count → (x : X) (end : ℕ → E) (new : Cursor) → HasRead step x old new → ((t : Source) → after (Ok (x, t)) ≡ no_items (end t.place)) → EndsBy all count (end new.place)
  end_given count reads x end new read is = ends_by all reads.0 (end new.place) count (end_read reads.0 reads.1 x end new read is) reads.2

  pub fault_given : (count : ℕ) → GaveFirst left all limit old count → (refused : Fault → E) (e : FileFault) (MayFail : Type 0) → FailsBy e step MayFail old → ((f : Fault) → after (Err f) ≡ no_items (refused f)) → FailsAfter refused all count e
  fault_given count reads refused (faults.Refused fault) MayFail fails is = ends_by all reads.0 (refused fault) count (fault_met reads.0 reads.1 refused fault MayFail fails is) reads.2
  fault_given count reads refused other MayFail fails is = tt

-- nothing was read
pub gave_none : {A E : Type 0} (left : Source → Items A E) (limit : Option ℕ) (file : List ℕ) (cursor : Cursor) → cursor.bounds ≡ limited limit → ((octets : List ℕ) → MayRemain cursor octets → octets ≡ file) → Gave left (left (source_at cursor.place file)) limit cursor []
gave_none left limit file cursor bounds only = record { bounds = bounds; rest = λ octets there. ap (λ (o : List ℕ). left (source_at cursor.place o)) (only octets there) }

-- a refusal is at a place of the file or at its end, if the end of the items is
pub fault_in_file : {A E : Type 0} (refused : Fault → E) (all : Items A E) (count : ℕ) (file : List ℕ) (e : FileFault) → ((f : Fault) → all.end ≡ refused f → f.place ≤ length file) → FailsAfter refused all count e → IsStreamFaultIn file e
fault_in_file refused all count file (faults.Refused fault) inside fails = inside fault fails.is
fault_in_file refused all count file other inside fails = tt
