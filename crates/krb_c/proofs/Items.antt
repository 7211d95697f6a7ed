-- Items of a file that are read one after another, and whose octets are added.
use Rattle.std.proofs.Common.{◌≡◌, ℕ, suc, zero, ◌+◌, ◌<◌, Bool, true, false, List, [], ◌++◌, Option, Some, None, Result, Ok, Err, refl, sym, ◌∙◌, ap, subst, append-nil, arith}
use Rattle.krb_file.specs.FieldReaders.{BeginsWith, Cursor, FailsBy, HasMet, HasRead, MayRemain, source_at}
use Rattle.krb_file.specs.Fields.{Bounds, Fault, Reader, Source, begun_at, fault_begun, limited, one_part, source_of}
use Rattle.krb_file.specs.declared.fault.FileFault.{FileFault}
use Rattle.krb_file.specs.declared.fault.FileFault.TheVariants as faults
use Rattle.krb_file_run.specs.Files.{field_limit}
use Rattle.krb_c.specs.FileSpans.{item_and, items_from, read_and}
use Rattle.krb_c.specs.Spans.{Spanned, both, refused_up_to, up_to}
use Rattle.krb_c.specs.inner.Adding.{Adds}
use Rattle.krb_c.specs.inner.Items.{AddsFault, AddsItem}
use Rattle.krb_c.specs.declared.spans.Spans.{Spans}
use Rattle.krb_c.proofs.Framed.{adds-both, both-assoc, both-nothing}

some-begin : (prefix : List ℕ) (left : Option (List ℕ)) → (octets : List ℕ) × BeginsWith prefix left octets
some-begin prefix None = (prefix, ([], sym (append-nil prefix)))
some-begin prefix (Some known) = (prefix ++ known, refl)

-- some octets may remain
some-rest : (cursor : Cursor) → (octets : List ℕ) × MayRemain cursor octets
some-rest cursor = some-begin cursor.ahead cursor.left

-- ---- a reader of one part
module _ {A : Type 0} (reader : Reader A) (old new : Cursor) where
  pub part-read : (value : A) → HasRead reader value old new → HasRead (one_part reader) value old new
  part-read value has = record {
    same_bounds = has.same_bounds;
    from = λ rest may. let f = has.from rest may in (f.0, f.1, ap (begun_at old.place) f.2);
  }

  part-met : (fault : Fault) → HasMet reader fault old → HasMet (one_part reader) (record fault { begin = old.place }) old
  part-met fault met = record { octets = met.octets; there = met.there; refused = ap (begun_at old.place) met.refused }

  pub part-fails : (MayFail : Type 0) (fault : FileFault) → FailsBy fault reader MayFail old → FailsBy (fault_begun old.place fault) (one_part reader) MayFail old
  part-fails MayFail (faults.Refused fault) fails = part-met fault fails
  part-fails MayFail faults.Read fails = fails
  part-fails MayFail faults.Memory fails = fails

-- ---- the start of a file
abbrev pub at_start : List ℕ → Cursor
at_start file = record { ahead = []; left = Some file; place = 0; bounds = limited field_limit }

module _ {A : Type 0} (reader : Reader A) (file : List ℕ) (cursor : Cursor) (is : cursor ≡ at_start file) where
  pub start-read : (value : A) (new : Cursor) → HasRead reader value cursor new → (rest : List ℕ) → MayRemain new rest → reader (limited field_limit) (source_of file) ≡ Ok (value, source_at new.place rest)
  start-read value new has rest may =
      let f = (subst (λ (c : Cursor). HasRead reader value c new) is has).from rest may in
      sym (ap (λ (o : List ℕ). reader (limited field_limit) (source_of o)) f.1) ∙ f.2

  pub start-bounds : (value : A) (new : Cursor) → HasRead reader value cursor new → new.bounds ≡ limited field_limit
  start-bounds value new has = has.same_bounds ∙ ap (λ (c : Cursor). c.bounds) is

  start-met : (fault : Fault) → HasMet reader fault cursor → reader (limited field_limit) (source_of file) ≡ Err fault
  start-met fault met =
      let m = subst (HasMet reader fault) is met in
      sym (ap (λ (o : List ℕ). reader (limited field_limit) (source_of o)) m.there) ∙ m.refused

  pub start-fails : (MayFail : Type 0) (fault : FileFault) (whole : Result (A × Source) Fault → Spanned) (all : ℕ) (spans spans' : Spans)
      → ((refusal : Fault) → whole (Err refusal) ≡ refused_up_to refusal.begin all) → FailsBy fault reader MayFail cursor → AddsFault fault all spans spans' → Adds (whole (reader (limited field_limit) (source_of file))) spans spans'
  start-fails MayFail (faults.Refused refusal) whole all spans spans' says met adds =
      subst (λ (s : Spanned). Adds s spans spans') (sym (ap whole (start-met refusal met) ∙ says refusal)) adds
  start-fails MayFail faults.Read whole all spans spans' says met adds = absurd adds
  start-fails MayFail faults.Memory whole all spans spans' says met adds = absurd adds

-- the same octets, at places that are the same numbers
pub at-places : (begin begin' end end' : ℕ) (spans spans' : Spans) → begin ≡ begin' → end ≡ end' → Adds (up_to begin end) spans spans' → Adds (up_to begin' end') spans spans'
at-places begin begin' end end' spans spans' b e adds = subst (λ (x : ℕ). Adds (up_to begin' x) spans spans') e (subst (λ (x : ℕ). Adds (up_to x end) spans spans') b adds)

-- ---- one item
module _ {A : Type 0} (reader : Reader A) (is_item : A → Bool) (after all : ℕ) (old new : Cursor) (spans spans' : Spans) where
  pub item-added : (value : A) → HasRead reader value old new → is_item value ≡ true → Adds (up_to (old.place + after) new.place) spans spans' → AddsItem reader is_item after all old new spans spans' true
  item-added value has is adds = record {
    first = up_to (old.place + after) new.place;
    adds = adds;
    begins = (
      has.same_bounds,
      λ rest may.
          let f = has.from rest may in
          (f.0, f.1, λ next. ap (λ r. read_and is_item (old.place + after) all r next) f.2 ∙ ap (λ (b : Bool). item_and b (old.place + after) new.place (next (source_at new.place rest))) is),
    );
  }

  pub end-added : (value : A) → HasRead reader value old new → is_item value ≡ false → Adds (up_to new.place new.place) spans spans' → AddsItem reader is_item after all old new spans spans' false
  end-added value has is adds =
      let some = some-rest new in
      let f = has.from some.0 some.1 in
      record {
        first = up_to new.place new.place;
        adds = adds;
        begins = (f.0, f.1, λ next. ap (λ r. read_and is_item (old.place + after) all r next) f.2 ∙ ap (λ (b : Bool). item_and b (old.place + after) new.place (next (source_at new.place some.0))) is);
      }

  pub fault-added : (MayFail : Type 0) (fault : FileFault) → FailsBy fault reader MayFail old → AddsFault fault all spans spans' → AddsItem reader is_item after all old new spans spans' false
  fault-added MayFail (faults.Refused fault) met adds = record {
    first = refused_up_to fault.begin all;
    adds = adds;
    begins = (met.octets, met.there, λ next. ap (λ r. read_and is_item (old.place + after) all r next) met.refused);
  }
  fault-added MayFail faults.Read met adds = absurd adds
  fault-added MayFail faults.Memory met adds = absurd adds

-- Some items were added, and others follow in whatever may remain, of which a number bounds how many there are.
pub record AreAdded {A : Type 0} (reader : Reader A) (is_item : A → Bool) (after all : ℕ) (whole : Spanned) (index : ℕ) (cursor : Cursor) (old new : Spans) : Type 0 where
  pub bound : ℕ
  pub counted : bound + index ≡ all + 1
  pub first : Spanned
  pub adds : Adds first old new
  pub bounds : cursor.bounds ≡ limited field_limit
  pub parts : (octets : List ℕ) → MayRemain cursor octets → whole ≡ both first (items_from bound reader is_item after all (source_at cursor.place octets))

pub whole-of : (whole first : Spanned) (old new : Spans) → Adds first old new → whole ≡ first → Adds whole old new
whole-of whole first old new adds parts = subst (λ (s : Spanned). Adds s old new) (sym parts) adds

module _ {A : Type 0} (reader : Reader A) (is_item : A → Bool) (after all : ℕ) (whole : Spanned) where
  pub next-added : (index : ℕ) (cursor cursor' : Cursor) (old now new : Spans) → index < all + 1 → AreAdded reader is_item after all whole index cursor old now
      → AddsItem reader is_item after all cursor cursor' now new true → AreAdded reader is_item after all whole (index + 1) cursor' old new
  next-added index cursor cursor' old now new more was adds = by was.bound refl
    where
      by : (bound : ℕ) → was.bound ≡ bound → AreAdded reader is_item after all whole (index + 1) cursor' old new
      by zero is = absurd (omega (arith, was.counted, is, more))
      by (suc bound) is = record {
        bound = bound;
        counted = omega (arith, was.counted, is);
        first = both was.first adds.first;
        adds = adds-both was.first adds.first old now new was.adds adds.adds;
        bounds = adds.begins.0 ∙ was.bounds;
        parts = λ rest may.
            let f = adds.begins.1 rest may in
            was.parts f.0 f.1
            ∙ ap (λ (b : ℕ). both was.first (items_from b reader is_item after all (source_at cursor.place f.0))) is
            ∙ ap (λ (b : Bounds). both was.first (read_and is_item (cursor.place + after) all (reader b (source_at cursor.place f.0)) (items_from bound reader is_item after all))) (sym was.bounds)
            ∙ ap (both was.first) (f.2 (items_from bound reader is_item after all))
            ∙ sym (both-assoc was.first adds.first (items_from bound reader is_item after all (source_at cursor'.place rest)));
      }

  pub last-added : (index : ℕ) (cursor cursor' : Cursor) (old now new : Spans) → index < all + 1 → AreAdded reader is_item after all whole index cursor old now
      → AddsItem reader is_item after all cursor cursor' now new false → Adds whole old new
  last-added index cursor cursor' old now new more was adds = by was.bound refl
    where
      by : (bound : ℕ) → was.bound ≡ bound → Adds whole old new
      by zero is = absurd (omega (arith, was.counted, is, more))
      by (suc bound) is =
          let f = adds.begins in
          whole-of whole (both was.first adds.first) old new (adds-both was.first adds.first old now new was.adds adds.adds) (
          was.parts f.0 f.1
          ∙ ap (λ (b : ℕ). both was.first (items_from b reader is_item after all (source_at cursor.place f.0))) is
          ∙ ap (λ (b : Bounds). both was.first (read_and is_item (cursor.place + after) all (reader b (source_at cursor.place f.0)) (items_from bound reader is_item after all))) (sym was.bounds)
          ∙ ap (both was.first) (f.2 (items_from bound reader is_item after all)))

  -- no other item is bounded for
  pub over-added : (index : ℕ) (cursor : Cursor) (old new : Spans) → (index < all + 1 → ⊥) → AreAdded reader is_item after all whole index cursor old new → Adds whole old new
  over-added index cursor old new over was =
      let some = some-rest cursor in
      let zero-left : was.bound ≡ 0 = omega (arith, was.counted, over) in
      whole-of whole was.first old new was.adds (was.parts some.0 some.1 ∙ ap (λ (b : ℕ). both was.first (items_from b reader is_item after all (source_at cursor.place some.0))) zero-left ∙ both-nothing was.first)
