-- The options of an interface, read by a loop.
use Rattle.std.proofs.Common.{◌≡◌, ℕ, suc, ◌+◌, ◌-◌, ◌<◌, ◌≤◌, ◌==◌, Bool, true, false, Option, Some, None, Result, Ok, Err, List, [], refl, ap, ◌∙◌, subst, arith}
use Rattle.std.proofs.lemmas.Bool.Decides.{nat_tests}
use Rattle.krb_der.specs.Octets.{when}
use Rattle.krb_file.specs.Fields.{Source, Fault, Bounds, Reader, and_then, ◌>>=◌, succeed, is_at_end}
use Rattle.krb_file.specs.FieldReaders.{Cursor, MayRemain, source_at, HasRead, FailsBy, Follows}
use Rattle.krb_file.specs.declared.fault.FileFault.{FileFault}
use Rattle.krb_file.specs.declared.fault.FileFault.TheVariants as faults
use Rattle.krb_file.proofs.FieldReaders.{made_of}
use Rattle.krb_packet.specs.declared.order.ByteOrder.{ByteOrder}
use Rattle.krb_packet.specs.declared.interface.Options.{Options}
use Rattle.krb_packet.specs.declared.interface.Setting.{Setting}
use Rattle.std.specs.Int.{w16}
use Rattle.krb_packet.specs.Numbers.{from_here, number_in}
use Rattle.krb_packet.specs.Interfaces.{value_at, setting_at, option_at, with_setting, after_setting, options_within}

-- Reading on by the second reader returns what the first one returns from the beginning.
pub record Continues {A : Type 0} (first second : Reader A) (old new : Cursor) : Type 0 where
  pub same_bounds : new.bounds ≡ old.bounds
  pub from : (rest : List ℕ) → MayRemain new rest → (octets : List ℕ) × MayRemain old octets × (first old.bounds (source_at old.place octets) ≡ second old.bounds (source_at new.place rest))

pub continues_here : {A : Type 0} (reader : Reader A) (cursor : Cursor) → Continues reader reader cursor cursor
continues_here reader cursor = record { same_bounds = refl; from = λ rest there. (rest, there, refl) }

pub continues_from : {A : Type 0} (reader : ℕ → Reader A) (cursor : Cursor) → Continues (from_here reader) (reader cursor.place) cursor cursor
continues_from reader cursor = record { same_bounds = refl; from = λ rest there. (rest, there, refl) }

pub continues_read : {A : Type 0} (first second : Reader A) (v : A) (old mid new : Cursor) → Continues first second old mid → HasRead second v mid new → HasRead first v old new
continues_read first second v old mid new on read = record {
  same_bounds = read.same_bounds ∙ on.same_bounds;
  from = λ rest there.
      let b = read.from rest there in
      let a = on.from b.0 b.1 in
      let s = source_at mid.place b.0 in
      let whose : second old.bounds s ≡ Ok (v, source_at new.place rest) = subst (λ (k : Bounds). second k s ≡ Ok (v, source_at new.place rest)) on.same_bounds b.2 in
      (a.0, a.1, a.2 ∙ whose);
}

pub continues_fails : {A : Type 0} (first second : Reader A) (e : FileFault) (MayFail : Type 0) (old mid : Cursor) → Continues first second old mid → FailsBy e second MayFail mid → FailsBy e first MayFail old
continues_fails first second faults.Memory MayFail old mid on fails = tt
continues_fails first second faults.Read MayFail old mid on fails = fails
continues_fails first second (faults.Refused fault) MayFail old mid on fails =
    let a = on.from fails.octets fails.there in
    let s = source_at mid.place fails.octets in
    let whose : second old.bounds s ≡ Err fault = subst (λ (k : Bounds). second k s ≡ Err fault) on.same_bounds fails.refused in
    record { octets = a.0; there = a.1; refused = a.2 ∙ whose }

pub continues_follows : {A B : Type 0} (first second : Reader B) (view : A → B) (result : Result A FileFault) (MayFail : Type 0) (old mid new : Cursor) → Continues first second old mid → Follows view result second MayFail mid new → Follows view result first MayFail old new
continues_follows first second view (Ok value) MayFail old mid new on read = continues_read first second (view value) old mid new on read
continues_follows first second view (Err e) MayFail old mid new on fails = continues_fails first second e MayFail old mid on fails

pub continues_then : {A B : Type 0} (first : Reader B) (one : Reader A) (next : A → Reader B) (v : A) (old mid new : Cursor) → Continues first (one >>= next) old mid → HasRead one v mid new → Continues first (next v) old new
continues_then {A} {B} first one next v old mid new on read = record {
  same_bounds = read.same_bounds ∙ on.same_bounds;
  from = λ rest there.
      let b = read.from rest there in
      let a = on.from b.0 b.1 in
      let s = source_at mid.place b.0 in
      let t = source_at new.place rest in
      let whose : one old.bounds s ≡ Ok (v, t) = subst (λ (k : Bounds). one k s ≡ Ok (v, t)) on.same_bounds b.2 in
      (a.0, a.1, a.2 ∙ ap (λ (r : Result (A × Source) Fault). and_then r (λ x. next x.0 old.bounds x.1)) whose);
}

pub then_fails : {A B : Type 0} (one : Reader A) (next : A → Reader B) (e : FileFault) (MayFail : Type 0) (old : Cursor) → FailsBy e one MayFail old → FailsBy e (one >>= next) MayFail old
then_fails one next faults.Memory MayFail old fails = tt
then_fails one next faults.Read MayFail old fails = fails
then_fails {A} one next (faults.Refused fault) MayFail old fails = record {
  octets = fails.octets;
  there = fails.there;
  refused = ap (λ (r : Result (A × Source) Fault). and_then r (λ x. next x.0 old.bounds x.1)) fails.refused;
}

-- a value was read, and then a fault was met
pub fails_after : {A B : Type 0} (one : Reader A) (next : A → Reader B) (v : A) (e : FileFault) (MayFail : Type 0) (old mid : Cursor) → HasRead one v old mid → FailsBy e (next v) MayFail mid → FailsBy e (one >>= next) MayFail old
fails_after one next v e MayFail old mid read fails = continues_fails (one >>= next) (next v) e MayFail old mid (continues_then (one >>= next) one next v old old mid (continues_here (one >>= next) old) read) fails

-- the same at a place
continues_as : {A : Type 0} (first second third : Reader A) (old new : Cursor) → Continues first second old new → ((rest : List ℕ) → second new.bounds (source_at new.place rest) ≡ third new.bounds (source_at new.place rest)) → Continues first third old new
continues_as first second third old new on same = record {
  same_bounds = on.same_bounds;
  from = λ rest there.
      let a = on.from rest there in
      let s = source_at new.place rest in
      let whose : second old.bounds s ≡ third old.bounds s = subst (λ (k : Bounds). second k s ≡ third k s) on.same_bounds (same rest) in
      (a.0, a.1, a.2 ∙ whose);
}

-- ---- one option: its code, the size of its value, and the value
abbrev after_size : ByteOrder → ℕ → ℕ → Reader (Option Setting)
after_size order code size = when (code == 0) (λ _. succeed None) (λ _. value_at order code size >>= λ setting. succeed (Some setting))

module _ (order : ByteOrder) (code size : ℕ) (old mid new : Cursor) (first : HasRead (number_in w16 order) code old mid) (second : HasRead (number_in w16 order) size mid new) where
  sized : Continues (setting_at order) (after_size order code size) old new
  sized =
      continues_then (setting_at order) (number_in w16 order) (after_size order code) size old mid new
      (continues_then (setting_at order) (number_in w16 order) (λ n. number_in w16 order >>= after_size order n) code old old mid (continues_here (setting_at order) old) first)
      second

  pub option_ends : code ≡ 0 → HasRead (setting_at order) None old new
  option_ends none = continues_read (setting_at order) (succeed None) None old new new (rw none at sized) (record { same_bounds = refl; from = λ rest there. (rest, there, refl) })

  valued : (code ≡ 0 → ⊥) → Continues (setting_at order) (value_at order code size >>= λ setting. succeed (Some setting)) old new
  valued some = let differs : (code == 0) ≡ false = grind (arith, nat_tests) in rw differs at sized

  pub option_read : (code ≡ 0 → ⊥) → (setting : Setting) (after : Cursor) → HasRead (value_at order code size) setting new after → HasRead (setting_at order) (Some setting) old after
  option_read some setting after read = continues_read (setting_at order) (value_at order code size >>= λ setting. succeed (Some setting)) (Some setting) old new after (valued some) (made_of (value_at order code size) Some setting new after read)

  pub option_fails : (code ≡ 0 → ⊥) → (e : FileFault) (MayFail : Type 0) → FailsBy e (value_at order code size) MayFail new → FailsBy e (setting_at order) MayFail old
  option_fails some e MayFail fails = continues_fails (setting_at order) (value_at order code size >>= λ setting. succeed (Some setting)) e MayFail old new (valued some) (then_fails (value_at order code size) (λ setting. succeed (Some setting)) e MayFail new fails)

-- ---- options
abbrev others : ℕ → ByteOrder → Options → Option Setting → Reader Options
others bound order found setting = after_setting found setting (options_within bound order)

abbrev one_more : ℕ → ByteOrder → Options → Reader Options
one_more bound order found = option_at order >>= others bound order found

module _ (first : Reader Options) (order : ByteOrder) (most counter : ℕ) (found : Options) (old mid : Cursor) (on : Continues first (options_within (most - counter) order found) old mid) where
  pub at_end : counter < most → is_at_end mid.bounds (source_at mid.place []) ≡ true → HasRead first found old mid
  at_end less ended =
      let more : most - counter ≡ suc (most - (counter + 1)) = omega (arith, less) in
      let here : Continues first (options_within (suc (most - (counter + 1))) order found) old mid = subst (λ (n : ℕ). Continues first (options_within n order found) old mid) more on in
      continues_read first (succeed found) found old mid mid
      (continues_as first (options_within (suc (most - (counter + 1))) order found) (succeed found) old mid here
      (λ rest. ap (λ (b : Bool). (when b (λ _. succeed found) (λ _. one_more (most - (counter + 1)) order found)) mid.bounds (source_at mid.place rest)) ended))
      (record { same_bounds = refl; from = λ rest there. (rest, there, refl) })

  on_more : counter < most → is_at_end mid.bounds (source_at mid.place []) ≡ false → Continues first (one_more (most - (counter + 1)) order found) old mid
  on_more less ended =
      let more : most - counter ≡ suc (most - (counter + 1)) = omega (arith, less) in
      let here : Continues first (options_within (suc (most - (counter + 1))) order found) old mid = subst (λ (n : ℕ). Continues first (options_within n order found) old mid) more on in
      continues_as first (options_within (suc (most - (counter + 1))) order found) (one_more (most - (counter + 1)) order found) old mid here
      (λ rest. ap (λ (b : Bool). (when b (λ _. succeed found) (λ _. one_more (most - (counter + 1)) order found)) mid.bounds (source_at mid.place rest)) ended)

  pub goes_on : counter < most → is_at_end mid.bounds (source_at mid.place []) ≡ false → (setting : Setting) (new : Cursor) → HasRead (option_at order) (Some setting) mid new → Continues first (options_within (most - (counter + 1)) order (with_setting setting found)) old new
  goes_on less ended setting new read = continues_then first (option_at order) (others (most - (counter + 1)) order found) (Some setting) old mid new (on_more less ended) read

  pub ends : counter < most → is_at_end mid.bounds (source_at mid.place []) ≡ false → (new : Cursor) → HasRead (option_at order) None mid new → HasRead first found old new
  ends less ended new read =
      continues_read first (succeed found) found old new new
      (continues_then first (option_at order) (others (most - (counter + 1)) order found) None old mid new (on_more less ended) read)
      (record { same_bounds = refl; from = λ rest there. (rest, there, refl) })

  pub fails : counter < most → is_at_end mid.bounds (source_at mid.place []) ≡ false → (e : FileFault) (MayFail : Type 0) → FailsBy e (option_at order) MayFail mid → FailsBy e first MayFail old
  fails less ended e MayFail failed =
      continues_fails first (one_more (most - (counter + 1)) order found) e MayFail old mid (on_more less ended)
      (then_fails (option_at order) (others (most - (counter + 1)) order found) e MayFail mid failed)

  pub is_full : most ≤ counter → HasRead first found old mid
  is_full full =
      let none : most - counter ≡ 0 = omega (arith, full) in
      continues_read first (succeed found) found old mid mid (subst (λ (n : ℕ). Continues first (options_within n order found) old mid) none on)
      (record { same_bounds = refl; from = λ rest there. (rest, there, refl) })
