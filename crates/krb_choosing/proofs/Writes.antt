-- What is written of texts one after another.
use Rattle.std.proofs.Common.{◌≡◌, ◌∙◌, ℕ, ◌-◌, List, [], ◌++◌, length, take, drop, Option, Some, None, Result, Ok, Err, append-nil, sym, refl, ap, append_assoc, take-append-drop, length-append, arith}
use Rattle.std.specs.Prelude.{OnOk, OnErr}
use Rattle.std.specs.Io.KnownBytes.{Appends, Keeps}
use Rattle.std.proofs.KnownBytes.{Appends-trans}
use Rattle.std.proofs.Math.Seq.{take-append_seam}
use Rattle.std.proofs.lemmas.List.{take_rest}
use Rattle.krb_choosing.specs.Writes.{AppendsFirst}
use Rattle.krb_choosing.specs.inner.Chooser.{Begins, Moves}

pub on-ok : {T E : Type 0} (r : Result T E) {P : Type 0} → P → OnOk r P
on-ok (Ok x) p = p
on-ok (Err e) p = tt

pub on-err : {T E : Type 0} (r : Result T E) {P : Type 0} → P → OnErr r P
on-err (Ok x) p = tt
on-err (Err e) p = p

pub map-ok : {T E : Type 0} (r : Result T E) {P Q : Type 0} → (P → Q) → OnOk r P → OnOk r Q
map-ok (Ok x) f p = f p
map-ok (Err e) f p = tt

pub map-err : {T E : Type 0} (r : Result T E) {P Q : Type 0} → (P → Q) → OnErr r P → OnErr r Q
map-err (Ok x) f p = tt
map-err (Err e) f p = f p

pub map-ok₂ : {T E : Type 0} (r : Result T E) {P Q R : Type 0} → (P → Q → R) → OnOk r P → OnOk r Q → OnOk r R
map-ok₂ (Ok x) f p q = f p q
map-ok₂ (Err e) f p q = tt

-- ---- nothing is written
pub none-written : (b : Option (List ℕ)) → Appends b b []
none-written None = tt
none-written (Some xs) = sym (append-nil xs)

-- ---- a first part of a text
pub begin-none : (b : Option (List ℕ)) (text : List ℕ) → Begins b b text
begin-none b text = ([], text, none-written b, refl)

pub begin-whole : (b a : Option (List ℕ)) (text : List ℕ) → Appends b a text → Begins b a text
begin-whole b a text all = (text, [], all, sym (append-nil text))

pub begin-more : (b a : Option (List ℕ)) (text more : List ℕ) → Begins b a text → Begins b a (text ++ more)
begin-more b a text more f = (f.0, f.1 ++ more, f.2, ap (λ l. l ++ more) f.3 ∙ append_assoc f.0 f.1 more)

pub begin-after : (b m a : Option (List ℕ)) (out out' text others : List ℕ) → Moves b m out out' text → Begins m a (out' ++ others) → Begins b a (out ++ (text ++ others))
begin-after b m a out out' text others p q = (
  p.0 ++ q.0,
  q.1,
  Appends-trans b m a p.0 q.0 p.1 q.2,
  sym (append_assoc out text others) ∙ ap (λ l. l ++ others) p.2 ∙ append_assoc p.0 out' others ∙ ap (λ l. p.0 ++ l) q.3 ∙ sym (append_assoc p.0 q.0 q.1),
)

-- ---- what is to be written
pub move-none : (b : Option (List ℕ)) (out : List ℕ) → Moves b b out out []
move-none b out = ([], none-written b, append-nil out)

pub move-put : (b : Option (List ℕ)) (out out' text : List ℕ) → out' ≡ out ++ text → Moves b b out out' text
move-put b out out' text more = ([], none-written b, sym more)

pub move-all : (b a : Option (List ℕ)) (out out' : List ℕ) → Appends b a out → out' ≡ [] → Moves b a out out' []
move-all b a out out' all none = (out, all, ap (λ l. out ++ l) (sym none))

pub move-on : (b m a : Option (List ℕ)) (out out' out'' text others : List ℕ) → Moves b m out out' text → Moves m a out' out'' others → Moves b a out out'' (text ++ others)
move-on b m a out out' out'' text others p q = (
  p.0 ++ q.0,
  Appends-trans b m a p.0 q.0 p.1 q.1,
  sym (append_assoc out text others) ∙ ap (λ l. l ++ others) p.2 ∙ append_assoc p.0 out' others ∙ ap (λ l. p.0 ++ l) q.2 ∙ sym (append_assoc p.0 q.0 out''),
)

-- ---- a first part, in the form that has one proof
pub first-of : (b a : Option (List ℕ)) (text : List ℕ) → Begins b a text → AppendsFirst b a text
first-of None a text f = tt
first-of (Some xs) None text f = absurd f.2
first-of (Some xs) (Some ys) text f =
    let size : length ys - length xs ≡ length f.0 = omega (arith, ap (λ (l : List ℕ). length l) f.2, length-append xs f.0) in
    f.2 ∙ ap (λ l. xs ++ l) (sym (ap (λ n. take n text) size ∙ ap (λ l. take (length f.0) l) f.3 ∙ take-append_seam f.0 f.1))

pub begin-of : (b a : Option (List ℕ)) (text : List ℕ) → AppendsFirst b a text → Begins b a text
begin-of None a text f = ([], text, tt, refl)
begin-of (Some xs) None text f = absurd f
begin-of (Some xs) (Some ys) text f = (take (length ys - length xs) text, drop (length ys - length xs) text, f, sym (take-append-drop (length ys - length xs) text))

-- ---- octets that are written piece by piece
-- the first of all the octets are written, and the rest is left
abbrev pub IsWritten : Option (List ℕ) → Option (List ℕ) → List ℕ → List ℕ → Type 0
IsWritten written_before written_after all rest = (part : List ℕ) × Appends written_before written_after part × (all ≡ part ++ rest)

pub written-more : (written_before written_after after : Option (List ℕ)) (all rest : List ℕ) (n : ℕ) → IsWritten written_before written_after all rest → Appends written_after after (take n rest) → IsWritten written_before after all (take (length rest - n) (drop n rest))
written-more written_before written_after after all rest n w a = (
  w.0 ++ take n rest,
  Appends-trans written_before written_after after w.0 (take n rest) w.1 a,
  w.2
      ∙ ap (λ l. w.0 ++ l) (sym (take-append-drop n rest))
      ∙ sym (append_assoc w.0 (take n rest) (drop n rest))
      ∙ ap (λ l. (w.0 ++ take n rest) ++ l) (sym (take_rest rest n)),
)

pub kept : (b m a : Option (List ℕ)) (part : List ℕ) → Appends b m part → Keeps m a → Appends b a part
kept None m a part p q = tt
kept (Some x) None a part p q = absurd p
kept (Some x) (Some y) None part p q = absurd q
kept (Some x) (Some y) (Some z) part p q = q ∙ p
