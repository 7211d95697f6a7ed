-- Octets written piece by piece.
use Rattle.std.proofs.Common.{◌≡◌, ℕ, ◌-◌, List, ◌++◌, length, take, drop, Option, Some, None, [], Result, Ok, Err, append-nil, sym, ◌∙◌, ap, append_assoc, take-append-drop}
use Rattle.std.specs.Prelude.{OnOk, OnErr}
use Rattle.std.specs.Io.KnownBytes.{Appends, Keeps}
use Rattle.std.proofs.KnownBytes.{Appends-trans}
use Rattle.std.proofs.lemmas.List.{take_rest}
use Rattle.krb_run.specs.Records.{AppendsPrefix}

-- octets that were written stay
pub Appends-kept : (a b c : Option (List ℕ)) (bs : List ℕ) → Appends a b bs → Keeps b c → Appends a c bs
Appends-kept None b c bs p q = tt
Appends-kept (Some x) None c bs p q = absurd p
Appends-kept (Some x) (Some y) None bs p q = absurd q
Appends-kept (Some x) (Some y) (Some z) bs p q = q ∙ p

-- the first of all the octets are written, and the rest is left
abbrev pub IsWritten : Option (List ℕ) → Option (List ℕ) → List ℕ → List ℕ → Type 0
IsWritten written_before written_after all rest = (prefix : List ℕ) × Appends written_before written_after prefix × (all ≡ prefix ++ rest)

-- and then some octets more
pub IsWritten-more : (written_before written_after after : Option (List ℕ)) (all rest : List ℕ) (n : ℕ) → IsWritten written_before written_after all rest → Appends written_after after (take n rest) → IsWritten written_before after all (take (length rest - n) (drop n rest))
IsWritten-more written_before written_after after all rest n w a = (
  w.0 ++ take n rest,
  Appends-trans written_before written_after after w.0 (take n rest) w.1 a,
  w.2
      ∙ ap (λ l. w.0 ++ l) (sym (take-append-drop n rest))
      ∙ sym (append_assoc w.0 (take n rest) (drop n rest))
      ∙ ap (λ l. (w.0 ++ take n rest) ++ l) (sym (take_rest rest n)),
)

pub on-ok : {T E : Type 0} (r : Result T E) {P : Type 0} → P → OnOk r P
on-ok (Ok x) p = p
on-ok (Err e) p = tt

pub on-err : {T E : Type 0} (r : Result T E) {P : Type 0} → P → OnErr r P
on-err (Ok x) p = tt
on-err (Err e) p = p

-- all of a text is a prefix of it
pub whole-prefix : (written_before written_after : Option (List ℕ)) (text : List ℕ) → Appends written_before written_after text → AppendsPrefix written_before written_after text
whole-prefix written_before written_after text a = record { prefix = text; rest = []; added = a; whole = sym (append-nil text) }
