-- Marks, and the number of the last one.
use Rattle.std.proofs.Common.{◌≡◌, ℕ, zero, suc, ◌-◌, ◌<◌, ℤ, pos, List, [], ◌∷◌, ◌++◌, length, map, get_or, set, refl, sym, ap, ◌∙◌, subst, arith}
use Rattle.std.proofs.lemmas.List.{length-append}
use Rattle.krb_scan.specs.inner.Paths.{IsNumbered, with_value}
use Rattle.krb_scan.specs.Scan as scan
use Rattle.krb_scan.specs.Scan.{mark_of}
use Rattle.krb_msg.specs.Term.{Term}
use Rattle.krb_msg.specs.Table.{IsNode}
use Rattle.std.specs.List.{AllByRecursion}
use Rattle.krb_scan.specs.State.{mark_value, AreMarks}
use Rattle.krb_scan.specs.declared.mark.Mark.{Mark}

abbrev pub with_number : Mark → ℤ → Mark
with_number mark value = record { node = mark.node; start = mark.start; len = mark.len; value = value }

set_at : (marks : List Mark) (k : ℕ) (none : Mark) (value : ℤ) → length marks ≡ suc k → set marks k (with_number (get_or marks k none) value) ≡ with_value marks value
set_at [] k none value e = absurd (omega arith)
set_at (mark ∷ []) zero none value e = refl
set_at (mark ∷ []) (suc k) none value e = absurd (omega arith)
set_at (mark ∷ next ∷ marks) zero none value e = absurd (omega arith)
set_at (mark ∷ next ∷ marks) (suc k) none value e = ap (λ rest. mark ∷ rest) (set_at (next ∷ marks) k none value (omega arith))

pub set_last : (marks : List Mark) (last : ℕ) (there : Mark) (value : ℤ) → 0 < length marks → last ≡ length marks → there ≡ get_or marks (last - 1) there → set marks (last - 1) (with_number there value) ≡ with_value marks value
set_last marks last there value some e is =
    ap (λ mark. set marks (last - 1) (with_number mark value)) is ∙ set_at marks (last - 1) there value (omega arith)

not_empty : (given : List scan.Mark) (last : scan.Mark) → [] ≡ given ++ last ∷ [] → ⊥
not_empty [] last e = cc
not_empty (first ∷ given) last e = cc

last_value : (mark : Mark) (term : Term) (start count : ℕ) (value : ℤ) → mark_value mark ≡ mark_of term start count (pos 0) → mark_value (record mark { value = value }) ≡ mark_of term start count value
last_value mark term start count value e = ap (λ (m : scan.Mark). mark_of m.term m.start m.count value) e

with_value-marks : (marks : List Mark) (given : List scan.Mark) (term : Term) (start count : ℕ) (value : ℤ) → map mark_value marks ≡ given ++ mark_of term start count (pos 0) ∷ [] → map mark_value (with_value marks value) ≡ given ++ mark_of term start count value ∷ []
with_value-marks [] given term start count value e = absurd (not_empty given (mark_of term start count (pos 0)) e)
with_value-marks (mark ∷ []) [] term start count value e =
    let same : mark_value mark ≡ mark_of term start count (pos 0) = cc in
    ap (λ m. m ∷ []) (last_value mark term start count value same)
with_value-marks (mark ∷ []) (first ∷ given) term start count value e =
    let rest : [] ≡ given ++ mark_of term start count (pos 0) ∷ [] = cc in
    absurd (not_empty given (mark_of term start count (pos 0)) rest)
with_value-marks (mark ∷ next ∷ marks) [] term start count value e = absurd (cc e)
with_value-marks (mark ∷ next ∷ marks) (first ∷ given) term start count value e =
    let head : mark_value mark ≡ first = cc in
    let rest : map mark_value (next ∷ marks) ≡ given ++ mark_of term start count (pos 0) ∷ [] = cc in
    ap (λ m. m ∷ map mark_value (with_value (next ∷ marks) value)) head ∙ ap (λ all. first ∷ all) (with_value-marks (next ∷ marks) given term start count value rest)

with_value-nodes : (marks : List Mark) (value : ℤ) → AllByRecursion (λ mark. IsNode mark.node) marks → AllByRecursion (λ mark. IsNode mark.node) (with_value marks value)
with_value-nodes [] value h = h
with_value-nodes (mark ∷ []) value h = h
with_value-nodes (mark ∷ next ∷ marks) value h = (h.0, with_value-nodes (next ∷ marks) value h.1)

-- the number of the last mark
pub marks_with_value : (marks : List Mark) (given : List scan.Mark) (term : Term) (start count : ℕ) (value : ℤ) → AreMarks marks (given ++ mark_of term start count (pos 0) ∷ []) → AreMarks (with_value marks value) (given ++ mark_of term start count value ∷ [])
marks_with_value marks given term start count value h = record { nodes = with_value-nodes marks value h.nodes; values = with_value-marks marks given term start count value h.values }

pub length_values : (marks : List Mark) (given : List scan.Mark) → AreMarks marks given → length given ≡ length marks
length_values marks given h = ap length (sym h.values) ∙ by_list marks
  where
    by_list : (some : List Mark) → length (map mark_value some) ≡ length some
    by_list [] = refl
    by_list (mark ∷ some) = ap suc (by_list some)

-- the last mark of some, set to a number
pub numbered : (marks : List Mark) (before after : List scan.Mark) (last : ℕ) (there : Mark) (value kept : ℤ) → last ≡ length marks → kept ≡ value → AreMarks marks before → IsNumbered before after value → there ≡ get_or marks (last - 1) there → AreMarks (set marks (last - 1) (with_number there kept)) after
numbered marks before after last there value kept at same are n is =
    let here : AreMarks marks (n.marks ++ mark_of n.term n.start n.count (pos 0) ∷ []) = subst (AreMarks marks) n.old are in
    let some : 0 < length marks = omega (arith, length_values marks (n.marks ++ mark_of n.term n.start n.count (pos 0) ∷ []) here, length-append n.marks (mark_of n.term n.start n.count (pos 0) ∷ [])) in
    subst (λ v. AreMarks (set marks (last - 1) (with_number there v)) after) (sym same)
    (subst (λ all. AreMarks all after) (sym (set_last marks last there value some at is))
    (subst (AreMarks (with_value marks value)) (sym n.new) (marks_with_value marks n.marks n.term n.start n.count value here)))
