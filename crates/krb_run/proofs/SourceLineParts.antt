-- The lines of a text that comes in pieces.
use Rattle.std.proofs.Common.{◌≡◌, ℕ, ◌+◌, ◌<◌, ◌≤◌, inr, Bool, true, false, cond, List, [], ◌∷◌, ◌++◌, length, get_or, take, Some, None, refl, sym, ◌∙◌, ap, subst, arith, append_assoc, append-nil, add-one, length-take}
use Rattle.std.specs.Prelude.{◌==◌}
use Rattle.std.specs.List.{All, onto_first}
use Rattle.std.proofs.Math.Seq.{take-suc}
use Rattle.std.proofs.lemmas.Bool.Decides.{nat_tests}
use Rattle.std.proofs.lemmas.List.{get_or-take, get_or_default}
use Rattle.std.proofs.lemmas.List.Splits.{slice_split_none, slice_split_at}
use Rattle.memchr.specs.Find.{Nowhere, Passes, IsFirstByte, is_byte}
use Rattle.krb_run.specs.ConversionRules.{IsBeginning}
use Rattle.krb_run.specs.LineReaders.{MayFollow}
use Rattle.krb_run.specs.TextLines.{parts, without_empty_last, lines_of, ended_of, last_of}

-- ---- the parts of two texts
-- the last part, which goes on with the first of others
onto_last : List ℕ → List (List ℕ) → List (List ℕ)
onto_last last [] = last ∷ []
onto_last last (first ∷ others) = (last ++ first) ∷ others

join : List (List ℕ) → List (List ℕ) → List (List ℕ)
join [] second = second
join (last ∷ []) second = onto_last last second
join (first ∷ next ∷ others) second = first ∷ join (next ∷ others) second

-- there is a part
record HasPart (found : List (List ℕ)) : Type 0 where
  first : List ℕ
  others : List (List ℕ)
  is : found ≡ first ∷ others

some_first : (octet : ℕ) (found : List (List ℕ)) (b : Bool) → HasPart found → HasPart (cond b ([] ∷ found) (onto_first octet found))
some_first octet found true p = record { first = []; others = found; is = refl }
some_first octet found false p = record { first = octet ∷ p.first; others = p.others; is = ap (onto_first octet) p.is }

some_part : (text : List ℕ) → HasPart (parts text)
some_part [] = record { first = []; others = []; is = refl }
some_part (octet ∷ text) = some_first octet (parts text) (octet == 10) (some_part text)

onto_nothing : (second : List (List ℕ)) → HasPart second → second ≡ onto_last [] second
unfolding onto_last
onto_nothing second p = p.is ∙ sym (ap (onto_last []) p.is)

join_octet : (octet : ℕ) (b : Bool) (first : List ℕ) (others second : List (List ℕ)) → cond b ([] ∷ join (first ∷ others) second) (onto_first octet (join (first ∷ others) second)) ≡ join (cond b ([] ∷ first ∷ others) (onto_first octet (first ∷ others))) second
unfolding join onto_last
join_octet octet true first others second = refl
join_octet octet false first [] [] = refl
join_octet octet false first [] (next ∷ second) = refl
join_octet octet false first (next ∷ others) second = refl

parts-append : (text more : List ℕ) → parts (text ++ more) ≡ join (parts text) (parts more)
unfolding join
parts-append [] more = onto_nothing (parts more) (some_part more)
parts-append (octet ∷ text) more =
    let p = some_part text in
    ap (λ found. cond (octet == 10) ([] ∷ found) (onto_first octet found)) (parts-append text more)
    ∙ ap (λ found. cond (octet == 10) ([] ∷ join found (parts more)) (onto_first octet (join found (parts more)))) p.is
    ∙ join_octet octet (octet == 10) p.first p.others (parts more)
    ∙ ap (λ found. join (cond (octet == 10) ([] ∷ found) (onto_first octet found)) (parts more)) (sym p.is)

join_ended : (ended : List (List ℕ)) (last : List ℕ) (second : List (List ℕ)) → join (ended ++ last ∷ []) second ≡ ended ++ onto_last last second
unfolding join
join_ended [] last second = refl
join_ended (first ∷ []) last second = refl
join_ended (first ∷ next ∷ ended) last second = ap (λ l. first ∷ l) (join_ended (next ∷ ended) last second)

-- ---- lines
ended_of-from : (ended : List (List ℕ)) (first : List ℕ) (others : List (List ℕ)) → ended_of (ended ++ first ∷ others) ≡ ended ++ ended_of (first ∷ others)
ended_of-from [] first others = refl
ended_of-from (line ∷ []) first others = refl
ended_of-from (line ∷ next ∷ ended) first others = ap (λ l. line ∷ l) (ended_of-from (next ∷ ended) first others)

pub ended_of-last : (ended : List (List ℕ)) (last : List ℕ) → ended_of (ended ++ last ∷ []) ≡ ended
ended_of-last ended last = ended_of-from ended last [] ∙ append-nil ended

keeps_first : (first next : List ℕ) (others : List (List ℕ)) → without_empty_last (first ∷ next ∷ others) ≡ first ∷ without_empty_last (next ∷ others)
keeps_first [] next others = refl
keeps_first (octet ∷ first) next others = refl

-- only the last part may be no line
pub lines-from : (ended : List (List ℕ)) (first : List ℕ) (others : List (List ℕ)) → without_empty_last (ended ++ first ∷ others) ≡ ended ++ without_empty_last (first ∷ others)
lines-from [] first others = refl
lines-from (line ∷ []) first others = keeps_first line first others
lines-from (line ∷ next ∷ ended) first others = keeps_first line next (ended ++ first ∷ others) ∙ ap (λ l. line ∷ l) (lines-from (next ∷ ended) first others)

pub lines-empty : (ended : List (List ℕ)) → without_empty_last (ended ++ [] ∷ []) ≡ ended
lines-empty ended = lines-from ended [] [] ∙ append-nil ended

keeps_last : (last : List ℕ) → (last ≡ [] → ⊥) → without_empty_last (last ∷ []) ≡ last ∷ []
keeps_last [] some = absurd (some refl)
keeps_last (octet ∷ last) some = refl

pub lines-last : (ended : List (List ℕ)) (last : List ℕ) → (last ≡ [] → ⊥) → without_empty_last (ended ++ last ∷ []) ≡ ended ++ last ∷ []
lines-last ended last some = lines-from ended last [] ∙ ap (λ l. ended ++ l) (keeps_last last some)

pub last_of-from : (ended : List (List ℕ)) (first : List ℕ) (others : List (List ℕ)) → last_of (ended ++ first ∷ others) ≡ last_of (first ∷ others)
last_of-from [] first others = refl
last_of-from (line ∷ []) first others = refl
last_of-from (line ∷ next ∷ ended) first others = last_of-from (next ∷ ended) first others

-- ---- lines that follow octets of one
-- the first begins with them
abbrev pub Begin : List ℕ → List (List ℕ) → Type 0
Begin last [] = last ≡ []
Begin last (line ∷ lines) = IsBeginning last line

pub nothing_before : (first rest : List ℕ) → [] ≡ first ++ rest → first ≡ []
nothing_before [] rest e = refl
nothing_before (octet ∷ first) rest e = absurd cc

begin_all : (last next : List ℕ) (others : List (List ℕ)) → IsBeginning last next → Begin last (without_empty_last (next ∷ others))
begin_all last [] [] b = nothing_before last b.rest b.parts
begin_all last [] (first ∷ others) b = b
begin_all last (octet ∷ next) [] b = b
begin_all last (octet ∷ next) (first ∷ others) b = b

follow_ended : (IsShort : List ℕ → Type 0) (last next : List ℕ) (others : List (List ℕ)) → IsBeginning last next → IsShort (last_of (next ∷ others)) → MayFollow IsShort last (ended_of (next ∷ others))
follow_ended IsShort last next [] b short = inr (b.rest, subst IsShort b.parts short)
follow_ended IsShort last next (first ∷ others) b short = b

-- the first of them, if there is one, begins with octets
abbrev pub BeginsFirst : List ℕ → List (List ℕ) → Type 0
BeginsFirst last [] = Unit {0}
BeginsFirst last (line ∷ lines) = IsBeginning last line

first_ended : (last next : List ℕ) (others : List (List ℕ)) → IsBeginning last next → BeginsFirst last (ended_of (next ∷ others))
first_ended last next [] b = tt
first_ended last next (first ∷ others) b = b

-- ---- a text whose lines have ended, but for the last
module _ (text : List ℕ) (ended : List (List ℕ)) (last : List ℕ) (all : parts text ≡ ended ++ last ∷ []) where
  parts_more : (more : List ℕ) → parts (text ++ more) ≡ ended ++ onto_last last (parts more)
  parts_more more = parts-append text more ∙ ap (λ found. join found (parts more)) all ∙ join_ended ended last (parts more)

  -- whatever comes
  record HasMore (more : List ℕ) : Type 0 where
    next : List ℕ
    others : List (List ℕ)
    is : parts (text ++ more) ≡ ended ++ next ∷ others
    begins : IsBeginning last next

  has_more : (more : List ℕ) → HasMore more
  unfolding onto_last
  has_more more = let p = some_part more in record { next = last ++ p.first; others = p.others; is = parts_more more ∙ ap (λ found. ended ++ onto_last last found) p.is; begins = record { rest = p.first; parts = refl } }

  pub lines-more : (more : List ℕ) → (others : List (List ℕ)) × (lines_of (text ++ more) ≡ ended ++ others) × Begin last others
  lines-more more = let m = has_more more in (without_empty_last (m.next ∷ m.others), ap without_empty_last m.is ∙ lines-from ended m.next m.others, begin_all last m.next m.others m.begins)

  pub ended_of-more : (more : List ℕ) → (others : List (List ℕ)) × (ended_of (parts (text ++ more)) ≡ ended ++ others) × ((IsShort : List ℕ → Type 0) → IsShort (last_of (parts (text ++ more))) → MayFollow IsShort last others)
  ended_of-more more =
      let m = has_more more in (
        ended_of (m.next ∷ m.others),
        ap ended_of m.is ∙ ended_of-from ended m.next m.others,
        λ IsShort short. follow_ended IsShort last m.next m.others m.begins (subst IsShort (ap last_of m.is ∙ last_of-from ended m.next m.others) short),
      )

  pub ended_of-begins : (more : List ℕ) → (others : List (List ℕ)) × (ended_of (parts (text ++ more)) ≡ ended ++ others) × BeginsFirst last others
  ended_of-begins more = let m = has_more more in (ended_of (m.next ∷ m.others), ap ended_of m.is ∙ ended_of-from ended m.next m.others, first_ended last m.next m.others m.begins)

  -- more octets of the line came
  pub parts_grow : (more : List ℕ) → parts more ≡ more ∷ [] → parts (text ++ more) ≡ ended ++ (last ++ more) ∷ []
  unfolding onto_last
  parts_grow more e = parts_more more ∙ ap (λ found. ended ++ onto_last last found) e

  -- the line ended
  pub parts_end : (more : List ℕ) → parts (more ++ 10 ∷ []) ≡ more ∷ [] ∷ [] → parts (text ++ (more ++ 10 ∷ [])) ≡ (ended ++ (last ++ more) ∷ []) ++ [] ∷ []
  unfolding onto_last
  parts_end more e = parts_more (more ++ 10 ∷ []) ∙ ap (λ found. ended ++ onto_last last found) e ∙ sym (append_assoc ended ((last ++ more) ∷ []) ([] ∷ []))

-- ---- the first line feed
-- A text has a line of so many octets, which ends.
pub record HasFirst (text : List ℕ) (size : ℕ) : Type 0 where
  pub within : size < length text
  pub none : All (λ octet. (octet == 10) ≡ false) (take size text)
  pub line : take (size + 1) text ≡ take size text ++ 10 ∷ []
  pub alone : parts (take size text ++ 10 ∷ []) ≡ take size text ∷ [] ∷ []

is_ten : (octet : ℕ) → (octet == 10) ≡ true → octet ≡ 10
is_ten octet e = grind (arith, nat_tests)

is_false : (b : Bool) → (b ≡ true → ⊥) → b ≡ false
is_false true never = absurd (never refl)
is_false false never = refl

-- no octet before a place is a line feed
none_before : (text : List ℕ) (end : ℕ) → end ≤ length text → Nowhere (Passes (is_byte 10) text) 0 end → (k d : ℕ) → k < end → (get_or text k d == 10) ≡ false
none_before text end within none k d below =
    is_false (get_or text k d == 10)
    (λ is. none k (omega arith) below (subst (λ octet. (octet == 10) ≡ true) (get_or_default text k d 0 (omega (arith, below, within))) is))

-- the first line ends
pub first_line : (text : List ℕ) (size : ℕ) → IsFirstByte (is_byte 10) text (Some size) → HasFirst text size
first_line text size found =
    let within : size < length text = found.0.high in
    let none : All (λ octet. (octet == 10) ≡ false) (take size text) = λ k d l.
    let below : k < size = omega (arith, l, length-take size text) in
    subst (λ octet. (octet == 10) ≡ false) (sym (get_or-take size text k d below)) (none_before text size (omega (arith, within)) found.0.before k d below) in
    record {
      within = within;
      none = none;
      line = ap (λ n. take n text) (add-one size) ∙ take-suc text size 0 within ∙ ap (λ octet. take size text ++ octet ∷ []) (is_ten (get_or text size 0) found.1);
      alone = slice_split_at (λ octet. octet == 10) (take size text) 10 [] none refl;
    }

-- no line ends
pub no_feed : (text : List ℕ) → IsFirstByte (is_byte 10) text None → All (λ octet. (octet == 10) ≡ false) text
no_feed text none = λ k d l. none_before text (length text) (omega arith) none k d l

pub no_line : (text : List ℕ) → IsFirstByte (is_byte 10) text None → parts text ≡ text ∷ []
no_line text none = slice_split_none (λ octet. octet == 10) text (no_feed text none)

-- ---- octets, if there are any
is_zero : (n : ℕ) → (n == 0) ≡ true → n ≡ 0
is_zero n e = grind (arith, nat_tests)

pub is_nothing : (octets : List ℕ) → (length octets == 0) ≡ true → octets ≡ []
is_nothing [] e = refl
is_nothing (octet ∷ octets) e = absurd (omega (arith, is_zero (length (octet ∷ octets)) e))

pub is_something : (octets : List ℕ) → (length octets == 0) ≡ false → octets ≡ [] → ⊥
is_something octets e none = never (ap (λ (l : List ℕ). length l == 0) (sym none) ∙ e)
  where
    never : true ≡ false → ⊥
    never e = cc
