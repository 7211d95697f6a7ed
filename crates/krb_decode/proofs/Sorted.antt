-- The lines of texts one after another.
use Rattle.std.proofs.Common.{◌≡◌, ◌∙◌, ℕ, zero, suc, ◌+◌, ◌-◌, ◌≤◌, ◌==◌, Bool, true, false, List, [], ◌∷◌, ◌++◌, get_or, length, take, drop, take-append-drop, Option, Some, None, cond, append-nil, sym, refl, ap, subst, append_assoc, arith}
use Rattle.std.specs.Prelude.{◌&&◌, ◌||◌, not, filter, flat_map, slice_get}
use Rattle.std.specs.Option.{unwrap_or}
use Rattle.std.proofs.Math.Seq.{take-add}
use Rattle.std.proofs.lemmas.List.{take-take}
use Rattle.std.proofs.lemmas.Grind.{flat_map-append}
use Rattle.std.proofs.lemmas.List.Elements.{filter-append}
use Rattle.krb_decode.specs.Sorted.{begun_after, is_of_message, is_told, lines_after, message_lines, told_lines, written_of}
use Rattle.krb_decode.specs.inner.Sorter.{HasNoFeed, IsLine, are_of_messages, goes_to_message, within_after}

pub begun-append : (begun xs ys : List ℕ) → begun_after begun (xs ++ ys) ≡ begun_after (begun_after begun xs) ys
begun-append begun [] ys = refl
begun-append begun (c ∷ others) ys =
    elim (c == 10) as (λ b. cond b (begun_after [] (others ++ ys)) (begun_after (begun ++ c ∷ []) (others ++ ys)) ≡ begun_after (cond b (begun_after [] others) (begun_after (begun ++ c ∷ []) others)) ys)
    [ true ↦ begun-append [] others ys | false ↦ begun-append (begun ++ c ∷ []) others ys ]

pub lines-append : (begun xs ys : List ℕ) → lines_after begun (xs ++ ys) ≡ lines_after begun xs ++ lines_after (begun_after begun xs) ys
lines-append begun [] ys = refl
lines-append begun (c ∷ others) ys =
    elim (c == 10) as (λ b. cond b ((begun ++ c ∷ []) ∷ lines_after [] (others ++ ys)) (lines_after (begun ++ c ∷ []) (others ++ ys)) ≡ cond b ((begun ++ c ∷ []) ∷ lines_after [] others) (lines_after (begun ++ c ∷ []) others) ++ lines_after (cond b (begun_after [] others) (begun_after (begun ++ c ∷ []) others)) ys)
    [ true ↦ ap (λ l. (begun ++ c ∷ []) ∷ l) (lines-append [] others ys) | false ↦ lines-append (begun ++ c ∷ []) others ys ]

-- ---- octets without a line feed
begun-none : (begun xs : List ℕ) → HasNoFeed xs → begun_after begun xs ≡ begun ++ xs
begun-none begun [] none = sym (append-nil begun)
begun-none begun (c ∷ others) none =
    ap (λ b. cond b (begun_after [] others) (begun_after (begun ++ c ∷ []) others)) (none 0 (omega arith))
    ∙ begun-none (begun ++ c ∷ []) others (λ k l. none (suc k) (omega (arith, l))) ∙ append_assoc begun (c ∷ []) others

lines-none : (begun xs : List ℕ) → HasNoFeed xs → lines_after begun xs ≡ []
lines-none begun [] none = refl
lines-none begun (c ∷ others) none =
    ap (λ b. cond b ((begun ++ c ∷ []) ∷ lines_after [] others) (lines_after (begun ++ c ∷ []) others)) (none 0 (omega arith))
    ∙ lines-none (begun ++ c ∷ []) others (λ k l. none (suc k) (omega (arith, l)))

-- ---- a line, or all but its end
pub line-begun : (has_ended : Bool) (begun xs : List ℕ) → IsLine has_ended xs → begun_after begun xs ≡ cond has_ended [] (begun ++ xs)
line-begun false begun xs none = begun-none begun xs none
line-begun true begun xs (line, none, is) = ap (begun_after begun) is ∙ begun-append begun line (10 ∷ [])

pub line-lines : (has_ended : Bool) (begun xs : List ℕ) → IsLine has_ended xs → lines_after begun xs ≡ cond has_ended ((begun ++ xs) ∷ []) []
line-lines false begun xs none = lines-none begun xs none
line-lines true begun xs (line, none, is) =
    ap (lines_after begun) is ∙ lines-append begun line (10 ∷ [])
    ∙ ap (λ l. l ++ ((begun_after begun line ++ 10 ∷ []) ∷ [])) (lines-none begun line none)
    ∙ ap (λ b. (b ++ 10 ∷ []) ∷ []) (begun-none begun line none) ∙ ap (λ l. l ∷ []) (append_assoc begun line (10 ∷ []) ∙ ap (λ l. begun ++ l) (sym is))

-- ---- octets of lines of messages
within-append : (is_within : Bool) (xs ys : List ℕ) → within_after is_within (xs ++ ys) ≡ within_after (within_after is_within xs) ys
within-append is_within [] ys = refl
within-append is_within (c ∷ others) ys = within-append (not (c == 10)) others ys

and-assoc : (a b c : Bool) → (a && (b && c)) ≡ ((a && b) && c)
and-assoc true b c = refl
and-assoc false b c = refl

of-append : (is_within : Bool) (xs ys : List ℕ) → are_of_messages is_within (xs ++ ys) ≡ (are_of_messages is_within xs && are_of_messages (within_after is_within xs) ys)
of-append is_within [] ys = refl
of-append is_within (c ∷ others) ys =
    ap (λ b. (is_within || c == 0x7B) && b) (of-append (not (c == 10)) others ys) ∙ and-assoc (is_within || c == 0x7B) (are_of_messages (not (c == 10)) others) (are_of_messages (within_after (not (c == 10)) others) ys)

first-true : (a b : Bool) → (a && b) ≡ true → a ≡ true
first-true true b e = refl
first-true false b e = e

rest-true : (a b : Bool) → (a && b) ≡ true → b ≡ true
rest-true true b e = e
rest-true false b e = absurd (let h : false ≡ true = e in cc)

-- those of which all are have such a beginning
pub of-first : (is_within : Bool) (xs ys : List ℕ) → are_of_messages is_within (xs ++ ys) ≡ true → are_of_messages is_within xs ≡ true
of-first is_within xs ys e = first-true (are_of_messages is_within xs) _ (sym (of-append is_within xs ys) ∙ e)

pub of-both : (is_within : Bool) (xs ys : List ℕ) → are_of_messages is_within xs ≡ true → are_of_messages (within_after is_within xs) ys ≡ true → are_of_messages is_within (xs ++ ys) ≡ true
of-both is_within xs ys e f = of-append is_within xs ys ∙ ap (λ b. b && are_of_messages (within_after is_within xs) ys) e ∙ f

-- of a line that has begun
of-none : (xs : List ℕ) → HasNoFeed xs → (are_of_messages true xs ≡ true) × (within_after true xs ≡ true)
of-none [] none = (refl, refl)
of-none (c ∷ others) none =
    let next = of-none others (λ k l. none (suc k) (omega (arith, l))) in
    let goes_on : not (c == 10) ≡ true = ap not (none 0 (omega arith)) in
    (ap (λ b. are_of_messages b others) goes_on ∙ next.0, ap (λ b. within_after b others) goes_on ∙ next.1)

pub line-of : (has_ended : Bool) (xs : List ℕ) → IsLine has_ended xs → (are_of_messages true xs ≡ true) × (within_after true xs ≡ not has_ended)
line-of false xs none = of-none xs none
line-of true xs (line, none, is) =
    let all = of-none line none in (
      ap (are_of_messages true) is ∙ of-both true line (10 ∷ []) all.0 (ap (λ b. are_of_messages b (10 ∷ [])) all.1),
      ap (within_after true) is ∙ within-append true line (10 ∷ []),
    )

-- of one that begins with a brace
brace-of : (xs ys : List ℕ) → is_of_message ys ≡ true → (rest : List ℕ) → ys ≡ xs ++ rest → are_of_messages true xs ≡ true → are_of_messages false xs ≡ true
brace-of [] ys brace rest is all = refl
brace-of (c ∷ others) ys brace rest is all =
    let first : (c == 0x7B) ≡ true = sym (ap is_of_message is) ∙ brace in
    ap (λ b. b && are_of_messages (not (c == 10)) others) first ∙ all

of-brace : (size : ℕ) (text : List ℕ) → is_of_message text ≡ true → are_of_messages true (take size text) ≡ true → are_of_messages false (take size text) ≡ true
of-brace size text brace all = brace-of (take size text) text brace (drop size text) (sym (take-append-drop size text)) all

pub of-goes : (is_within : Bool) (begun : List ℕ) (size : ℕ) (text : List ℕ) → goes_to_message is_within begun text ≡ true → are_of_messages true (take size text) ≡ true → are_of_messages is_within (take size text) ≡ true
of-goes true begun size text goes all = all
of-goes false [] size text goes all = of-brace size text goes all
of-goes false (f ∷ others) size text goes all = absurd (let h : false ≡ true = goes in cc)

-- the first of so many
pub of-fewer : (count size : ℕ) (text : List ℕ) → count ≤ size → are_of_messages true (take size text) ≡ true → are_of_messages true (take count text) ≡ true
of-fewer count size text few all =
    ap (are_of_messages true) (sym (take-take count size text few)) ∙ of-first true (take count (take size text)) (drop count (take size text)) (ap (are_of_messages true) (take-append-drop count (take size text)) ∙ all)

-- ---- lines one after another
brace-at : (size : ℕ) (text : List ℕ) → get_or text size 0 ≡ 0x7B → is_of_message (drop size text) ≡ true
brace-at size [] e = absurd (omega (arith, e))
brace-at zero (c ∷ others) e = ap (λ n. n == 0x7B) e
brace-at (suc size) (c ∷ others) e = brace-at size others e

ends-line : (is_within : Bool) (xs : List ℕ) → IsLine true xs → within_after is_within xs ≡ false
ends-line is_within xs (line, none, is) = ap (within_after is_within) is ∙ within-append is_within line (10 ∷ [])

module _ (size next : ℕ) (text : List ℕ) (has_ended : Bool) (was : within_after true (take size text) ≡ false) (line : IsLine has_ended (take next (drop size text))) where
  pub lines-more : are_of_messages true (take size text) ≡ true → get_or text size 0 ≡ 0x7B → are_of_messages true (take (size + next) text) ≡ true
  lines-more all brace =
      ap (are_of_messages true) (take-add size next text)
      ∙ of-both true (take size text) (take next (drop size text)) all (ap (λ b. are_of_messages b (take next (drop size text))) was ∙ of-brace next (drop size text) (brace-at size text brace) (line-of has_ended (take next (drop size text)) line).0)

  pub lines-end : has_ended ≡ true → within_after true (take (size + next) text) ≡ false
  lines-end ended =
      ap (within_after true) (take-add size next text) ∙ within-append true (take size text) (take next (drop size text))
      ∙ ends-line (within_after true (take size text)) (take next (drop size text)) (subst (λ (b : Bool). IsLine b (take next (drop size text))) ended line)

-- the last octet tells
last-at : (is_within : Bool) (c : ℕ) (others : List ℕ) (last : ℕ) → Some last ≡ slice_get (c ∷ others) (length others) → within_after is_within (c ∷ others) ≡ not (last == 10)
last-at is_within c [] last e = ap (λ (o : Option ℕ). not (unwrap_or o 0 == 10)) (sym e)
last-at is_within c (d ∷ others) last e = last-at (not (c == 10)) d others last e

pub within-last : (is_within : Bool) (xs : List ℕ) (last : ℕ) → Some last ≡ slice_get xs (length xs - 1) → within_after is_within xs ≡ not (last == 10)
within-last is_within [] last e = let h : Some last ≡ None = e in cc
within-last is_within (c ∷ others) last e =
    let size : length (c ∷ others) - 1 ≡ length others = omega arith in
    last-at is_within c others last (subst (λ (n : ℕ). Some last ≡ slice_get (c ∷ others) n) size e)

-- ---- where the line that has begun is of a message, or none has
pub record IsReady (begun : List ℕ) (is_within : Bool) : Type 0 where
  pub within : is_within ≡ is_of_message begun
  pub written : written_of begun ≡ begun

pub ready-message : (begun : List ℕ) → is_of_message begun ≡ true → IsReady begun true
ready-message begun is = record { within = sym is; written = ap (λ b. cond b begun []) is }

pub ready-none : IsReady [] false
ready-none = record { within = refl; written = refl }

-- it is so after an octet
next-of : (begun : List ℕ) (is_within : Bool) (c : ℕ) → IsReady begun is_within → (is_within || c == 0x7B) ≡ true → is_of_message (begun ++ c ∷ []) ≡ true
next-of [] is_within c ready e = sym (ap (λ b. b || c == 0x7B) ready.within) ∙ e
next-of (f ∷ others) is_within c ready e =
    elim (f == 0x7B) as (λ b. cond b (f ∷ others) [] ≡ f ∷ others → b ≡ true)
    [ true ↦ λ _. refl | false ↦ λ (h : [] ≡ f ∷ others). absurd (omega (arith, ap (λ (l : List ℕ). length l) h)) ] ready.written

-- octets of lines of messages after such a beginning: these lines are all written
pub record AreWritten (begun xs : List ℕ) (lines : List (List ℕ)) (last : List ℕ) (is_within : Bool) : Type 0 where
  pub written : flat_map written_of lines ++ written_of last ≡ begun ++ xs
  pub told : filter is_told lines ≡ []
  pub ready : IsReady last is_within

pub are-written : (begun : List ℕ) (is_within : Bool) (xs : List ℕ) → IsReady begun is_within → are_of_messages is_within xs ≡ true → AreWritten begun xs (lines_after begun xs) (begun_after begun xs) (within_after is_within xs)
are-written begun is_within [] ready all = record { written = ready.written ∙ sym (append-nil begun); told = refl; ready = ready }
are-written begun is_within (c ∷ others) ready all =
    let line = begun ++ c ∷ [] in
    let of : is_of_message line ≡ true = next-of begun is_within c ready (first-true (is_within || c == 0x7B) _ all) in
    let rest : are_of_messages (not (c == 10)) others ≡ true = rest-true (is_within || c == 0x7B) _ all in
    elim (c == 10) as (λ b. are_of_messages (not b) others ≡ true → AreWritten begun (c ∷ others) (cond b (line ∷ lines_after [] others) (lines_after line others)) (cond b (begun_after [] others) (begun_after line others)) (within_after (not b) others)) [
      | true ↦ λ (r : are_of_messages false others ≡ true).
          let next = are-written [] false others ready-none r in
          record {
            written = ap (λ (l : List ℕ). (l ++ flat_map written_of (lines_after [] others)) ++ written_of (begun_after [] others)) (ap (λ b. cond b line []) of)
                ∙ append_assoc line (flat_map written_of (lines_after [] others)) (written_of (begun_after [] others)) ∙ ap (λ (l : List ℕ). line ++ l) next.written ∙ append_assoc begun (c ∷ []) others;
            told = ap (λ b. cond (not b) (line ∷ filter is_told (lines_after [] others)) (filter is_told (lines_after [] others))) of ∙ next.told;
            ready = next.ready;
          }
      | false ↦ λ (r : are_of_messages true others ≡ true).
          let next = are-written line true others (ready-message line of) r in
          record { written = next.written ∙ append_assoc begun (c ∷ []) others; told = next.told; ready = next.ready }
    ] rest

-- ---- all of a text
pub message-append : (given xs : List ℕ) → message_lines (given ++ xs) ≡ flat_map written_of (lines_after [] given) ++ (flat_map written_of (lines_after (begun_after [] given) xs) ++ written_of (begun_after (begun_after [] given) xs))
unfolding message_lines
message-append given xs =
    let begun = begun_after [] given in
    ap (λ (l : List (List ℕ)). flat_map written_of l ++ written_of (begun_after [] (given ++ xs))) (lines-append [] given xs)
    ∙ ap (λ (l : List ℕ). flat_map written_of (lines_after [] given ++ lines_after begun xs) ++ written_of l) (begun-append [] given xs)
    ∙ ap (λ (l : List ℕ). l ++ written_of (begun_after begun xs)) (flat_map-append written_of (lines_after [] given) (lines_after begun xs))
    ∙ append_assoc (flat_map written_of (lines_after [] given)) (flat_map written_of (lines_after begun xs)) (written_of (begun_after begun xs))

pub told-append : (given xs : List ℕ) → told_lines (given ++ xs) ≡ told_lines given ++ filter is_told (lines_after (begun_after [] given) xs)
unfolding told_lines
told-append given xs = ap (filter is_told) (lines-append [] given xs) ∙ filter-append is_told (lines_after [] given) (lines_after (begun_after [] given) xs)

-- a line that is not of a message
none-written : (has_ended : Bool) (line : List ℕ) → is_of_message line ≡ false → flat_map written_of (cond has_ended (line ∷ []) []) ++ written_of (cond has_ended [] line) ≡ []
none-written true line other = ap (λ b. (cond b line [] ++ []) ++ []) other
none-written false line other = ap (λ b. cond b line []) other

is-told : (has_ended : Bool) (line : List ℕ) → is_of_message line ≡ false → filter is_told (cond has_ended (line ∷ []) []) ≡ cond has_ended (line ∷ []) []
is-told true line other = ap (λ b. cond (not b) (line ∷ []) []) other
is-told false line other = refl

module _ (given : List ℕ) where
  -- with octets of lines of messages
  pub message-more : (xs : List ℕ) (last : List ℕ) (is_within : Bool) → written_of (begun_after [] given) ≡ begun_after [] given → AreWritten (begun_after [] given) xs (lines_after (begun_after [] given) xs) last is_within → last ≡ begun_after (begun_after [] given) xs → message_lines (given ++ xs) ≡ message_lines given ++ xs
  unfolding message_lines
  message-more xs last is_within ready all same =
      let begun = begun_after [] given in let before = flat_map written_of (lines_after [] given) in
      message-append given xs
      ∙ ap (λ (l : List ℕ). before ++ (flat_map written_of (lines_after begun xs) ++ written_of l)) (sym same) ∙ ap (λ (l : List ℕ). before ++ l) all.written
      ∙ sym (append_assoc before begun xs) ∙ ap (λ (l : List ℕ). (before ++ l) ++ xs) (sym ready)

  -- with a line, or all but its end, of which nothing is written
  pub message-same : (has_ended : Bool) (xs : List ℕ) → IsLine has_ended xs → is_of_message (begun_after [] given) ≡ false → is_of_message (begun_after [] given ++ xs) ≡ false → message_lines (given ++ xs) ≡ message_lines given
  unfolding message_lines
  message-same has_ended xs line old new =
      let begun = begun_after [] given in let before = flat_map written_of (lines_after [] given) in
      message-append given xs
      ∙ ap (λ (l : List (List ℕ)). before ++ (flat_map written_of l ++ written_of (begun_after begun xs))) (line-lines has_ended begun xs line)
      ∙ ap (λ (l : List ℕ). before ++ (flat_map written_of (cond has_ended ((begun ++ xs) ∷ []) []) ++ written_of l)) (line-begun has_ended begun xs line)
      ∙ ap (λ (l : List ℕ). before ++ l) (none-written has_ended (begun ++ xs) new ∙ sym (ap (λ b. cond b begun []) old))

  pub told-more : (has_ended : Bool) (xs : List ℕ) → IsLine has_ended xs → is_of_message (begun_after [] given ++ xs) ≡ false → told_lines (given ++ xs) ≡ told_lines given ++ cond has_ended ((begun_after [] given ++ xs) ∷ []) []
  told-more has_ended xs line new =
      let begun = begun_after [] given in
      told-append given xs ∙ ap (λ (l : List (List ℕ)). told_lines given ++ filter is_told l) (line-lines has_ended begun xs line) ∙ ap (λ (l : List (List ℕ)). told_lines given ++ l) (is-told has_ended (begun ++ xs) new)
