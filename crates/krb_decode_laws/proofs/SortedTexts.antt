-- Texts whose lines are sorted into those of messages and those that are told.
use Rattle.std.proofs.Common.{◌≡◌, ℕ, ◌≤◌, ◌==◌, Bool, true, false, not, cond, if◌then◌else◌, List, [], ◌∷◌, ◌++◌, map, refl, sym, ◌∙◌, ap, ap₂, subst, arith, append_assoc, append-nil, ne_eqb}
use Rattle.std.specs.List.{AllByRecursion, Contains, filter, flat_map}
use Rattle.std.proofs.lemmas.Grind.{flat_map-append}
use Rattle.std.proofs.lemmas.List.{map-append}
use Rattle.std.proofs.lemmas.List.Elements.{Contains-append_left, Contains-append_right, filter-append}
use Rattle.krb_decode.specs.Sorted.{begun_after, is_of_message, is_told, lines_after, message_lines, told_lines, written_of}
use Rattle.krb_laws.proofs.JsonStrings.{all-append}
use Rattle.krb_record.specs.Laws.{IsOneLine}
use Rattle.krb_record.specs.Text.{IsPrintable, line_feed}
use Rattle.krb_tool_laws.specs.Listings.{ArePrintedLines}

abbrev pub with_feed : List ℕ → List ℕ
with_feed line = line ++ line_feed

-- A text is lines of printable ASCII, of which those that begin with a brace are these.
pub record Sorted (text : List ℕ) (messages : List (List ℕ)) : Type 0 where
  pub lines : List (List ℕ)
  pub form : text ≡ flat_map with_feed lines
  pub printed : AllByRecursion IsPrintable lines
  pub messages_are : filter is_of_message lines ≡ messages

-- ---- the lines of a text
no-feed : (octet : ℕ) → 32 ≤ octet → (octet == 10) ≡ false
no-feed octet printed = ne_eqb octet 10 (omega (arith, printed))

-- the first of them ends
ends-first : (begun line others : List ℕ) → IsPrintable line → lines_after begun (line ++ (10 ∷ others)) ≡ (begun ++ (line ++ line_feed)) ∷ lines_after [] others
ends-first begun [] others p = refl
ends-first begun (octet ∷ line) others p =
    ap (λ feed. if feed then (begun ++ octet ∷ []) ∷ lines_after [] (line ++ (10 ∷ others)) else lines_after (begun ++ octet ∷ []) (line ++ (10 ∷ others))) (no-feed octet p.0.0)
    ∙ ends-first (begun ++ octet ∷ []) line others p.1
    ∙ ap (λ first. first ∷ lines_after [] others) (append_assoc begun (octet ∷ []) (line ++ line_feed))

leaves-others : (begun line others : List ℕ) → IsPrintable line → begun_after begun (line ++ (10 ∷ others)) ≡ begun_after [] others
leaves-others begun [] others p = refl
leaves-others begun (octet ∷ line) others p =
    ap (λ feed. if feed then begun_after [] (line ++ (10 ∷ others)) else begun_after (begun ++ octet ∷ []) (line ++ (10 ∷ others))) (no-feed octet p.0.0) ∙ leaves-others (begun ++ octet ∷ []) line others p.1

pub all-lines : (lines : List (List ℕ)) → AllByRecursion IsPrintable lines → lines_after [] (flat_map with_feed lines) ≡ map with_feed lines
all-lines [] each = refl
all-lines (line ∷ lines) each =
    ap (lines_after []) (append_assoc line line_feed (flat_map with_feed lines))
    ∙ ends-first [] line (flat_map with_feed lines) each.0
    ∙ ap (λ others. with_feed line ∷ others) (all-lines lines each.1)

none-begun : (lines : List (List ℕ)) → AllByRecursion IsPrintable lines → begun_after [] (flat_map with_feed lines) ≡ []
none-begun [] each = refl
none-begun (line ∷ lines) each = ap (begun_after []) (append_assoc line line_feed (flat_map with_feed lines)) ∙ leaves-others [] line (flat_map with_feed lines) each.0 ∙ none-begun lines each.1

-- ---- those of messages
its-first : (line : List ℕ) → is_of_message (with_feed line) ≡ is_of_message line
its-first [] = refl
its-first (octet ∷ line) = refl

written-lines : (lines : List (List ℕ)) → flat_map written_of (map with_feed lines) ≡ flat_map with_feed (filter is_of_message lines)
written-lines [] = refl
written-lines (line ∷ lines) =
    ap₂ (λ braced others. (if braced then with_feed line else []) ++ others) (its-first line) (written-lines lines) ∙ by (is_of_message line)
  where
    by : (braced : Bool) → (if braced then with_feed line else []) ++ flat_map with_feed (filter is_of_message lines) ≡ flat_map with_feed (cond braced (line ∷ filter is_of_message lines) (filter is_of_message lines))
    by true = refl
    by false = refl

pub sorted-messages : (text : List ℕ) (messages : List (List ℕ)) → Sorted text messages → message_lines text ≡ flat_map with_feed messages
unfolding message_lines
sorted-messages text messages s =
    ap (λ all. flat_map written_of (lines_after [] all) ++ written_of (begun_after [] all)) s.form
    ∙ ap₂ (λ ended begun. flat_map written_of ended ++ written_of begun) (all-lines s.lines s.printed) (none-begun s.lines s.printed)
    ∙ append-nil (flat_map written_of (map with_feed s.lines))
    ∙ written-lines s.lines
    ∙ ap (flat_map with_feed) s.messages_are

-- how many there are
either : (test : Bool) (line : List ℕ) (lines : List (List ℕ)) → IsPrintable line → AllByRecursion IsPrintable lines → AllByRecursion IsPrintable (cond test (line ∷ lines) lines)
either true line lines p each = (p, each)
either false line lines p each = each

filtered : (lines : List (List ℕ)) → AllByRecursion IsPrintable lines → AllByRecursion IsPrintable (filter is_of_message lines)
filtered [] each = tt
filtered (line ∷ lines) each = either (is_of_message line) line (filter is_of_message lines) each.0 (filtered lines each.1)

pub sorted-count : (text : List ℕ) (messages : List (List ℕ)) → Sorted text messages → lines_after [] (message_lines text) ≡ map with_feed messages
sorted-count text messages s = ap (lines_after []) (sorted-messages text messages s) ∙ all-lines messages (subst (AllByRecursion IsPrintable) s.messages_are (filtered s.lines s.printed))

-- ---- and those that are told
told-lines : (text : List ℕ) (messages : List (List ℕ)) → (s : Sorted text messages) → told_lines text ≡ filter is_told (map with_feed s.lines)
unfolding told_lines
told-lines text messages s = ap (λ all. filter is_told (lines_after [] all)) s.form ∙ ap (filter is_told) (all-lines s.lines s.printed)

pub sorted-printed : (text : List ℕ) (messages : List (List ℕ)) → Sorted text messages → ArePrintedLines text
sorted-printed text messages s = (s.lines, s.printed, s.form)

-- ---- texts put together
pub none : Sorted [] []
none = record { lines = []; form = refl; printed = tt; messages_are = refl }

pub both : {a b : List ℕ} {m n : List (List ℕ)} → Sorted a m → Sorted b n → Sorted (a ++ b) (m ++ n)
both {a} {b} {m} {n} s t = record {
  lines = s.lines ++ t.lines;
  form = ap₂ (λ x y. x ++ y) s.form t.form ∙ sym (flat_map-append with_feed s.lines t.lines);
  printed = all-append IsPrintable s.lines t.lines s.printed t.printed;
  messages_are = filter-append is_of_message s.lines t.lines ∙ ap₂ (λ x y. x ++ y) s.messages_are t.messages_are;
}

pub told-both : {a b : List ℕ} {m n : List (List ℕ)} → Sorted a m → Sorted b n → told_lines (a ++ b) ≡ told_lines a ++ told_lines b
unfolding both
told-both {a} {b} {m} {n} s t =
    told-lines (a ++ b) (m ++ n) (both s t)
    ∙ ap (filter is_told) (map-append with_feed s.lines t.lines)
    ∙ filter-append is_told (map with_feed s.lines) (map with_feed t.lines)
    ∙ ap₂ (λ x y. x ++ y) (sym (told-lines a m s)) (sym (told-lines b n t))

-- what is told in one of two
pub told-left : {a b : List ℕ} {m n : List (List ℕ)} → Sorted a m → Sorted b n → (told : List ℕ) → Contains (told_lines a) told → Contains (told_lines (a ++ b)) told
told-left {a} {b} {m} {n} s t told is = subst (λ all. Contains all told) (sym (told-both s t)) (Contains-append_left (told_lines a) (told_lines b) told is)

pub told-right : {a b : List ℕ} {m n : List (List ℕ)} → Sorted a m → Sorted b n → (told : List ℕ) → Contains (told_lines b) told → Contains (told_lines (a ++ b)) told
told-right {a} {b} {m} {n} s t told is = subst (λ all. Contains all told) (sym (told-both s t)) (Contains-append_right (told_lines a) (told_lines b) told is)

-- ---- one line
-- of a message
pub a-message : (line : List ℕ) → IsPrintable line → is_of_message line ≡ true → Sorted (with_feed line) (line ∷ [])
a-message line printed brace = record {
  lines = line ∷ [];
  form = sym (append-nil (with_feed line));
  printed = (printed, tt);
  messages_are = ap (λ b. cond b (line ∷ []) []) brace;
}

-- that is told
no-brace : (text line : List ℕ) → line ≡ text ++ line_feed → is_of_message line ≡ false → is_of_message text ≡ false
no-brace text line e plain = sym (its-first text) ∙ sym (ap is_of_message e) ∙ plain

pub a-told : (line : List ℕ) → IsOneLine line → is_of_message line ≡ false → Sorted line []
a-told line one plain = record {
  lines = one.0 ∷ [];
  form = one.2 ∙ sym (append-nil (with_feed one.0));
  printed = (one.1, tt);
  messages_are = ap (λ b. cond b (one.0 ∷ []) []) (no-brace one.0 line one.2 plain);
}

pub told-line : (line : List ℕ) → IsOneLine line → is_of_message line ≡ false → told_lines line ≡ line ∷ []
unfolding a-told
told-line line one plain =
    told-lines line [] (a-told line one plain) ∙ ap (λ l. cond (not (is_of_message l)) (l ∷ []) []) (sym one.2) ∙ ap (λ b. cond (not b) (line ∷ []) []) plain

pub it-is-told : (line : List ℕ) → IsOneLine line → is_of_message line ≡ false → Contains (told_lines line) line
it-is-told line one plain = subst (λ all. Contains all line) (sym (told-line line one plain)) (0, omega arith, refl)
