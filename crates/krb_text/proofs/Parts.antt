-- Parts one after another, as they are appended and counted.
use Rattle.std.proofs.Common.{◌≡◌, ◌+◌, ◌-◌, ◌^◌, ◌<◌, ◌≤◌, min, nat_lt, take, drop, subst, ap₂, if◌then◌else◌, Bool, true, false, ℕ, List, [], ◌∷◌, ◌++◌, length, Option, Some, None, refl, sym, ◌∙◌, ap, append_assoc, arith, codes, decimal, length-append}
use Rattle.std.proofs.lemmas.Bool.{lt-ltb}
use Rattle.std.proofs.lemmas.List.{append-nil}
use Rattle.std.proofs.Math.Seq.{drop-append_seam, take-append_seam}
use Rattle.std.specs.List.{flat_map}
use Rattle.std.specs.Str.{IsUtf8}
use Rattle.krb_record.specs.declared.form.Form.{Form}
use Rattle.krb_record.specs.declared.form.Form.TheVariants as form
use Rattle.krb_record.specs.declared.form.Wanted.{Wanted}
use Rattle.krb_record.specs.Forms.{has_inside, inside_text, nothing_wanted, part_text}
use Rattle.krb_text.specs.Inside.{one_if}
use Rattle.krb_record.specs.Text.{joined, list_text}
use Rattle.krb_record.specs.Values.{Part}
use Rattle.krb_text.specs.inner.Parts.{AreBetweenCommas, Tells, counted, parts_after, separator, told_after}

-- ---- one after another
pub parts_append : (f : Form) (told : Bool) (ps qs : List Part) → parts_after f told (ps ++ qs) ≡ parts_after f told ps ++ parts_after f (told_after told ps) qs
parts_append f told [] qs = refl
parts_append f told (p ∷ []) qs = rw (append-nil (separator f told ++ part_text f p)) refl
parts_append f told (p ∷ next ∷ ps) qs =
    ap (λ rest. (separator f told ++ part_text f p) ++ rest) (parts_append f true (next ∷ ps) qs)
    ∙ sym (append_assoc (separator f told ++ part_text f p) (parts_after f true (next ∷ ps)) (parts_after f true qs))

-- how many were told is more than none if any was
pub any_counted : (told : ℕ) (ps : List Part) → nat_lt 0 (counted told ps) ≡ told_after (nat_lt 0 told) ps
any_counted told [] = refl
any_counted told (p ∷ ps) =
    any_counted (min (told + 1) (2 ^ 64 - 1)) ps ∙ ap (λ told. told_after told ps) (lt-ltb 0 (min (told + 1) (2 ^ 64 - 1)) (omega arith)) ∙ some ps
  where
    some : (ps : List Part) → told_after true ps ≡ true
    some [] = refl
    some (p ∷ ps) = refl

pub counted_append : (told : ℕ) (ps qs : List Part) → counted told (ps ++ qs) ≡ counted (counted told ps) qs
counted_append told [] qs = refl
counted_append told (p ∷ ps) qs = counted_append (min (told + 1) (2 ^ 64 - 1)) ps qs

pub counted_all : (told : ℕ) (ps : List Part) → told + length ps < 2 ^ 64 → counted told ps ≡ told + length ps
counted_all told [] few = omega arith
counted_all told (p ∷ ps) few =
    let more : min (told + 1) (2 ^ 64 - 1) ≡ told + 1 = omega (arith, few) in
    ap (λ n. counted n ps) more ∙ counted_all (told + 1) ps (omega (arith, few)) ∙ omega arith

pub tells_none : (f : Form) (told : ℕ) (text : List ℕ) → Tells f [] told text told text
tells_none f told text = record { text = sym (append-nil text); by_now = refl }

pub tells_one : (f : Form) (p : Part) (told : ℕ) (old : List ℕ) {now : ℕ} {new : List ℕ} → now ≡ min (told + 1) (2 ^ 64 - 1) → new ≡ old ++ separator f (nat_lt 0 told) ++ part_text f p → Tells f (p ∷ []) told old now new
tells_one f p told old one put = record { text = rw put (simp (append_assoc, append-nil)); by_now = one }

pub tells_both : {f : Form} {told_1 told_2 told_3 : ℕ} {text_1 text_2 text_3 : List ℕ} (ps qs : List Part) → Tells f ps told_1 text_1 told_2 text_2 → Tells f qs told_2 text_2 told_3 text_3 → Tells f (ps ++ qs) told_1 text_1 told_3 text_3
tells_both {f} {told_1} ps qs first second = record {
  text = rw (second.text, first.text, first.by_now, any_counted told_1 ps, parts_append f (nat_lt 0 told_1) ps qs) (simp append_assoc);
  by_now = second.by_now ∙ ap (λ told. counted told qs) first.by_now ∙ sym (counted_append told_1 ps qs);
}

-- ---- of what may be there
pub told_none : {A : Type 0} (part : A → Part) (found : Option A) (f : Form) (told : ℕ) (text : List ℕ) → found ≡ None → Tells f (one_if part found) told text told text
told_none part found f told text none = rw none (tells_none f told text)

pub told_some : {A : Type 0} (part : A → Part) (found : Option A) (f : Form) (told : ℕ) (old : List ℕ) (v : A) {now : ℕ} {new : List ℕ} → found ≡ Some v → now ≡ min (told + 1) (2 ^ 64 - 1) → new ≡ old ++ separator f (nat_lt 0 told) ++ part_text f (part v) → Tells f (one_if part found) told old now new
told_some part found f told old v some one put = rw some (tells_one f (part v) told old one put)

-- ---- of items
-- what is left of the items to be told
pub record Leaves (f : Form) (parts others : List Part) (old_told : ℕ) (old : List ℕ) (told : ℕ) (new : List ℕ) : Type 0 where
  pub text : new ++ parts_after f (nat_lt 0 told) others ≡ old ++ parts_after f (nat_lt 0 old_told) parts
  pub by_now : counted told others ≡ counted old_told parts

-- parts were told, of those that were left
pub leaves_more : {f : Form} {parts others : List Part} {old_told told told_now : ℕ} {old text new : List ℕ} (some rest : List Part) → Leaves f parts others old_told old told text → others ≡ some ++ rest → Tells f some told text told_now new → Leaves f parts rest old_told old told_now new
leaves_more {f} {parts} {others} {old_told} {told} {told_now} {old} {text} {new} some rest left are tells = record {
  text = rw (tells.text, tells.by_now, any_counted told some) (append_assoc text (parts_after f (nat_lt 0 told) some) (parts_after f (told_after (nat_lt 0 told) some) rest) ∙ ap (λ more. text ++ more) (sym (parts_append f (nat_lt 0 told) some rest)) ∙ ap (λ all. text ++ parts_after f (nat_lt 0 told) all) (sym are) ∙ left.text);
  by_now = ap (λ now. counted now rest) tells.by_now ∙ sym (counted_append told some rest) ∙ ap (counted told) (sym are) ∙ left.by_now;
}

-- none is left
pub leaves_none : {f : Form} {parts others : List Part} {old_told told : ℕ} {old text : List ℕ} → Leaves f parts others old_told old told text → others ≡ [] → Tells f parts old_told old told text
leaves_none {f} {parts} {others} {old_told} {told} {old} {text} left none = record {
  text = sym (append-nil text) ∙ ap (λ all. text ++ parts_after f (nat_lt 0 told) all) (sym none) ∙ left.text;
  by_now = ap (counted told) (sym none) ∙ left.by_now;
}

-- ---- as the text of a record has them
-- of a form in which a blank precedes each
abbrev pub AreAfterBlanks : Form → Type 0
AreAfterBlanks f = (told : Bool) → separator f told ≡ codes " "

pub named-blanks : AreAfterBlanks form.NamedLines
unfolding separator
named-blanks told = refl

pub kept-blanks : AreAfterBlanks form.KeptNamedLines
unfolding separator
kept-blanks told = refl

named_parts : (f : Form) (told : Bool) (parts : List Part) → AreAfterBlanks f → parts_after f told parts ≡ flat_map (λ p. codes " " ++ part_text f p) parts
named_parts f told [] blanks = refl
named_parts f told (p ∷ parts) blanks = ap₂ (λ separated rest. (separated ++ part_text f p) ++ rest) (blanks told) (named_parts f true parts blanks)

-- of a form in which commas are between them
pub object-commas : AreBetweenCommas form.Json
unfolding separator
object-commas = record { first = refl; next = refl }

pub kept-commas : AreBetweenCommas form.KeptJson
unfolding separator
kept-commas = record { first = refl; next = refl }

other_objects : (f : Form) (parts : List Part) → AreBetweenCommas f → parts_after f true parts ≡ flat_map (λ p. codes "," ++ part_text f p) parts
other_objects f [] commas = refl
other_objects f (p ∷ parts) commas = ap₂ (λ separated rest. (separated ++ part_text f p) ++ rest) commas.next (other_objects f parts commas)

objects : (f : Form) (parts : List Part) → AreBetweenCommas f → parts_after f false parts ≡ joined [] (codes ",") (part_text f) parts
objects f [] commas = refl
objects f (p ∷ parts) commas = ap₂ (λ separated rest. (separated ++ part_text f p) ++ rest) commas.first (other_objects f parts commas)

-- of rows, with nothing between them
pub marked_parts : (wanted : Wanted) (told : Bool) (parts : List Part) → parts_after (form.Rows wanted) told parts ≡ flat_map (part_text (form.Rows wanted)) parts
unfolding separator
marked_parts wanted told [] = refl
marked_parts wanted told (p ∷ parts) = ap (λ rest. part_text (form.Rows wanted) p ++ rest) (marked_parts wanted true parts)

-- each has an octet or more
few_parts : (f : Form) (told : Bool) (parts : List Part) → AreAfterBlanks f → length parts ≤ length (parts_after f told parts)
few_parts f told [] blanks = omega arith
few_parts f told (p ∷ parts) blanks =
    omega (arith, few_parts f true parts blanks, ap length (blanks told), length-append (separator f told ++ part_text f p) (parts_after f true parts), length-append (separator f told) (part_text f p))

-- their number is inserted before them
pub named_inside : (f : Form) (old : List ℕ) {l₁ l₂ l₃ : List ℕ} {place count : ℕ} (parts : List Part) → AreAfterBlanks f → l₁ ≡ old ++ codes " inside=" → place ≡ length l₁ → Tells f parts 0 l₁ count l₂ → (l₃ ≡ (take place l₂ ++ decimal count) ++ drop place l₂) × (length l₃ < 2 ^ 64) → l₃ ≡ old ++ (codes " inside=" ++ decimal (length parts) ++ flat_map (λ p. codes " " ++ part_text f p) parts)
named_inside f old {l₁} {l₂} {l₃} {place} {count} parts blanks h₁ at tells h₃ =
    let rest = parts_after f false parts in
    let front : take place l₂ ≡ l₁ = rw (at, tells.text) (take-append_seam l₁ rest) in
    let back : drop place l₂ ≡ rest = rw (at, tells.text) (drop-append_seam l₁ rest) in
    let all : l₃ ≡ l₁ ++ (decimal count ++ rest) = h₃.0 ∙ append_assoc (take place l₂) (decimal count) (drop place l₂) ∙ ap₂ (λ (front back : List ℕ). front ++ (decimal count ++ back)) front back in
    let size : length l₃ ≡ length l₁ + (length (decimal count) + length rest) = ap length all ∙ length-append l₁ (decimal count ++ rest) ∙ ap (λ n. length l₁ + n) (length-append (decimal count) rest) in
    let many : count ≡ length parts = tells.by_now ∙ counted_all 0 parts (omega (arith, few_parts f false parts blanks, h₃.1, size)) ∙ omega arith in
    all ∙ rw (h₁, many, named_parts f false parts blanks) (simp append_assoc)

-- the place of the number has text before it
pub before_parts : {f : Form} {parts : List Part} {place count : ℕ} (l₁ l₂ : List ℕ) → place ≡ length l₁ → IsUtf8 l₁ → Tells f parts 0 l₁ count l₂ → (place ≤ length l₂) × IsUtf8 (take place l₂)
before_parts {f} {parts} l₁ l₂ at utf8 tells =
    let rest = parts_after f false parts in
    (omega (arith, at, ap length tells.text, length-append l₁ rest), subst IsUtf8 (sym (rw (at, tells.text) (take-append_seam l₁ rest))) utf8)

pub object_inside : (f : Form) (old : List ℕ) {l₁ l₂ l₃ : List ℕ} {count : ℕ} (parts : List Part) → AreBetweenCommas f → l₁ ≡ old ++ codes ",\"inside\":[" → Tells f parts 0 l₁ count l₂ → l₃ ≡ l₂ ++ codes "]" → l₃ ≡ old ++ (codes ",\"inside\":" ++ list_text (part_text f) parts)
object_inside f old parts commas h₁ tells h₃ = rw (h₃, tells.text, h₁, objects f parts commas) (simp append_assoc)

-- between marks, if they are wanted
if_wanted : (b : Bool) (text : List ℕ) → b ≡ true → (if b then text else []) ≡ text
if_wanted true text e = refl
if_wanted false text e = absurd cc

unless_wanted : (b : Bool) (text : List ℕ) → b ≡ false → (if b then text else []) ≡ []
unless_wanted true text e = absurd cc
unless_wanted false text e = refl

pub marked_inside : (wanted : Wanted) (old : List ℕ) {l₁ l₂ l₃ : List ℕ} {count : ℕ} (parts : List Part) → has_inside wanted ≡ true → l₁ ≡ old ++ 4 ∷ [] → Tells (form.Rows wanted) parts 0 l₁ count l₂ → l₃ ≡ l₂ ++ 7 ∷ [] → l₃ ≡ old ++ inside_text (form.Rows wanted) parts
unfolding inside_text
marked_inside wanted old {l₁} {l₂} {l₃} parts is h₁ tells h₃ =
    let text : l₃ ≡ old ++ (4 ∷ flat_map (part_text (form.Rows wanted)) parts ++ 7 ∷ []) = rw (h₃, tells.text, h₁, marked_parts wanted false parts) (simp append_assoc) in
    text ∙ ap (λ l. old ++ l) (sym (if_wanted (has_inside wanted) (4 ∷ flat_map (part_text (form.Rows wanted)) parts ++ 7 ∷ []) is))

pub unmarked_inside : (wanted : Wanted) (old : List ℕ) (parts : List Part) → has_inside wanted ≡ false → old ≡ old ++ inside_text (form.Rows wanted) parts
unfolding inside_text
unmarked_inside wanted old parts is =
    sym (append-nil old) ∙ ap (λ l. old ++ l) (sym (unless_wanted (has_inside wanted) (4 ∷ flat_map (part_text (form.Rows wanted)) parts ++ 7 ∷ []) is))

-- the kinds alone
pub kinds_inside : (old : List ℕ) {new : List ℕ} {count : ℕ} (parts : List Part) → Tells (form.Rows nothing_wanted) parts 0 old count new → new ≡ old ++ inside_text form.KeptLines parts
unfolding inside_text
kinds_inside old parts tells = tells.text ∙ ap (λ l. old ++ l) (marked_parts nothing_wanted false parts)
