-- Cells of numbers, and of their names.
use Rattle.std.proofs.Common.{◌≡◌, ℕ, ℤ, zero, suc, pos, negsuc, ◌≤◌, ◌/◌, ◌%◌, ◌==◌, Bool, true, false, not, ◌||◌, cond, Option, None, Some, List, [], ◌∷◌, ◌++◌, map, refl, sym, ap, ◌∙◌, subst, arith, codes}
use Rattle.std.proofs.lemmas.Bool.{and_parts}
use Rattle.std.proofs.lemmas.Bool.Decides.{nat_tests}
use Rattle.std.proofs.lemmas.List.{append-nil}
use Rattle.std.proofs.lemmas.Option.{none-some, same_Some}
use Rattle.std.specs.Fmt.{decimal, digit_glyph, digits, digits_onto, signed_decimal}
use Rattle.std.specs.List.{filter, find, list_all, list_any}
use Rattle.std.specs.Option.{is_none, option_map}
use Rattle.std.specs.Ordering.{int_eq}
use Rattle.std.specs.Prelude.{bytes_eq}
use Rattle.krb_registry.specs.declared.registry.Registry.{Registry}
use Rattle.krb_registry.specs.declared.registry.Registry.TheVariants as registries
use Rattle.krb_registry.specs.Rows.{name_in, name_of, rows}
use Rattle.krb_msg.specs.Notes.{notes_have}
use Rattle.krb_msg.specs.Term.{Term, Value}
use Rattle.krb_msg.specs.declared.notes.Notes.{Notes}
use Rattle.krb_record.specs.declared.item.NumberForm.TheVariants as form
use Rattle.krb_record.specs.Forms.{list_cell, name_or_dash}
use Rattle.krb_record.specs.Items.{number_item}
use Rattle.krb_record.specs.Text.{joined, or_dash}
use Rattle.krb_text.specs.inner.Items.{is_nameless, item_number}
use Rattle.krb_text.proofs.Items.{map-map, others-text}

abbrev is_other : List ℕ → Bool
is_other text = not (bytes_eq (codes "-") text)

-- a list of which no item is `-` has nothing in brackets but that there is none
one_cell : (b : Bool) (text : List ℕ) → not b ≡ true → cond b (codes "[-]") text ≡ text ++ []
one_cell true text e = absurd cc
one_cell false text e = sym (append-nil text)

list_joined : {A : Type 0} (text : A → List ℕ) (values : List A) → list_all (λ v. is_other (text v)) values ≡ true → list_cell (map text values) ≡ joined (codes "[]") (codes ",") text values
list_joined text [] e = refl
list_joined text (v ∷ []) e = one_cell (bytes_eq (codes "-") (text v)) (text v) (and_parts (is_other (text v)) true e).0
list_joined text (v ∷ w ∷ vs) e = ap (λ rest. text v ++ rest) (others-text text (codes ",") (λ item. item) (w ∷ vs))

-- ---- numbers in decimal
abbrev Begins : List ℕ → Type 0
Begins [] = ⊥
Begins (o ∷ os) = 48 ≤ o

glyph : (d : ℕ) → d % 10 ≤ 9 → 48 ≤ digit_glyph false (d % 10)
glyph d h = grind (arith, nat_tests)

begins_if : (b : Bool) (xs ys : List ℕ) → Begins xs → Begins ys → Begins (cond b xs ys)
begins_if true xs ys h k = h
begins_if false xs ys h k = k

numeral : (k n o : ℕ) (os : List ℕ) → 48 ≤ o → Begins (digits_onto k 10 false n (o ∷ os))
numeral zero n o os h = h
numeral (suc k) n o os h =
    begins_if (n / 10 == 0) (digit_glyph false (n % 10) ∷ o ∷ os) (digits_onto k 10 false (n / 10) (digit_glyph false (n % 10) ∷ o ∷ os))
    (glyph n (omega arith)) (numeral k (n / 10) (digit_glyph false (n % 10)) (o ∷ os) (glyph n (omega arith)))

number_begins : (n : ℕ) → Begins (decimal n)
unfolding digits
number_begins n =
    begins_if (n / 10 == 0) (digit_glyph false (n % 10) ∷ []) (digits_onto 63 10 false (n / 10) (digit_glyph false (n % 10) ∷ []))
    (glyph n (omega arith)) (numeral 63 (n / 10) (digit_glyph false (n % 10)) [] (glyph n (omega arith)))

digit_other : (text : List ℕ) → Begins text → is_other text ≡ true
digit_other [] h = absurd h
digit_other (o ∷ os) h = grind (arith, nat_tests)

after_dash : (text : List ℕ) → Begins text → is_other (45 ∷ text) ≡ true
after_dash [] h = absurd h
after_dash (o ∷ os) h = refl

number_other : (n : ℤ) → is_other (signed_decimal n) ≡ true
number_other (pos n) = digit_other (decimal n) (number_begins n)
number_other (negsuc n) = after_dash (decimal (suc n)) (number_begins (suc n))

all_other : {A : Type 0} (text : A → List ℕ) (values : List A) → ((v : A) → is_other (text v) ≡ true) → list_all (λ v. is_other (text v)) values ≡ true
all_other text [] each = refl
all_other text (v ∷ vs) each = rw (each v, all_other text vs each) refl

pub whole_cells : (term : Term) (items : List (Value term)) → joined (codes "[]") (codes ",") (λ item. number_item form.Line (item_number term item)) items ≡ list_cell (map signed_decimal (map (item_number term) items))
whole_cells term items =
    let text : Value term → List ℕ = λ item. signed_decimal (item_number term item) in
    sym (list_joined text items (all_other text items (λ item. number_other (item_number term item))))
    ∙ ap list_cell (sym (map-map signed_decimal (item_number term) items))

-- ---- names
names_other : (registry : Registry) → list_all (λ row. is_other row.1) (rows registry) ≡ true
unfolding rows
names_other registries.EncryptionTypes = refl
names_other registries.ChecksumTypes = refl
names_other registries.PreAuthenticationData = refl
names_other registries.ErrorCodes = refl
names_other registries.ErrorDataTypes = refl
names_other registries.Statuses = refl
names_other registries.KdcOptions = refl
names_other registries.ApOptions = refl
names_other registries.PacOptions = refl
names_other registries.ContextFlags = refl
names_other registries.TicketFlags = refl
names_other registries.NameTypes = refl
names_other registries.AddressTypes = refl
names_other registries.Notes = refl

-- a test that the name of each row passes is passed by the name that is found
found_passes : (p : List ℕ → Bool) (listed : List (ℤ × List ℕ)) (number : ℤ) (name : List ℕ) → list_all (λ row. p row.1) listed ≡ true → name_in listed number ≡ Some name → p name ≡ true
unfolding name_in
found_passes p [] number name all found = absurd (none-some name found)
found_passes p (row ∷ others) number name all found =
    let passes = and_parts (p row.1) (list_all (λ row. p row.1) others) all in
    elim (int_eq row.0 number) as (λ same. option_map (λ (row : ℤ × List ℕ). row.1) (cond same (Some row) (find (λ row. int_eq row.0 number) others)) ≡ Some name → p name ≡ true) [
      | true ↦ λ found. subst (λ name. p name ≡ true) (same_Some row.1 name found) passes.0
      | false ↦ λ found. found_passes p others number name passes.1 found
    ] found

name_other : (registry : Registry) (number : ℤ) (name : List ℕ) → name_of registry number ≡ Some name → is_other name ≡ true
unfolding name_of
name_other registry number name found = found_passes is_other (rows registry) number name (names_other registry) found

-- so one alone is `-` if it has no name
dash_if : (name : Option (List ℕ)) → ((text : List ℕ) → name ≡ Some text → is_other text ≡ true) → is_other (or_dash (λ text. text) name) ≡ not (is_none name)
dash_if None other = refl
dash_if (Some text) other = other text refl

named_cell : (registry : Registry) (numbers : List ℤ) → is_nameless registry numbers ≡ false → list_cell (map (name_or_dash registry) numbers) ≡ joined (codes "[]") (codes ",") (name_or_dash registry) numbers
named_cell registry [] e = refl
named_cell registry (n ∷ []) e =
    one_cell (bytes_eq (codes "-") (name_or_dash registry n)) (name_or_dash registry n) (dash_if (name_of registry n) (name_other registry n) ∙ ap not e)
named_cell registry (n ∷ m ∷ ns) e = ap (λ rest. name_or_dash registry n ++ rest) (others-text (name_or_dash registry) (codes ",") (λ item. item) (m ∷ ns))

joined_map : {A B : Type 0} (f : A → B) (none : List ℕ) (text : B → List ℕ) (values : List A) → joined none (codes ",") text (map f values) ≡ joined none (codes ",") (λ v. text (f v)) values
joined_map f none text [] = refl
joined_map f none text (v ∷ vs) = ap (λ rest. text (f v) ++ rest) (others-text f (codes ",") text vs)

pub name_cells : (registry : Registry) (term : Term) (items : List (Value term)) → is_nameless registry (map (item_number term) items) ≡ false → joined (codes "[]") (codes ",") (λ item. number_item (form.NameInCell registry) (item_number term item)) items ≡ list_cell (map (name_or_dash registry) (map (item_number term) items))
name_cells registry term items e =
    sym (joined_map (item_number term) (codes "[]") (name_or_dash registry) items) ∙ sym (named_cell registry (map (item_number term) items) e)

dash_cell : (registry : Registry) (n : ℤ) (b : Bool) → b ≡ true → is_other (name_or_dash registry n) ≡ not b → list_cell (map (name_or_dash registry) (n ∷ [])) ≡ codes "[-]"
dash_cell registry n b e is = in_brackets (bytes_eq (codes "-") (name_or_dash registry n)) (is ∙ ap not e)
  where
    in_brackets : (b : Bool) → not b ≡ false → cond b (codes "[-]") (name_or_dash registry n) ≡ codes "[-]"
    in_brackets true e = refl
    in_brackets false e = absurd cc

pub nameless_cell : (registry : Registry) (numbers : List ℤ) → is_nameless registry numbers ≡ true → list_cell (map (name_or_dash registry) numbers) ≡ codes "[-]"
nameless_cell registry [] e = absurd cc
nameless_cell registry (n ∷ []) e = dash_cell registry n (is_none (name_of registry n)) e (dash_if (name_of registry n) (name_other registry n))
nameless_cell registry (n ∷ m ∷ ns) e = absurd cc

-- ---- the notes, of which each has a name
all_filter : {A : Type 0} (p q : A → Bool) (values : List A) → list_all q values ≡ true → list_all q (filter p values) ≡ true
all_filter p q [] e = refl
all_filter p q (v ∷ vs) e =
    let parts = and_parts (q v) (list_all q vs) e in
    elim (p v) as (λ b. list_all q (cond b (v ∷ filter p vs) (filter p vs)) ≡ true) [
      | true ↦ rw (parts.0, all_filter p q vs parts.1) refl
      | false ↦ all_filter p q vs parts.1
    ]

pub whole_notes : (notes : Notes) → joined (codes "[]") (codes ",") (λ number. number_item form.Line (pos number)) (filter (notes_have notes) (1 ∷ 2 ∷ 3 ∷ 4 ∷ [])) ≡ list_cell (map signed_decimal (map pos (filter (notes_have notes) (1 ∷ 2 ∷ 3 ∷ 4 ∷ []))))
whole_notes notes =
    let numbers : List ℕ = filter (notes_have notes) (1 ∷ 2 ∷ 3 ∷ 4 ∷ []) in
    let text : ℕ → List ℕ = λ number. signed_decimal (pos number) in
    sym (list_joined text numbers (all_other text numbers (λ number. number_other (pos number)))) ∙ ap list_cell (sym (map-map signed_decimal pos numbers))

notes_named : list_all (λ number. is_other (name_or_dash registries.Notes (pos number))) (1 ∷ 2 ∷ 3 ∷ 4 ∷ []) ≡ true
unfolding name_of name_in rows
notes_named = refl

pub name_notes : (notes : Notes) → joined (codes "[]") (codes ",") (λ number. number_item (form.NameInCell registries.Notes) (pos number)) (filter (notes_have notes) (1 ∷ 2 ∷ 3 ∷ 4 ∷ [])) ≡ list_cell (map (name_or_dash registries.Notes) (map pos (filter (notes_have notes) (1 ∷ 2 ∷ 3 ∷ 4 ∷ []))))
name_notes notes =
    let numbers : List ℕ = filter (notes_have notes) (1 ∷ 2 ∷ 3 ∷ 4 ∷ []) in
    let text : ℕ → List ℕ = λ number. name_or_dash registries.Notes (pos number) in
    sym (list_joined text numbers (all_filter (notes_have notes) (λ number. is_other (text number)) (1 ∷ 2 ∷ 3 ∷ 4 ∷ []) notes_named))
    ∙ ap list_cell (sym (map-map (name_or_dash registries.Notes) pos numbers))

-- what there is to join, and what stands for none
pub some_cells : {A : Type 0} (none : List ℕ) (text : A → List ℕ) (p : A → Bool) (values : List A) → list_any p values ≡ true → joined none (codes ",") text (filter p values) ≡ joined [] (codes ",") text (filter p values)
some_cells none text p [] e = absurd cc
some_cells none text p (v ∷ vs) e =
    elim (p v) as (λ b. ((b || list_any p vs) ≡ true) → joined none (codes ",") text (cond b (v ∷ filter p vs) (filter p vs)) ≡ joined [] (codes ",") text (cond b (v ∷ filter p vs) (filter p vs))) [
      | true ↦ λ e. refl
      | false ↦ λ e. some_cells none text p vs e
    ] e

pub no_cells : {A : Type 0} (none : List ℕ) (text : A → List ℕ) (p : A → Bool) (values : List A) → list_any p values ≡ false → joined none (codes ",") text (filter p values) ≡ none
no_cells none text p [] e = refl
no_cells none text p (v ∷ vs) e =
    elim (p v) as (λ b. ((b || list_any p vs) ≡ false) → joined none (codes ",") text (cond b (v ∷ filter p vs) (filter p vs)) ≡ none) [
      | true ↦ λ e. absurd cc
      | false ↦ λ e. no_cells none text p vs e
    ] e
